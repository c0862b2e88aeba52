use Rattle.token_table.specs.Index.{records_of}
use Rattle.std.proofs.Common.{refl}
use Rattle.token_table.proofs.tokens.Tokens.make.Goals as goal

pub returns : goal.returns
unfolding records_of
returns c = refl
