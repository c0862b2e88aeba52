use Rattle.std.proofs.Common.{◌∙◌, length, ap, arith}
use Rattle.token_table.proofs.RecordsLemmas.{length-added}
use Rattle.token_table.proofs.tests.add_read.Goals as goal

pub returns-in-Ok : goal.returns-in-Ok
returns-in-Ok c = let long = ap length c.in-Ok.ensures.added ∙ length-added c.args.tokens.now _ _ in omega arith
