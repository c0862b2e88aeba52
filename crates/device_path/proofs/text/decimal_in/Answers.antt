use Rattle.std.proofs.Common.{arith, refl}
use Rattle.std.proofs.lemmas.Fmt.{parse-decimal}
use Rattle.device_path.proofs.text.decimal_in.Goals as goal

pub returns : goal.returns
returns c = λ n small is. rw (c.unwrap_or.ensures, parse-decimal 32 n c.args.text.now c.parse.result small (omega arith) is c.parse.ensures.value.0) refl
