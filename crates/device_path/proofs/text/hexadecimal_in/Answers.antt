use Rattle.std.proofs.Common.{[], ◌∷◌, refl}
use Rattle.device_path.proofs.Plain.{zero-lacks-x}
use Rattle.device_path.proofs.ReadBack.{parse-hexadecimal}
use Rattle.device_path.proofs.text.hexadecimal_in.Goals as goal

pub returns : goal.returns
returns c = λ n small tells.
    let digits = (c.cut.ensures (48 ∷ []) tells.digits zero-lacks-x tells.is).1 in
    let parses = rw digits at c.from_str_radix.ensures.value in
    rw (c.unwrap_or.ensures, parse-hexadecimal n tells.digits c.from_str_radix.result tells.numeral tells.value small parses) refl
