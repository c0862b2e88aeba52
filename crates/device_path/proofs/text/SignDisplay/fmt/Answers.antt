use Rattle.std.proofs.Common.{◌≡◌, ap, Some}
use Rattle.std.specs.Fmt.{styled_digits_output}
use Rattle.device_path.specs.Text.{eight_digits, hexadecimal}
use Rattle.device_path.proofs.Texts.{padded-eight}
use Rattle.device_path.proofs.text.SignDisplay.fmt.Goals as goal

pub returns-in-Mbr-clause-writes : goal.returns-in-Mbr-clause-writes
returns-in-Mbr-clause-writes g c = λ plain ok.
    let digits : styled_digits_output c.in_radix.result c.laid_out.result ≡ Some (eight_digits c.in-Mbr.signature) =
    rw (c.laid_out.ensures, c.in_radix.ensures) (ap Some (padded-eight (hexadecimal c.in-Mbr.signature))) in
    rw c.in-Mbr.is ((rw digits at c.write.ensures.writes) plain ok)
