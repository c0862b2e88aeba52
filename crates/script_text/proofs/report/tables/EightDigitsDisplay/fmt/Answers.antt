use Rattle.std.proofs.Common.{◌≡◌, false, ap, Some}
use Rattle.std.specs.Fmt.{digits, styled_digits_output}
use Rattle.script_text.specs.Tables.{digits_of}
use Rattle.script_text.proofs.Padded.{padded-to}
use Rattle.script_text.proofs.report.tables.EightDigitsDisplay.fmt.Goals as goal

pub returns-clause-writes : goal.returns-clause-writes
returns-clause-writes g c = λ plain ok.
    let shown : styled_digits_output c.in_radix.result c.laid_out.result ≡ Some (digits_of 8 c.args.self.now.number) =
    rw (c.laid_out.ensures, c.in_radix.ensures) (ap Some (padded-to 8 (digits 16 false c.args.self.now.number))) in
    (rw shown at c.write.ensures.writes) plain ok
