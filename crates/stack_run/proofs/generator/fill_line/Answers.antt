use Rattle.std.proofs.Common.{◌≡◌, false, ap, Some}
use Rattle.std.specs.Fmt.{digits, styled_digits_output}
use Rattle.script_text.specs.Text.{line_of}
use Rattle.script_text.specs.Tables.{digits_of}
use Rattle.script_text.proofs.Padded.{padded-to}
use Rattle.stack_run.specs.Generated.{drawn_byte}
use Rattle.stack_run.proofs.generator.fill_line.Goals as goal

pub returns : goal.returns
unfolding line_of
returns c =
    let shown : styled_digits_output c.in_radix.result c.laid_out.result ≡ Some (digits_of 2 (drawn_byte c.args.word)) =
    rw (c.laid_out.ensures, c.in_radix.ensures) (ap Some (padded-to 2 (digits 16 false (drawn_byte c.args.word)))) in
    rw (shown, c.place_in-at.ensures, c.length_in-length.ensures) at c.format.ensures.ok
