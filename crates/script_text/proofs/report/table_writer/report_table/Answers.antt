use Rattle.script_text.specs.Tables.{table_text}
use Rattle.script_text.specs.Held.{AddsText}
use Rattle.script_text.proofs.HeldText.{puts_held}
use Rattle.script_text.proofs.report.table_writer.report_table.Goals as goal

pub returns-in-Ok-add_children-clause-text : goal.returns-in-Ok-add_children-clause-text
unfolding table_text AddsText
returns-in-Ok-add_children-clause-text g c =
    let added = rw (c.in-Ok.ensures, c.as_slice.ensures) at c.in-Ok-add_children.ensures.text in
    let put = rw c.as_str.ensures.value at c.put.ensures.text in
    puts_held _ _ _ _ _ c.put.result added put

pub returns-clause-text : goal.returns-clause-text
unfolding table_text AddsText
returns-clause-text g c = rw (c.in-Ok.ensures, c.as_slice.ensures) at c.in-Err-add_children.ensures.text
