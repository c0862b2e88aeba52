use Rattle.std.proofs.Common.{sym, ◌∙◌}
use Rattle.script_text.specs.declared.language.refusal.Reason.TheVariants as why
use Rattle.stack_run.proofs.Read.{script-read, script-refused, runs, runs-not, says-not, no-part}
use Rattle.stack_run.proofs.reading.read_source.Goals as goal

pub returns-in-None-clause-script : goal.returns-in-None-clause-script
returns-in-None-clause-script g c =
    let fed = c.in-Ok.ensures.fed in
    script-read _ _ fed.bytes c.in-Ok-finish.script.disks fed.reads (runs fed.bytes c.in-Ok-finish.script.disks (c.in-Ok-finish.ensures.tells fed.bytes fed.fed) (rw c.as_slice.ensures at (sym c.first_part.ensures) ∙ c.in-None.is))

pub returns-in-Some-clause-refused : goal.returns-in-Some-clause-refused
returns-in-Some-clause-refused g c =
    let fed = c.in-Ok.ensures.fed in
    script-refused _ _ fed.bytes c.in-Some.line why.Part fed.reads (runs-not fed.bytes c.in-Ok-finish.script.disks c.in-Some.line (c.in-Ok-finish.ensures.tells fed.bytes fed.fed) (rw c.as_slice.ensures at (sym c.first_part.ensures) ∙ c.in-Some.is))

pub returns-in-Err-Fault-clause-refused : goal.returns-in-Err-Fault-clause-refused
returns-in-Err-Fault-clause-refused g c =
    let fed = c.in-Ok.ensures.fed in
    let told = c.in-Err-Fault.ensures.tells fed.bytes fed.fed in
    script-refused _ _ fed.bytes c.in-Err-Fault.line c.in-Err-Fault.reason fed.reads (says-not fed.bytes (c.in-Err-Fault.line, c.in-Err-Fault.reason) (rw c.in-Err-Fault.field-0-is at told))

pub returns-in-None-clause-whole : goal.returns-in-None-clause-whole
returns-in-None-clause-whole g c = no-part c.in-Ok-finish.script.disks (rw c.as_slice.ensures at (sym c.first_part.ensures) ∙ c.in-None.is)
