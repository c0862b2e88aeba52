use Rattle.script_text.proofs.Telling.{reading_tells, reading_refuses}
use Rattle.script_text.proofs.language.feeding.last_line.Goals as goal

pub returns-in-Ok : goal.returns-in-Ok
returns-in-Ok c bytes is =
    rw c.into_script.ensures
    (reading_tells c.args.reading bytes c.in-Ok.plans c.args.reading.few c.args.reading.unended is (rw (c.without_return.ensures, c.deref.ensures.value) at c.in-Ok.ensures))

pub returns-in-Err-Faulty : goal.returns-in-Err-Faulty
returns-in-Err-Faulty c bytes is =
    reading_refuses c.args.reading bytes c.in-Err-Faulty.reason c.args.reading.few c.args.reading.unended is
    (rw (c.in-Err-Faulty.field-0-is, c.without_return.ensures, c.deref.ensures.value) at c.in-Err-Faulty.ensures)
