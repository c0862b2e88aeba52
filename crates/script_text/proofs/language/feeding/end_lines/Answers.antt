use Rattle.std.proofs.Common.{◌+◌, take, ap, arith, length-drop}
use Rattle.std.proofs.lemmas.List.{take_all}
use Rattle.script_text.proofs.Telling.{one_ended, one_stopped, all_ended}
use Rattle.script_text.proofs.language.feeding.end_lines.Goals as goal

pub returns-in-Err-Faulty : goal.returns-in-Err-Faulty
returns-in-Err-Faulty c =
    rw c.in-Err-Faulty.reason-is
    (one_stopped _ _ _ _ _ _ _ _ c.in-Some.end _ c.in-Err-Faulty.reason c.lines.invariant c.in-Some.ensures (ap (λ n. take n c.lines.left.now) (omega arith)) (rw c.in-Err-Faulty.field-0-is at c.in-Err-Faulty.ensures.says))

pub lines-preserved : goal.lines-preserved
lines-preserved c =
    one_ended _ _ _ _ _ _ _ _ c.in-Some.end _ _ _ _ c.lines.invariant c.in-Some.ensures (ap (λ n. take n c.lines.left.now) (omega arith))
    (take_all _ _ (omega (arith, length-drop (c.in-Some.end + 1) c.lines.left.now)))
    c.in-Ok.ensures.begun
    c.in-Ok.ensures.says

pub returns : goal.returns
returns c = all_ended _ _ _ _ _ _ _ _ _ c.lines.invariant (rw c.in_default.is at c.line_end.ensures) c.in_ok-extend_from_slice.ensures.items
