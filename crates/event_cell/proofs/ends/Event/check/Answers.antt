use Rattle.std.proofs.Common.{rules, ◌≡◌, ◌∙◌}
use Rattle.event_cell.specs.EventWord.{word_of}
use Rattle.event_cell.proofs.Keeps.{sees}
use Rattle.event_cell.proofs.Codes.{seen-zero, seen-again}
use Rattle.event_cell.proofs.ends.Event.check.Goals as goal
use Rattle.event_cell.proofs.ends.Event.check.Goals.{in-0, in_default}

pub load-requires : goal.load-requires
load-requires c = (search rules, search rules, sees _ _ _)

pub returns-clause-again : goal.returns-clause-again
returns-clause-again c = λ status seen.
    let once = c.load.ensures.2.once in
    let was : c.self.inside.seat.me.0.seen ≡ word_of status = rw (← c.self.view_is) at seen in
    elim c.match-load.branch [
      | in-0 w ↦ absurd (seen-zero status _ was (rw w.in-0.is at once))
      | in_default w ↦ w.result-is ∙ seen-again status w.status_in.result _ c.load.result was once w.status_in.ensures
    ]
