use Rattle.std.proofs.Common.{◌≡◌, reverse}
use Rattle.script_text.proofs.tests.reports.history_of.Given as goal

abbrev pub invariant-loop-entry : goal.invariant-loop-entry
invariant-loop-entry l =
    (goal.iterator-loop-entry).can_next l.entry-iterator
    × (goal.iterator-loop-entry).is_finite l.entry-iterator
    × (l.history.entries ≡ reverse l.yielded)
