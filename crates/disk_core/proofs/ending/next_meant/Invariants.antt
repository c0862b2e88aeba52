use Rattle.std.proofs.Common.{◌≤◌}
use Rattle.disk_core.proofs.Nexts.{NoneMeant}
use Rattle.disk_core.proofs.ending.next_meant.Given as goal

-- no token before this place is meant
abbrev pub invariant-loop-step : goal.invariant-loop-step
invariant-loop-step l = (l.from ≤ l.at) × (l._step ≤ l.at) × NoneMeant l.core l.meant l.from l.at
