use Rattle.std.proofs.Common.{◌≤◌, ◌≡◌}
use Rattle.disk_core.proofs.Walks.{WalkedTo}
use Rattle.disk_core.proofs.ending.end_meant.Given as goal

-- the meant tokens before `from` have ended, one in each step
abbrev pub invariant-loop-step : goal.invariant-loop-step
invariant-loop-step l = (l._step ≤ l.from) × (l.count ≡ l._step) × WalkedTo l.meant l.status l.initial.core l.core l.from l.count
