use Rattle.std.proofs.Common.{◌≡◌, ◌+◌, ◌-◌, length}
use Rattle.std.specs.Prelude.{vec_capacity}
use Rattle.disk_core.specs.Moves.{others, after_pass}
use Rattle.disk_core.proofs.entering.forget.Given as goal

-- as many holders are still to be passed as there are steps left
abbrev pub invariant-loop-step : goal.invariant-loop-step
invariant-loop-step l =
    (l.at + (l._step-end - l._step) ≡ length l.holders.items)
    × (after_pass l.token l.at l.holders.items ≡ others l.token l.initial.holders.items)
    × (vec_capacity l.holders ≡ vec_capacity l.initial.holders)
