use Rattle.std.proofs.Common.{◌≡◌, false, replicate}
use Rattle.block_gate.proofs.set.make_sets.Given as goal

-- the sets so far are all alike
abbrev pub invariant-loop : goal.invariant-loop
invariant-loop l = l.sets.items ≡ replicate l.counter (record { ticket = 0; block = 0; out = false; copy = replicate l.size 0 })
