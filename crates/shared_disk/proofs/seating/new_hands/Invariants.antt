use Rattle.std.proofs.Common.{◌≡◌, ◌≤◌, replicate, vec_capacity}
use Rattle.shared_disk.proofs.seating.new_hands.Given as goal

abbrev pub invariant-loop : goal.invariant-loop
invariant-loop g l = (l.pen ≡ l.fn.pen) × (l.hands.items ≡ replicate l.counter l.fn.pen.log) × (l.fn.count ≤ vec_capacity l.hands)
