use Rattle.std.proofs.Common.{ℕ, ◌≡◌}
use Rattle.medium.specs.BlockMap.{HasPlaceFor, held_count}
use Rattle.medium.proofs.block_map.BlockMap.let_all_go.Given as goal

abbrev pub invariant-loop : goal.invariant-loop
invariant-loop l = ((b : ℕ) → HasPlaceFor l.initial.self b → HasPlaceFor l.self b) × (l.self.size ≡ l.initial.self.size)

abbrev pub decreases-loop : goal.decreases-loop
decreases-loop l = held_count l.self
