use Rattle.std.proofs.Common.{ℕ, ◌≡◌, ◌+◌, ◌<◌, ◌≤◌}
use Rattle.medium.specs.BlockMap.{held_block, HasPlaceFor}
use Rattle.medium.proofs.block_map.BlockMap.make_places.Given as goal

abbrev pub invariant-loop-i : goal.invariant-loop-i
invariant-loop-i l = record {
  blocks : (b : ℕ) → held_block l.self b ≡ held_block l.initial.self b;
  ready : (b : ℕ) → l.first ≤ b → b < l.first + l.i → HasPlaceFor l.self b;
  stay : (b : ℕ) → HasPlaceFor l.initial.self b → HasPlaceFor l.self b;
  size : l.self.size ≡ l.initial.self.size;
}
