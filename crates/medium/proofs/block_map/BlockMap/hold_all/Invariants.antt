use Rattle.std.proofs.Common.{ℕ, ◌≡◌}
use Rattle.medium.specs.Blocks.{AreHeldFrom}
use Rattle.medium.specs.BlockMap.{held_block, HasPlaceFor}
use Rattle.medium.proofs.block_map.BlockMap.hold_all.Given as goal

abbrev pub invariant-loop-i : goal.invariant-loop-i
invariant-loop-i l = record {
  held : AreHeldFrom (held_block l.initial.self) (held_block l.self) l.first l.i l.self.size l.bytes;
  stay : (b : ℕ) → HasPlaceFor l.initial.self b → HasPlaceFor l.self b;
  size : l.self.size ≡ l.initial.self.size;
}
