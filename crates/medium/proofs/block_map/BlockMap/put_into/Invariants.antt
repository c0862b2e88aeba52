use Rattle.std.proofs.Common.{ℕ, ◌≡◌, ◌/◌, ◌<◌, length, IsSome}
use Rattle.medium.specs.Blocks.{overlay}
use Rattle.medium.specs.BlockMap.{held_block, held_count}
use Rattle.medium.proofs.block_map.BlockMap.put_into.Given as goal

abbrev pub invariant-loop-block : goal.invariant-loop-block
invariant-loop-block l = record {
  bytes : overlay (held_block l.self) l.self.size (length l.initial.bytes / l.initial.self.size) l.bytes ≡ overlay (held_block l.initial.self) l.initial.self.size (length l.initial.bytes / l.initial.self.size) l.initial.bytes;
  size : l.self.size ≡ l.initial.self.size;
  inside : (b : ℕ) → IsSome (held_block l.self b) → b < length l.initial.bytes / l.initial.self.size;
}

abbrev pub decreases-loop-block : goal.decreases-loop-block
decreases-loop-block l = held_count l.self
