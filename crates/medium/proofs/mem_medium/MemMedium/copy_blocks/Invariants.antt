use Rattle.std.proofs.Common.{◌≡◌, ◌*◌, take, drop}
use Rattle.medium.specs.Blocks.{overlay}
use Rattle.medium.specs.BlockMap.{held_block}
use Rattle.medium.proofs.mem_medium.MemMedium.copy_blocks.Given as goal

abbrev pub invariant-loop-i : goal.invariant-loop-i
invariant-loop-i l = take (l.i * l.self.size) l.out ≡ take (l.i * l.self.size) (drop (l.lba * l.self.size) (overlay (held_block l.self.changed) l.self.size l.self.blocks l.self.opening.items))
