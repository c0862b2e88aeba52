use Rattle.std.proofs.Common.{◌≡◌, ℕ, ◌+◌, ◌*◌, ◌≤◌, ◌<◌, length, List, ◌∙◌, arith, sym}
use Rattle.medium.proofs.Held.{held-long}
use Rattle.medium.proofs.Overlays.{copied-more, overlay-block, block-fits}
use Rattle.medium.specs.BlockMap.{held_block}
use Rattle.medium.specs.Blocks.{overlay, block_in}
use Rattle.medium.proofs.mem_medium.MemMedium.copy_blocks.Goals as goal

pub loop-i-preserved : goal.loop-i-preserved
loop-i-preserved c =
    let self = c.args.self.now in
    let now : List ℕ = overlay (held_block self.changed) self.size self.blocks self.opening.items in
    let inside : c.args.lba + c.loop-i.i < self.blocks = omega arith in
    let is : c.block.result.now ≡ block_in self.size now (c.args.lba + c.loop-i.i) = c.block.ensures.value ∙ sym (overlay-block (held_block self.changed) self.size self.blocks self.opening.items (c.args.lba + c.loop-i.i) (held-long self.changed self.size self.changed_size) self.opening_length inside) in
    let fits : c.loop-i.i * self.size + self.size ≤ length c.loop-i.out = omega (arith, block-fits self.size c.loop-i.i c.args.count c.loop-i-test.true) in
    rw c.patch_into.ensures (copied-more c.loop-i.out now c.block.result.now self.size c.args.lba c.loop-i.i fits c.block.ensures.long is c.loop-i.invariant)
