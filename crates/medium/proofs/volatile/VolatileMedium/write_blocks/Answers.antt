use Rattle.medium.proofs.Restored.{IsCache, cache-after}
use Rattle.medium.proofs.Sizes.{size-some}
use Rattle.medium.proofs.Written.{held-written, within-transfer}
use Rattle.medium.specs.BlockMap.{held_block}
use Rattle.medium.proofs.volatile.VolatileMedium.write_blocks.Goals as goal

pub invariant_of-self : goal.invariant_of-self
invariant_of-self g c =
    let self = c.args.self.now in
    let inner = c.write_saved-answer.new.inner in
    let d = g.M.Medium.device self.inner in
    let t = c.requires.transfer in
    let done = c.write_saved-answer.ensures in
    let some = size-some d.size (g.met.M.Medium.shaped self.inner).size in
    let was : IsCache d (g.M.Medium.prepared self.inner) self.saved = record { uncached = self.uncached; size = self.size; inside = self.inside; ready = self.ready; kept_length = self.kept_length } in
    let cache = cache-after d (g.M.Medium.device inner) (g.M.Medium.prepared self.inner) (g.M.Medium.prepared inner) self.saved c.write_saved-answer.new.saved was done.written.same (g.met.M.Medium.shaped inner) done.prepared done.size (held-written d (g.M.Medium.prepared self.inner) (held_block self.saved) (held_block c.write_saved-answer.new.saved) c.args.lba t.count (done.written.held t.count t.whole) t.fits (λ b low high. (c.requires.ready b low (within-transfer d.size c.args.lba t.count b _ some t.whole high)).inside)) in
    record { uncached = cache.uncached; size = cache.size; inside = cache.inside; ready = cache.ready; kept_length = cache.kept_length }
