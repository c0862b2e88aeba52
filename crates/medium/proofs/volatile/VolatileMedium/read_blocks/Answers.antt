use Rattle.std.proofs.Common.{refl, inl}
use Rattle.medium.proofs.Restored.{IsCache, cache-after}
use Rattle.medium.proofs.volatile.VolatileMedium.read_blocks.Goals as goal

pub invariant_of-self : goal.invariant_of-self
invariant_of-self g c =
    let self = c.args.self.now in
    let inner = c.read_blocks-answer.new.self in
    let was : IsCache (g.M.Medium.device self.inner) (g.M.Medium.prepared self.inner) self.saved = record { uncached = self.uncached; size = self.size; inside = self.inside; ready = self.ready; kept_length = self.kept_length } in
    let cache = cache-after (g.M.Medium.device self.inner) (g.M.Medium.device inner) (g.M.Medium.prepared self.inner) (g.M.Medium.prepared inner) self.saved self.saved was c.read_blocks-answer.ensures.read.command.same (g.met.M.Medium.shaped inner) c.read_blocks-answer.ensures.stay refl (λ b is. inl is) in
    record { uncached = cache.uncached; size = cache.size; inside = cache.inside; ready = cache.ready; kept_length = cache.kept_length }
