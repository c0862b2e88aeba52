use Rattle.std.proofs.Common.{ℕ, Option, IsSome, List, refl, subst, inl}
use Rattle.medium.proofs.Restored.{IsCache, cache-after, same-from}
use Rattle.medium.proofs.volatile.VolatileMedium.prepare.Goals as goal

pub invariant_of-self : goal.invariant_of-self
invariant_of-self g c =
    let self = c.args.self.now in
    let inner = c.prepare.new.self in
    let was : IsCache (g.M.Medium.device self.inner) (g.M.Medium.prepared self.inner) self.saved = record { uncached = self.uncached; size = self.size; inside = self.inside; ready = self.ready; kept_length = self.kept_length } in
    let cache = cache-after (g.M.Medium.device self.inner) (g.M.Medium.device inner) (g.M.Medium.prepared self.inner) (g.M.Medium.prepared inner) self.saved self.saved was (same-from (g.M.Medium.device self.inner) (g.M.Medium.device inner) c.prepare.ensures.device) (g.met.M.Medium.shaped inner) c.prepare.ensures.stay refl (λ b is. inl is) in
    record { uncached = cache.uncached; size = cache.size; inside = cache.inside; ready = cache.ready; kept_length = cache.kept_length }

pub invariant_of-self-then-not-self : goal.invariant_of-self-then-not-self
invariant_of-self-then-not-self g c =
    let self = c.args.self.now in
    let inner = c.prepare.new.self in
    let was : IsCache (g.M.Medium.device self.inner) (g.M.Medium.prepared self.inner) self.saved = record { uncached = self.uncached; size = self.size; inside = self.inside; ready = self.ready; kept_length = self.kept_length } in
    let cache = cache-after (g.M.Medium.device self.inner) (g.M.Medium.device inner) (g.M.Medium.prepared self.inner) (g.M.Medium.prepared inner) self.saved self.saved was (same-from (g.M.Medium.device self.inner) (g.M.Medium.device inner) c.prepare.ensures.device) (g.met.M.Medium.shaped inner) c.prepare.ensures.stay refl (λ b is. inl is) in
    record { uncached = cache.uncached; size = cache.size; inside = cache.inside; ready = cache.ready; kept_length = cache.kept_length }

pub invariant_of-self-in-Break-branch-2 : goal.invariant_of-self-in-Break-branch-2
invariant_of-self-in-Break-branch-2 g c =
    let self = c.args.self.now in
    let inner = c.prepare.new.self in
    let was : IsCache (g.M.Medium.device self.inner) (g.M.Medium.prepared self.inner) self.saved = record { uncached = self.uncached; size = self.size; inside = self.inside; ready = self.ready; kept_length = self.kept_length } in
    let cache = cache-after (g.M.Medium.device self.inner) (g.M.Medium.device inner) (g.M.Medium.prepared self.inner) (g.M.Medium.prepared inner) self.saved self.saved was (same-from (g.M.Medium.device self.inner) (g.M.Medium.device inner) c.prepare.ensures.device) (g.met.M.Medium.shaped inner) c.prepare.ensures.stay refl (λ b is. inl is) in
    record { uncached = cache.uncached; size = cache.size; inside = cache.inside; ready = cache.ready; kept_length = cache.kept_length }

pub invariant_of-self-2 : goal.invariant_of-self-2
invariant_of-self-2 g c =
    let self = c.args.self.now in
    let inner = c.prepare.new.self in
    let was : IsCache (g.M.Medium.device self.inner) (g.M.Medium.prepared self.inner) self.saved = record { uncached = self.uncached; size = self.size; inside = self.inside; ready = self.ready; kept_length = self.kept_length } in
    let cache = cache-after (g.M.Medium.device self.inner) (g.M.Medium.device inner) (g.M.Medium.prepared self.inner) (g.M.Medium.prepared inner) self.saved c.make_places.new.self was (same-from (g.M.Medium.device self.inner) (g.M.Medium.device inner) c.prepare.ensures.device) (g.met.M.Medium.shaped inner) c.prepare.ensures.stay c.make_places.ensures.size (λ b is. inl (subst (λ (o : Option (List ℕ)). IsSome o) (c.make_places.ensures.blocks b) is)) in
    record { uncached = cache.uncached; size = cache.size; inside = cache.inside; ready = cache.ready; kept_length = cache.kept_length }
