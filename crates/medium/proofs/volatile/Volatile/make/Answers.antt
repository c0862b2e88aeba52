use Rattle.std.proofs.Common.{ℕ, Option, List, ap, ◌∙◌}
use Rattle.medium.proofs.Restored.{cache-none, kept-none}
use Rattle.medium.specs.BlockMap.{held_block}
use Rattle.medium.proofs.volatile.Volatile.make.Goals as goal

pub invariant_of-result : goal.invariant_of-result
invariant_of-result g c =
    let d = g.M.Medium.device c.args.inner in
    let cache = cache-none d (g.M.Medium.prepared c.args.inner) c.new.result (g.met.M.Medium.shaped c.args.inner) c.requires (c.new.ensures.size ∙ c.size-size.ensures) c.new.ensures.blocks in
    record { uncached = cache.uncached; size = cache.size; inside = cache.inside; ready = cache.ready; kept_length = cache.kept_length }

pub returns-clause-device : goal.returns-clause-device
returns-clause-device g c =
    let d = g.M.Medium.device c.args.inner in
    let shaped = g.met.M.Medium.shaped c.args.inner in
    ap (λ (kept : Option (List ℕ)). record { first = d.first; now = d.now; kept = kept; size = d.size; blocks = d.blocks; cached = c.args.cached; faults = d.faults; calls = 0; failed = 0 }) (kept-none c.args.cached (held_block c.new.result) d.size d.blocks d.now d.kept c.new.ensures.blocks shaped.told_now (shaped.uncached c.requires))
