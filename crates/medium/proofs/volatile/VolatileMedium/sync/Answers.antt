use Rattle.std.proofs.Common.{◌≡◌, ℕ, ◌*◌, refl, sym, ap, subst, ◌∙◌, inl, true, Result, Ok, Err, OnOk, OnErr}
use Rattle.std.specs.Result.{is_ok}
use Rattle.medium.specs.Counts.{capped_sum}
use Rattle.medium.specs.declared.block_failed.BlockFailed.{BlockFailed}
use Rattle.medium.proofs.Restored.{IsCache, cache-none, cache-after, kept-none}
use Rattle.medium.specs.BlockMap.{held_block}
use Rattle.medium.specs.Device.{IsTold}
use Rattle.medium.proofs.volatile.VolatileMedium.sync.Goals as goal

on-ok : {P : Type 0} (result : Result (Unit {0}) BlockFailed) → P → OnOk result P
on-ok (Ok x) p = p
on-ok (Err fault) p = tt

not-err : (P : Type 0) (result : Result (Unit {0}) BlockFailed) → is_ok result ≡ true → OnErr result P
not-err P (Ok x) is = tt
not-err P (Err fault) is = absurd (cc)

pub invariant_of-self : goal.invariant_of-self
invariant_of-self g c =
    let self = c.args.self.now in
    let inner = c.sync-answer.new.self in
    let same = c.sync-answer.ensures.synced.command.same in
    let cache = cache-none (g.M.Medium.device inner) (g.M.Medium.prepared inner) c.let_all_go.new.self (g.met.M.Medium.shaped inner) (same.cached ∙ self.uncached) (c.let_all_go.ensures.size ∙ self.size ∙ sym same.size) c.let_all_go.ensures.blocks in
    record { uncached = cache.uncached; size = cache.size; inside = cache.inside; ready = cache.ready; kept_length = cache.kept_length }

pub invariant_of-self-else-is_ok : goal.invariant_of-self-else-is_ok
invariant_of-self-else-is_ok g c =
    let self = c.args.self.now in
    let inner = c.sync-answer.new.self in
    let was : IsCache (g.M.Medium.device self.inner) (g.M.Medium.prepared self.inner) self.saved = record { uncached = self.uncached; size = self.size; inside = self.inside; ready = self.ready; kept_length = self.kept_length } in
    let cache = cache-after (g.M.Medium.device self.inner) (g.M.Medium.device inner) (g.M.Medium.prepared self.inner) (g.M.Medium.prepared inner) self.saved self.saved was c.sync-answer.ensures.synced.command.same (g.met.M.Medium.shaped inner) c.sync-answer.ensures.stay refl (λ b is. inl is) in
    record { uncached = cache.uncached; size = cache.size; inside = cache.inside; ready = cache.ready; kept_length = cache.kept_length }

pub returns-then-is_ok-clause-synced : goal.returns-then-is_ok-clause-synced
returns-then-is_ok-clause-synced g c =
    let self = c.args.self.now in
    let d = g.M.Medium.device self.inner in
    let d' = g.M.Medium.device c.sync-answer.new.self in
    let synced = c.sync-answer.ensures.synced in
    let same = synced.command.same in
    let told = subst (λ (k : ℕ). IsTold d'.now (d'.blocks * k)) (refl {a = d'.size}) (g.met.M.Medium.shaped c.sync-answer.new.self).told_now in
    record {
      command = record {
        same = record { first = same.first; size = same.size; blocks = same.blocks; cached = refl };
        calls = c.saturating_add-self.ensures;
        failed = c.saturating_add-self-2.ensures ∙ ap (λ (n : ℕ). capped_sum self.failed n) c.failures_of.ensures;
        later = synced.command.later;
        cause = synced.command.cause;
        quiet = synced.command.quiet;
      };
      now = synced.now;
      kept = on-ok c.sync-answer.result (kept-none self.cached (held_block c.let_all_go.new.self) d'.size d'.blocks d'.now d.now c.let_all_go.ensures.blocks told (sym synced.now));
      left = not-err _ c.sync-answer.result (sym c.is_ok.ensures.value ∙ c.if-is_ok.true);
      done = synced.done;
    }
