use Rattle.std.proofs.Common.{◌≡◌, ◌≢◌, ℕ, ◌*◌, List, Option, None, Some, IsSome, IfSome, refl, sym, ap, subst, ◌∙◌, ⊎_elim}
use Rattle.std.proofs.lemmas.Bool.{cases_eq}
use Rattle.medium.proofs.Restored.{restored-none, restored-let_go}
use Rattle.medium.specs.BlockMap.{held_block}
use Rattle.medium.specs.Cached.{restoration}
use Rattle.medium.specs.Device.{IsTold, patch_told}
use Rattle.medium.proofs.saving.write_back.Goals as goal

pub loop-block-preserved : goal.loop-block-preserved
loop-block-preserved g c =
    let old = c.loop-block.saved in
    let new = c.let_go.new.self in
    let d0 = g.M.Medium.device c.args.inner.now in
    let d = g.M.Medium.device c.loop-block.inner in
    let d' = g.M.Medium.device c.write_blocks.new.self in
    let written = c.in_ok-write_blocks.ensures.written in
    let block : ℕ = c.in-Some.block in
    let held : List ℕ = c.in-Some-get.held.now in
    let size : ℕ = c.args.saved.now.size in
    let was : held_block old block ≡ Some held = sym c.in-Some-get.ensures.value in
    let some : IsSome (held_block old block) = rw was refl in
    let gone : c.let_go.result ≡ Some block = c.let_go.ensures.value ∙ sym c.in-Some.ensures.value in
    let none : held_block new block ≡ None = subst (λ (o : Option ℕ). IfSome o (λ b. held_block new b ≡ None)) gone c.let_go.ensures.here in
    let others : (q : ℕ) → q ≢ block → held_block new q ≡ held_block old q = λ (q : ℕ) (apart : q ≢ block). c.let_go.ensures.others q (λ (same : c.let_go.result ≡ Some q). apart (let e : Some block ≡ Some q = sym gone ∙ same in cc)) in
    let size_is : d.size ≡ size = c.loop-block.invariant.same.size ∙ sym c.requires.size in
    let told : IsTold d.now (d0.blocks * size) = subst (λ (k : ℕ). IsTold d.now (d0.blocks * k)) size_is (subst (λ (k : ℕ). IsTold d.now (k * d.size)) c.loop-block.invariant.same.blocks (g.met.M.Medium.shaped c.loop-block.inner).told_now) in
    let patched : d'.now ≡ patch_told d.now (block * size) held = written.now ∙ ap (λ (k : ℕ). patch_told d.now (block * k) held) size_is in
    let inside : (b : ℕ) → IsSome (held_block new b) → IsSome (held_block old b) = λ (b : ℕ) (is : IsSome (held_block new b)). ⊎_elim (λ same. subst (λ (x : ℕ). IsSome (held_block old x)) (sym same) some) (λ apart. subst (λ (o : Option (List ℕ)). IsSome o) (others b apart) is) (cases_eq b block) in
    record {
      same = record {
        first = written.command.same.first ∙ c.loop-block.invariant.same.first;
        size = written.command.same.size ∙ c.loop-block.invariant.same.size;
        blocks = written.command.same.blocks ∙ c.loop-block.invariant.same.blocks;
        cached = written.command.same.cached ∙ c.loop-block.invariant.same.cached;
      };
      quiet = written.command.quiet ∙ c.loop-block.invariant.quiet;
      size = c.let_go.ensures.size ∙ c.loop-block.invariant.size;
      inside = λ b is. c.loop-block.invariant.inside b (inside b is);
      ready = λ b is. c.in_ok-write_blocks.ensures.stay b (c.loop-block.invariant.ready b (inside b is));
      restored = ap (restoration (held_block new) size d0.blocks) patched ∙ restored-let_go (held_block old) (held_block new) size d0.blocks d.now block held was none others (c.in-Some-get.ensures.long ∙ c.loop-block.invariant.size) told (c.loop-block.invariant.inside block some) ∙ c.loop-block.invariant.restored;
    }

pub returns-clause-now : goal.returns-clause-now
returns-clause-now g c =
    let d0 = g.M.Medium.device c.args.inner.now in
    let d = g.M.Medium.device c.loop-block.inner in
    let size : ℕ = c.args.saved.now.size in
    let size_is : d.size ≡ size = c.loop-block.invariant.same.size ∙ sym c.requires.size in
    let told : IsTold d.now (d0.blocks * size) = subst (λ (k : ℕ). IsTold d.now (d0.blocks * k)) size_is (subst (λ (k : ℕ). IsTold d.now (k * d.size)) c.loop-block.invariant.same.blocks (g.met.M.Medium.shaped c.loop-block.inner).told_now) in
    sym (restored-none (held_block c.loop-block.saved) size d0.blocks d.now c.in_default.ensures.none told) ∙ c.loop-block.invariant.restored
