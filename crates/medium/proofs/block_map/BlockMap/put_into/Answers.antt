use Rattle.std.proofs.Common.{◌≡◌, ◌≢◌, ℕ, ◌*◌, ◌/◌, ◌<◌, length, List, Option, None, Some, IsSome, IfSome, refl, ap, subst, ◌∙◌, sym, ⊎_elim}
use Rattle.std.proofs.lemmas.Bool.{cases_eq}
use Rattle.medium.proofs.Overlays.{overlay-none, overlay-let_go}
use Rattle.medium.specs.Blocks.{overlay}
use Rattle.medium.specs.BlockMap.{held_block}
use Rattle.medium.proofs.block_map.BlockMap.put_into.Goals as goal

pub loop-block-preserved : goal.loop-block-preserved
loop-block-preserved c =
    let old = c.loop-block.self in
    let new = c.let_go.new.self in
    let block : ℕ = c.in-Some.block in
    let held : List ℕ = c.in-Some-get.held.now in
    let count : ℕ = length c.args.bytes.now / c.args.self.size in
    let was : held_block old block ≡ Some held = sym c.in-Some-get.ensures.value in
    let gone : c.let_go.result ≡ Some block = c.let_go.ensures.value ∙ sym c.in-Some.ensures.value in
    let none : held_block new block ≡ None = subst (λ (o : Option ℕ). IfSome o (λ b. held_block new b ≡ None)) gone c.let_go.ensures.here in
    let others : (q : ℕ) → q ≢ block → held_block new q ≡ held_block old q = λ (q : ℕ) (apart : q ≢ block). c.let_go.ensures.others q (λ (same : c.let_go.result ≡ Some q). apart (let e : Some block ≡ Some q = sym gone ∙ same in cc)) in
    let long : length c.loop-block.bytes ≡ count * old.size = c.loop-block.auto.bytes ∙ c.requires.whole ∙ ap (λ (s : ℕ). count * s) (sym c.loop-block.invariant.size) in
    let some : IsSome (held_block old block) = rw was refl in
    let step : overlay (held_block new) old.size count c.patch_into.new.bytes ≡ overlay (held_block old) old.size count c.loop-block.bytes = rw c.patch_into.ensures (overlay-let_go (held_block old) (held_block new) old.size count c.loop-block.bytes block held was none others c.in-Some-get.ensures.long long (c.loop-block.invariant.inside block some)) in
    record {
      bytes = ap (λ (s : ℕ). overlay (held_block new) s count c.patch_into.new.bytes) c.let_go.ensures.size ∙ step ∙ c.loop-block.invariant.bytes;
      size = c.let_go.ensures.size ∙ c.loop-block.invariant.size;
      inside = λ b is. ⊎_elim (λ same. subst (λ (x : ℕ). x < count) (sym same) (c.loop-block.invariant.inside block some)) (λ apart. c.loop-block.invariant.inside b (subst (λ (o : Option (List ℕ)). IsSome o) (others b apart) is)) (cases_eq b block);
    }

pub returns : goal.returns
returns c =
    let old = c.loop-block.self in
    let count : ℕ = length c.args.bytes.now / c.args.self.size in
    let long : length c.loop-block.bytes ≡ count * old.size = c.loop-block.auto.bytes ∙ c.requires.whole ∙ ap (λ (s : ℕ). count * s) (sym c.loop-block.invariant.size) in
    sym (overlay-none (held_block old) old.size count c.loop-block.bytes c.in_default.ensures.none long) ∙ c.loop-block.invariant.bytes
