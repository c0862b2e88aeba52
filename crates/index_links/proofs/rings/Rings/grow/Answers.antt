use Rattle.std.proofs.Common.{◌≡◌, ◌++◌, ◌∷◌, [], arith, ap, subst, sym, ◌∙◌, length, length-append}
use Rattle.index_links.specs.Rings.{after_at, AreRings}
use Rattle.index_links.proofs.Places.{after-more, rings-more}
use Rattle.index_links.proofs.rings.Rings.grow.Goals as goal

pub loop-init : goal.loop-init
loop-init c =
    let same : c.reserve.new.self.items ≡ c.args.self.now = c.reserve.ensures.items ∙ c.self.view_is in
    (subst AreRings (sym same) c.requires, λ p. ap (λ ls. after_at ls p) same, omega (arith, ap length same), omega (arith, ap length same, c.in_ok-reserve.ensures.ok))

pub loop-preserved : goal.loop-preserved
loop-preserved c =
    let (rings, same, long, room) = c.loop.invariant in
    let n = c.len-place.result in
    let links = c.loop.self-inside.links.items in
    let long' : length links ≡ n = omega (arith, c.len-place.ensures, c.loop.self-inside.links.ok) in
    let more : c.push_reserved.new.self.items ≡ links ++ record { before = n; after = n } ∷ [] = c.push_reserved.ensures.items in (
      subst AreRings (sym more) (rings-more links n rings long'),
      λ p. ap (λ ls. after_at ls p) more ∙ after-more links n p long' ∙ same p,
      ap length more ∙ length-append links _ ∙ omega arith,
      omega arith,
    )
