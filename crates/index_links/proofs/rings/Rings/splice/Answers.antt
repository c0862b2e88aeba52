use Rattle.std.proofs.Common.{arith, ap, ◌∙◌, cond, eqb}
use Rattle.index_links.specs.Rings.{after_at}
use Rattle.index_links.proofs.Places.{after-exchanged, before-exchanged, rings-exchanged}
use Rattle.index_links.proofs.rings.Rings.splice.Goals as goal

pub returns-clause-after : goal.returns-clause-after
returns-clause-after c p =
    c.set_before-2.ensures.after p ∙ c.set_before.ensures.after p ∙ c.set_after-2.ensures.after p
    ∙ ap (λ x. cond (eqb p c.args.right) c.after-after_left.result x) (c.set_after.ensures.after p)
    ∙ after-exchanged (after_at c.args.self.now) c.args.left c.args.right _ _ p c.after-after_left.ensures.value c.after-after_right.ensures.value

pub returns-clause-rings : goal.returns-clause-rings
returns-clause-rings c =
    rings-exchanged c.args.self.now c.set_before-2.new.self c.args.left c.args.right c.requires.rings c.requires.left c.requires.right (omega arith)
    (returns-clause-after c)
    (λ p. c.set_before-2.ensures.before p
    ∙ ap (λ x. cond (eqb p c.after-after_right.result) c.args.left x) (c.set_before.ensures.before p ∙ ap (λ x. cond (eqb p c.after-after_left.result) c.args.right x) (c.set_after-2.ensures.before p ∙ c.set_after.ensures.before p))
    ∙ before-exchanged c.args.self.now c.requires.rings c.args.left c.args.right _ _ p c.after-after_left.ensures.value c.after-after_right.ensures.value)
