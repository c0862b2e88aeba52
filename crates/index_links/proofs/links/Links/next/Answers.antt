use Rattle.std.proofs.Common.{◌≡◌, ◌+◌, ◌∙◌, arith, ap, subst, suc, slice_get}
use Rattle.index_links.specs.Lists.{AreApart, LinkedLists, list_at}
use Rattle.index_links.specs.Rings.{node_of, lists_of}
use Rattle.index_links.proofs.Calls.{apart_of, next-is, listed-there}
use Rattle.index_links.proofs.links.Links.next.Goals as goal

pub overflow_add-place : goal.overflow_add-place
overflow_add-place c = omega (arith, c.self.invariant.heads_few)

pub after-requires : goal.after-requires
after-requires c = omega (arith, listed-there c.self.inside.rings c.self.inside.heads c.args.node c.args.self.now c.self.invariant c.self.view_is c.requires)

pub node_at-requires : goal.node_at-requires
node_at-requires c = omega (arith, c.after.ensures.inside c.self.invariant.rings, c.self.invariant.few, c.self.invariant.room)

pub returns-clause-value : goal.returns-clause-value
returns-clause-value c l i is =
    let s : LinkedLists = lists_of c.self.inside.rings c.self.inside.heads in
    let same : s ≡ c.args.self.now = c.self.view_is in
    let one : suc i ≡ i + 1 = omega arith in
    c.node_at.ensures ∙ ap (node_of c.self.inside.heads) c.after.ensures.value
    ∙ next-is c.self.inside.rings c.self.inside.heads c.args.node l i c.self.invariant (ap (λ t. slice_get (list_at t l) i) same ∙ is)
    ∙ ap (λ t. slice_get (list_at t l) (suc i)) same ∙ ap (slice_get (list_at c.args.self.now l)) one

pub returns-clause-apart : goal.returns-clause-apart
returns-clause-apart c = subst AreApart c.self.view_is (apart_of c.self.inside.rings c.self.inside.heads c.self.invariant)
