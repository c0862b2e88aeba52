use Rattle.std.proofs.Common.{◌∙◌, arith, ap, subst, slice_get}
use Rattle.index_links.specs.Lists.{AreApart, list_at}
use Rattle.index_links.specs.Rings.{node_of}
use Rattle.index_links.proofs.Calls.{apart_of, first-is, head_there}
use Rattle.index_links.proofs.links.Links.first.Goals as goal

pub after-requires : goal.after-requires
after-requires c = omega (arith, head_there c.self.inside.rings c.self.inside.heads c.args.list c.args.self.now c.self.invariant c.self.view_is c.requires, c.self.invariant.room)

pub node_at-requires : goal.node_at-requires
node_at-requires c = omega (arith, c.after.ensures.inside c.self.invariant.rings, c.self.invariant.few, c.self.invariant.room)

pub returns-clause-value : goal.returns-clause-value
returns-clause-value c =
    c.node_at.ensures ∙ ap (node_of c.self.inside.heads) c.after.ensures.value ∙ first-is c.self.inside.rings c.self.inside.heads c.args.list c.self.invariant (head_there c.self.inside.rings c.self.inside.heads c.args.list c.args.self.now c.self.invariant c.self.view_is c.requires)
    ∙ ap (λ s. slice_get (list_at s c.args.list) 0) c.self.view_is

pub returns-clause-apart : goal.returns-clause-apart
returns-clause-apart c = subst AreApart c.self.view_is (apart_of c.self.inside.rings c.self.inside.heads c.self.invariant)
