use Rattle.index_links.proofs.Places.{before-written, after-kept}
use Rattle.index_links.proofs.rings.Rings.set_before.Goals as goal

pub returns-clause-before : goal.returns-clause-before
returns-clause-before c p = before-written c.self.inside.links.items c.args.self.now c.args.place c.args.previous c.index_mut.result.now c.self.view_is c.requires c.index_mut.ensures.value p

pub returns-clause-after : goal.returns-clause-after
returns-clause-after c p = after-kept c.self.inside.links.items c.args.self.now c.args.place c.args.previous c.index_mut.result.now c.self.view_is c.requires c.index_mut.ensures.value p
