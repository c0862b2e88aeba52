use Rattle.index_links.proofs.Places.{after-written, before-kept}
use Rattle.index_links.proofs.rings.Rings.set_after.Goals as goal

pub returns-clause-after : goal.returns-clause-after
returns-clause-after c p = after-written c.self.inside.links.items c.args.self.now c.args.place c.args.next c.index_mut.result.now c.self.view_is c.requires c.index_mut.ensures.value p

pub returns-clause-before : goal.returns-clause-before
returns-clause-before c p = before-kept c.self.inside.links.items c.args.self.now c.args.place c.args.next c.index_mut.result.now c.self.view_is c.requires c.index_mut.ensures.value p
