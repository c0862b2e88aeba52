use Rattle.std.proofs.Common.{◌<◌, length, subst, sym}
use Rattle.index_links.proofs.Places.{read-after}
use Rattle.index_links.proofs.rings.Rings.after.Goals as goal

pub returns-clause-value : goal.returns-clause-value
returns-clause-value c = read-after c.self.inside.links.items c.args.self.now c.args.place c.index.result.now c.self.view_is c.requires c.index.ensures

pub returns-clause-inside : goal.returns-clause-inside
returns-clause-inside c rings = subst (λ p. p < length c.args.self.now) (sym (returns-clause-value c)) (rings.ahead c.args.place c.requires)
