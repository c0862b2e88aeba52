use Rattle.std.proofs.Common.{arith}
use Rattle.index_links.proofs.Calls.{head_there}
use Rattle.index_links.proofs.links.Links.move_all.Goals as goal

pub join-requires-clause-from : goal.join-requires-clause-from
join-requires-clause-from c = omega (arith, head_there c.self.inside.rings c.self.inside.heads c.args.from c.args.self.now c.self.invariant c.self.view_is c.requires.from, head_there c.self.inside.rings c.self.inside.heads c.args.to c.args.self.now c.self.invariant c.self.view_is c.requires.to)

pub join-requires-clause-to : goal.join-requires-clause-to
join-requires-clause-to c = omega (arith, head_there c.self.inside.rings c.self.inside.heads c.args.from c.args.self.now c.self.invariant c.self.view_is c.requires.from, head_there c.self.inside.rings c.self.inside.heads c.args.to c.args.self.now c.self.invariant c.self.view_is c.requires.to)
