use Rattle.std.proofs.Common.{arith}
use Rattle.index_links.proofs.Calls.{apart_of, head_there}
use Rattle.index_links.proofs.links.Links.push_back.Goals as goal

pub append-requires-clause-list : goal.append-requires-clause-list
append-requires-clause-list c = omega (arith, head_there c.self.inside.rings c.self.inside.heads c.args.list c.args.self.now c.self.invariant c.self.view_is c.requires.list)

pub returns-clause-apart : goal.returns-clause-apart
returns-clause-apart c = apart_of c.append.new.rings c.self.inside.heads c.append.ensures.linked
