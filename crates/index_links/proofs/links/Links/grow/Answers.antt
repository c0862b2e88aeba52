use Rattle.index_links.proofs.Calls.{apart_of}
use Rattle.index_links.proofs.links.Links.grow.Goals as goal

pub returns-clause-apart : goal.returns-clause-apart
returns-clause-apart c = apart_of c.extend.new.rings c.self.inside.heads c.extend.ensures.linked
