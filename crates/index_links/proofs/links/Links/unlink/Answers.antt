use Rattle.index_links.proofs.Calls.{apart_of}
use Rattle.index_links.proofs.links.Links.unlink.Goals as goal

pub returns-clause-apart : goal.returns-clause-apart
returns-clause-apart c = apart_of c.take_out.new.rings c.self.inside.heads c.take_out.ensures.linked
