use Rattle.std.proofs.Common.{sym, subst}
use Rattle.index_links.specs.Rings.{AreRings}
use Rattle.index_links.proofs.Places.{no-rings}
use Rattle.index_links.proofs.rings.Rings.new.Goals as goal

pub returns-clause-rings : goal.returns-clause-rings
returns-clause-rings c = subst AreRings (sym c.new.ensures.items) no-rings
