use Rattle.std.proofs.Common.{rules}
use Rattle.shared_disk.proofs.LogKeeps.{counts}
use Rattle.shared_disk.proofs.pens.Pen.items.Goals as goal

pub load-requires : goal.load-requires
load-requires c = (search rules, search rules, counts _ _ _ c.self.invariant.2)
