use Rattle.disk_core.proofs.Fresh.{fresh-sound}
use Rattle.disk_core.proofs.disk.Disk.make.Goals as goal

pub invariant_of-result : goal.invariant_of-result
invariant_of-result g c = fresh-sound _ _ _ _ c.args.sets c.requires.fit c.requires.fresh c.in-Ok.ensures
