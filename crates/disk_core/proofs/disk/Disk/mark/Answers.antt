use Rattle.std.proofs.Common.{subst, sym}
use Rattle.disk_core.specs.Calls.{MarkSays}
use Rattle.disk_core.proofs.Collected.{mark-says}
use Rattle.disk_core.proofs.disk.Disk.mark.Goals as goal

pub returns : goal.returns
returns g c = subst (λ s. MarkSays s c.args.number c.mark.result) c.self.view_is (subst (MarkSays _ c.args.number) (sym c.mark.ensures.value) (mark-says _ _ _ _ 0 c.args.number c.self.invariant))
