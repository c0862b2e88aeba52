use Rattle.std.proofs.Common.{subst}
use Rattle.disk_core.specs.Calls.{StoreSays}
use Rattle.disk_core.specs.Parts.{state_of}
use Rattle.disk_core.proofs.disk.Disk.store.Goals as goal

pub invariant_of-self : goal.invariant_of-self
invariant_of-self g c = c.store_work.ensures.sound

pub returns : goal.returns
returns g c = subst (λ s. StoreSays s c.args.work c.store_work.result (state_of g.M.Medium.device c.store_work.new.drive c.store_work.new.core)) c.self.view_is c.store_work.ensures.says
