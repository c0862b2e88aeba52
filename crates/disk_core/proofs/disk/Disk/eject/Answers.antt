use Rattle.std.proofs.Common.{subst}
use Rattle.disk_core.specs.Calls.{EjectSays}
use Rattle.disk_core.specs.Parts.{state_of}
use Rattle.disk_core.proofs.disk.Disk.eject.Goals as goal

pub invariant_of-self : goal.invariant_of-self
invariant_of-self g c = c.eject_medium.ensures.sound

pub returns : goal.returns
returns g c = subst (λ s. EjectSays s c.args.tag c.eject_medium.result (state_of g.M.Medium.device c.eject_medium.new.drive c.eject_medium.new.core)) c.self.view_is c.eject_medium.ensures.says
