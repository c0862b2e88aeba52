use Rattle.std.proofs.Common.{subst}
use Rattle.disk_core.specs.Calls.{ProtectSays}
use Rattle.disk_core.specs.Parts.{state_of}
use Rattle.disk_core.proofs.disk.Disk.protect.Goals as goal

pub invariant_of-self : goal.invariant_of-self
invariant_of-self g c = c.protect_drive.ensures.sound

pub returns : goal.returns
returns g c = subst (λ s. ProtectSays s c.args.tag c.args.on c.protect_drive.result (state_of g.M.Medium.device c.protect_drive.new.drive c.protect_drive.new.core)) c.self.view_is c.protect_drive.ensures.says
