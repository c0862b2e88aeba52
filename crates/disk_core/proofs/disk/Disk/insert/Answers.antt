use Rattle.std.proofs.Common.{subst}
use Rattle.disk_core.specs.Calls.{InsertSays}
use Rattle.disk_core.specs.Parts.{state_of}
use Rattle.disk_core.proofs.disk.Disk.insert.Goals as goal

pub invariant_of-self : goal.invariant_of-self
invariant_of-self g c = c.insert_medium.ensures.sound

pub returns : goal.returns
returns g c = subst (λ s. InsertSays s c.args.tag c.insert_medium.result (state_of g.M.Medium.device c.insert_medium.new.drive c.insert_medium.new.core)) c.self.view_is c.insert_medium.ensures.says
