use Rattle.std.proofs.Common.{subst}
use Rattle.disk_core.specs.Calls.{StepSays}
use Rattle.disk_core.specs.Parts.{state_of}
use Rattle.disk_core.proofs.disk.Disk.step.Goals as goal

pub invariant_of-self : goal.invariant_of-self
invariant_of-self g c = c.step_first.ensures.sound

pub returns : goal.returns
returns g c = subst (λ s. StepSays s c.step_first.result (state_of g.M.Medium.device c.step_first.new.drive c.step_first.new.core)) c.self.view_is c.step_first.ensures.says
