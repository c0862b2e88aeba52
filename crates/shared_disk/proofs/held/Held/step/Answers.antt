use Rattle.std.proofs.Common.{None}
use Rattle.disk_core.specs.Calls.{StepSays}
use Rattle.shared_disk.specs.Desk.{OnDisk}
use Rattle.shared_disk.proofs.HoldLemmas.{stays-behind, sees-behind}
use Rattle.shared_disk.proofs.held.Held.step.Goals as goal

pub invariant_of-self : goal.invariant_of-self
invariant_of-self g c = stays-behind g.N.DiskName.table g.N.DiskName.setup g.N.DiskName.script _ _ _ _ _ c.self.inside.pen c.renew.new.pen c.step_logged-step.new.pen c.renew-2.new.pen _ None c.self.invariant c.renew.ensures.same c.step_logged-step.ensures.logs c.step_logged-step.ensures.table c.renew-2.ensures.same c.step_logged-step.ensures.keeps

pub returns-clause-sees : goal.returns-clause-sees
returns-clause-sees g c = sees-behind g.N.DiskName.table g.N.DiskName.setup g.N.DiskName.script _ _ _ _ _ c.self.inside.pen c.renew.new.pen c.step_logged-step.new.pen _ None c.args.hand.now c.renew-2.new.self (λ old new. OnDisk old new (λ a b. StepSays a c.step_logged-step.result b)) c.self.invariant c.renew.ensures.same c.renew.ensures.older c.step_logged-step.ensures.logs c.renew-2.ensures.seen c.step_logged-step.ensures.says
