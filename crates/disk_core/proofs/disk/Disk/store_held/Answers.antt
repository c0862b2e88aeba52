use Rattle.std.proofs.Common.{subst}
use Rattle.disk_core.specs.Calls.{HeldStoreSays}
use Rattle.disk_core.specs.Parts.{state_of}
use Rattle.disk_core.proofs.disk.Disk.store_held.Goals as goal

pub invariant_of-self : goal.invariant_of-self
invariant_of-self g c = c.store_copy.ensures.sound

pub returns : goal.returns
returns g c = subst (λ s. HeldStoreSays s c.args.ticket c.store_copy.result (state_of g.M.Medium.device c.store_copy.new.drive c.store_copy.new.core)) c.self.view_is c.store_copy.ensures.says
