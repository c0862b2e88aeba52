use Rattle.std.proofs.Common.{subst}
use Rattle.history.specs.declared.entry.Entry.{Entry}
use Rattle.disk_core.specs.Calls.{EndSays}
use Rattle.disk_core.specs.Parts.{state_of}
use Rattle.disk_core.proofs.disk.Disk.reset.Goals as goal

pub invariant_of-self : goal.invariant_of-self
invariant_of-self g c = c.reset_all.ensures.sound

pub returns : goal.returns
returns g c = subst (λ s. EndSays s (Entry.Reset c.args.tag) c.reset_all.result (state_of g.M.Medium.device c.self.inside.drive c.reset_all.new.core)) c.self.view_is c.reset_all.ensures.says
