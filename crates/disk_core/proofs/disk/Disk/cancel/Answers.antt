use Rattle.std.proofs.Common.{subst}
use Rattle.history.specs.declared.entry.Entry.{Entry}
use Rattle.disk_core.specs.Calls.{EndSays}
use Rattle.disk_core.specs.Parts.{state_of}
use Rattle.disk_core.proofs.disk.Disk.cancel.Goals as goal

pub invariant_of-self : goal.invariant_of-self
invariant_of-self g c = c.cancel_view.ensures.sound

pub returns : goal.returns
returns g c = subst (λ s. EndSays s (Entry.Cancel c.args.tag c.args.view.now) c.cancel_view.result (state_of g.M.Medium.device c.self.inside.drive c.cancel_view.new.core)) c.self.view_is c.cancel_view.ensures.says
