use Rattle.std.proofs.Common.{subst}
use Rattle.disk_core.specs.Calls.{RefitSays}
use Rattle.disk_core.specs.Parts.{state_of}
use Rattle.disk_core.proofs.Refit.{refit-reaches}
use Rattle.disk_core.proofs.disk.Disk.refit.Goals as goal

pub invariant_of-self : goal.invariant_of-self
invariant_of-self g c = (refit-reaches _ _ _ c.self.inside.core c.refit.result c.refit.new.self c.self.invariant c.refit.ensures.all c.refit.ensures.ok c.refit.ensures.err c.refit.ensures.some c.refit.ensures.left c.refit.ensures.sound).sound

pub returns : goal.returns
returns g c = subst (λ s. RefitSays s c.refit.result (state_of g.M.Medium.device c.self.inside.drive (record c.self.inside.core { gates = c.refit.new.self }))) c.self.view_is
    (refit-reaches _ _ _ c.self.inside.core c.refit.result c.refit.new.self c.self.invariant c.refit.ensures.all c.refit.ensures.ok c.refit.ensures.err c.refit.ensures.some c.refit.ensures.left c.refit.ensures.sound).says
