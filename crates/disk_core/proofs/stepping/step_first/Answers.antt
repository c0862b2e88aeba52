use Rattle.std.proofs.Common.{subst, sym}
use Rattle.disk_core.specs.Calls.{StepSays}
use Rattle.disk_core.specs.Moves.{Reaches}
use Rattle.disk_core.proofs.Halted.{step-next, rest-reaches}
use Rattle.disk_core.proofs.stepping.step_first.Goals as goal

pub step_unit-requires-clause-next : goal.step_unit-requires-clause-next
step_unit-requires-clause-next g c = step-next _ g.M.Medium.prepared _ _ c.requires c.in-Some.unit c.in-Some.ensures

pub returns-in-None : goal.returns-in-None
returns-in-None g c =
    subst (λ r. Reaches g.M.Medium.device g.M.Medium.prepared c.args.drive.now c.args.core.now c.args.drive.now c.args.core.now (λ s s'. StepSays s r s')) (sym c.rest.ensures) (rest-reaches _ g.M.Medium.prepared _ _ c.requires c.in-None.ensures)
