use Rattle.history_laws.proofs.UnitLemmas.{done-tasks, moved-alike}
use Rattle.history_laws.proofs.TaskLemmas.{finished-now, finished-other, complete-tasks, open-incomplete}
use Rattle.history_laws.proofs.units.units_finish.Goals as goal

pub returns-clause-of_units : goal.returns-clause-of_units
returns-clause-of_units c = done-tasks

pub returns-clause-together : goal.returns-clause-together
returns-clause-together c = moved-alike

pub returns-clause-finishes : goal.returns-clause-finishes
returns-clause-finishes c = finished-now

pub returns-clause-others : goal.returns-clause-others
returns-clause-others c = finished-other

pub returns-clause-complete : goal.returns-clause-complete
returns-clause-complete c = complete-tasks

pub returns-clause-incomplete : goal.returns-clause-incomplete
returns-clause-incomplete c = open-incomplete
