use Rattle.device_workers.proofs.AllDone.{rounds-do-all}
use Rattle.device_workers.proofs.Enough.{enough}
use Rattle.device_workers.proofs.laws.rounds_are_enough.Goals as goal

pub returns-clause-enough : goal.returns-clause-enough
returns-clause-enough c = enough

pub returns-clause-all : goal.returns-clause-all
returns-clause-all c = rounds-do-all
