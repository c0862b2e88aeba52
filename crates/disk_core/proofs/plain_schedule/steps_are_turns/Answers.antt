use Rattle.disk_core.proofs.TurnLemmas.{steps-turn}
use Rattle.disk_core.proofs.AtOnceLemmas.{stores-merged}
use Rattle.disk_core.proofs.plain_schedule.steps_are_turns.Goals as goal

pub returns-clause-turns : goal.returns-clause-turns
returns-clause-turns c = steps-turn

pub returns-clause-stored : goal.returns-clause-stored
returns-clause-stored c = stores-merged
