use Rattle.device_workers.proofs.Rounds.{a-round}
use Rattle.device_workers.proofs.plain_run.run_round.Goals as goal

pub returns-clause-round : goal.returns-clause-round
returns-clause-round g c = a-round _ _ _ _ c.take_lines.ensures.stays c.in_ok-take_lines.ensures.takes c.step_once.ensures.steps
