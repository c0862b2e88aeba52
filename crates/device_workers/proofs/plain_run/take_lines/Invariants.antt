use Rattle.device_workers.proofs.Rounds.{ClientsTook}
use Rattle.device_workers.proofs.plain_run.take_lines.Given as goal

abbrev pub invariant-loop-i : goal.invariant-loop-i
invariant-loop-i g l = ClientsTook l.initial.desk l.i l.desk
