use Rattle.device_workers.proofs.Rounds.{RoundsRan, desk_cost}
use Rattle.device_workers.proofs.plain_run.run_rounds.Given as goal

abbrev pub invariant-loop-desk : goal.invariant-loop-desk
invariant-loop-desk g l = RoundsRan l.initial.desk l.desk

abbrev pub decreases-loop-desk : goal.decreases-loop-desk
decreases-loop-desk g l = desk_cost l.desk
