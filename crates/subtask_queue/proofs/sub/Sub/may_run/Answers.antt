use Rattle.std.proofs.Common.{ap, not, ◌∙◌}
use Rattle.subtask_queue.specs.Subs.{may_run}
use Rattle.subtask_queue.proofs.Holding.{range-free}
use Rattle.subtask_queue.proofs.sub.Sub.may_run.Goals as goal

pub returns-else-not-write-2 : goal.returns-else-not-write-2
unfolding may_run
returns-else-not-write-2 c = rw (c.in-Run.is, c.if-not-write-2.false) (ap not c.is_any_held.ensures ∙ range-free c.args.gates.now.held c.in-Run.block c.in-Run.count)
