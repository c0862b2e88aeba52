use Rattle.std.proofs.Common.{◌∙◌, arith}
use Rattle.subtask_queue.proofs.firsts.Firsts.reserve.Goals as goal

pub returns-clause-same : goal.returns-clause-same
returns-clause-same c = λ t. let (base, long, same) = c.loop.invariant in c.add_node-2.ensures.same t ∙ same t
