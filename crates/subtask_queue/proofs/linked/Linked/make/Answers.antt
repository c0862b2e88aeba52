use Rattle.std.proofs.Common.{ap}
use Rattle.subtask_queue.specs.Owned.{subs_in}
use Rattle.subtask_queue.proofs.Ends.{led-none}
use Rattle.subtask_queue.proofs.linked.Linked.make.Goals as goal

pub invariant_of-result : goal.invariant_of-result
invariant_of-result c = led-none c.in_ok-make.field-0 c.in_ok-make-2.field-0 c.in_ok-make.ensures c.in_ok-make-2.ensures

pub returns : goal.returns
unfolding subs_in
returns c = ap subs_in c.in_ok-make.ensures
