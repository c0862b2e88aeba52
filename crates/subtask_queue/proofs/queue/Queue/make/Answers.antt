use Rattle.std.proofs.Common.{refl}
use Rattle.subtask_queue.specs.Owned.{waiting_in}
use Rattle.subtask_queue.proofs.queue.Queue.make.Goals as goal

pub returns : goal.returns
unfolding waiting_in
returns c = refl
