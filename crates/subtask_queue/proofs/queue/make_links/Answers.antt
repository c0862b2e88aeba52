use Rattle.std.proofs.Common.{◌∙◌, not, ap, sym}
use Rattle.subtask_queue.specs.Owned.{waiting_in}
use Rattle.subtask_queue.proofs.Ends.{none-waiting}
use Rattle.subtask_queue.proofs.queue.make_links.Goals as goal

pub returns-in_ok-make : goal.returns-in_ok-make
unfolding waiting_in
returns-in_ok-make c = c.in_ok-make.ensures ∙ sym (none-waiting c.args.linked.now (c.is_none.ensures ∙ ap not c.if-is_none.true))
