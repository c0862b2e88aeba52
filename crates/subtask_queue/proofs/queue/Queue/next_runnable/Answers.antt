use Rattle.std.proofs.Common.{◌∙◌, ap, sym}
use Rattle.std.specs.Prelude.{find, nat_lt}
use Rattle.block_gate.specs.Gates.{is_block_held}
use Rattle.subtask_queue.specs.Subs.{may_run}
use Rattle.subtask_queue.specs.Owned.{waiting_in}
use Rattle.subtask_queue.proofs.queue.Queue.next_runnable.Goals as goal

pub returns-in-Some : goal.returns-in-Some
unfolding waiting_in
returns-in-Some c =
    c.next_runnable.ensures ∙ ap (find (may_run (is_block_held c.args.gates.now.held) (nat_lt 0 c.args.gates.now.free))) (ap waiting_in (sym c.in-Some.is) ∙ c.self.view_is)

pub returns-in-None : goal.returns-in-None
unfolding waiting_in
returns-in-None c = ap (find (may_run (is_block_held c.args.gates.now.held) (nat_lt 0 c.args.gates.now.free))) (ap waiting_in (sym c.in-None.is) ∙ c.self.view_is)
