use Rattle.std.proofs.Common.{◌∙◌, ap, sym}
use Rattle.subtask_queue.specs.Subs.{token_of, block_of, is_unit, without_first}
use Rattle.subtask_queue.specs.Owned.{waiting_in}
use Rattle.subtask_queue.proofs.queue.Queue.finish.Goals.{in-Some, in_default}
use Rattle.subtask_queue.proofs.queue.Queue.finish.Goals as goal

pub returns : goal.returns
unfolding waiting_in without_first
returns c = elim c.match-self.branch [
  | in-Some w ↦ ap (λ q. waiting_in q.linked) w.self-inside-is ∙ w.finish.ensures
      ∙ ap (λ t. without_first (is_unit t c.block-block.result) w.in-Some.linked) c.token-token.ensures ∙ ap (λ b. without_first (is_unit (token_of c.args.sub.now) b) w.in-Some.linked) c.block-block.ensures
      ∙ ap (without_first (is_unit (token_of c.args.sub.now) (block_of c.args.sub.now))) (ap waiting_in (sym w.in-Some.is) ∙ c.self.view_is)
  | in_default w ↦ ap (λ q. waiting_in q.linked) w.self-inside-is ∙ ap waiting_in w.in_default.is ∙ ap (without_first (is_unit (token_of c.args.sub.now) (block_of c.args.sub.now))) (ap waiting_in (sym w.in_default.is) ∙ c.self.view_is)
]
