use Rattle.std.proofs.Common.{◌∙◌, ap, sym}
use Rattle.std.specs.List.{count_by}
use Rattle.subtask_queue.specs.Subs.{is_of, without_token}
use Rattle.subtask_queue.specs.Owned.{waiting_in}
use Rattle.subtask_queue.proofs.queue.Queue.drop_request.Goals.{in-Some, in-None}
use Rattle.subtask_queue.proofs.queue.Queue.drop_request.Goals as goal

pub returns-clause-count : goal.returns-clause-count
unfolding waiting_in
returns-clause-count c = elim c.match-self.branch [
  | in-Some w ↦ w.result-is ∙ w.drop_token.ensures.count ∙ ap (count_by (is_of c.args.token)) (ap waiting_in (sym w.in-Some.is) ∙ c.self.view_is)
  | in-None w ↦ w.result-is ∙ ap (count_by (is_of c.args.token)) (ap waiting_in (sym w.in-None.is) ∙ c.self.view_is)
]

pub returns-clause-value : goal.returns-clause-value
unfolding waiting_in without_token
returns-clause-value c = elim c.match-self.branch [
  | in-Some w ↦ ap (λ q. waiting_in q.linked) w.self-inside-is ∙ w.drop_token.ensures.value ∙ ap (without_token c.args.token) (ap waiting_in (sym w.in-Some.is) ∙ c.self.view_is)
  | in-None w ↦ ap (λ q. waiting_in q.linked) w.self-inside-is ∙ ap waiting_in w.in-None.is ∙ ap (without_token c.args.token) (ap waiting_in (sym w.in-None.is) ∙ c.self.view_is)
]
