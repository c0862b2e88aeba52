use Rattle.std.proofs.Common.{◌∙◌, ap, sym}
use Rattle.std.specs.List.{find}
use Rattle.std.specs.Option.{option_map}
use Rattle.subtask_queue.specs.Subs.{token_of, is_from}
use Rattle.subtask_queue.specs.Owned.{waiting_in}
use Rattle.subtask_queue.proofs.queue.Queue.token_from.Goals as goal

pub returns-in-Some : goal.returns-in-Some
unfolding waiting_in
returns-in-Some c = c.token_from.ensures ∙ ap (λ subs. option_map token_of (find (is_from c.args.token) subs)) (ap waiting_in (sym c.in-Some.is) ∙ c.self.view_is)

pub returns-in-None : goal.returns-in-None
unfolding waiting_in
returns-in-None c = ap (λ subs. option_map token_of (find (is_from c.args.token) subs)) (ap waiting_in (sym c.in-None.is) ∙ c.self.view_is)
