use Rattle.std.proofs.Common.{◌∙◌, ◌++◌, ap, sym, subst}
use Rattle.subtask_queue.specs.Subs.{AreBelow}
use Rattle.subtask_queue.specs.Owned.{waiting_in}
use Rattle.subtask_queue.proofs.Ends.{ok-then}
use Rattle.subtask_queue.proofs.queue.append.Goals as goal

pub add-requires-clause-above : goal.add-requires-clause-above
unfolding waiting_in
add-requires-clause-above c = subst (AreBelow c.args.token) (sym c.make_links.ensures ∙ ap waiting_in c.in-Some.is) c.requires.above

pub returns-in-Some-clause-ok : goal.returns-in-Some-clause-ok
unfolding waiting_in
returns-in-Some-clause-ok c = ok-then c.add.result c.add.ensures.ok (λ is. is ∙ ap (λ subs. subs ++ c.args.subs.now) (ap waiting_in (sym c.in-Some.is) ∙ c.make_links.ensures))
