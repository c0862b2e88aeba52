use Rattle.std.proofs.Common.{◌∙◌, subst, sym}
use Rattle.subtask_queue.specs.Owned.{AreOf, waiting_in}
use Rattle.subtask_queue.specs.Subs.{AreBelow}
use Rattle.subtask_queue.proofs.Pushing.{own-request}
use Rattle.subtask_queue.proofs.SubsLemmas.{AreBelow-next, below-own, below-either}
use Rattle.subtask_queue.proofs.queue.Queue.add.Goals as goal

pub append-requires-clause-own : goal.append-requires-clause-own
append-requires-clause-own c = subst (AreOf c.args.token) (sym (c.deref.ensures.value ∙ c.in_ok-units.ensures)) (own-request c.args.blocks c.args.token c.args.kind c.args.parts.now)

pub returns-in_err-units-clause-below : goal.returns-in_err-units-clause-below
returns-in_err-units-clause-below c = AreBelow-next c.args.token c.args.self.now c.requires.above

pub returns-then-len-eq0-clause-below : goal.returns-then-len-eq0-clause-below
returns-then-len-eq0-clause-below c = AreBelow-next c.args.token c.args.self.now c.requires.above

pub returns-clause-below : goal.returns-clause-below
returns-clause-below c =
    below-either c.append.result c.args.token (waiting_in c.self.inside.linked) c.deref.result.now (waiting_in c.append.new.linked) (subst (AreBelow c.args.token) (sym c.self.view_is) c.requires.above)
    (below-own c.args.token c.deref.result.now (subst (AreOf c.args.token) (sym (c.deref.ensures.value ∙ c.in_ok-units.ensures)) (own-request c.args.blocks c.args.token c.args.kind c.args.parts.now))) c.append.ensures.ok c.append.ensures.err
