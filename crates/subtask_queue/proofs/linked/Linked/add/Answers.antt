use Rattle.std.proofs.Common.{◌∙◌, ◌++◌, ap, sym, subst}
use Rattle.subtask_queue.specs.Subs.{AreBelow}
use Rattle.subtask_queue.specs.Owned.{subs_in}
use Rattle.subtask_queue.proofs.Leading.{subs-append}
use Rattle.subtask_queue.proofs.Ends.{led-added, firsts-none, none-after, base-below}
use Rattle.subtask_queue.proofs.linked.Linked.add.Goals as goal

pub place_for-requires-clause-none : goal.place_for-requires-clause-none
place_for-requires-clause-none c = λ empty t. firsts-none c.self.inside.units c.self.inside.firsts c.self.invariant (c.is_empty-empty.ensures.none empty) t

pub place_for-requires-clause-base : goal.place_for-requires-clause-base
place_for-requires-clause-base c = λ some. base-below c.self.inside.units c.self.inside.firsts c.args.token c.self.invariant (subst (AreBelow c.args.token) (sym c.self.view_is) c.requires.above) (c.is_empty-empty.ensures.some some)

pub set-requires-clause-last : goal.set-requires-clause-last
set-requires-clause-last c = λ none t from. c.place_for.ensures.same t ∙ none-after c.self.inside.units c.self.inside.firsts c.args.token t c.self.invariant (subst (AreBelow c.args.token) (sym c.self.view_is) c.requires.above) from

pub invariant_of-self-2 : goal.invariant_of-self-2
invariant_of-self-2 c =
    led-added c.args.token c.args.subs.now c.self.inside.units c.append.new.self c.self.inside.firsts c.place_for.new.firsts c.set.new.self c.in_ok-first.first c.self.invariant (subst (AreBelow c.args.token) (sym c.self.view_is) c.requires.above) c.requires.own c.in_ok-first.ensures.ok c.place_for.ensures.same c.set.ensures

pub returns-clause-ok : goal.returns-clause-ok
returns-clause-ok c =
    let behind = c.in_ok-first.ensures.ok in
    ap subs_in behind.value ∙ subs-append c.self.inside.units behind.units ∙ ap (λ subs. subs_in c.self.inside.units ++ subs) behind.subs_is ∙ ap (λ subs. subs ++ c.args.subs.now) c.self.view_is
