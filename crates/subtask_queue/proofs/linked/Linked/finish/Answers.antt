use Rattle.std.proofs.Common.{◌≡◌, Some, None, ◌∙◌, ap, sym}
use Rattle.subtask_queue.specs.Subs.{is_unit, without_first}
use Rattle.subtask_queue.specs.Owned.{subs_in}
use Rattle.subtask_queue.proofs.Places.{place-of}
use Rattle.subtask_queue.proofs.Leading.{subs-without}
use Rattle.subtask_queue.proofs.Ends.{absent-is, led-finished}
use Rattle.subtask_queue.proofs.linked.Linked.finish.Goals as goal

pub returns-in_default : goal.returns-in_default
returns-in_default c =
    sym c.self.view_is ∙ absent-is c.args.token c.args.block c.self.inside.units (sym (c.self.invariant.first c.args.token) ∙ sym c.first.ensures ∙ c.in_default.is)
    ∙ ap (without_first (is_unit c.args.token c.args.block)) c.self.view_is

pub finish-next-requires-clause-first : goal.finish-next-requires-clause-first
finish-next-requires-clause-first c = sym (c.self.invariant.first c.args.token) ∙ sym c.first.ensures ∙ c.in-Some.is

pub set-requires-clause-place : goal.set-requires-clause-place
set-requires-clause-place c = place-of c.self.inside.firsts c.args.token c.in-Some.first (sym c.first.ensures ∙ c.in-Some.is)

pub set-requires-clause-last : goal.set-requires-clause-last
set-requires-clause-last c = λ none. let never : Some c.in-Some.first ≡ None = sym (sym c.first.ensures ∙ c.in-Some.is) ∙ none in cc

pub invariant_of-self : goal.invariant_of-self
invariant_of-self c = led-finished c.args.token c.args.block c.self.inside.units c.finish-next.new.self c.self.inside.firsts c.set.new.self c.finish-next.result c.self.invariant c.finish-next.ensures.value c.finish-next.ensures.next c.set.ensures

pub returns : goal.returns
returns c =
    ap subs_in c.finish-next.ensures.value ∙ subs-without c.args.token c.args.block c.self.inside.units ∙ ap (without_first (is_unit c.args.token c.args.block)) c.self.view_is
