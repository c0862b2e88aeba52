use Rattle.std.proofs.Common.{◌≡◌, Some, None, ◌∙◌, ap, sym}
use Rattle.std.specs.List.{count_by}
use Rattle.subtask_queue.specs.Subs.{is_of, without_token}
use Rattle.subtask_queue.specs.Owned.{subs_in}
use Rattle.subtask_queue.proofs.Places.{place-of}
use Rattle.subtask_queue.proofs.Leading.{subs-filter, subs-count}
use Rattle.subtask_queue.proofs.Ends.{gone-is, none-count, led-dropped}
use Rattle.subtask_queue.proofs.linked.Linked.drop_token.Goals as goal

pub returns-in_default-clause-count : goal.returns-in_default-clause-count
returns-in_default-clause-count c =
    none-count c.args.token c.self.inside.units (sym (c.self.invariant.first c.args.token) ∙ sym c.first.ensures ∙ c.in_default.is) ∙ ap (count_by (is_of c.args.token)) c.self.view_is

pub returns-in_default-clause-value : goal.returns-in_default-clause-value
returns-in_default-clause-value c =
    sym c.self.view_is ∙ gone-is c.args.token c.self.inside.units (sym (c.self.invariant.first c.args.token) ∙ sym c.first.ensures ∙ c.in_default.is) ∙ ap (without_token c.args.token) c.self.view_is

pub drop_token-count-requires-clause-first : goal.drop_token-count-requires-clause-first
drop_token-count-requires-clause-first c = sym (c.self.invariant.first c.args.token) ∙ sym c.first.ensures ∙ c.in-Some.is

pub set-requires-clause-place : goal.set-requires-clause-place
set-requires-clause-place c = place-of c.self.inside.firsts c.args.token c.in-Some.first (sym c.first.ensures ∙ c.in-Some.is)

pub set-requires-clause-last : goal.set-requires-clause-last
set-requires-clause-last c = λ none. let never : Some c.in-Some.first ≡ None = sym (sym c.first.ensures ∙ c.in-Some.is) ∙ none in cc

pub invariant_of-self : goal.invariant_of-self
invariant_of-self c = led-dropped c.args.token c.self.inside.units c.drop_token-count.new.self c.self.inside.firsts c.set.new.self c.self.invariant c.drop_token-count.ensures.value c.set.ensures

pub returns-clause-count : goal.returns-clause-count
returns-clause-count c = c.drop_token-count.ensures.count ∙ subs-count c.args.token c.self.inside.units ∙ ap (count_by (is_of c.args.token)) c.self.view_is

pub returns-clause-value : goal.returns-clause-value
returns-clause-value c = ap subs_in c.drop_token-count.ensures.value ∙ subs-filter c.args.token c.self.inside.units ∙ ap (without_token c.args.token) c.self.view_is
