use Rattle.std.proofs.Common.{arith, sym, ◌∙◌}
use Rattle.disk_core.proofs.Nexts.{IsLeastQueued, from-some, from-none, queued-below, meant-next, meant-found, meant-none, meant-over}
use Rattle.disk_core.proofs.ending.next_meant.Goals as goal

pub overflow_add-at : goal.overflow_add-at
overflow_add-at c =
    let least : IsLeastQueued c.args.core.now.queue c.loop-step.at c.in-Some.token = from-some c.args.core.now.queue c.loop-step.at c.in-Some.token c.requires.sorted (sym c.in-Some.is ∙ c.token_from.ensures) in
    let below = queued-below c.args.core.now.queue c.args.core.now.accepted c.in-Some.token c.requires.below least.queued in
    omega arith

pub loop-step-preserved : goal.loop-step-preserved
loop-step-preserved c =
    let least : IsLeastQueued c.args.core.now.queue c.loop-step.at c.in-Some.token = from-some c.args.core.now.queue c.loop-step.at c.in-Some.token c.requires.sorted (sym c.in-Some.is ∙ c.token_from.ensures) in
    let above = least.above in let from = c.loop-step.invariant.0 in let steps = c.loop-step.invariant.1 in (
      omega arith,
      omega arith,
      meant-next c.args.core.now c.args.meant c.args.from c.loop-step.at c.in-Some.token c.loop-step.invariant.2 least (sym c.is_meant.ensures ∙ c.if-is_meant.false),
    )

pub returns-in_default : goal.returns-in_default
returns-in_default c = meant-none c.args.core.now c.args.meant c.args.from c.loop-step.at c.loop-step.invariant.2 (from-none c.args.core.now.queue c.loop-step.at (sym c.in_default.is ∙ c.token_from.ensures))

pub returns-then-is_meant : goal.returns-then-is_meant
returns-then-is_meant c =
    let least : IsLeastQueued c.args.core.now.queue c.loop-step.at c.in-Some.token = from-some c.args.core.now.queue c.loop-step.at c.in-Some.token c.requires.sorted (sym c.in-Some.is ∙ c.token_from.ensures) in
    meant-found c.args.core.now c.args.meant c.args.from c.loop-step.at c.in-Some.token c.loop-step.invariant.0 c.loop-step.invariant.2 least (sym c.is_meant.ensures ∙ c.if-is_meant.true)

pub returns : goal.returns
returns c =
    meant-over c.args.core.now c.args.meant c.args.from c.loop-step.at c.args.core.now.accepted c.requires.below (let steps = c.loop-step.invariant.1 in let over = c.loop-step-test.false in omega arith) c.loop-step.invariant.2
