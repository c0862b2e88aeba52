use Rattle.std.proofs.Common.{is_some, ◌∙◌, ◌+◌, ◌<◌, ◌-◌, subst, sym, ap, arith}
use Rattle.subtask_queue.specs.Firsts.{FirstNodes, first_at, IsLeast, AreLive}
use Rattle.subtask_queue.proofs.Places.{read-place, scan-more, scan-past, scan-found}
use Rattle.subtask_queue.proofs.Live.{scan-begins, scan-none, max-other}
use Rattle.std.proofs.Math.Nat.{le-max_left}
use Rattle.subtask_queue.proofs.firsts.Firsts.token_from.Goals as goal

pub returns-in_default-clause-none : goal.returns-in_default-clause-none
returns-in_default-clause-none c = λ t from.
    ap (λ f. first_at f t) (sym c.self.view_is) ∙ scan-none (record { base = c.self.inside.base; nodes = c.self.inside.nodes.items }) c.self.inside.links t c.self.invariant (sym c.first.ensures.value ∙ c.in_default.is)

pub loop-place-init : goal.loop-place-init
loop-place-init c = (
  omega arith,
  λ t from below.
      scan-begins c.args.self.now c.self.inside.links c.args.token c.in-Some.least c.max-begin.result t (subst (λ (f : FirstNodes). AreLive f.base f.nodes c.self.inside.links) c.self.view_is c.self.invariant) (sym c.first.ensures.value ∙ c.in-Some.is)
      (λ less. max-other c.saturating_sub.result c.in-Some.least c.max-begin.result c.max-begin.ensures (omega (arith, less, c.saturating_sub.ensures, ap (λ (f : FirstNodes). c.args.token - f.base) c.self.view_is))) from below,
)

pub returns-then-is_some-clause-some : goal.returns-then-is_some-clause-some
returns-then-is_some-clause-some c =
    subst (λ f. IsLeast (first_at f) c.args.token (c.self.inside.base + c.loop-place.place)) c.self.view_is
    (scan-found (record { base = c.self.inside.base; nodes = c.self.inside.nodes.items }) c.args.token c.max-begin.result c.loop-place.place c.index.result.now (omega (arith, c.max-begin.ensures, c.saturating_sub.ensures, le-max_left c.saturating_sub.result c.in-Some.least)) c.loop-place.invariant.0
    (λ k from below. ap (λ f. first_at f k) c.self.view_is ∙ c.loop-place.invariant.1 k from (subst (λ (f : FirstNodes). k < f.base + c.loop-place.place) c.self.view_is below))
    (read-place c.self.inside.nodes.items c.loop-place.place c.index.result.now (omega (arith, c.loop-place-test.true, c.len-place-end.ensures, c.self.inside.nodes.ok)) c.index.ensures)
    (sym c.is_some.ensures ∙ c.if-is_some.true))

pub loop-place-preserved : goal.loop-place-preserved
loop-place-preserved c = (
  omega (arith, c.loop-place.invariant.0),
  λ t from below. ap (λ f. first_at f t) (sym c.self.view_is)
      ∙ scan-more (record { base = c.self.inside.base; nodes = c.self.inside.nodes.items }) c.args.token c.loop-place.place t c.index.result.now
      (λ k from below. ap (λ f. first_at f k) c.self.view_is ∙ c.loop-place.invariant.1 k from (subst (λ (f : FirstNodes). k < f.base + c.loop-place.place) c.self.view_is below))
      (read-place c.self.inside.nodes.items c.loop-place.place c.index.result.now (omega (arith, c.loop-place-test.true, c.len-place-end.ensures, c.self.inside.nodes.ok)) c.index.ensures)
      (sym c.is_some.ensures ∙ c.if-is_some.false) from (subst (λ (f : FirstNodes). t < f.base + (c.loop-place.place + 1)) (sym c.self.view_is) below),
)

pub returns-clause-none : goal.returns-clause-none
returns-clause-none c = λ t from.
    ap (λ f. first_at f t) (sym c.self.view_is)
    ∙ scan-past (record { base = c.self.inside.base; nodes = c.self.inside.nodes.items }) c.args.token c.loop-place.place t
    (λ k from below. ap (λ f. first_at f k) c.self.view_is ∙ c.loop-place.invariant.1 k from (subst (λ (f : FirstNodes). k < f.base + c.loop-place.place) c.self.view_is below))
    (omega (arith, c.loop-place-test.false, c.len-place-end.ensures, c.self.inside.nodes.ok)) from

pub overflow_add-result : goal.overflow_add-result
overflow_add-result c =
    omega (arith, c.self.invariant.below c.loop-place.place (ap is_some (sym (read-place c.self.inside.nodes.items c.loop-place.place c.index.result.now (omega (arith, c.loop-place-test.true, c.len-place-end.ensures, c.self.inside.nodes.ok)) c.index.ensures)) ∙ sym c.is_some.ensures ∙ c.if-is_some.true))
