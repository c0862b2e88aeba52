use Rattle.std.proofs.Common.{◌+◌, ◌<◌, ◌^◌, rules, ◌∙◌, length, refl, ap, sym, arith, zero-add}
use Rattle.std.specs.List.{count_by}
use Rattle.subtask_queue.specs.Owned.{is_own}
use Rattle.subtask_queue.proofs.Leading.{rising-without, filter-without, filter-none, count-without, count-none, length-without, none-long}
use Rattle.subtask_queue.proofs.Walks.{units-short}
use Rattle.subtask_queue.proofs.units.Units.drop_token.Goals as goal

pub loop-init : goal.loop-init
loop-init c = (sym c.requires.first, c.requires.rising, refl, sym (zero-add (count_by (is_own c.args.token) c.args.self.now)), refl, omega (arith, c.len-most.ensures, c.self.inside.subs.ok, ap length c.self.view_is, units-short c.self.inside.subs.items c.self.inside.links c.self.inside.spare c.self.invariant))

pub returns-in_default-clause-count : goal.returns-in_default-clause-count
returns-in_default-clause-count c =
    let (at, rising, left, counted, same, short) = c.loop.invariant in
    omega (arith, counted, count-none (is_own c.args.token) c.loop.self (sym at ∙ c.in_default.is))

pub returns-in_default-clause-value : goal.returns-in_default-clause-value
returns-in_default-clause-value c =
    let (at, rising, left, counted, same, short) = c.loop.invariant in
    filter-none (is_own c.args.token) c.loop.self (sym at ∙ c.in_default.is) ∙ left

pub take_first-at-requires-clause-rising : goal.take_first-at-requires-clause-rising
take_first-at-requires-clause-rising c = c.loop.invariant.1

pub take_first-at-requires-clause-first : goal.take_first-at-requires-clause-first
take_first-at-requires-clause-first c = sym c.loop.invariant.0 ∙ c.in-Some.is

pub overflow_add-count : goal.overflow_add-count
overflow_add-count c =
    let (at, rising, left, counted, same, short) = c.loop.invariant in
    let far = c.loop-test.true in
    let most = c.len-most.type_inv in
    let fits : c.loop.count + 1 < 2 ^ 64 = omega arith in
    search rules

pub loop-preserved : goal.loop-preserved
loop-preserved c =
    let (at, rising, left, counted, same, short) = c.loop.invariant in
    let first = sym at ∙ c.in-Some.is in
    let out = c.take_first-at.ensures.value in (
      c.take_first-at.ensures.next,
      rw out (rising-without 0 (is_own c.args.token) c.loop.self rising),
      rw out (filter-without (is_own c.args.token) c.loop.self ∙ left),
      rw out (omega (arith, counted, count-without (is_own c.args.token) c.loop.self c.in-Some.node first)),
      omega (arith, same),
      rw out (omega (arith, short, length-without (is_own c.args.token) c.loop.self c.in-Some.node first)),
    )

pub returns-clause-count : goal.returns-clause-count
returns-clause-count c =
    let (at, rising, left, counted, same, short) = c.loop.invariant in
    omega (arith, counted, count-none (is_own c.args.token) c.loop.self (none-long (is_own c.args.token) c.loop.self (omega (arith, short))))

pub returns-clause-value : goal.returns-clause-value
returns-clause-value c =
    let (at, rising, left, counted, same, short) = c.loop.invariant in
    filter-none (is_own c.args.token) c.loop.self (none-long (is_own c.args.token) c.loop.self (omega (arith, short))) ∙ left
