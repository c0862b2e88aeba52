use Rattle.std.proofs.Common.{◌≤◌, subst, arith}
use Rattle.disk_core.specs.Closing.{IsNextMeant}
use Rattle.disk_core.proofs.Walks.{walk-begins, walk-sorted, walk-below, next-outstanding, next-owed, next-token, walk-step, walk-over, walk-past}
use Rattle.disk_core.proofs.ending.end_meant.Goals as goal

pub loop-step-init : goal.loop-step-init
loop-step-init c = (omega arith, omega arith, walk-begins c.args.meant c.args.status c.args.core.now c.args.first c.requires.first c.requires.within)

pub next_meant-requires-clause-sorted : goal.next_meant-requires-clause-sorted
next_meant-requires-clause-sorted c =
    let is = c.requires.to_end in walk-sorted c.args.meant c.args.status is.0 is.1 is.2 is.3 c.args.core.now _ _ _ is.4 (c.loop-step.invariant.2 is.0 is.1 is.2 is.3 is.4)

pub next_meant-requires-clause-below : goal.next_meant-requires-clause-below
next_meant-requires-clause-below c =
    let is = c.requires.to_end in walk-below c.args.meant c.args.status is.0 is.1 is.2 is.3 c.args.core.now _ _ _ is.4 (c.loop-step.invariant.2 is.0 is.1 is.2 is.3 is.4)

pub returns-in_default : goal.returns-in_default
returns-in_default c S H e late is =
    walk-over c.args.meant c.args.status S H e late c.args.core.now _ _ _ is (c.loop-step.invariant.2 S H e late is) (subst (IsNextMeant c.loop-step.core c.args.meant c.loop-step.from) c.in_default.is c.next_meant.ensures)

pub end_token-requires-clause-outstanding : goal.end_token-requires-clause-outstanding
end_token-requires-clause-outstanding c =
    let is = c.requires.to_end in
    next-outstanding c.args.meant c.args.status is.0 is.1 is.2 is.3 c.args.core.now _ _ _ is.4 (c.loop-step.invariant.2 is.0 is.1 is.2 is.3 is.4) c.in-Some.token
    (subst (IsNextMeant c.loop-step.core c.args.meant c.loop-step.from) c.in-Some.is c.next_meant.ensures)

pub end_token-requires-clause-owed : goal.end_token-requires-clause-owed
end_token-requires-clause-owed c =
    let is = c.requires.to_end in
    next-owed c.args.meant c.args.status is.0 is.1 is.2 is.3 c.args.core.now _ _ _ is.4 (c.loop-step.invariant.2 is.0 is.1 is.2 is.3 is.4) c.in-Some.token
    (subst (IsNextMeant c.loop-step.core c.args.meant c.loop-step.from) c.in-Some.is c.next_meant.ensures)

pub overflow_add-from : goal.overflow_add-from
overflow_add-from c =
    let is = c.requires.to_end in
    let token = next-token c.args.meant c.args.status is.0 is.1 is.2 is.3 c.args.core.now _ _ _ is.4 (c.loop-step.invariant.2 is.0 is.1 is.2 is.3 is.4) c.in-Some.token
    (subst (IsNextMeant c.loop-step.core c.args.meant c.loop-step.from) c.in-Some.is c.next_meant.ensures) in
    let accepts = is.4.accepts in
    omega arith

pub loop-step-preserved : goal.loop-step-preserved
loop-step-preserved c =
    let next = subst (IsNextMeant c.loop-step.core c.args.meant c.loop-step.from) c.in-Some.is c.next_meant.ensures in
    let steps = c.loop-step.invariant.0 in let above : c.loop-step.from ≤ c.in-Some.token = next.0 in (
      omega arith,
      (let count = c.loop-step.invariant.1 in omega arith),
      λ S H e late is. walk-step c.args.meant c.args.status S H e late c.args.core.now _ _ _ is (c.loop-step.invariant.2 S H e late is) c.in-Some.token next c.end_token.new.core c.end_token.ensures,
    )

pub returns : goal.returns
returns c S H e late is =
    walk-past c.args.meant c.args.status S H e late c.args.core.now _ _ _ is (c.loop-step.invariant.2 S H e late is)
    (let steps = c.loop-step.invariant.0 in let over = c.loop-step-test.false in let accepts = is.accepts in omega arith)
