use Rattle.std.proofs.Common.{◌≡◌, ◌+◌, suc, arith, sym, ◌∙◌}
use Rattle.std.specs.Prelude.{nat_lt}
use Rattle.block_gate.specs.Gates.{is_block_held}
use Rattle.index_links.specs.Lists.{list_at}
use Rattle.subtask_queue.specs.Owned.{sub_at}
use Rattle.subtask_queue.specs.Subs.{may_run}
use Rattle.subtask_queue.proofs.Walks.{node-inside, node-listed, find-here, find-later, find-end, find-past}
use Rattle.subtask_queue.proofs.nodes.find_runnable.Goals as goal

pub bounds-subs-node : goal.bounds-subs-node
bounds-subs-node c = omega (arith, node-inside c.args.links.now 0 c.loop.counter c.in-Some.node c.first-at.ensures.apart (sym c.loop.invariant.0 ∙ c.in-Some.is), c.requires.nodes)

pub next-at-requires : goal.next-at-requires
next-at-requires c = node-listed c.args.links.now 0 c.loop.counter c.in-Some.node (sym c.loop.invariant.0 ∙ c.in-Some.is)

pub returns-in_default : goal.returns-in_default
returns-in_default c = sym (c.loop.invariant.1 ∙ find-end (may_run (is_block_held c.args.gates.now.held) (nat_lt 0 c.args.gates.now.free)) c.args.subs.now (list_at c.args.links.now 0) c.loop.counter (sym c.loop.invariant.0 ∙ c.in_default.is))

pub returns : goal.returns
returns c = sym (c.loop.invariant.1 ∙ find-past (may_run (is_block_held c.args.gates.now.held) (nat_lt 0 c.args.gates.now.free)) c.args.subs.now c.args.links.now 0 c.loop.counter c.first-at.ensures.apart c.requires.nodes (omega arith))

pub returns-then-may_run : goal.returns-then-may_run
unfolding sub_at
returns-then-may_run c = sym (c.loop.invariant.1 ∙ find-here (may_run (is_block_held c.args.gates.now.held) (nat_lt 0 c.args.gates.now.free)) c.args.subs.now (list_at c.args.links.now 0) c.loop.counter c.in-Some.node (sym c.loop.invariant.0 ∙ c.in-Some.is) (sym c.may_run.ensures ∙ c.if-may_run.true))

pub loop-preserved : goal.loop-preserved
unfolding sub_at
loop-preserved c =
    let one : c.loop.counter + 1 ≡ suc c.loop.counter = omega arith in (
      c.next-at.ensures.value 0 c.loop.counter (sym c.loop.invariant.0 ∙ c.in-Some.is),
      rw one (c.loop.invariant.1 ∙ find-later (may_run (is_block_held c.args.gates.now.held) (nat_lt 0 c.args.gates.now.free)) c.args.subs.now (list_at c.args.links.now 0) c.loop.counter c.in-Some.node (sym c.loop.invariant.0 ∙ c.in-Some.is) (sym c.may_run.ensures ∙ c.if-may_run.false)),
    )
