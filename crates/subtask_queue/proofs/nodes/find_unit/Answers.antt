use Rattle.std.proofs.Common.{suc, arith, sym, ◌∙◌}
use Rattle.index_links.specs.Lists.{list_at}
use Rattle.subtask_queue.specs.Subs.{is_of, is_unit, has_block}
use Rattle.subtask_queue.specs.Owned.{sub_at, is_own, is_node}
use Rattle.subtask_queue.proofs.Walks.{begins, node-inside, node-listed, unit-begins, unit-end, unit-past, unit-here, unit-later, unit-beyond, rising-later, next-place}
use Rattle.subtask_queue.proofs.nodes.find_unit.Goals as goal

pub loop-init : goal.loop-init
loop-init c =
    let b = begins 0 c.args.subs.now (list_at c.args.links.now 0) c.args.token c.args.first c.requires.rising c.requires.first in
    (b.place, omega arith, sym b.at_place, unit-begins c.args.subs.now (list_at c.args.links.now 0) c.args.token c.args.first c.args.block b, b.rising)

pub returns-in_default : goal.returns-in_default
returns-in_default c =
    let (place, far, at, found, rising) = c.loop.invariant in
    sym (found ∙ unit-end c.args.subs.now (list_at c.args.links.now 0) c.args.token c.args.block place (sym at ∙ c.in_default.is))

pub bounds-subs-node : goal.bounds-subs-node
bounds-subs-node c =
    let (place, far, at, found, rising) = c.loop.invariant in
    omega (arith, node-inside c.args.links.now 0 place c.in-Some.node c.requires.apart (sym at ∙ c.in-Some.is), c.requires.nodes)

pub returns-then-token : goal.returns-then-token
unfolding sub_at is_own is_of
returns-then-token c =
    let (place, far, at, found, rising) = c.loop.invariant in
    sym (found ∙ unit-beyond c.args.subs.now (list_at c.args.links.now 0) c.args.token c.args.block place c.in-Some.node (sym at ∙ c.in-Some.is) rising (grind (arith, c.token.ensures, c.if-token.true)))

pub returns-then-block : goal.returns-then-block
unfolding sub_at is_node is_unit is_of has_block
returns-then-block c =
    let (place, far, at, found, rising) = c.loop.invariant in
    sym (found ∙ unit-here c.args.subs.now (list_at c.args.links.now 0) c.args.token c.args.block place c.in-Some.node (sym at ∙ c.in-Some.is) (grind (arith, c.token.ensures, c.if-token.false, c.block.ensures, c.if-block.true)))

pub next-at-requires : goal.next-at-requires
next-at-requires c =
    let (place, far, at, found, rising) = c.loop.invariant in
    node-listed c.args.links.now 0 place c.in-Some.node (sym at ∙ c.in-Some.is)

pub loop-preserved : goal.loop-preserved
unfolding sub_at is_node is_unit is_of has_block
loop-preserved c =
    let (place, far, at, found, rising) = c.loop.invariant in (
      suc place,
      omega arith,
      next-place (list_at c.args.links.now 0) place c.next-at.result (c.next-at.ensures.value 0 place (sym at ∙ c.in-Some.is)),
      found ∙ unit-later c.args.subs.now (list_at c.args.links.now 0) c.args.token c.args.block place c.in-Some.node (sym at ∙ c.in-Some.is) (grind (arith, c.token.ensures, c.if-token.false, c.block.ensures, c.if-block.false)),
      rising-later c.args.subs.now (list_at c.args.links.now 0) c.args.token place c.in-Some.node (sym at ∙ c.in-Some.is) rising,
    )

pub returns : goal.returns
returns c =
    let (place, far, at, found, rising) = c.loop.invariant in
    sym (found ∙ unit-past c.args.subs.now c.args.links.now 0 c.args.token c.args.block place c.requires.apart c.requires.nodes (omega arith))
