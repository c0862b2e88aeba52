use Rattle.std.proofs.Common.{◌≡◌, ◌+◌, suc, slice_get, arith, ap, sym, ◌∙◌}
use Rattle.block_gate.proofs.finding.count_sets.Goals.{then-is_so, else-is_so}
use Rattle.index_links.specs.Lists.{list_at}
use Rattle.block_gate.specs.Sets.{gate_at, is_so}
use Rattle.block_gate.proofs.Walks.{read-is, drop-none, drop-past, list-short, node-inside, node-listed, count-later, count-past, count-none}
use Rattle.block_gate.proofs.finding.count_sets.Goals as goal

pub bounds-sets-node : goal.bounds-sets-node
bounds-sets-node c = omega (arith, node-inside c.args.links.now c.args.list c.loop.counter c.in-Some.node c.first-at.ensures.apart (sym c.loop.invariant.0 ∙ c.in-Some.is), c.requires.nodes)

pub next-at-requires : goal.next-at-requires
next-at-requires c = node-listed c.args.links.now c.args.list c.loop.counter c.in-Some.node (sym c.loop.invariant.0 ∙ c.in-Some.is)

pub returns-in_default-clause-value : goal.returns-in_default-clause-value
returns-in_default-clause-value c = omega (arith, c.loop.invariant.1, count-none (is_so c.args.out) c.args.sets.now (list_at c.args.links.now c.args.list) c.loop.counter (drop-none (list_at c.args.links.now c.args.list) c.loop.counter (sym c.loop.invariant.0 ∙ c.in_default.is)))

pub returns-clause-value : goal.returns-clause-value
returns-clause-value c = omega (arith, c.loop.invariant.1, count-none (is_so c.args.out) c.args.sets.now (list_at c.args.links.now c.args.list) c.loop.counter (drop-past (list_at c.args.links.now c.args.list) c.loop.counter (omega (arith, list-short c.args.links.now c.args.list c.first-at.ensures.apart, c.requires.nodes))))

pub loop-preserved : goal.loop-preserved
loop-preserved c =
    let here : c.index-sets-node.result ≡ gate_at c.args.sets.now c.in-Some.node = read-is c.args.sets.now c.in-Some.node c.index-sets-node.result (omega (arith, node-inside c.args.links.now c.args.list c.loop.counter c.in-Some.node c.first-at.ensures.apart (sym c.loop.invariant.0 ∙ c.in-Some.is), c.requires.nodes)) c.index-sets-node.is in
    let one : c.loop.counter + 1 ≡ suc c.loop.counter = omega arith in
    elim c.if-is_so.branch [
      | then-is_so w ↦ rw (one, w.count-is) (
        c.next-at.ensures.value c.args.list c.loop.counter (sym c.loop.invariant.0 ∙ c.in-Some.is) ∙ ap (slice_get (list_at c.args.links.now c.args.list)) one,
        c.loop.invariant.1 ∙ count-later (is_so c.args.out) c.args.sets.now (list_at c.args.links.now c.args.list) c.loop.counter c.in-Some.node c.loop.count (sym c.loop.invariant.0 ∙ c.in-Some.is) (ap (is_so c.args.out) (sym here) ∙ sym c.is_so.ensures ∙ w.if-is_so.true),
        omega arith,
      )
      | else-is_so w ↦ rw (one, w.count-is) (
        c.next-at.ensures.value c.args.list c.loop.counter (sym c.loop.invariant.0 ∙ c.in-Some.is) ∙ ap (slice_get (list_at c.args.links.now c.args.list)) one,
        c.loop.invariant.1 ∙ ap (λ n. c.loop.count + n) (count-past (is_so c.args.out) c.args.sets.now (list_at c.args.links.now c.args.list) c.loop.counter c.in-Some.node (sym c.loop.invariant.0 ∙ c.in-Some.is) (ap (is_so c.args.out) (sym here) ∙ sym c.is_so.ensures ∙ w.if-is_so.false)),
        omega arith,
      )
    ]
