use Rattle.std.proofs.Common.{◌≡◌, ◌+◌, suc, arith, ap, sym, ◌∙◌}
use Rattle.index_links.specs.Lists.{list_at}
use Rattle.index_links.proofs.LinkedListsLemmas.{among-at}
use Rattle.block_gate.specs.Sets.{gate_at, is_sought}
use Rattle.block_gate.proofs.Walks.{read-is, drop-none, drop-past, list-short, node-inside, node-listed, find-here, find-later, find-none}
use Rattle.block_gate.proofs.finding.find_set.Goals as goal

pub bounds-sets-node : goal.bounds-sets-node
bounds-sets-node c = omega (arith, node-inside c.args.links.now c.args.list c.loop.counter c.in-Some.node c.first-at.ensures.apart (sym c.loop.invariant.0 ∙ c.in-Some.is), c.requires.nodes)

pub next-at-requires : goal.next-at-requires
next-at-requires c = node-listed c.args.links.now c.args.list c.loop.counter c.in-Some.node (sym c.loop.invariant.0 ∙ c.in-Some.is)

pub returns-in_default-clause-value : goal.returns-in_default-clause-value
returns-in_default-clause-value c = sym (c.loop.invariant.1 ∙ find-none (is_sought c.args.sought) c.args.sets.now (list_at c.args.links.now c.args.list) c.loop.counter (drop-none (list_at c.args.links.now c.args.list) c.loop.counter (sym c.loop.invariant.0 ∙ c.in_default.is)))

pub returns-clause-value : goal.returns-clause-value
returns-clause-value c = sym (c.loop.invariant.1 ∙ find-none (is_sought c.args.sought) c.args.sets.now (list_at c.args.links.now c.args.list) c.loop.counter (drop-past (list_at c.args.links.now c.args.list) c.loop.counter (omega (arith, list-short c.args.links.now c.args.list c.first-at.ensures.apart, c.requires.nodes))))

pub returns-then-fits-clause-among : goal.returns-then-fits-clause-among
returns-then-fits-clause-among c = among-at (list_at c.args.links.now c.args.list) c.loop.counter c.in-Some.node (sym c.loop.invariant.0 ∙ c.in-Some.is)

pub returns-then-fits-clause-value : goal.returns-then-fits-clause-value
returns-then-fits-clause-value c =
    let here : c.index-sets-node.result ≡ gate_at c.args.sets.now c.in-Some.node = read-is c.args.sets.now c.in-Some.node c.index-sets-node.result (omega (arith, node-inside c.args.links.now c.args.list c.loop.counter c.in-Some.node c.first-at.ensures.apart (sym c.loop.invariant.0 ∙ c.in-Some.is), c.requires.nodes)) c.index-sets-node.is in
    sym (c.loop.invariant.1 ∙ find-here (is_sought c.args.sought) c.args.sets.now (list_at c.args.links.now c.args.list) c.loop.counter c.in-Some.node (sym c.loop.invariant.0 ∙ c.in-Some.is)
    (ap (is_sought c.args.sought) (sym here) ∙ sym c.fits.ensures ∙ c.if-fits.true))

pub loop-preserved : goal.loop-preserved
loop-preserved c =
    let here : c.index-sets-node.result ≡ gate_at c.args.sets.now c.in-Some.node = read-is c.args.sets.now c.in-Some.node c.index-sets-node.result (omega (arith, node-inside c.args.links.now c.args.list c.loop.counter c.in-Some.node c.first-at.ensures.apart (sym c.loop.invariant.0 ∙ c.in-Some.is), c.requires.nodes)) c.index-sets-node.is in
    let one : c.loop.counter + 1 ≡ suc c.loop.counter = omega arith in (
      c.next-at.ensures.value c.args.list c.loop.counter (sym c.loop.invariant.0 ∙ c.in-Some.is),
      rw one (c.loop.invariant.1 ∙ find-later (is_sought c.args.sought) c.args.sets.now (list_at c.args.links.now c.args.list) c.loop.counter c.in-Some.node (sym c.loop.invariant.0 ∙ c.in-Some.is)
          (ap (is_sought c.args.sought) (sym here) ∙ sym c.fits.ensures ∙ c.if-fits.false)),
    )
