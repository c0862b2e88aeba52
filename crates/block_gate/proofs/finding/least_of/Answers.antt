use Rattle.std.proofs.Common.{◌≡◌, ◌+◌, suc, drop, arith, ap, refl, sym, ◌∙◌}
use Rattle.index_links.specs.Lists.{list_at}
use Rattle.block_gate.specs.Gates.{Gate, lesser, least_ticket}
use Rattle.block_gate.specs.Sets.{gate_at, gates_in}
use Rattle.block_gate.proofs.Walks.{read-is, drop-none, drop-past, list-short, node-inside, node-listed, joined, least-later, least-none}
use Rattle.block_gate.proofs.finding.least_of.Goals as goal

pub bounds-sets-node : goal.bounds-sets-node
bounds-sets-node c = omega (arith, node-inside c.args.links.now c.args.list c.loop.counter c.in-Some.node c.first-at.ensures.apart (sym c.loop.invariant.0 ∙ c.in-Some.is), c.requires.nodes)

pub next-at-requires : goal.next-at-requires
next-at-requires c = node-listed c.args.links.now c.args.list c.loop.counter c.in-Some.node (sym c.loop.invariant.0 ∙ c.in-Some.is)

pub loop-init : goal.loop-init
unfolding joined
loop-init c = (c.first-at.ensures.value, refl)

pub returns-in_default : goal.returns-in_default
returns-in_default c = sym (c.loop.invariant.1 ∙ least-none c.args.sets.now (list_at c.args.links.now c.args.list) c.loop.counter c.loop.least (drop-none (list_at c.args.links.now c.args.list) c.loop.counter (sym c.loop.invariant.0 ∙ c.in_default.is)))

pub returns : goal.returns
returns c = sym (c.loop.invariant.1 ∙ least-none c.args.sets.now (list_at c.args.links.now c.args.list) c.loop.counter c.loop.least (drop-past (list_at c.args.links.now c.args.list) c.loop.counter (omega (arith, list-short c.args.links.now c.args.list c.first-at.ensures.apart, c.requires.nodes))))

pub loop-preserved : goal.loop-preserved
loop-preserved c =
    let here : c.index-sets-node.result ≡ gate_at c.args.sets.now c.in-Some.node = read-is c.args.sets.now c.in-Some.node c.index-sets-node.result (omega (arith, node-inside c.args.links.now c.args.list c.loop.counter c.in-Some.node c.first-at.ensures.apart (sym c.loop.invariant.0 ∙ c.in-Some.is), c.requires.nodes)) c.index-sets-node.is in
    let one : c.loop.counter + 1 ≡ suc c.loop.counter = omega arith in
    let lesser' : lesser (gate_at c.args.sets.now c.in-Some.node).ticket c.loop.least ≡ c.lesser_of-least.result =
    ap (λ (g : Gate). lesser g.ticket c.loop.least) (sym here) ∙ ap (λ t. lesser t c.loop.least) (sym c.ticket.ensures) ∙ sym c.lesser_of-least.ensures in (
      c.next-at.ensures.value c.args.list c.loop.counter (sym c.loop.invariant.0 ∙ c.in-Some.is),
      rw one (c.loop.invariant.1 ∙ least-later c.args.sets.now (list_at c.args.links.now c.args.list) c.loop.counter c.in-Some.node c.loop.least (sym c.loop.invariant.0 ∙ c.in-Some.is)
          ∙ ap (λ o. joined o (least_ticket (gates_in c.args.sets.now (drop (suc c.loop.counter) (list_at c.args.links.now c.args.list))))) lesser'),
    )
