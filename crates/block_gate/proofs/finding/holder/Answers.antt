use Rattle.std.proofs.Common.{◌≡◌, ◌∙◌, true, false, None, is_some, ap, sym, refl}
use Rattle.index_links.specs.Lists.{list_at}
use Rattle.block_gate.specs.Gates.{gate_of}
use Rattle.block_gate.specs.Sets.{gates_in}
use Rattle.block_gate.proofs.Found.{found, missing}
use Rattle.block_gate.proofs.finding.holder.Goals as goal

pub unreachable-requires : goal.unreachable-requires
unreachable-requires c =
    let none : gate_of (gates_in c.args.sets.now (list_at c.args.links.now 1)) c.args.ticket ≡ None = missing c.args.sets.now c.args.sets.now (list_at c.args.links.now 1) c.args.ticket c.find_set.result refl c.find_set.ensures.value c.in_default.is in
    let never : false ≡ true = ap is_some (sym none) ∙ c.requires.held in
    cc

pub returns-clause-ticket : goal.returns-clause-ticket
returns-clause-ticket c = (found c.args.sets.now c.args.sets.now (list_at c.args.links.now 1) c.args.ticket c.in-Some.node c.find_set.result refl c.find_set.ensures.among c.find_set.ensures.value c.in-Some.is).ticket

pub returns-clause-gate : goal.returns-clause-gate
returns-clause-gate c = (found c.args.sets.now c.args.sets.now (list_at c.args.links.now 1) c.args.ticket c.in-Some.node c.find_set.result refl c.find_set.ensures.among c.find_set.ensures.value c.in-Some.is).gate
