use Rattle.std.proofs.Common.{◌∙◌, is_some, ap, sym, subst}
use Rattle.index_links.specs.Lists.{list_at}
use Rattle.block_gate.specs.Gates.{gate_of, AreSound}
use Rattle.block_gate.proofs.Steps.{sound-of}
use Rattle.block_gate.proofs.Found.{found, missing, held-is}
use Rattle.block_gate.proofs.Calls.{released-so}
use Rattle.block_gate.proofs.gates.Gates.revoke.Goals as goal

pub invariant_of-self : goal.invariant_of-self
invariant_of-self c =
    let f = found c.deref.result.now c.self.inside.sets.items (list_at c.self.inside.links 1) c.args.ticket c.in-Some.node c.find_set.result c.deref.ensures.value c.find_set.ensures.among c.find_set.ensures.value c.in-Some.is in
    (released-so c.self.inside.sets.items c.self.inside.links c.relink.new.links c.self.inside.size c.in-Some.node c.args.ticket c.rest_of-rest.result c.args.self.now c.index.result.now c.self.invariant c.self.view_is f.among f.gate f.ticket c.index.ensures c.rest_of-rest.ensures c.relink.ensures.value c.relink.ensures.apart).ordered

pub returns-in_default-clause-held : goal.returns-in_default-clause-held
returns-in_default-clause-held c =
    sym (ap is_some (missing c.deref.result.now c.self.inside.sets.items (list_at c.self.inside.links 1) c.args.ticket c.find_set.result c.deref.ensures.value c.find_set.ensures.value c.in_default.is)) ∙ ap (λ gs. is_some (gate_of gs c.args.ticket)) (held-is c.self.inside.sets.items c.self.inside.links c.self.inside.size c.args.self.now c.self.view_is)

pub returns-in_default-clause-sound : goal.returns-in_default-clause-sound
returns-in_default-clause-sound c = subst AreSound c.self.view_is (sound-of c.self.inside.sets.items c.self.inside.links c.self.inside.size c.self.invariant)

pub returns-clause-held : goal.returns-clause-held
returns-clause-held c =
    let f = found c.deref.result.now c.self.inside.sets.items (list_at c.self.inside.links 1) c.args.ticket c.in-Some.node c.find_set.result c.deref.ensures.value c.find_set.ensures.among c.find_set.ensures.value c.in-Some.is in
    sym (ap is_some f.gate) ∙ ap (λ gs. is_some (gate_of gs c.args.ticket)) (held-is c.self.inside.sets.items c.self.inside.links c.self.inside.size c.args.self.now c.self.view_is)

pub returns-clause-released : goal.returns-clause-released
returns-clause-released c = λ _.
    let f = found c.deref.result.now c.self.inside.sets.items (list_at c.self.inside.links 1) c.args.ticket c.in-Some.node c.find_set.result c.deref.ensures.value c.find_set.ensures.among c.find_set.ensures.value c.in-Some.is in
    (released-so c.self.inside.sets.items c.self.inside.links c.relink.new.links c.self.inside.size c.in-Some.node c.args.ticket c.rest_of-rest.result c.args.self.now c.index.result.now c.self.invariant c.self.view_is f.among f.gate f.ticket c.index.ensures c.rest_of-rest.ensures c.relink.ensures.value c.relink.ensures.apart).shows

pub returns-clause-sound : goal.returns-clause-sound
returns-clause-sound c =
    let f = found c.deref.result.now c.self.inside.sets.items (list_at c.self.inside.links 1) c.args.ticket c.in-Some.node c.find_set.result c.deref.ensures.value c.find_set.ensures.among c.find_set.ensures.value c.in-Some.is in
    sound-of c.self.inside.sets.items c.relink.new.links c.self.inside.size (released-so c.self.inside.sets.items c.self.inside.links c.relink.new.links c.self.inside.size c.in-Some.node c.args.ticket c.rest_of-rest.result c.args.self.now c.index.result.now c.self.invariant c.self.view_is f.among f.gate f.ticket c.index.ensures c.rest_of-rest.ensures c.relink.ensures.value c.relink.ensures.apart).ordered
