use Rattle.std.proofs.Common.{◌≡◌, ◌∙◌, Some, option_map, ap, sym, subst}
use Rattle.index_links.specs.Lists.{list_at}
use Rattle.block_gate.specs.Gates.{Gate, gate_of, AreSound}
use Rattle.block_gate.specs.Sets.{gate_at}
use Rattle.block_gate.proofs.Steps.{sound-of}
use Rattle.block_gate.proofs.Found.{found, missing, held-is, read-set}
use Rattle.block_gate.proofs.gates.Gates.copy.Goals as goal

pub returns-in_default-clause-value : goal.returns-in_default-clause-value
returns-in_default-clause-value c =
    sym (ap (option_map (λ (g : Gate). g.copy)) (missing c.deref.result.now c.self.inside.sets.items (list_at c.self.inside.links 1) c.args.ticket c.find_set.result c.deref.ensures.value c.find_set.ensures.value c.in_default.is)) ∙ ap (λ gs. option_map (λ (g : Gate). g.copy) (gate_of gs c.args.ticket)) (held-is c.self.inside.sets.items c.self.inside.links c.self.inside.size c.args.self.now c.self.view_is)

pub returns-clause-value : goal.returns-clause-value
returns-clause-value c =
    let f = found c.deref.result.now c.self.inside.sets.items (list_at c.self.inside.links 1) c.args.ticket c.in-Some.node c.find_set.result c.deref.ensures.value c.find_set.ensures.among c.find_set.ensures.value c.in-Some.is in
    let here : c.index.result.now ≡ gate_at c.self.inside.sets.items c.in-Some.node = read-set c.self.inside.sets.items c.self.inside.links c.self.inside.size 1 c.in-Some.node c.index.result.now c.self.invariant f.among c.index.ensures in
    ap Some (c.copy.ensures ∙ ap (λ (g : Gate). g.copy) here) ∙ sym (ap (option_map (λ (g : Gate). g.copy)) f.gate) ∙ ap (λ gs. option_map (λ (g : Gate). g.copy) (gate_of gs c.args.ticket)) (held-is c.self.inside.sets.items c.self.inside.links c.self.inside.size c.args.self.now c.self.view_is)

pub returns-in_default-clause-sound : goal.returns-in_default-clause-sound
returns-in_default-clause-sound c = subst AreSound c.self.view_is (sound-of c.self.inside.sets.items c.self.inside.links c.self.inside.size c.self.invariant)

pub returns-clause-sound : goal.returns-clause-sound
returns-clause-sound c = subst AreSound c.self.view_is (sound-of c.self.inside.sets.items c.self.inside.links c.self.inside.size c.self.invariant)
