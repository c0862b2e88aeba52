use Rattle.std.proofs.Common.{◌≡◌, ◌∙◌, true, Some, is_some, ap, sym, subst}
use Rattle.index_links.specs.Lists.{list_at}
use Rattle.block_gate.specs.Gates.{gate_of}
use Rattle.block_gate.specs.Sets.{gate_at, gates_in}
use Rattle.block_gate.proofs.Steps.{sound-of}
use Rattle.block_gate.proofs.Found.{held-is}
use Rattle.block_gate.proofs.Calls.{released-so}
use Rattle.block_gate.proofs.gates.Gates.release.Goals as goal

pub holder-node-requires-clause-held : goal.holder-node-requires-clause-held
holder-node-requires-clause-held c = subst (λ gs. is_some (gate_of gs c.args.ticket) ≡ true) (sym (held-is c.self.inside.sets.items c.self.inside.links c.self.inside.size c.args.self.now c.self.view_is) ∙ ap (λ ss. gates_in ss (list_at c.self.inside.links 1)) (sym c.deref.ensures.value)) c.requires

pub invariant_of-self : goal.invariant_of-self
invariant_of-self c = (released-so c.self.inside.sets.items c.self.inside.links c.relink.new.links c.self.inside.size c.holder-node.result c.args.ticket c.rest_of-list.result c.args.self.now c.index.result.now c.self.invariant c.self.view_is c.holder-node.ensures.among (subst (λ ss. gate_of (gates_in ss (list_at c.self.inside.links 1)) c.args.ticket ≡ Some (gate_at ss c.holder-node.result)) c.deref.ensures.value c.holder-node.ensures.gate) (subst (λ ss. (gate_at ss c.holder-node.result).ticket ≡ c.args.ticket) c.deref.ensures.value c.holder-node.ensures.ticket) c.index.ensures c.rest_of-list.ensures c.relink.ensures.value c.relink.ensures.apart).ordered

pub returns-clause-value : goal.returns-clause-value
returns-clause-value c = (released-so c.self.inside.sets.items c.self.inside.links c.relink.new.links c.self.inside.size c.holder-node.result c.args.ticket c.rest_of-list.result c.args.self.now c.index.result.now c.self.invariant c.self.view_is c.holder-node.ensures.among (subst (λ ss. gate_of (gates_in ss (list_at c.self.inside.links 1)) c.args.ticket ≡ Some (gate_at ss c.holder-node.result)) c.deref.ensures.value c.holder-node.ensures.gate) (subst (λ ss. (gate_at ss c.holder-node.result).ticket ≡ c.args.ticket) c.deref.ensures.value c.holder-node.ensures.ticket) c.index.ensures c.rest_of-list.ensures c.relink.ensures.value c.relink.ensures.apart).shows

pub returns-clause-sound : goal.returns-clause-sound
returns-clause-sound c = sound-of c.self.inside.sets.items c.relink.new.links c.self.inside.size (released-so c.self.inside.sets.items c.self.inside.links c.relink.new.links c.self.inside.size c.holder-node.result c.args.ticket c.rest_of-list.result c.args.self.now c.index.result.now c.self.invariant c.self.view_is c.holder-node.ensures.among (subst (λ ss. gate_of (gates_in ss (list_at c.self.inside.links 1)) c.args.ticket ≡ Some (gate_at ss c.holder-node.result)) c.deref.ensures.value c.holder-node.ensures.gate) (subst (λ ss. (gate_at ss c.holder-node.result).ticket ≡ c.args.ticket) c.deref.ensures.value c.holder-node.ensures.ticket) c.index.ensures c.rest_of-list.ensures c.relink.ensures.value c.relink.ensures.apart).ordered
