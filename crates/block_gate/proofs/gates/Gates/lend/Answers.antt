use Rattle.std.proofs.Common.{◌≡◌, ◌∙◌, true, Some, is_some, length, arith, ap, sym, subst, set}
use Rattle.index_links.specs.Lists.{list_at}
use Rattle.block_gate.specs.Gates.{Gate, gate_of, is_lent}
use Rattle.block_gate.specs.Sets.{gate_at, gates_in}
use Rattle.block_gate.proofs.Steps.{sound-of}
use Rattle.block_gate.proofs.Views.{inside-of}
use Rattle.block_gate.proofs.Found.{held-is, size-is, read-set}
use Rattle.block_gate.proofs.Calls.{lends-so}
use Rattle.block_gate.proofs.gates.Gates.lend.Goals as goal

pub holder-node-requires-clause-held : goal.holder-node-requires-clause-held
holder-node-requires-clause-held c = subst (λ gs. is_some (gate_of gs c.args.ticket) ≡ true) (sym (held-is c.self.inside.sets.items c.self.inside.links c.self.inside.size c.args.self.now c.self.view_is) ∙ ap (λ ss. gates_in ss (list_at c.self.inside.links 1)) (sym c.deref.ensures.value)) c.requires.held

pub lend-requires-clause-inside : goal.lend-requires-clause-inside
unfolding is_lent
lend-requires-clause-inside c =
    ap (λ (g : Gate). g.out) (read-set c.self.inside.sets.items c.self.inside.links c.self.inside.size 1 c.holder-node.result c.index_mut.result.now c.self.invariant c.holder-node.ensures.among c.index_mut.ensures.value) ∙ ap is_lent (sym (subst (λ ss. gate_of (gates_in ss (list_at c.self.inside.links 1)) c.args.ticket ≡ Some (gate_at ss c.holder-node.result)) c.deref.ensures.value c.holder-node.ensures.gate) ∙ ap (λ gs. gate_of gs c.args.ticket) (held-is c.self.inside.sets.items c.self.inside.links c.self.inside.size c.args.self.now c.self.view_is)) ∙ c.requires.inside

pub lend-requires-clause-fits : goal.lend-requires-clause-fits
lend-requires-clause-fits c =
    let long : length c.index_mut.result.now.copy ≡ c.self.inside.size = ap (λ (g : Gate). length g.copy) (read-set c.self.inside.sets.items c.self.inside.links c.self.inside.size 1 c.holder-node.result c.index_mut.result.now c.self.invariant c.holder-node.ensures.among c.index_mut.ensures.value) ∙ c.self.invariant.long c.holder-node.result (inside-of c.self.inside.sets.items c.self.inside.links c.self.inside.size 1 c.holder-node.result c.self.invariant c.holder-node.ensures.among) in
    omega (arith, size-is c.self.inside.sets.items c.self.inside.links c.self.inside.size c.args.self.now c.self.view_is, c.requires.fits)

pub invariant_of-self : goal.invariant_of-self
invariant_of-self c = (lends-so c.self.inside.sets.items c.self.inside.links c.self.inside.size c.holder-node.result c.args.ticket c.args.self.now c.index_mut.result.now c.lend.new.self c.self.invariant c.self.view_is c.holder-node.ensures.among (subst (λ ss. (gate_at ss c.holder-node.result).ticket ≡ c.args.ticket) c.deref.ensures.value c.holder-node.ensures.ticket) c.index_mut.ensures.value c.lend.ensures.set).ordered

pub returns-clause-gates : goal.returns-clause-gates
returns-clause-gates c = (lends-so c.self.inside.sets.items c.self.inside.links c.self.inside.size c.holder-node.result c.args.ticket c.args.self.now c.index_mut.result.now c.lend.new.self c.self.invariant c.self.view_is c.holder-node.ensures.among (subst (λ ss. (gate_at ss c.holder-node.result).ticket ≡ c.args.ticket) c.deref.ensures.value c.holder-node.ensures.ticket) c.index_mut.ensures.value c.lend.ensures.set).shows

pub returns-clause-sound : goal.returns-clause-sound
returns-clause-sound c = sound-of (set c.self.inside.sets.items c.holder-node.result c.lend.new.self) c.self.inside.links c.self.inside.size (lends-so c.self.inside.sets.items c.self.inside.links c.self.inside.size c.holder-node.result c.args.ticket c.args.self.now c.index_mut.result.now c.lend.new.self c.self.invariant c.self.view_is c.holder-node.ensures.among (subst (λ ss. (gate_at ss c.holder-node.result).ticket ≡ c.args.ticket) c.deref.ensures.value c.holder-node.ensures.ticket) c.index_mut.ensures.value c.lend.ensures.set).ordered

pub returns-clause-work : goal.returns-clause-work
returns-clause-work c g is =
    let here : Some (gate_at c.self.inside.sets.items c.holder-node.result) ≡ Some g = sym (subst (λ ss. gate_of (gates_in ss (list_at c.self.inside.links 1)) c.args.ticket ≡ Some (gate_at ss c.holder-node.result)) c.deref.ensures.value c.holder-node.ensures.gate) ∙ ap (λ gs. gate_of gs c.args.ticket) (held-is c.self.inside.sets.items c.self.inside.links c.self.inside.size c.args.self.now c.self.view_is) ∙ is in
    let same : gate_at c.self.inside.sets.items c.holder-node.result ≡ g = cc in
    let ticket : g.ticket ≡ c.args.ticket = ap (λ (x : Gate). x.ticket) (sym same) ∙ (subst (λ ss. (gate_at ss c.holder-node.result).ticket ≡ c.args.ticket) c.deref.ensures.value c.holder-node.ensures.ticket) in
    c.lend.ensures.work
    ∙ ap (λ (x : Gate). record { ticket = x.ticket; block = x.block; from = c.args.from; bytes = x.copy; patch = c.args.patch.now }) (read-set c.self.inside.sets.items c.self.inside.links c.self.inside.size 1 c.holder-node.result c.index_mut.result.now c.self.invariant c.holder-node.ensures.among c.index_mut.ensures.value ∙ same)
    ∙ ap (λ u. record { ticket = u; block = g.block; from = c.args.from; bytes = g.copy; patch = c.args.patch.now }) ticket
