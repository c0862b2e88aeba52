use Rattle.std.proofs.Common.{◌≡◌, ◌∙◌, true, false, None, length, ap, sym, subst, refl, set}
use Rattle.index_links.specs.Lists.{list_at, is_among}
use Rattle.block_gate.specs.Gates.{Gate, gate_of, is_lent, with_work_back, AreSound}
use Rattle.block_gate.specs.Back.{IsGivenBack}
use Rattle.block_gate.specs.Sets.{gate_at, gates_in, tickets_in}
use Rattle.block_gate.proofs.Moves.{ticket-among}
use Rattle.block_gate.proofs.Steps.{sound-of}
use Rattle.block_gate.proofs.Views.{inside-of}
use Rattle.block_gate.proofs.Found.{IsFound, found, missing, no-ticket, held-is, gone-is, size-is, read-set}
use Rattle.block_gate.proofs.Calls.{in-so, home-so, ours-gone, ours-held, not-sized, not-out}
use Rattle.block_gate.proofs.gates.Gates.give_back.Goals.{in-Some-find_set+else-is_out, in_default-find_set}
use Rattle.block_gate.proofs.gates.Gates.give_back.Goals as goal

pub returns-then-bytes-self-clause-value : goal.returns-then-bytes-self-clause-value
unfolding IsGivenBack
returns-then-bytes-self-clause-value c = (not-sized c.args.self.now c.args.work (λ is. c.if-bytes-self.true (ap length c.bytes.ensures ∙ is ∙ sym (size-is c.self.inside.sets.items c.self.inside.links c.self.inside.size c.args.self.now c.self.view_is))), refl, refl)

pub returns-then-bytes-self-clause-sound : goal.returns-then-bytes-self-clause-sound
returns-then-bytes-self-clause-sound c = subst AreSound c.self.view_is (sound-of c.self.inside.sets.items c.self.inside.links c.self.inside.size c.self.invariant)

pub take_back-requires : goal.take_back-requires
take_back-requires c =
    let f : IsFound c.self.inside.sets.items (list_at c.self.inside.links 2) c.ticket.result c.in-Some.node = found c.deref.result.now c.self.inside.sets.items (list_at c.self.inside.links 2) c.ticket.result c.in-Some.node c.find_set.result c.deref.ensures.value c.find_set.ensures.among c.find_set.ensures.value c.in-Some.is in
    ap length (sym c.bytes.ensures) ∙ c.if-bytes-self.false ∙ sym (c.self.invariant.long c.in-Some.node (inside-of c.self.inside.sets.items c.self.inside.links c.self.inside.size 2 c.in-Some.node c.self.invariant f.among))
    ∙ ap (λ (g : Gate). length g.copy) (sym (read-set c.self.inside.sets.items c.self.inside.links c.self.inside.size 2 c.in-Some.node c.index_mut.result.now c.self.invariant f.among c.index_mut.ensures.value))

pub invariant_of-self : goal.invariant_of-self
invariant_of-self c =
    (home-so c.self.inside.sets.items c.self.inside.links c.relink.new.links c.self.inside.size c.in-Some.node c.ticket.result c.args.self.now c.index_mut.result.now c.take_back.new.self c.self.invariant c.self.view_is (found c.deref.result.now c.self.inside.sets.items (list_at c.self.inside.links 2) c.ticket.result c.in-Some.node c.find_set.result c.deref.ensures.value c.find_set.ensures.among c.find_set.ensures.value c.in-Some.is).among (found c.deref.result.now c.self.inside.sets.items (list_at c.self.inside.links 2) c.ticket.result c.in-Some.node c.find_set.result c.deref.ensures.value c.find_set.ensures.among c.find_set.ensures.value c.in-Some.is).ticket c.index_mut.ensures.value c.take_back.ensures c.relink.ensures.value c.relink.ensures.apart).ordered

pub returns-in-Some-clause-value : goal.returns-in-Some-clause-value
unfolding IsGivenBack
returns-in-Some-clause-value c =
    let f : IsFound c.self.inside.sets.items (list_at c.self.inside.links 2) c.ticket.result c.in-Some.node = found c.deref.result.now c.self.inside.sets.items (list_at c.self.inside.links 2) c.ticket.result c.in-Some.node c.find_set.result c.deref.ensures.value c.find_set.ensures.among c.find_set.ensures.value c.in-Some.is in
    let gone : is_among c.args.self.now.gone c.ticket.result ≡ true =
    subst (λ ts. is_among ts c.ticket.result ≡ true) (gone-is c.self.inside.sets.items c.self.inside.links c.self.inside.size c.args.self.now c.self.view_is) (subst (λ t. is_among (tickets_in c.self.inside.sets.items (list_at c.self.inside.links 2)) t ≡ true) f.ticket (ticket-among c.self.inside.sets.items (list_at c.self.inside.links 2) c.in-Some.node f.among)) in (
      ours-gone c.args.self.now c.args.work c.ticket.result c.ticket.ensures gone (ap length (sym c.bytes.ensures) ∙ c.if-bytes-self.false ∙ size-is c.self.inside.sets.items c.self.inside.links c.self.inside.size c.args.self.now c.self.view_is),
      (home-so c.self.inside.sets.items c.self.inside.links c.relink.new.links c.self.inside.size c.in-Some.node c.ticket.result c.args.self.now c.index_mut.result.now c.take_back.new.self c.self.invariant c.self.view_is (found c.deref.result.now c.self.inside.sets.items (list_at c.self.inside.links 2) c.ticket.result c.in-Some.node c.find_set.result c.deref.ensures.value c.find_set.ensures.among c.find_set.ensures.value c.in-Some.is).among (found c.deref.result.now c.self.inside.sets.items (list_at c.self.inside.links 2) c.ticket.result c.in-Some.node c.find_set.result c.deref.ensures.value c.find_set.ensures.among c.find_set.ensures.value c.in-Some.is).ticket c.index_mut.ensures.value c.take_back.ensures c.relink.ensures.value c.relink.ensures.apart).shows ∙ ap (with_work_back c.args.self.now) c.ticket.ensures,
    )

pub returns-in-Some-clause-sound : goal.returns-in-Some-clause-sound
returns-in-Some-clause-sound c =
    sound-of (set c.self.inside.sets.items c.in-Some.node c.take_back.new.self) c.relink.new.links c.self.inside.size (home-so c.self.inside.sets.items c.self.inside.links c.relink.new.links c.self.inside.size c.in-Some.node c.ticket.result c.args.self.now c.index_mut.result.now c.take_back.new.self c.self.invariant c.self.view_is (found c.deref.result.now c.self.inside.sets.items (list_at c.self.inside.links 2) c.ticket.result c.in-Some.node c.find_set.result c.deref.ensures.value c.find_set.ensures.among c.find_set.ensures.value c.in-Some.is).among (found c.deref.result.now c.self.inside.sets.items (list_at c.self.inside.links 2) c.ticket.result c.in-Some.node c.find_set.result c.deref.ensures.value c.find_set.ensures.among c.find_set.ensures.value c.in-Some.is).ticket c.index_mut.ensures.value c.take_back.ensures c.relink.ensures.value c.relink.ensures.apart).ordered

pub take_back-requires-then-is_out : goal.take_back-requires-then-is_out
take_back-requires-then-is_out c =
    let f : IsFound c.self.inside.sets.items (list_at c.self.inside.links 1) c.ticket.result c.in-Some-find_set.node = found c.deref-2.result.now c.self.inside.sets.items (list_at c.self.inside.links 1) c.ticket.result c.in-Some-find_set.node c.find_set-2.result c.deref-2.ensures.value c.find_set-2.ensures.among c.find_set-2.ensures.value c.in-Some-find_set.is in
    ap length (sym c.bytes.ensures) ∙ c.if-bytes-self.false ∙ sym (c.self.invariant.long c.in-Some-find_set.node (inside-of c.self.inside.sets.items c.self.inside.links c.self.inside.size 1 c.in-Some-find_set.node c.self.invariant f.among))
    ∙ ap (λ (g : Gate). length g.copy) (sym (read-set c.self.inside.sets.items c.self.inside.links c.self.inside.size 1 c.in-Some-find_set.node c.index_mut-then-is_out.result.now c.self.invariant f.among c.index_mut-then-is_out.ensures.value))

pub invariant_of-self-then-is_out : goal.invariant_of-self-then-is_out
invariant_of-self-then-is_out c =
    (in-so c.self.inside.sets.items c.self.inside.links c.self.inside.size c.in-Some-find_set.node c.ticket.result c.args.self.now c.index_mut-then-is_out.result.now c.take_back-then-is_out.new.self c.self.invariant c.self.view_is (found c.deref-2.result.now c.self.inside.sets.items (list_at c.self.inside.links 1) c.ticket.result c.in-Some-find_set.node c.find_set-2.result c.deref-2.ensures.value c.find_set-2.ensures.among c.find_set-2.ensures.value c.in-Some-find_set.is).among (found c.deref-2.result.now c.self.inside.sets.items (list_at c.self.inside.links 1) c.ticket.result c.in-Some-find_set.node c.find_set-2.result c.deref-2.ensures.value c.find_set-2.ensures.among c.find_set-2.ensures.value c.in-Some-find_set.is).ticket c.index_mut-then-is_out.ensures.value c.take_back-then-is_out.ensures).ordered

pub returns-then-is_out-clause-value : goal.returns-then-is_out-clause-value
unfolding IsGivenBack is_lent
returns-then-is_out-clause-value c =
    let f : IsFound c.self.inside.sets.items (list_at c.self.inside.links 1) c.ticket.result c.in-Some-find_set.node = found c.deref-2.result.now c.self.inside.sets.items (list_at c.self.inside.links 1) c.ticket.result c.in-Some-find_set.node c.find_set-2.result c.deref-2.ensures.value c.find_set-2.ensures.among c.find_set-2.ensures.value c.in-Some-find_set.is in
    let out : (gate_at c.self.inside.sets.items c.in-Some-find_set.node).out ≡ true =
    ap (λ (g : Gate). g.out) (sym (read-set c.self.inside.sets.items c.self.inside.links c.self.inside.size 1 c.in-Some-find_set.node c.index.result.now c.self.invariant f.among c.index.ensures)) ∙ sym c.is_out.ensures ∙ c.if-is_out.true in
    let lent : is_lent (gate_of c.args.self.now.held c.ticket.result) ≡ true = ap (λ gs. is_lent (gate_of gs c.ticket.result)) (sym (held-is c.self.inside.sets.items c.self.inside.links c.self.inside.size c.args.self.now c.self.view_is)) ∙ ap is_lent f.gate ∙ out in (
      ours-held c.args.self.now c.args.work c.ticket.result c.ticket.ensures lent (ap length (sym c.bytes.ensures) ∙ c.if-bytes-self.false ∙ size-is c.self.inside.sets.items c.self.inside.links c.self.inside.size c.args.self.now c.self.view_is),
      (in-so c.self.inside.sets.items c.self.inside.links c.self.inside.size c.in-Some-find_set.node c.ticket.result c.args.self.now c.index_mut-then-is_out.result.now c.take_back-then-is_out.new.self c.self.invariant c.self.view_is (found c.deref-2.result.now c.self.inside.sets.items (list_at c.self.inside.links 1) c.ticket.result c.in-Some-find_set.node c.find_set-2.result c.deref-2.ensures.value c.find_set-2.ensures.among c.find_set-2.ensures.value c.in-Some-find_set.is).among (found c.deref-2.result.now c.self.inside.sets.items (list_at c.self.inside.links 1) c.ticket.result c.in-Some-find_set.node c.find_set-2.result c.deref-2.ensures.value c.find_set-2.ensures.among c.find_set-2.ensures.value c.in-Some-find_set.is).ticket c.index_mut-then-is_out.ensures.value c.take_back-then-is_out.ensures).shows ∙ ap (with_work_back c.args.self.now) c.ticket.ensures,
    )

pub returns-then-is_out-clause-sound : goal.returns-then-is_out-clause-sound
returns-then-is_out-clause-sound c =
    sound-of (set c.self.inside.sets.items c.in-Some-find_set.node c.take_back-then-is_out.new.self) c.self.inside.links c.self.inside.size (in-so c.self.inside.sets.items c.self.inside.links c.self.inside.size c.in-Some-find_set.node c.ticket.result c.args.self.now c.index_mut-then-is_out.result.now c.take_back-then-is_out.new.self c.self.invariant c.self.view_is (found c.deref-2.result.now c.self.inside.sets.items (list_at c.self.inside.links 1) c.ticket.result c.in-Some-find_set.node c.find_set-2.result c.deref-2.ensures.value c.find_set-2.ensures.among c.find_set-2.ensures.value c.in-Some-find_set.is).among (found c.deref-2.result.now c.self.inside.sets.items (list_at c.self.inside.links 1) c.ticket.result c.in-Some-find_set.node c.find_set-2.result c.deref-2.ensures.value c.find_set-2.ensures.among c.find_set-2.ensures.value c.in-Some-find_set.is).ticket c.index_mut-then-is_out.ensures.value c.take_back-then-is_out.ensures).ordered

pub returns-clause-value : goal.returns-clause-value
unfolding IsGivenBack is_lent
returns-clause-value c =
    let gone : is_among c.args.self.now.gone c.ticket.result ≡ false =
    subst (λ ts. is_among ts c.ticket.result ≡ false) (gone-is c.self.inside.sets.items c.self.inside.links c.self.inside.size c.args.self.now c.self.view_is) (no-ticket c.self.inside.sets.items (list_at c.self.inside.links 2) c.ticket.result (missing c.deref.result.now c.self.inside.sets.items (list_at c.self.inside.links 2) c.ticket.result c.find_set.result c.deref.ensures.value c.find_set.ensures.value c.in_default.is)) in
    elim c.match-find_set-2.branch [
      | in-Some-find_set+else-is_out w ↦
          let f : IsFound c.self.inside.sets.items (list_at c.self.inside.links 1) c.ticket.result w.in-Some-find_set.node = found c.deref-2.result.now c.self.inside.sets.items (list_at c.self.inside.links 1) c.ticket.result w.in-Some-find_set.node c.find_set-2.result c.deref-2.ensures.value c.find_set-2.ensures.among c.find_set-2.ensures.value w.in-Some-find_set.is in
          let inside : (gate_at c.self.inside.sets.items w.in-Some-find_set.node).out ≡ false =
          ap (λ (g : Gate). g.out) (sym (read-set c.self.inside.sets.items c.self.inside.links c.self.inside.size 1 w.in-Some-find_set.node w.index.result.now c.self.invariant f.among w.index.ensures)) ∙ sym w.is_out.ensures ∙ w.if-is_out.false in
          let lent : is_lent (gate_of c.args.self.now.held c.ticket.result) ≡ false = ap (λ gs. is_lent (gate_of gs c.ticket.result)) (sym (held-is c.self.inside.sets.items c.self.inside.links c.self.inside.size c.args.self.now c.self.view_is)) ∙ ap is_lent f.gate ∙ inside in
          (not-out c.args.self.now c.args.work c.ticket.result c.ticket.ensures gone lent, refl, refl)
      | in_default-find_set w ↦
          let none : gate_of (gates_in c.self.inside.sets.items (list_at c.self.inside.links 1)) c.ticket.result ≡ None = missing c.deref-2.result.now c.self.inside.sets.items (list_at c.self.inside.links 1) c.ticket.result c.find_set-2.result c.deref-2.ensures.value c.find_set-2.ensures.value w.in_default-find_set.is in
          let lent : is_lent (gate_of c.args.self.now.held c.ticket.result) ≡ false = ap (λ gs. is_lent (gate_of gs c.ticket.result)) (sym (held-is c.self.inside.sets.items c.self.inside.links c.self.inside.size c.args.self.now c.self.view_is)) ∙ ap is_lent none in
          (not-out c.args.self.now c.args.work c.ticket.result c.ticket.ensures gone lent, refl, refl)
    ]

pub returns-clause-sound : goal.returns-clause-sound
returns-clause-sound c = subst AreSound c.self.view_is (sound-of c.self.inside.sets.items c.self.inside.links c.self.inside.size c.self.invariant)
