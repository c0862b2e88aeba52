use Rattle.std.proofs.Common.{◌≡◌, ◌∙◌, true, length, arith, ap, sym}
use Rattle.std.specs.List.{filter}
use Rattle.index_links.specs.Lists.{list_at}
use Rattle.block_gate.specs.Gates.{outs}
use Rattle.block_gate.specs.Sets.{gates_in, is_so}
use Rattle.block_gate.proofs.Found.{held-is, gone-is, all-so, lent-so, tickets-long}
use Rattle.block_gate.proofs.gates.works_out.Goals as goal

pub returns : goal.returns
unfolding outs is_so
returns c =
    let lent : c.count_sets-lent.result ≡ length (filter (λ g. g.out) c.args.gates.now.held) =
    c.count_sets-lent.ensures.value ∙ ap (λ ss. length (filter (is_so true) (gates_in ss (list_at c.gates.inside.links 1)))) c.deref.ensures.value
    ∙ ap (λ gs. length (filter (is_so true) gs)) (held-is c.gates.inside.sets.items c.gates.inside.links c.gates.inside.size c.args.gates.now c.gates.view_is) ∙ lent-so c.args.gates.now.held in
    let gone : c.count_sets.result ≡ length c.args.gates.now.gone =
    c.count_sets.ensures.value ∙ ap (λ ss. length (filter (is_so true) (gates_in ss (list_at c.gates.inside.links 2)))) c.deref-2.ensures.value
    ∙ all-so true c.gates.inside.sets.items (list_at c.gates.inside.links 2) (λ n among. c.gates.invariant.gone_out n among) ∙ sym (tickets-long c.gates.inside.sets.items (list_at c.gates.inside.links 2)) ∙ ap length (gone-is c.gates.inside.sets.items c.gates.inside.links c.gates.inside.size c.args.gates.now c.gates.view_is) in
    omega arith
