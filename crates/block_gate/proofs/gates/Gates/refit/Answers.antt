use Rattle.std.proofs.Common.{◌≡◌, ◌+◌, ◌-◌, ◌∙◌, length, arith, ap, sym, subst, refl, set}
use Rattle.index_links.specs.Lists.{list_at}
use Rattle.index_links.proofs.LinkedListsLemmas.{among-at}
use Rattle.block_gate.specs.Gates.{Gates, with_new_sets, AreSound}
use Rattle.block_gate.specs.Sets.{gates_of}
use Rattle.block_gate.proofs.Steps.{sound-of}
use Rattle.block_gate.proofs.Views.{inside-of}
use Rattle.block_gate.proofs.Calls.{TurnsSo, some-free, refits-so, refitted-none, refitted-more, gone-left, gone-few, gone-some, left-after, none-first, some-first, kept-get}
use Rattle.std.proofs.lemmas.List.{length-set}
use Rattle.block_gate.proofs.Calls.{on-err}
use Rattle.block_gate.proofs.gates.Gates.refit.Goals as goal

pub loop-init : goal.loop-init
loop-init c = (c.self.invariant, c.self.view_is ∙ refitted-none c.args.self.now, refl, omega arith, gone-few c.self.inside.sets.items c.self.inside.links c.self.inside.size c.args.self.now c.self.invariant c.self.view_is)

pub returns-in_default-clause-all : goal.returns-in_default-clause-all
returns-in_default-clause-all c =
    let (ordered, shown, counted, fits, few) = c.loop.invariant in
    omega (arith, gone-left c.loop.self-inside.sets.items c.loop.self-inside.links c.loop.self-inside.size c.loop.count c.args.self.now shown, none-first (list_at c.loop.self-inside.links 2) (sym c.first_gone.ensures ∙ c.in_default.is))

pub returns-in_default-clause-sound : goal.returns-in_default-clause-sound
returns-in_default-clause-sound c = sound-of c.loop.self-inside.sets.items c.loop.self-inside.links c.loop.self-inside.size c.loop.invariant.0

pub returns-clause-sound : goal.returns-clause-sound
returns-clause-sound c = sound-of c.loop.self-inside.sets.items c.loop.self-inside.links c.loop.self-inside.size c.loop.invariant.0

pub index_mut-requires : goal.index_mut-requires
index_mut-requires c =
    let (ordered, shown, counted, fits, few) = c.loop.invariant in
    omega (arith, inside-of c.loop.self-inside.sets.items c.loop.self-inside.links c.loop.self-inside.size 2 c.in-Some.node ordered (among-at (list_at c.loop.self-inside.links 2) 0 c.in-Some.node (sym c.first_gone.ensures ∙ c.in-Some.is)), c.loop.self-inside.sets.ok)

pub relink-requires-clause-node : goal.relink-requires-clause-node
relink-requires-clause-node c =
    let (ordered, shown, counted, fits, few) = c.loop.invariant in
    omega (arith, inside-of c.loop.self-inside.sets.items c.loop.self-inside.links c.loop.self-inside.size 2 c.in-Some.node ordered (among-at (list_at c.loop.self-inside.links 2) 0 c.in-Some.node (sym c.first_gone.ensures ∙ c.in-Some.is)), ordered.nodes)

pub returns-in_err-refit-clause-err : goal.returns-in_err-refit-clause-err
returns-in_err-refit-clause-err c =
    let (ordered, shown, counted, fits, few) = c.loop.invariant in
    let same : set c.loop.self-inside.sets.items c.in-Some.node c.refit.new.self ≡ c.loop.self-inside.sets.items = kept-get c.loop.self-inside.sets.items c.in-Some.node c.index_mut.result.now c.refit.new.self (inside-of c.loop.self-inside.sets.items c.loop.self-inside.links c.loop.self-inside.size 2 c.in-Some.node ordered (among-at (list_at c.loop.self-inside.links 2) 0 c.in-Some.node (sym c.first_gone.ensures ∙ c.in-Some.is))) c.index_mut.ensures.value c.in_err-refit.ensures.err in
    let shows : gates_of (set c.loop.self-inside.sets.items c.in-Some.node c.refit.new.self) c.loop.self-inside.links c.loop.self-inside.size ≡ with_new_sets c.args.self.now c.loop.count = ap (λ ss. gates_of ss c.loop.self-inside.links c.loop.self-inside.size) same ∙ shown in
    on-err c.from_residual.result _ (shows ∙ left-after c.args.self.now c.loop.count fits ∙ ap (λ (g : Gates). with_new_sets c.args.self.now (length c.args.self.now.gone - length g.gone)) (sym shows))

pub returns-in_err-refit-clause-sound : goal.returns-in_err-refit-clause-sound
returns-in_err-refit-clause-sound c =
    let (ordered, shown, counted, fits, few) = c.loop.invariant in
    let same : set c.loop.self-inside.sets.items c.in-Some.node c.refit.new.self ≡ c.loop.self-inside.sets.items = kept-get c.loop.self-inside.sets.items c.in-Some.node c.index_mut.result.now c.refit.new.self (inside-of c.loop.self-inside.sets.items c.loop.self-inside.links c.loop.self-inside.size 2 c.in-Some.node ordered (among-at (list_at c.loop.self-inside.links 2) 0 c.in-Some.node (sym c.first_gone.ensures ∙ c.in-Some.is))) c.index_mut.ensures.value c.in_err-refit.ensures.err in
    subst (λ ss. AreSound (gates_of ss c.loop.self-inside.links c.loop.self-inside.size)) (sym same) (sound-of c.loop.self-inside.sets.items c.loop.self-inside.links c.loop.self-inside.size ordered)

pub loop-preserved : goal.loop-preserved
loop-preserved c =
    let (ordered, shown, counted, fits, few) = c.loop.invariant in
    let turns : TurnsSo (set c.loop.self-inside.sets.items c.in-Some.node c.refit.new.self) c.relink.new.links c.loop.self-inside.size (with_new_sets (with_new_sets c.args.self.now c.loop.count) 1) =
    refits-so c.loop.self-inside.sets.items c.loop.self-inside.links c.relink.new.links c.loop.self-inside.size c.in-Some.node (with_new_sets c.args.self.now c.loop.count) c.index_mut.result.now c.refit.new.self ordered shown (sym c.first_gone.ensures ∙ c.in-Some.is) c.index_mut.ensures.value c.in_ok-refit.ensures.ok c.relink.ensures.value c.relink.ensures.apart in (
      turns.ordered,
      turns.shows ∙ refitted-more c.args.self.now c.loop.count,
      ap (λ n. n + 1) counted,
      omega (arith, gone-left c.loop.self-inside.sets.items c.loop.self-inside.links c.loop.self-inside.size c.loop.count c.args.self.now shown, some-first (list_at c.loop.self-inside.links 2) c.in-Some.node (sym c.first_gone.ensures ∙ c.in-Some.is)),
      omega (arith, length-set c.loop.self-inside.sets.items c.in-Some.node c.refit.new.self),
    )

pub returns-in_default-clause-some : goal.returns-in_default-clause-some
returns-in_default-clause-some c =
    let (ordered, shown, counted, fits, few) = c.loop.invariant in
    some-free c.loop.self-inside.sets.items c.loop.self-inside.links c.loop.self-inside.size ordered (none-first (list_at c.loop.self-inside.links 2) (sym c.first_gone.ensures ∙ c.in_default.is))

pub returns-clause-some : goal.returns-clause-some
returns-clause-some c =
    let (ordered, shown, counted, fits, few) = c.loop.invariant in
    some-free c.loop.self-inside.sets.items c.loop.self-inside.links c.loop.self-inside.size ordered (omega (arith, gone-left c.loop.self-inside.sets.items c.loop.self-inside.links c.loop.self-inside.size c.loop.count c.args.self.now shown, counted, c.loop-test.false, gone-few c.self.inside.sets.items c.self.inside.links c.self.inside.size c.args.self.now c.self.invariant c.self.view_is))

pub returns-in_err-refit-clause-left : goal.returns-in_err-refit-clause-left
returns-in_err-refit-clause-left c =
    let (ordered, shown, counted, fits, few) = c.loop.invariant in
    on-err c.from_residual.result _ (gone-some _ c.loop.self-inside.links _ c.in-Some.node (sym c.first_gone.ensures ∙ c.in-Some.is))
