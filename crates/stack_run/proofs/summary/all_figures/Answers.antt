use Rattle.std.proofs.Common.{◌≡◌, length, reverse, take, ap, ◌∙◌, sym, arith}
use Rattle.std.proofs.Math.Seq.{take-length}
use Rattle.std.proofs.lemmas.List.{reverse-reverse}
use Rattle.stack_run.specs.Figures.{figures_with, figures_of}
use Rattle.stack_run.proofs.Counting.{figures-next}
use Rattle.stack_run.proofs.summary.all_figures.Goals as goal

pub loop-entry-preserved : goal.loop-entry-preserved
loop-entry-preserved c =
    let one = figures-next c.args.ends.now c.entries-entry-items.result.now c.loop-entry.entry-index c.entry-item.result c.loop-entry-test.true in
    let added : figures_with c.args.ends.now c.entry-item.result c.loop-entry.figures ≡ _ = λ i. figures_with c.args.ends.now (c.entry-item.is i) (c.loop-entry.invariant.1 i) in
    (c.loop-entry.invariant.0, c.with_entry-figures.ensures.figures ∙ (added ∙ sym one), c.with_entry-figures.ensures.within _ c.loop-entry.invariant.2)

pub returns : goal.returns
returns c =
    let over : c.loop-entry.entry-index ≡ length c.entries-entry-items.result.now = omega arith in
    let all = ap (λ n. take n c.entries-entry-items.result.now) over ∙ take-length c.entries-entry-items.result.now in
    c.loop-entry.invariant.1 ∙ ap (figures_of c.args.ends.now) (ap reverse (all ∙ c.loop-entry.invariant.0) ∙ reverse-reverse c.args.history.now.entries)
