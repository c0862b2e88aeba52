use Rattle.std.proofs.Common.{arith, refl, ◌∙◌}
use Rattle.script_text.specs.Held.{AddsText}
use Rattle.script_text.proofs.LineLoops.{none_added, one_added, stopped_in, all_added}
use Rattle.script_text.proofs.Causes.{earlier_cause}
use Rattle.script_text.proofs.report.writer.add_entries.Goals as goal

pub loop-place-init : goal.loop-place-init
loop-place-init g c = record { added = none_added _ _ _ _ _; quiet = refl }

pub returns-in-Err-clause-text : goal.returns-in-Err-clause-text
unfolding AddsText
returns-in-Err-clause-text g c =
    stopped_in _ _ _ _ _ _ _ _ _ _ _ c.loop-place.invariant.added c.loop-place-test.true c.index-entries-place.is (omega arith) (c.in-Err.ensures.text _ c.entry_line.ensures)

pub returns-in-Err-clause-cause : goal.returns-in-Err-clause-cause
returns-in-Err-clause-cause g c = earlier_cause _ _ _ _ _ c.loop-place.invariant.quiet c.in-Err.ensures.cause

pub loop-place-preserved : goal.loop-place-preserved
unfolding AddsText
loop-place-preserved g c = record {
  added = one_added _ _ _ _ _ _ _ _ _ _ _ _ c.loop-place.invariant.added c.loop-place-test.true c.index-entries-place.is (omega arith) (c.in-Ok.ensures.text _ c.entry_line.ensures);
  quiet = c.in-Ok.ensures.cause.quiet ∙ c.loop-place.invariant.quiet;
}

pub returns-clause-text : goal.returns-clause-text
unfolding AddsText
returns-clause-text g c = all_added _ _ _ _ _ _ _ _ c.loop-place.invariant.added c.loop-place-test.false
