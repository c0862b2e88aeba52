use Rattle.std.proofs.Common.{arith, refl, ◌∙◌}
use Rattle.script_text.specs.Held.{AddsText}
use Rattle.script_text.proofs.LineLoops.{none_added, one_added, stopped_in, all_added}
use Rattle.script_text.proofs.Causes.{earlier_cause}
use Rattle.script_text.proofs.report.writer.add_tokens.Goals as goal

pub loop-token-init : goal.loop-token-init
loop-token-init g c = record { added = none_added _ _ _ _ _; quiet = refl }

pub returns-in-Err-clause-text : goal.returns-in-Err-clause-text
unfolding AddsText
returns-in-Err-clause-text g c =
    stopped_in _ _ _ _ _ _ _ _ _ _ _ c.loop-token.invariant.added c.loop-token-test.true c.index-ends-token.is (omega arith)
    (c.in-Err.ensures.text _ (rw c.is_tagged-tagged.ensures at c.token_line.ensures))

pub returns-in-Err-clause-cause : goal.returns-in-Err-clause-cause
returns-in-Err-clause-cause g c = earlier_cause _ _ _ _ _ c.loop-token.invariant.quiet c.in-Err.ensures.cause

pub loop-token-preserved : goal.loop-token-preserved
unfolding AddsText
loop-token-preserved g c = record {
  added = one_added _ _ _ _ _ _ _ _ _ _ _ _ c.loop-token.invariant.added c.loop-token-test.true c.index-ends-token.is (omega arith)
      (c.in-Ok.ensures.text _ (rw c.is_tagged-tagged.ensures at c.token_line.ensures));
  quiet = c.in-Ok.ensures.cause.quiet ∙ c.loop-token.invariant.quiet;
}

pub returns-clause-text : goal.returns-clause-text
unfolding AddsText
returns-clause-text g c = all_added _ _ _ _ _ _ _ _ c.loop-token.invariant.added c.loop-token-test.false
