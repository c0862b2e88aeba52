use Rattle.std.proofs.Common.{ap, sym, ◌∙◌}
use Rattle.std.specs.Prelude.{string_bytes}
use Rattle.script_text.specs.Whole.{script_of}
use Rattle.stack_run.specs.GeneratedRun.{image_setup}
use Rattle.stack_run.proofs.SummedLemmas.{only-plan, plan-whole, plan-fits, plan-lines, is-summed}
use Rattle.stack_run.proofs.generated_run.generated_summary.Goals as goal

pub summed_run-requires-clause-disk : goal.summed_run-requires-clause-disk
summed_run-requires-clause-disk c =
    plan-fits c.in_ok-script.script.disks c.index-as_slice-0.result (only-plan _ _ _ c.in_ok-script.ensures.one c.as_slice.ensures c.index-as_slice-0.is) c.in_ok-script.ensures.fit

pub summed_run-requires-clause-lines : goal.summed_run-requires-clause-lines
summed_run-requires-clause-lines c =
    plan-lines c.in_ok-script.script.disks c.index-as_slice-0.result (only-plan _ _ _ c.in_ok-script.ensures.one c.as_slice.ensures c.index-as_slice-0.is) c.in_ok-script.ensures.lines

pub summed_run-requires-clause-whole : goal.summed_run-requires-clause-whole
summed_run-requires-clause-whole c =
    plan-whole c.in_ok-script.script.disks c.index-as_slice-0.result (only-plan _ _ _ c.in_ok-script.ensures.one c.as_slice.ensures c.index-as_slice-0.is) c.in_ok-script.ensures.whole

pub returns : goal.returns
unfolding image_setup
returns c =
    is-summed c.args.number c.args.clients c.args.lines c.in_ok-text.text.items (string_bytes c.in_ok-summary.summary) c.in_ok-script.script.disks c.index-as_slice-0.result c.in_ok-text.ensures.text (ap script_of (sym c.deref.ensures.value) ∙ c.in_ok-script.ensures.says)
    (only-plan _ _ _ c.in_ok-script.ensures.one c.as_slice.ensures c.index-as_slice-0.is) c.in_ok-summary.ensures
