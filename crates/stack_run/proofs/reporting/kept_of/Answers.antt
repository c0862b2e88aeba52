use Rattle.std.proofs.Common.{◌*◌, List, [], ◌∷◌, ◌++◌, ◌∙◌, ap, sym, get_or}
use Rattle.stack_run.specs.Media.{media_names}
use Rattle.script_text.specs.declared.report.parts.KeptMedium.{KeptMedium}
use Rattle.stack_run.specs.Reporting.{name_at}
use Rattle.stack_run.proofs.Reported.{kept-next, kept-none}
use Rattle.stack_run.proofs.reporting.kept_of.Goals as goal

pub loop-place-init : goal.loop-place-init
loop-place-init c = c.new-media.ensures.items ∙ sym (kept-none c.args.plan.now.size (media_names c.args.plan.now))

pub loop-place-preserved : goal.loop-place-preserved
loop-place-preserved c =
    c.in_ok-add_kept.ensures ∙ (ap (λ (l : List KeptMedium). l ++ record { name = name_at c.args.plan.now c.loop-place.place; bytes = get_or c.args.blocks.now c.loop-place.place 0 * c.args.plan.now.size } ∷ []) c.loop-place.invariant ∙ sym (kept-next c.args.plan.now c.args.blocks.now c.loop-place.place 0 c.loop-place-test.true c.requires.count))
