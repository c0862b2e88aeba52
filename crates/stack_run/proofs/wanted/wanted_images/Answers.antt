use Rattle.std.proofs.Common.{◌++◌, ◌∙◌, ap, sym, map}
use Rattle.stack_run.specs.Media.{media_names, wanted_by, wanted_of}
use Rattle.stack_run.proofs.WantedLemmas.{wanted-next}
use Rattle.stack_run.proofs.wanted.wanted_images.Goals as goal

pub loop-plan-init : goal.loop-plan-init
unfolding wanted_of
loop-plan-init c = c.new-all.ensures.items

pub loop-plan-preserved : goal.loop-plan-preserved
loop-plan-preserved c =
    c.in_ok-add_disk.ensures
    ∙ (ap (λ l. l ++ map (wanted_by c.plan-item.result) (media_names c.plan-item.result)) c.loop-plan.invariant
    ∙ sym (wanted-next c.args.disks.now c.loop-plan.plan-index c.plan-item.result c.loop-plan-test.true c.plan-item.is))
