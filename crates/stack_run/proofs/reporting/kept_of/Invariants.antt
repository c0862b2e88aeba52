use Rattle.std.proofs.Common.{◌≡◌, take}
use Rattle.stack_run.specs.Media.{media_names}
use Rattle.stack_run.specs.Serving.{kept_media}
use Rattle.stack_run.proofs.reporting.kept_of.Given as goal

abbrev pub invariant-loop-place : goal.invariant-loop-place
invariant-loop-place l = l.media.items ≡ kept_media l.plan.size (media_names l.plan) (take l.place l.blocks)
