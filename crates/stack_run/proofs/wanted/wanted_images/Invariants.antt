use Rattle.std.proofs.Common.{◌≡◌, take}
use Rattle.stack_run.specs.Media.{wanted_of}
use Rattle.stack_run.proofs.wanted.wanted_images.Given as goal

abbrev pub invariant-loop-plan : goal.invariant-loop-plan
invariant-loop-plan l = l.all.items ≡ wanted_of (take l.plan-index l.disks)
