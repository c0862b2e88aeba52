use Rattle.std.proofs.Common.{ℕ, List}
use Rattle.image_store.specs.Place.{IsFree}
use Rattle.image_store.specs.Slots.{images_at}
use Rattle.stack_run.proofs.tests.images_of.Given as goal

abbrev pub invariant-loop-image : goal.invariant-loop-image
invariant-loop-image l = (name : List ℕ) → IsFree (images_at l.images name).place
