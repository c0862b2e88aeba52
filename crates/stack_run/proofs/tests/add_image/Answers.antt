use Rattle.image_store.specs.Slots.{images_at}
use Rattle.stack_run.proofs.FreeAgain.{all-again}
use Rattle.stack_run.proofs.tests.add_image.Goals as goal

pub returns : goal.returns
returns c = all-again (images_at c.args.images.now) (images_at c.add.new.self) _ c.requires (rw c.in_ok-add.ensures.here tt) c.add.ensures.others
