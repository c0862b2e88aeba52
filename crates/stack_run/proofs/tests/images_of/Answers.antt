use Rattle.stack_run.proofs.tests.images_of.Goals as goal

pub add_first-requires : goal.add_first-requires
add_first-requires c name = rw (c.make-images.ensures.unused name) tt
