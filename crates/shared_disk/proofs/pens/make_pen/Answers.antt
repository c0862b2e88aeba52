use Rattle.shared_disk.proofs.LogKeeps.{begins}
use Rattle.shared_disk.proofs.pens.make_pen.Goals as goal

pub of_words-requires : goal.of_words-requires
of_words-requires g c = begins
