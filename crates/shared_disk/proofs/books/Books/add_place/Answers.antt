use Rattle.std.proofs.Common.{refl}
use Rattle.shared_disk.specs.Inside.{HasLineMore}
use Rattle.shared_disk.proofs.CourseLemmas.{changes-course}
use Rattle.shared_disk.proofs.books.Books.add_place.Goals as goal

pub returns : goal.returns
returns c = changes-course c.args.self.now c.args.place c.args.self.now.slots c.index_mut.result.now c.add_place.new.self (HasLineMore c.args.before) c.requires.there c.index_mut.ensures.value refl c.add_place.ensures
