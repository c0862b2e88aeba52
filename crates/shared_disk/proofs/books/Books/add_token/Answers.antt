use Rattle.std.proofs.Common.{refl}
use Rattle.std.proofs.lemmas.List.{length-set}
use Rattle.shared_disk.proofs.CourseLemmas.{item-at, set-here, set-other}
use Rattle.shared_disk.proofs.books.Books.add_token.Goals as goal

pub returns : goal.returns
returns c = record {
  opened = refl;
  clients = refl;
  slots = c.push_reserved.ensures.items;
  ended = refl;
  collected = refl;
  count = length-set c.args.self.now.courses.items c.args.place c.add_token.new.self;
  was = c.index_mut.result.now;
  there = item-at c.args.self.now.courses.items c.args.place c.index_mut.result.now c.requires.there c.index_mut.ensures.value;
  now = c.add_token.new.self;
  here = set-here c.args.self.now.courses.items c.args.place c.add_token.new.self c.requires.there;
  changes = c.add_token.ensures;
  others = λ i other. set-other c.args.self.now.courses.items c.args.place i c.add_token.new.self other;
}
