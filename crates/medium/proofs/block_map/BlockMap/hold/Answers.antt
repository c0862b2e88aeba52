use Rattle.std.proofs.Common.{◌≡◌, true, false, arith, sym, ◌∙◌}
use Rattle.std.specs.BTreeMap.{get}
use Rattle.std.specs.Ordering.{nat_cmp}
use Rattle.medium.specs.Places.{is_filled}
use Rattle.medium.proofs.Listed.{listed-push, listed-same, distinct-push, is_filled-filled, sized-fill, room-left}
use Rattle.medium.proofs.block_map.BlockMap.hold.Goals as goal

pub push_reserved-requires : goal.push_reserved-requires
push_reserved-requires c =
    let filled = c.fill_place.ensures in
    let here = is_filled-filled (get nat_cmp c.fill_place.new.places c.args.block) c.args.bytes.now filled.there filled.here in
    let empty : is_filled (get nat_cmp c.args.self.now.places c.args.block) ≡ false = grind (arith, filled.empty, c.if-not-fill_place.false) in
    omega (arith, room-left c.args.self.now.places c.fill_place.new.places c.args.self.now.filled.items c.args.block c.args.self.now.distinct c.args.self.now.listed filled.others here empty, c.args.self.now.room, filled.count)

pub invariant_of-self : goal.invariant_of-self
invariant_of-self c =
    let filled = c.fill_place.ensures in
    let here = is_filled-filled (get nat_cmp c.fill_place.new.places c.args.block) c.args.bytes.now filled.there filled.here in
    let was : is_filled (get nat_cmp c.args.self.now.places c.args.block) ≡ true = grind (arith, filled.empty, c.if-not-fill_place.true) in
    record {
      sized = sized-fill c.args.self.now.places c.fill_place.new.places c.args.block c.args.self.now.size c.args.bytes.now c.args.self.now.sized filled.others filled.here c.requires.long;
      listed = listed-same c.args.self.now.places c.fill_place.new.places c.args.self.now.filled.items c.args.block c.args.self.now.listed filled.others (here ∙ sym was);
      distinct = c.args.self.now.distinct;
      room = omega (arith, c.args.self.now.room, filled.count);
    }

pub invariant_of-self-2 : goal.invariant_of-self-2
invariant_of-self-2 c =
    let filled = c.fill_place.ensures in
    let here = is_filled-filled (get nat_cmp c.fill_place.new.places c.args.block) c.args.bytes.now filled.there filled.here in
    let empty : is_filled (get nat_cmp c.args.self.now.places c.args.block) ≡ false = grind (arith, filled.empty, c.if-not-fill_place.false) in
    record {
      sized = sized-fill c.args.self.now.places c.fill_place.new.places c.args.block c.args.self.now.size c.args.bytes.now c.args.self.now.sized filled.others filled.here c.requires.long;
      listed = rw c.push_reserved.ensures.items (listed-push c.args.self.now.places c.fill_place.new.places c.args.self.now.filled.items c.args.block c.args.self.now.listed filled.others here);
      distinct = rw c.push_reserved.ensures.items (distinct-push c.args.self.now.places c.args.self.now.filled.items c.args.block c.args.self.now.distinct c.args.self.now.listed empty);
      room = omega (arith, c.args.self.now.room, filled.count, c.push_reserved.ensures.capacity);
    }
