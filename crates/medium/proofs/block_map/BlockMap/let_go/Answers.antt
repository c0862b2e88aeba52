use Rattle.std.proofs.Common.{◌≡◌, ℕ, List, [], ◌∷◌, ◌++◌, arith, subst}
use Rattle.std.specs.List.{IsDistinct}
use Rattle.std.specs.Ordering.{nat_cmp, eq_by_cmp}
use Rattle.medium.proofs.Listed.{Lists, listed-pop, distinct-pop, sized-empty}
use Rattle.medium.proofs.block_map.BlockMap.let_go.Goals as goal

pub invariant_of-self-2 : goal.invariant_of-self-2
invariant_of-self-2 c =
    let block = c.in_ok-block.block in
    let left = c.pop.new.self.items in
    let split : c.args.self.now.filled.items ≡ left ++ block ∷ [] = c.in_ok-block.ensures.items in
    let distinct : IsDistinct (eq_by_cmp nat_cmp) (left ++ block ∷ []) = subst (IsDistinct (eq_by_cmp nat_cmp)) split c.args.self.now.distinct in
    let listed : Lists (left ++ block ∷ []) c.args.self.now.places = subst (λ (xs : List ℕ). Lists xs c.args.self.now.places) split c.args.self.now.listed in
    let emptied = c.empty_place.ensures in
    record {
      sized = sized-empty c.args.self.now.places c.empty_place.new.places c.args.self.now.size c.args.self.now.sized emptied.bytes;
      listed = listed-pop c.args.self.now.places c.empty_place.new.places left block distinct listed emptied.others emptied.here;
      distinct = distinct-pop left block distinct;
      room = omega (arith, c.args.self.now.room, emptied.count, c.in_ok-block.ensures.capacity);
    }
