use Rattle.std.proofs.Common.{arith}
use Rattle.std.proofs.lemmas.Grind.{common_steps}
use Rattle.std.specs.List.{IsDistinct}
use Rattle.medium.proofs.block_map.BlockMap.new.Goals as goal

pub invariant_of-result : goal.invariant_of-result
unfolding IsDistinct
invariant_of-result c = record {
  sized = λ b place is. grind (arith, common_steps);
  listed = λ b. grind (arith, common_steps);
  distinct = rw c.new-2.ensures.items tt;
  room = grind (arith, common_steps);
}
