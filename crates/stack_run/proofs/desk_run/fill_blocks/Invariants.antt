use Rattle.std.proofs.Common.{◌≡◌, map, take, vec_capacity}
use Rattle.stack_run.proofs.desk_run.fill_blocks.Given as goal

abbrev pub invariant-loop-medium : goal.invariant-loop-medium
invariant-loop-medium g l = record {
  items : l.blocks.items ≡ map (λ m. (g.M.Medium.device m).blocks) (take l.medium-index l.media);
  room : vec_capacity l.blocks ≡ vec_capacity l.initial.blocks;
}
