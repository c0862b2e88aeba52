use Rattle.std.proofs.Common.{ℕ, ◌≡◌, ◌<◌, IsSome}
use Rattle.medium.specs.BlockMap.{held_block, held_count}
use Rattle.medium.specs.Cached.{restoration}
use Rattle.medium.specs.Device.{IsSame}
use Rattle.medium.proofs.saving.write_back.Given as goal

abbrev pub invariant-loop-block : goal.invariant-loop-block
invariant-loop-block g l = record {
  same : IsSame (g.M.Medium.device l.initial.inner) (g.M.Medium.device l.inner);
  quiet : (g.M.Medium.device l.inner).faults ≡ (g.M.Medium.device l.initial.inner).faults;
  size : l.saved.size ≡ l.initial.saved.size;
  inside : (b : ℕ) → IsSome (held_block l.saved b) → b < (g.M.Medium.device l.initial.inner).blocks;
  ready : (b : ℕ) → IsSome (held_block l.saved b) → g.M.Medium.prepared l.inner b;
  restored : restoration (held_block l.saved) l.initial.saved.size (g.M.Medium.device l.initial.inner).blocks (g.M.Medium.device l.inner).now ≡ restoration (held_block l.initial.saved) l.initial.saved.size (g.M.Medium.device l.initial.inner).blocks (g.M.Medium.device l.initial.inner).now;
}

abbrev pub decreases-loop-block : goal.decreases-loop-block
decreases-loop-block g l = held_count l.saved
