use Rattle.std.proofs.Common.{ℕ, ◌≡◌, ◌<◌, ◌≤◌, ◌+◌, IsSome, Ok}
use Rattle.medium.specs.BlockMap.{held_block, HasPlaceFor}
use Rattle.medium.specs.Cached.{restoration, HasTried, HoldsOthers}
use Rattle.medium.specs.Device.{StayPrepared}
use Rattle.medium.specs.Saving.{unsaved_runs, AreSavedTo, HasMade}
use Rattle.medium.proofs.saving.save.Given as goal

abbrev pub invariant-loop-block : goal.invariant-loop-block
invariant-loop-block g l = record {
  tried : HasTried (g.M.Medium.device l.initial.inner) (Ok tt) (g.M.Medium.device l.inner);
  made : (n : ℕ) → l.first + n ≡ l.block → HasMade (g.M.Medium.device l.initial.inner) (Ok tt) (g.M.Medium.device l.inner) (unsaved_runs (held_block l.initial.saved) l.first n);
  runs : AreSavedTo (held_block l.initial.saved) (held_block l.saved) l.first (l.first + l.count) l.block;
  prepared : StayPrepared (g.M.Medium.prepared l.initial.inner) (g.M.Medium.prepared l.inner);
  restored : restoration (held_block l.saved) l.initial.saved.size (g.M.Medium.device l.initial.inner).blocks (g.M.Medium.device l.initial.inner).now ≡ restoration (held_block l.initial.saved) l.initial.saved.size (g.M.Medium.device l.initial.inner).blocks (g.M.Medium.device l.initial.inner).now;
  held : (b : ℕ) → l.first ≤ b → b < l.block → IsSome (held_block l.saved b);
  others : HoldsOthers l.first (l.first + l.count) (held_block l.initial.saved) (held_block l.saved);
  stay : (b : ℕ) → HasPlaceFor l.initial.saved b → HasPlaceFor l.saved b;
  size : l.saved.size ≡ l.initial.saved.size;
}
