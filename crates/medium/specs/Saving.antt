-- How many commands a medium with a cache makes inside (own profile).
use Rattle.std.specs.Prelude.{◌≡◌, ℕ, zero, suc, ◌+◌, ◌-◌, ◌<◌, ◌≤◌, Bool, nat_eq, ◌&&◌, ◌||◌, cond, List, Option, None, IsSome, is_some, is_none, Result, OnOk, OnErr, if◌then◌else◌}
use Rattle.medium.specs.Counts.{capped_sum, Rose}
use Rattle.medium.specs.Device.{Device, failures}
use Rattle.medium.specs.declared.block_failed.BlockFailed.{BlockFailed}

-- block b begins a longest run of those from `first` on that are not saved
unfoldable pub begins_run : (ℕ → Option (List ℕ)) → ℕ → ℕ → Bool
begins_run saved first b = is_none (saved b) && (nat_eq b first || is_some (saved (b - 1)))

-- how many longest runs of blocks that are not saved lie in the n blocks from `first` on
unfoldable pub unsaved_runs : (ℕ → Option (List ℕ)) → ℕ → ℕ → ℕ
unsaved_runs saved first zero = 0
unsaved_runs saved first (suc n) = unsaved_runs saved first n + cond (begins_run saved first (first + n)) 1 0

-- of the blocks up to an end, those before block k and others were saved since then: each run from its first block to its last
pub record AreSavedTo (at_first saved : ℕ → Option (List ℕ)) (first end k : ℕ) : Type 0 where
  pub kept : (b : ℕ) → IsSome (at_first b) → IsSome (saved b)
  pub closed : (b : ℕ) → first ≤ b → b + 1 < end → IsSome (saved b) → at_first b ≡ None → IsSome (saved (b + 1))
  pub fresh : (b : ℕ) → k ≤ b → IsSome (saved b) → at_first b ≡ None → (first < b) × (at_first (b - 1) ≡ None)

-- so many commands were made inside where all were done, and else they ended at the first that failed
pub record HasMade (old : Device) (result : Result (Unit {0}) BlockFailed) (new : Device) (commands : ℕ) : Type 0 where
  pub calls : OnOk result ((k : ℕ) → capped_sum new.calls k ≡ capped_sum old.calls (commands + k))
  pub failed : OnOk result ((k : ℕ) → capped_sum new.failed k ≡ capped_sum old.failed k)
  pub rose : OnErr result (Rose old.calls new.calls)
  pub fault : OnErr result (new.failed ≡ capped_sum old.failed 1)

-- the reads that save what a write of so many blocks changes for the first time: one for each longest run
abbrev pub saving_reads : Bool → (ℕ → Option (List ℕ)) → ℕ → ℕ → ℕ
saving_reads cached saved first count = if cached then unsaved_runs saved first count else 0

-- a write made inside: the saving reads and then one write, or up to the first of these that failed
pub record IsSavedWrite (old : Device) (reads : ℕ) (result : Result (Unit {0}) BlockFailed) (new : Device) : Type 0 where
  pub calls : OnOk result (new.calls ≡ capped_sum old.calls (reads + 1))
  pub rose : Rose old.calls new.calls
  pub failed : new.failed ≡ capped_sum old.failed (failures result)
