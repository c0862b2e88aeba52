-- The device that a medium with planned faults is.
use Rattle.std.specs.Prelude.{◌≡◌, ℕ, ◌*◌, ◌-◌, ◌/◌, ◌<◌, ◌==◌, List, take, min, find, Option, Result, Ok, Err}
use Rattle.std.specs.Option.{option_map}
use Rattle.medium.specs.declared.block_failed.BlockFailed.{BlockFailed}
use Rattle.medium.specs.declared.faulty.Faulty.{Faulty}
use Rattle.medium.specs.declared.faulty.Planned.{Planned}
use Rattle.medium.specs.Counts.{capped_sum}
use Rattle.medium.specs.Device.{Device, IsShaped, IsWrite}

-- the device inside, with counts of its own; its faults are those of the device inside and so many planned ones
abbrev pub faulty_device : Device → ℕ → ℕ → ℕ → Device
faulty_device inner calls failed planned = record {
  first = inner.first;
  now = inner.now;
  kept = inner.kept;
  size = inner.size;
  blocks = inner.blocks;
  cached = inner.cached;
  faults = capped_sum inner.faults planned;
  calls = calls;
  failed = failed;
}

-- the medium inside
abbrev pub inner_of : {M : Type 0} → Faulty M → M
inner_of medium = medium.inner

-- the commands that are to fail
abbrev pub plan_of : {M : Type 0} → Faulty M → List Planned
plan_of medium = medium.plan.items

-- the first entry of a plan for this command
abbrev pub entry_for : List Planned → ℕ → Option Planned
entry_for plan call = find (λ entry. entry.call == call) plan

-- how many blocks the next command does before it fails, where it is planned to fail
abbrev pub planned_next : {M : Type 0} → Faulty M → Option ℕ
planned_next medium = option_map (λ entry. entry.done) (entry_for (plan_of medium) medium.calls)

-- the blocks that a write did which fails after so many, or earlier where the device inside failed
abbrev pub done_blocks : Result (Unit {0}) BlockFailed → ℕ → ℕ
done_blocks (Ok x) count = count
done_blocks (Err fault) count = fault.done

-- how many blocks a planned write asks the device inside for: at most all but the last
abbrev pub planned_count : ℕ → ℕ → ℕ → ℕ
planned_count bytes size planned = min (bytes / size - 1) planned

-- a write that fails after so many blocks: the device inside writes them by one command, and none where there are none
pub record IsPlannedWrite (old : Device) (lba count : ℕ) (bytes : List ℕ) (result : Result (Unit {0}) BlockFailed) (new : Device) : Type 0 where
  pub none : count ≡ 0 → (result ≡ Err (record { done = 0 })) × (new ≡ old)
  pub some : 0 < count → (inside : Result (Unit {0}) BlockFailed) × IsWrite old lba (take (count * old.size) bytes) inside new × (result ≡ Err (record { done = done_blocks inside count }))

-- it is shaped as the device inside
pub faulty_shaped : (inner : Device) (calls failed planned : ℕ) → IsShaped inner → IsShaped (faulty_device inner calls failed planned)
faulty_shaped inner calls failed planned shaped = record {
  size = shaped.size;
  some = shaped.some;
  fits = shaped.fits;
  told_first = shaped.told_first;
  told_now = shaped.told_now;
  told_kept = shaped.told_kept;
  uncached = shaped.uncached;
}
