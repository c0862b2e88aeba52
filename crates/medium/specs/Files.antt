-- The device that a file is, and what becomes of the system's answers.
use Rattle.std.specs.Prelude.{ℕ, ◌*◌, ◌/◌, ◌^◌, ◌<◌, Bool, true, false, nat_eq, if◌then◌else◌, None, Result, Ok, Err, refl}
use Rattle.medium.specs.Device.{Device, IsBlockSize, IsShaped}
use Rattle.medium.specs.declared.block_failed.BlockFailed.{BlockFailed}

-- it tells no byte and has no cache
abbrev pub file_device : ℕ → ℕ → ℕ → ℕ → ℕ → Device
file_device size blocks faults calls failed = record {
  first = None;
  now = None;
  kept = None;
  size = size;
  blocks = blocks;
  cached = false;
  faults = faults;
  calls = calls;
  failed = failed;
}

pub file_shaped : (size blocks faults calls failed : ℕ) → IsBlockSize size → 0 < blocks → blocks * size < 2 ^ 64 → IsShaped (file_device size blocks faults calls failed)
file_shaped size blocks faults calls failed one some fits = record {
  size = one;
  some = some;
  fits = fits;
  told_first = tt;
  told_now = tt;
  told_kept = tt;
  uncached = λ _. refl;
}

-- the system moved all the bytes that were asked for
abbrev pub has_all : {E : Type 0} → Result ℕ E → ℕ → Bool
has_all (Ok count) wanted = nat_eq count wanted
has_all (Err e) wanted = false

-- a read is done where all bytes came
abbrev pub read_answer : Bool → Result (Unit {0}) BlockFailed
read_answer true = Ok tt
read_answer false = Err (record { done = 0 })

-- a write is done where all bytes were written, and else fails after the whole blocks that were
abbrev pub write_answer : {E : Type 0} → ℕ → Result ℕ E → ℕ → Result (Unit {0}) BlockFailed
write_answer size (Ok count) wanted = if nat_eq count wanted then Ok tt else Err (record { done = count / size })
write_answer size (Err e) wanted = Err (record { done = 0 })

-- a sync is done where the system wrote through
abbrev pub sync_answer : {E : Type 0} → Result (Unit {0}) E → Result (Unit {0}) BlockFailed
sync_answer (Ok done) = Ok tt
sync_answer (Err e) = Err (record { done = 0 })
