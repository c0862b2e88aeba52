-- The device that a medium in memory is.
use Rattle.std.specs.Prelude.{◌≡◌, ℕ, ◌*◌, ◌^◌, ◌<◌, false, List, length, Some, refl}
use Rattle.medium.specs.Device.{Device, IsBlockSize, IsShaped}

-- it tells its bytes, has no cache, and never fails
abbrev pub memory_device : List ℕ → List ℕ → ℕ → ℕ → ℕ → Device
memory_device opening bytes size blocks calls = record {
  first = Some opening;
  now = Some bytes;
  kept = Some bytes;
  size = size;
  blocks = blocks;
  cached = false;
  faults = 0;
  calls = calls;
  failed = 0;
}

pub memory_shaped : (opening bytes : List ℕ) (size blocks calls : ℕ) → IsBlockSize size → 0 < blocks → blocks * size < 2 ^ 64 → length opening ≡ blocks * size → length bytes ≡ blocks * size → IsShaped (memory_device opening bytes size blocks calls)
memory_shaped opening bytes size blocks calls one some fits first now = record {
  size = one;
  some = some;
  fits = fits;
  told_first = first;
  told_now = now;
  told_kept = now;
  uncached = λ _. refl;
}
