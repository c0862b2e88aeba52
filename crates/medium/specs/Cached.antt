-- The device that a medium with a volatile cache is.
use Rattle.std.specs.Prelude.{◌≡◌, ℕ, ◌+◌, ◌*◌, ◌<◌, ◌≤◌, Bool, true, false, List, length, Option, None, Some, Result, OnOk, OnErr, IfErr, if◌then◌else◌, refl}
use Rattle.std.proofs.Math.Bool.{Bool-set}
use Rattle.std.specs.Coded.{le_prop}
use Rattle.medium.specs.Blocks.{overlay}
use Rattle.medium.specs.BlockMap.{HasPlaceFor}
use Rattle.medium.specs.Counts.{Rose}
use Rattle.medium.specs.Device.{Device, IsShaped, IsTold, IsSame, patch_told, written_bytes}
use Rattle.medium.specs.declared.block_failed.BlockFailed.{BlockFailed}
use Rattle.medium.specs.declared.block_map.BlockMap.{BlockMap}

-- told bytes with saved blocks put back
abbrev pub restoration : (ℕ → Option (List ℕ)) → ℕ → ℕ → Option (List ℕ) → Option (List ℕ)
restoration saved size n None = None
restoration saved size n (Some now) = Some (overlay saved size n now)

-- the device inside, with counts of its own; where it is cached, it keeps the bytes with the saved blocks put back
abbrev pub cached_device : Device → Bool → (ℕ → Option (List ℕ)) → ℕ → ℕ → Device
cached_device inner cached saved calls failed = record {
  first = inner.first;
  now = inner.now;
  kept = if cached then restoration saved inner.size inner.blocks inner.now else inner.now;
  size = inner.size;
  blocks = inner.blocks;
  cached = cached;
  faults = inner.faults;
  calls = calls;
  failed = failed;
}

-- the most blocks of one transfer
abbrev pub most_blocks : ℕ
most_blocks = 64

-- a block may be written inside, and where there is a cache it has a place there, and a transfer has room
pub record IsReady (ready : Type 0) (cached : Bool) (saved : BlockMap) (bytes size b : ℕ) : Type 0 where
  pub inside : ready
  pub place : cached ≡ true → HasPlaceFor saved b
  pub room : cached ≡ true → most_blocks * size ≤ bytes

-- saved blocks put back have the length of the medium
abbrev pub AreRestoredLong : (ℕ → Option (List ℕ)) → Device → Type 0
AreRestoredLong saved d = (bytes : List ℕ) → d.now ≡ Some bytes → length (overlay saved d.size d.blocks bytes) ≡ d.blocks * d.size

told-restored : (cached : Bool) (saved : ℕ → Option (List ℕ)) (size n : ℕ) (now : Option (List ℕ)) (bytes : ℕ) → IsTold now bytes → ((told : List ℕ) → now ≡ Some told → length (overlay saved size n told) ≡ bytes) → IsTold (if cached then restoration saved size n now else now) bytes
told-restored false saved size n now bytes told long = told
told-restored true saved size n None bytes told long = tt
told-restored true saved size n (Some now) bytes told long = long now refl

kept-uncached : (cached : Bool) (kept now : Option (List ℕ)) → cached ≡ false → (if cached then kept else now) ≡ now
kept-uncached false kept now is = refl
kept-uncached true kept now is = absurd (true-false is) where
  true-false : true ≡ false → ⊥
  true-false same = cc

-- it is shaped as the device inside
pub cached_shaped : (inner : Device) (cached : Bool) (saved : ℕ → Option (List ℕ)) (calls failed : ℕ) → IsShaped inner → AreRestoredLong saved inner → IsShaped (cached_device inner cached saved calls failed)
cached_shaped inner cached saved calls failed shaped long = record {
  size = shaped.size;
  some = shaped.some;
  fits = shaped.fits;
  told_first = shaped.told_first;
  told_now = shaped.told_now;
  told_kept = told-restored cached saved inner.size inner.blocks inner.now (inner.blocks * inner.size) shaped.told_now long;
  uncached = kept-uncached cached (restoration saved inner.size inner.blocks inner.now) inner.now;
}

-- commands were made inside that change no byte: they ended at the first that failed
pub record HasTried (old : Device) (result : Result (Unit {0}) BlockFailed) (new : Device) : Type 0 where
  pub same : IsSame old new
  pub now : new.now ≡ old.now
  pub later : old.faults ≤ new.faults
  pub cause : OnErr result (Rose old.faults new.faults)
  pub quiet : OnOk result (new.faults ≡ old.faults)
  pub done : IfErr result (λ fault. fault.done ≡ 0)

-- blocks before one and from another on are held as they were
abbrev pub HoldsOthers : ℕ → ℕ → (ℕ → Option (List ℕ)) → (ℕ → Option (List ℕ)) → Type 0
HoldsOthers first end saved saved' = ((b : ℕ) → b < first → saved' b ≡ saved b) × ((b : ℕ) → end ≤ b → saved' b ≡ saved b)

-- a write inside, once what it changes was saved: saved blocks put back give what they gave before
pub record IsWrittenInside (old : Device) (cached : Bool) (saved saved' : ℕ → Option (List ℕ)) (lba : ℕ) (bytes : List ℕ) (result : Result (Unit {0}) BlockFailed) (new : Device) : Type 0 where
  pub same : IsSame old new
  pub now : new.now ≡ patch_told old.now (lba * old.size) (written_bytes result old.size bytes)
  pub restored : cached ≡ true → restoration saved' old.size old.blocks new.now ≡ restoration saved old.size old.blocks old.now
  pub uncached : cached ≡ false → (b : ℕ) → saved' b ≡ saved b
  pub held : (count : ℕ) → length bytes ≡ count * old.size → HoldsOthers lba (lba + count) saved saved'
  pub later : old.faults ≤ new.faults
  pub cause : OnErr result (Rose old.faults new.faults)
  pub quiet : OnOk result (new.faults ≡ old.faults)
  pub done : IfErr result (λ fault. fault.done * old.size < length bytes)

-- a block is ready in one way
pub ready-once : (ready : Type 0) (cached : Bool) (saved : BlockMap) (bytes size b : ℕ) → IsProp ready → IsProp (IsReady ready cached saved bytes size b)
ready-once ready cached saved bytes size b once = Prim.hlevel (once, Bool-set, le_prop)
