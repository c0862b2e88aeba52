-- A block device: what it holds, and what each of its commands does (UEFI 2.10, 13.9; failures, cache and counts: own profile).
use Rattle.std.specs.Prelude.{◌≡◌, ℕ, ◌+◌, ◌*◌, ◌^◌, ◌<◌, ◌≤◌, Bool, true, false, nat_eq, ◌||◌, List, length, take, drop, Option, None, Some, Result, Ok, Err, OnOk, OnErr, IfErr, if◌then◌else◌}
use Rattle.byte_lists.specs.Patching.{patch}
use Rattle.medium.specs.declared.block_failed.BlockFailed.{BlockFailed}
use Rattle.medium.specs.Counts.{capped_sum, Rose}

-- a device: the bytes at its beginning, now, and those that stay where it loses power, where it tells them;
-- its blocks and their size; whether it is cached; its faults, its commands, and those that failed
pub record Device : Type 0 where
  pub first : Option (List ℕ)
  pub now : Option (List ℕ)
  pub kept : Option (List ℕ)
  pub size : ℕ
  pub blocks : ℕ
  pub cached : Bool
  pub faults : ℕ
  pub calls : ℕ
  pub failed : ℕ

-- the four sizes of a block in bytes
abbrev pub is_block_size : ℕ → Bool
is_block_size size = nat_eq size 512 || (nat_eq size 1024 || (nat_eq size 2048 || nat_eq size 4096))

abbrev pub IsBlockSize : ℕ → Type 0
IsBlockSize size = is_block_size size ≡ true

-- told bytes are as many as this
abbrev pub IsTold : Option (List ℕ) → ℕ → Type 0
IsTold None n = Unit {0}
IsTold (Some bytes) n = length bytes ≡ n

-- a device as it can be
pub record IsShaped (d : Device) : Type 0 where
  pub size : IsBlockSize d.size
  pub some : 0 < d.blocks
  pub fits : d.blocks * d.size < 2 ^ 64
  pub told_first : IsTold d.first (d.blocks * d.size)
  pub told_now : IsTold d.now (d.blocks * d.size)
  pub told_kept : IsTold d.kept (d.blocks * d.size)
  pub uncached : d.cached ≡ false → d.kept ≡ d.now

-- a device on which nothing has happened
pub record IsFresh (d : Device) : Type 0 where
  pub now : d.now ≡ d.first
  pub kept : d.kept ≡ d.first
  pub faults : d.faults ≡ 0
  pub calls : d.calls ≡ 0
  pub failed : d.failed ≡ 0

-- so many bytes are 1 to 64 whole blocks from this one on, all on the medium
pub record IsTransfer (d : Device) (lba bytes : ℕ) : Type 0 where
  pub count : ℕ
  pub whole : bytes ≡ count * d.size
  pub some : 0 < count
  pub most : count ≤ 64
  pub fits : lba + count ≤ d.blocks

-- what never changes
pub record IsSame (old new : Device) : Type 0 where
  pub first : new.first ≡ old.first
  pub size : new.size ≡ old.size
  pub blocks : new.blocks ≡ old.blocks
  pub cached : new.cached ≡ old.cached

abbrev pub failures : Result (Unit {0}) BlockFailed → ℕ
failures (Ok done) = 0
failures (Err fault) = 1

-- a command was made: it counts; the device's faults rose where it failed, and stay where it was done
pub record IsCommand (old : Device) (result : Result (Unit {0}) BlockFailed) (new : Device) : Type 0 where
  pub same : IsSame old new
  pub calls : new.calls ≡ capped_sum old.calls 1
  pub failed : new.failed ≡ capped_sum old.failed (failures result)
  pub later : old.faults ≤ new.faults
  pub cause : OnErr result (Rose old.faults new.faults)
  pub quiet : OnOk result (new.faults ≡ old.faults)

-- these bytes are the told ones from this byte on
abbrev pub AreToldAt : Option (List ℕ) → ℕ → List ℕ → Type 0
AreToldAt None at out = Unit {0}
AreToldAt (Some bytes) at out = out ≡ take (length out) (drop at bytes)

pub record IsRead (old : Device) (lba : ℕ) (result : Result (Unit {0}) BlockFailed) (new : Device) (out out' : List ℕ) : Type 0 where
  pub command : IsCommand old result new
  pub now : new.now ≡ old.now
  pub kept : new.kept ≡ old.kept
  pub given : OnOk result (AreToldAt old.now (lba * old.size) out')
  pub left : OnErr result (out' ≡ out)
  pub done : IfErr result (λ fault. fault.done ≡ 0)

-- told bytes patched
abbrev pub patch_told : Option (List ℕ) → ℕ → List ℕ → Option (List ℕ)
patch_told None at piece = None
patch_told (Some bytes) at piece = Some (patch bytes at piece)

-- the bytes that a write has put on the medium
abbrev pub written_bytes : Result (Unit {0}) BlockFailed → ℕ → List ℕ → List ℕ
written_bytes (Ok done) size bytes = bytes
written_bytes (Err fault) size bytes = take (fault.done * size) bytes

pub record IsWrite (old : Device) (lba : ℕ) (bytes : List ℕ) (result : Result (Unit {0}) BlockFailed) (new : Device) : Type 0 where
  pub command : IsCommand old result new
  pub now : new.now ≡ patch_told old.now (lba * old.size) (written_bytes result old.size bytes)
  pub kept : new.kept ≡ (if old.cached then old.kept else new.now)
  pub done : IfErr result (λ fault. fault.done * old.size < length bytes)

pub record IsSync (old : Device) (result : Result (Unit {0}) BlockFailed) (new : Device) : Type 0 where
  pub command : IsCommand old result new
  pub now : new.now ≡ old.now
  pub kept : OnOk result (new.kept ≡ old.now)
  pub left : OnErr result (new.kept ≡ old.kept)
  pub done : IfErr result (λ fault. fault.done ≡ 0)

-- prepared blocks stay prepared
abbrev pub StayPrepared : (ℕ → Type 0) → (ℕ → Type 0) → Type 0
StayPrepared old new = (b : ℕ) → old b → new b
