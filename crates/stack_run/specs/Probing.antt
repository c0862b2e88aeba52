-- What a probe of an image finds, and what it leaves of the image (own profile).
use Rattle.std.specs.Prelude.{◌≡◌, ℕ, ◌⊎◌, false, List, Option, None, Some, Result, Ok, Err}
use Rattle.medium.specs.Counts.{capped_sum, Rose}
use Rattle.medium.specs.Device.{Device}
use Rattle.image_store.specs.Place.{Place, Here, Missing, Taken, Untold, Image, whole_block_bytes}
use Rattle.partition_tables.specs.declared.table.Table.{Table}
use Rattle.partition_tables.specs.Table.{table_of}
use Rattle.stack_run.specs.declared.wanted.Wanted.{Wanted}
use Rattle.stack_run.specs.Media.{IsBackOrGone, IsLost, IsUnmade, Stayed}

-- the image of a probe: uncached, of whole blocks
abbrev pub wanted_alone : List ℕ → ℕ → Wanted
wanted_alone name size = record { image = name; size = size; cached = false; physical = 1 }

-- how many commands failed where a table was read, and where none could be
abbrev pub failed_reads : Option Table → ℕ
failed_reads (Some table) = 0
failed_reads None = 1

-- a table that was read is that of these bytes, where they are told
abbrev pub IsTableOf : Option (List ℕ) → ℕ → Option Table → Type 0
IsTableOf (Some bytes) size (Some table) = table ≡ table_of bytes size
IsTableOf (Some bytes) size None = Unit {0}
IsTableOf None size table = Unit {0}

-- a fresh medium keeps its bytes, and so many of its commands failed
pub record KeepsBytes (n : ℕ) (d d' : Device) : Type 0 where
  pub kept : d'.kept ≡ d.first
  pub failed : d'.failed ≡ n

-- what a probe of a fresh medium answers; an error is want of memory
abbrev pub ProbesMedium : {E : Type 0} → Result (Option Table) E → Device → Device → Type 0
ProbesMedium (Ok table) d d' = KeepsBytes (failed_reads table) d d' × IsTableOf d.first d.size table
ProbesMedium (Err e) d d' = KeepsBytes 0 d d'

-- a table that was read is that of the image's whole blocks
abbrev pub IsTableAt : Place → ℕ → Option Table → Type 0
IsTableAt (Here bytes) size table = IsTableOf (Some (whole_block_bytes size bytes)) size table
IsTableAt Missing size table = ⊥
IsTableAt (Taken tail) size table = ⊥
IsTableAt Untold size table = Unit {0}

-- The image was taken, probed and put back as it was, and no call of its name failed. A table was read and no command failed, or one
-- failed and none was.
pub record IsProbed (size : ℕ) (found : Option Table) (old new : Image) : Type 0 where
  pub table : IsTableAt old.place size found
  pub place : new.place ≡ old.place
  pub worn : new.worn ≡ capped_sum old.worn (failed_reads found)
  pub quiet : new.faults ≡ old.faults

-- it was probed, and could not be put back for this cause
pub record IsProbedAndLost (Cause : ℕ → ℕ → Type 0) (size : ℕ) (old new : Image) : Type 0 where
  pub table : Option Table
  pub is : IsTableAt old.place size table
  pub lost : IsLost Cause (failed_reads table) old new

-- the image could not be taken or put back
abbrev pub ProbeFails : Wanted → Image → Image → Type 0
ProbeFails want old new = IsUnmade want old new ⊎ IsProbedAndLost Rose want.size old new

-- what want of memory leaves: the image where it was, or it could not be put back
abbrev pub ProbeLeaves : ℕ → Image → Image → Type 0
ProbeLeaves size old new = IsBackOrGone old new ⊎ IsProbedAndLost Stayed size old new
