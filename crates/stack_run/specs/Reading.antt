-- What of a source is read, and what it says (own profile).
use Rattle.std.specs.Prelude.{◌≡◌, ℕ, List, [], take, drop, Option, None, Some, Result, Ok, Err}
use Rattle.script_text.specs.declared.language.plans.DiskPlan.{DiskPlan}
use Rattle.script_text.specs.declared.language.refusal.Reason.{Reason}
use Rattle.script_text.specs.declared.language.reader.ScriptReader.{ScriptReader}
use Rattle.script_text.specs.Fed.{WasFed}
use Rattle.stack_run.specs.declared.reading.NotRead.{NotRead}
use Rattle.stack_run.specs.declared.reading.NotRead.TheVariants.{Failed, Refused, Memory}
use Rattle.stack_run.specs.Said.{said_of}

-- the most bytes of a source that are read: 4 MiB and one byte, one more than a script may have
abbrev pub most_read_bytes : ℕ
most_read_bytes = 4194305

-- these bytes were read: all that were left, but no more than may be read
abbrev pub SourceReads : Option (List ℕ) → Option (List ℕ) → List ℕ → Type 0
SourceReads (Some left) now bytes = (bytes ≡ take most_read_bytes left) × (now ≡ Some (drop most_read_bytes left))
SourceReads None now bytes = now ≡ None

-- what all bytes say that were left; where these are not told, what some bytes say
abbrev pub SourceSays : Option (List ℕ) → Result (List DiskPlan) (ℕ × Reason) → Type 0
SourceSays (Some left) said = said_of left ≡ said
SourceSays None said = (bytes : List ℕ) × (said_of bytes ≡ said)

-- the source was read to its end
abbrev pub IsReadOut : Option (List ℕ) → Option (List ℕ) → Type 0
IsReadOut (Some left) now = now ≡ Some []
IsReadOut None now = now ≡ None

-- the source was read to its end, and is a script of these disks
pub record IsScript (left left' : Option (List ℕ)) (plans : List DiskPlan) : Type 0 where
  pub says : SourceSays left (Ok plans)
  pub out : IsReadOut left left'

-- the source was read to its end or as far as may be read, and is refused as a script with this first faulty line and reason
pub record IsRefused (left left' : Option (List ℕ)) (line : ℕ) (reason : Reason) : Type 0 where
  pub says : SourceSays left (Err (line, reason))
  pub bytes : List ℕ
  pub reads : SourceReads left left' bytes

-- the reader was fed what was read
pub record FedBy (left left' : Option (List ℕ)) (reader : ScriptReader) : Type 0 where
  pub bytes : List ℕ
  pub reads : SourceReads left left' bytes
  pub fed : WasFed reader bytes

-- a fault that is a refusal says so
abbrev pub SaysWhy : Option (List ℕ) → Option (List ℕ) → NotRead → Type 0
SaysWhy left left' Failed = Unit {0}
SaysWhy left left' (Refused line reason) = IsRefused left left' line reason
SaysWhy left left' Memory = Unit {0}
