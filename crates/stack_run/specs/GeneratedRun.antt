-- What `gen` does: the script that a number makes runs plainly over an image of zeros in memory, and what it did is summed up
-- (own profile).
use Rattle.std.specs.Prelude.{◌≡◌, ℕ, ◌*◌, ◌⊎◌, false, List, [], ◌∷◌, replicate, Option, Some, Ok}
use Rattle.crc_table.specs.Crc32.{crc32_of}
use Rattle.history.specs.declared.entry.Entry.{Entry}
use Rattle.history.specs.Setup.{Setup}
use Rattle.history.specs.Contents.{contents}
use Rattle.history.specs.Room.{faults}
use Rattle.image_store.specs.Edge.{Outlet, Appends, AppendsFront}
use Rattle.medium.specs.Counts.{Rose}
use Rattle.script_text.specs.declared.language.plans.DiskPlan.{DiskPlan}
use Rattle.script_text.specs.declared.language.plans.ClientPlan.{ClientPlan}
use Rattle.script_text.specs.Whole.{script_of}
use Rattle.stack_run.specs.Generated.{generated_text, generated_disk}
use Rattle.stack_run.specs.declared.refusal.Refusal.TheVariants.{Memory}
use Rattle.stack_run.specs.Program.{refusal_text, WritesLine}
use Rattle.stack_run.specs.Clients.{unprobed}
use Rattle.stack_run.specs.Runs.{RanPlain}
use Rattle.stack_run.specs.Summary.{summary_text}

abbrev pub IsOneDisk : List DiskPlan → Type 0
IsOneDisk plans = (clients : List ClientPlan) × (plans ≡ generated_disk clients ∷ [])

-- a disk of so many blocks of 512 bytes, all zero, as it begins
unfoldable pub zero_setup : ℕ → Setup
zero_setup blocks = record {
  geometry = record { size = 512; per = 1 };
  cached = false;
  protected = false;
  media = record { blocks = blocks; first = Some (replicate (blocks * 512) 0) } ∷ [];
}

-- the image has 1,048,576 bytes
unfoldable pub image_setup : Setup
image_setup = zero_setup 2048

-- the plain run of a disk's lines, in which no command failed, and the image behind it
pub record RanFaultless (plan : DiskPlan) (S : Setup) (H : List Entry) (image : List ℕ) : Type 0 where
  pub given : List (Option (List ℕ))
  pub ran : RanPlain plan S unprobed H given
  pub faultless : faults H ≡ 0
  pub left : contents S 1 H ≡ Some image

-- its summary, of which this holds
pub record IsSumOf (plan : DiskPlan) (S : Setup) (P : List ℕ → Type 0) : Type 0 where
  pub history : List Entry
  pub image : List ℕ
  pub ran : RanFaultless plan S history image
  pub holds : P (summary_text S history (crc32_of image))

-- the script that a number makes says one disk, whose lines ran plainly over the image of zeros, and of the summary this holds
pub record IsSummed (number clients lines : ℕ) (P : List ℕ → Type 0) : Type 0 where
  pub plan : DiskPlan
  pub script : script_of (generated_text number clients lines) ≡ Ok (plan ∷ [])
  pub sum : IsSumOf plan image_setup P

-- the sink failed in the summary
pub record SummaryCut (number clients lines : ℕ) (out out' : Outlet) : Type 0 where
  pub summed : IsSummed number clients lines (AppendsFront out.wrote out'.wrote)
  pub cause : Rose out.faults out'.faults

-- what `gen` answers and writes: the summary; where the sink failed a front of it; for want of memory its line
pub record Generates (number clients lines status : ℕ) (out out' : Outlet) : Type 0 where
  pub done : status ≡ 0 → IsSummed number clients lines (Appends out.wrote out'.wrote)
  pub sink : status ≡ 5 → SummaryCut number clients lines out out'
  pub memory : status ≡ 6 → WritesLine (refusal_text Memory []) out out'
  pub few : (status ≡ 0) ⊎ ((status ≡ 5) ⊎ (status ≡ 6))
