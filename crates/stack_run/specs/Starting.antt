-- How a disk stands before its first line: it was probed where a client of it is on a partition (own profile).
use Rattle.std.specs.Prelude.{◌≡◌, ℕ, ◌+◌, ◌<◌, List, [], length, Option, None, Some, IsSome}
use Rattle.std.specs.List.{AllByRecursion}
use Rattle.efi_status.specs.declared.Status.TheVariants.{Success}
use Rattle.history.specs.declared.entry.Entry.{Entry}
use Rattle.history.specs.Setup.{Setup, size_of, first_of}
use Rattle.history.specs.Tokens.{token_count}
use Rattle.history.specs.Marks.{mark_of}
use Rattle.history.specs.Room.{faults}
use Rattle.disk_core.specs.State.{State}
use Rattle.partition_tables.specs.declared.table.Table.{Table}
use Rattle.partition_tables.specs.Table.{table_of}
use Rattle.partition_children.specs.Entries.{after_reads}
use Rattle.partition_children.specs.Reads.{probe_reads}
use Rattle.partition_children.specs.Probing.{IsQuiet}
use Rattle.shared_disk.specs.Script.{IsOpening}
use Rattle.script_text.specs.declared.language.plans.DiskPlan.{DiskPlan}
use Rattle.stack_run.specs.Parts.{children_of, first_missing}
use Rattle.stack_run.specs.Clients.{Start}

-- the line of the first client of a disk that is on a partition
abbrev pub part_line : DiskPlan → Option ℕ
part_line plan = first_missing plan.size [] plan.clients

-- each client of these disks is on the whole of its disk
unfoldable pub AreWhole : List DiskPlan → Type 0
AreWhole plans = AllByRecursion (λ plan. part_line plan ≡ None) plans

-- no command failed; where the first medium tells its bytes, the table is theirs and the entries are those of the probe
pub record WasProbed (S : Setup) (table : Table) (entries : List Entry) : Type 0 where
  pub quiet : faults entries ≡ 0
  pub told : (bytes : List ℕ) → first_of S 1 ≡ Some bytes → (table ≡ table_of bytes (size_of S)) × (entries ≡ after_reads S 1 [] (probe_reads bytes (size_of S)))

-- a disk without a table has done nothing
abbrev pub Begins : DiskPlan → Setup → Option Table → List Entry → Type 0
Begins plan S None entries = entries ≡ []
Begins plan S (Some table) entries = IsSome (part_line plan) × WasProbed S table entries

-- and each client's part is a child of the table
pub record IsStart (plan : DiskPlan) (S : Setup) (start : Start) : Type 0 where
  pub begins : Begins plan S start.found start.entries
  pub parts : first_missing plan.size (children_of start.found) plan.clients ≡ None

abbrev pub start_of : State → Option Table → Start
start_of s table = record { found = table; entries = s.entries }

-- a disk that is ready for its lines: the requests of its probe are over
pub record IsReady (plan : DiskPlan) (s : State) (table : Option Table) : Type 0 where
  pub start : IsStart plan s.setup (start_of s table)
  pub quiet : IsQuiet s
  pub opens : IsOpening s.entries
  pub ended : (t : ℕ) → t < token_count s.entries → mark_of s.setup s.entries t ≡ Some Success
  pub count : length s.setup.media ≡ length plan.spares + 1
