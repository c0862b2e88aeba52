-- What a probe leaves of a disk: its reads are made one after the other, each is collected before the next, and no byte changes (UEFI 2.10,
-- 13.7; own profile). Histories stand newest entry first.
use Rattle.std.specs.Prelude.{◌≡◌, ℕ, ◌+◌, ◌*◌, ◌^◌, ◌<◌, ◌≤◌, ◌==◌, if◌then◌else◌, true, IfOk, IfErr, List, [], ◌∷◌, ◌++◌, length, map, reverse, None, Some, Result, Ok, Err}
use Rattle.std.specs.List.{AllByRecursion}
use Rattle.efi_status.specs.declared.Status.TheVariants.{Success}
use Rattle.medium.specs.Device.{AreToldAt, IsBlockSize}
use Rattle.disk_split.specs.declared.span.Span.{Span}
use Rattle.disk_split.specs.Units.{units_of}
use Rattle.history.specs.declared.entry.Command.TheVariants.{Get}
use Rattle.history.specs.declared.entry.Entry.{Entry}
use Rattle.history.specs.declared.entry.Entry.TheVariants.{Accept, Refuse, Done, Fault, Collect, Cancel, Reset, Eject, Insert, Protect}
use Rattle.history.specs.Setup.{Setup, size_of, blocks_of}
use Rattle.history.specs.Eras.{media_id_of, is_present}
use Rattle.history.specs.Tokens.{token_count, was_collected}
use Rattle.history.specs.Contents.{contents, kept_contents}
use Rattle.history.specs.Marks.{mark_of}
use Rattle.history.specs.Next.{first_open}
use Rattle.history.specs.Room.{faults}
use Rattle.partition_tables.specs.declared.table.Table.{Table}
use Rattle.partition_tables.specs.Table.{table_of}
use Rattle.partition_children.specs.Reads.{probe_reads}
use Rattle.disk_core.specs.State.{State}
use Rattle.disk_core.specs.Turns.{IsIdle}
use Rattle.disk_io2.specs.Views.{whole_view}
use Rattle.partition_children.specs.declared.reading.ReadFault.{ReadFault}
use Rattle.partition_children.specs.declared.reading.Target.{Target}
use Rattle.partition_children.specs.declared.good_header.GoodHeader.{GoodHeader}
use Rattle.gpt_headers.specs.Fields.{HeaderFields}
use Rattle.partition_children.specs.declared.reading.ReadFault.TheVariants.{Device, Memory}
use Rattle.partition_children.specs.declared.probing.ProbeFault.{ProbeFault}
use Rattle.partition_children.specs.declared.probing.ProbeFault.TheVariants as ends
use Rattle.partition_children.specs.Entries.{after_read, after_reads, get_of, read_asked}

-- no token is outstanding, no gate is held, and no work is out
pub record IsQuiet (s : State) : Type 0 where
  pub idle : IsIdle s.gates
  pub drained : first_open s.setup s.entries ≡ None

-- the medium that is in, whose bytes are read
pub record IsIn (s : State) (k : ℕ) : Type 0 where
  pub present : is_present s.entries ≡ true
  pub named : media_id_of s.entries ≡ k

-- an entry of no client: a request or a collect with tag 0, or a command
abbrev pub IsUntagged : Entry → Type 0
IsUntagged (Accept tag view asked bytes) = tag ≡ 0
IsUntagged (Refuse tag view asked media_id status) = ⊥
IsUntagged (Done t c) = Unit {0}
IsUntagged (Fault t c done) = Unit {0}
IsUntagged (Collect tag t) = tag ≡ 0
IsUntagged (Cancel tag view) = ⊥
IsUntagged (Reset tag) = ⊥
IsUntagged (Eject tag) = ⊥
IsUntagged (Insert tag media_id) = ⊥
IsUntagged (Protect tag on) = ⊥

abbrev pub AreUntagged : List Entry → Type 0
AreUntagged entries = AllByRecursion IsUntagged entries

-- Entries of no client were added, and every other thing stays: the setup, which medium is in, its bytes and those that are kept. Each new
-- token was handed back, with success where no command failed, and so many commands failed.
pub record AddsEntriesAlone (old : State) (failed : ℕ) (new : State) : Type 0 where
  pub setup : new.setup ≡ old.setup
  pub more : List Entry
  pub entries : new.entries ≡ more ++ old.entries
  pub quiet : IsQuiet new
  pub media_id : media_id_of new.entries ≡ media_id_of old.entries
  pub present : is_present new.entries ≡ is_present old.entries
  pub bytes : (k : ℕ) → contents old.setup k new.entries ≡ contents old.setup k old.entries
  pub kept : (k : ℕ) → kept_contents old.setup k new.entries ≡ kept_contents old.setup k old.entries
  pub collected : (t : ℕ) → token_count old.entries ≤ t → t < token_count new.entries → was_collected new.entries t ≡ true
  pub failures : faults new.entries ≡ faults old.entries + failed
  pub untagged : AreUntagged more
  pub succeeded : failed ≡ 0 → (t : ℕ) → token_count old.entries ≤ t → t < token_count new.entries → mark_of new.setup new.entries t ≡ Some Success

-- a read that succeeded: its entries, and its bytes, which are those of the medium
pub record Reads (old : State) (k : ℕ) (read : ℕ × ℕ) (bytes : List ℕ) (new : State) : Type 0 where
  pub entries : new.entries ≡ after_read old.setup k old.entries read
  pub long : length bytes ≡ read.1
  pub told : AreToldAt (contents old.setup k old.entries) read.0 bytes

-- a read of which the first units were got, and the next one failed: what it leaves of a history
pub record FailsToRead (S : Setup) (k : ℕ) (H : List Entry) (read : ℕ × ℕ) (all : List Entry) : Type 0 where
  pub got : List Span
  pub failed : Span
  pub rest : List Span
  pub units : units_of S.geometry read.0 (read.0 + read.1) ≡ got ++ failed ∷ rest
  pub entries : all ≡ Collect 0 (token_count H) ∷ Fault (token_count H) (Get failed.block failed.count) 0
      ∷ (reverse (map (get_of (token_count H)) got) ++ Accept 0 (whole_view S k) (read_asked read) [] ∷ H)

-- a read that did not succeed: the device failed, or memory ran out and nothing has changed
unfoldable pub EndsRead : State → ℕ → ℕ × ℕ → ReadFault → State → Type 0
EndsRead old k read Device new = FailsToRead old.setup k old.entries read new.entries
EndsRead old k read Memory new = new ≡ old

-- how many commands fail where a call answers so
abbrev pub read_failures : {X : Type 0} → Result X ReadFault → ℕ
read_failures (Ok x) = 0
read_failures (Err Device) = 1
read_failures (Err Memory) = 0

-- the same of a probe
abbrev pub probe_failures : Result Table ProbeFault → ℕ
probe_failures (Ok table) = 0
probe_failures (Err ends.NoMedia) = 0
probe_failures (Err ends.Device) = 1
probe_failures (Err ends.Memory) = 0

-- these reads were made one after the other, and nothing else
abbrev pub AreReadsMade : State → ℕ → List (ℕ × ℕ) → State → Type 0
AreReadsMade old k reads new = new.entries ≡ after_reads old.setup k old.entries reads

-- the first of these reads were made, and the next one failed
pub record BreaksOff (old : State) (k : ℕ) (reads : List (ℕ × ℕ)) (new : State) : Type 0 where
  pub made : List (ℕ × ℕ)
  pub failed : ℕ × ℕ
  pub left : List (ℕ × ℕ)
  pub in_order : reads ≡ made ++ failed ∷ left
  pub fails : FailsToRead old.setup k (after_reads old.setup k old.entries made) failed new.entries

-- the first of these reads were made, none or all of them perhaps, and nothing else
pub record ProbeStopsAfter (old : State) (k : ℕ) (reads : List (ℕ × ℕ)) (new : State) : Type 0 where
  pub made : List (ℕ × ℕ)
  pub left : List (ℕ × ℕ)
  pub in_order : reads ≡ made ++ left
  pub stops : AreReadsMade old k made new

-- a stage with these reads that did not succeed
unfoldable pub EndsReads : State → ℕ → List (ℕ × ℕ) → ReadFault → State → Type 0
EndsReads old k reads Device new = BreaksOff old k reads new
EndsReads old k reads Memory new = ProbeStopsAfter old k reads new

-- the medium that is probed: it is in, and these are its view, its blocks and their size
pub record IsTargetOf (s : State) (target : Target) : Type 0 where
  pub is_in : IsIn s target.view.media_id
  pub whole : target.view ≡ whole_view s.setup target.view.media_id
  pub size : target.size ≡ size_of s.setup
  pub blocks : target.blocks ≡ blocks_of s.setup target.view.media_id
  pub sized : IsBlockSize target.size
  pub some : 0 < target.blocks
  pub fits : target.blocks * target.size < 2 ^ 64
  pub long : (bytes : List ℕ) → contents s.setup target.view.media_id s.entries ≡ Some bytes → length bytes ≡ target.blocks * target.size

-- where the medium tells its bytes, this stage of a probe makes these reads and gives this
abbrev pub Finds : {X : Type 0} → State → Target → (List ℕ → List (ℕ × ℕ)) → (List ℕ → X → Type 0) → Result X ReadFault → State → Type 0
Finds old target reads value result new =
    (bytes : List ℕ) → contents old.setup target.view.media_id old.entries ≡ Some bytes
    → IfOk result (λ x. AreReadsMade old target.view.media_id (reads bytes) new × value bytes x)

-- where it does so, a stage with these reads that did not succeed ended in one of them, or wanted memory
abbrev pub ProbeEnds : {X : Type 0} → State → Target → (List ℕ → List (ℕ × ℕ)) → Result X ReadFault → State → Type 0
ProbeEnds old target reads result new =
    (bytes : List ℕ) → contents old.setup target.view.media_id old.entries ≡ Some bytes
    → IfErr result (λ fault. EndsReads old target.view.media_id (reads bytes) fault new)

-- a good header with its array
abbrev pub pair_of : GoodHeader → HeaderFields × List ℕ
pair_of good = (good.header, good.array.items)

-- the bytes of an array; an empty one is not read
abbrev pub part_read : ℕ → ℕ → List (ℕ × ℕ)
part_read at count = if count == 0 then [] else (at, count) ∷ []

-- where the medium that is in tells its bytes, a probe reads what it has to, and answers their table
abbrev pub IsProbeOf : State → Result Table ProbeFault → State → Type 0
IsProbeOf old result new =
    (bytes : List ℕ) → contents old.setup (media_id_of old.entries) old.entries ≡ Some bytes
    → IfOk result (λ table. AreReadsMade old (media_id_of old.entries) (probe_reads bytes (size_of old.setup)) new × (table ≡ table_of bytes (size_of old.setup)))

-- a probe that answers no table: without a medium it does nothing; else it ends in one of its reads, or wants memory
abbrev pub EndsProbe : State → ProbeFault → State → Type 0
EndsProbe old ends.NoMedia new = new ≡ old
EndsProbe old ends.Device new =
    (bytes : List ℕ) → contents old.setup (media_id_of old.entries) old.entries ≡ Some bytes
    → BreaksOff old (media_id_of old.entries) (probe_reads bytes (size_of old.setup)) new
EndsProbe old ends.Memory new =
    (bytes : List ℕ) → contents old.setup (media_id_of old.entries) old.entries ≡ Some bytes
    → ProbeStopsAfter old (media_id_of old.entries) (probe_reads bytes (size_of old.setup)) new
