-- What clients see of a shared disk: their seats, and what one hold of its lock tells (own profile).
use Rattle.std.specs.Prelude.{◌≡◌, ℕ, zero, suc, ◌+◌, List, [], ◌∷◌, ◌++◌, length, slice_get, Option, None, Some, IsSome, Result, Ok, Err}
use Rattle.history.specs.declared.entry.Entry.{Entry}
use Rattle.history.specs.Setup.{Setup}
use Rattle.token_table.specs.declared.record.Done.{Done}
use Rattle.token_table.specs.declared.record.NotThere.{NotThere}
use Rattle.disk_core.specs.declared.answers.Token.{Token}
use Rattle.disk_core.specs.declared.answers.Refused.{Refused}
use Rattle.disk_core.specs.declared.answers.Why.{Why}
use Rattle.disk_core.specs.declared.answers.Why.TheVariants as why
use Rattle.disk_core.specs.State.{State}
use Rattle.disk_core.specs.Facts.{AreFacts}
use Rattle.shared_disk.specs.declared.log_rule.Item.{Item}
use Rattle.shared_disk.specs.declared.log_rule.Item.TheVariants.{Happened, LineOf}
use Rattle.shared_disk.specs.declared.answers.Line.{Line}
use Rattle.shared_disk.specs.declared.answers.Line.TheVariants as line
use Rattle.shared_disk.specs.Script.{Script, next_order, AreOver}
use Rattle.shared_disk.specs.Desk.{DeskState, Keeps, given_at}
use Rattle.shared_disk.specs.Log.{line_count_of, IsOld}
use Rattle.shared_disk.specs.Plate.{IsLogOf}

-- the client's tag, how many entries that are no line's were added through the seat, and what it has seen of the log
pub record SeatState : Type 0 where
  pub client : ℕ
  pub count : ℕ
  pub seen : List Item

-- the desk behind the lock, its log, and how many entries were added that are no line's
pub record LockState : Type 0 where
  pub desk : DeskState
  pub log : List Item
  pub count : ℕ

-- What lies behind the lock of a shared disk with this setup and script: the log is that of the desk, and while no entry was added that is no
-- line's, the desk keeps its script.
pub record IsShared (S : Setup) (d : Script) (s : LockState) : Type 0 where
  pub setup : s.desk.disk.setup ≡ S
  pub script : s.desk.script ≡ d
  pub is_log : IsLogOf s.desk s.log
  pub keeps : s.count ≡ 0 → Keeps s.desk

-- the entry that a call adds, where it adds one
abbrev pub entry_items : Option Entry → List Item
entry_items None = []
entry_items (Some e) = Happened e ∷ []

-- a line was done of the client with this tag, or none
abbrev pub with_line_done : Option ℕ → List Item → List Item
with_line_done None log = log
with_line_done (Some k) log = LineOf k ∷ log

-- the items that a call adds: its entry, and then the line that was done, of the client with this tag
abbrev pub own_items : Option Entry → Option ℕ → List Item
own_items e line = with_line_done line (entry_items e)

-- a desk of a shared disk with this setup and script, with all facts of its disk, and the log that it has
pub record IsDeskAt (S : Setup) (d : Script) (log : List Item) (s : DeskState) : Type 0 where
  pub setup : s.disk.setup ≡ S
  pub script : s.script ≡ d
  pub is_log : IsLogOf s log
  pub facts : AreFacts s.disk

-- One hold of the lock by one who had seen `old` and then has seen `new`: what was seen is a beginning of the log at the hold, the items of
-- others came after it, and those of this call came last. The desk before and after it is that of the log before and after, and the call says
-- of these what it says of every desk.
pub record Sees (S : Setup) (d : Script) (old : List Item) (line : Option ℕ) (new : List Item) (Says : DeskState → DeskState → Type 0) : Type 0 where
  pub log : List Item
  pub older : IsOld old log
  pub entry : Option Entry
  pub own : new ≡ own_items entry line ++ log
  pub before : DeskState
  pub began : IsDeskAt S d log before
  pub after : DeskState
  pub ended : IsDeskAt S d new after
  pub says : Says before after

-- a call of the disk that is no line's: no line is done, and what the desk gives stays
pub record BesideLines (old new : DeskState) (Says : State → State → Type 0) : Type 0 where
  pub says : Says old.disk new.disk
  pub script : new.script ≡ old.script
  pub places : new.places ≡ old.places
  pub given : (t : ℕ) → given_at new.given t ≡ given_at old.given t

-- the tag of a client whose line was done
abbrev pub line_done : ℕ → Line → Option ℕ
line_done k (line.Did token) = Some k
line_done k (line.Collected t) = None
line_done k line.NotYet = None
line_done k line.Ended = None
line_done k line.Memory = None

-- how many lines client i has done in a log
abbrev pub lines_logged : List Item → ℕ → ℕ
lines_logged log i = line_count_of (i + 1) log

-- no client has a line left in it
abbrev pub IsOverBy : Script → List Item → Type 0
IsOverBy d log = AreOver d.roles (lines_logged log)

-- a client has
abbrev pub IsLeftBy : Script → List Item → Type 0
IsLeftBy d log = (i : ℕ) × IsSome (next_order d.roles i (lines_logged log i))

-- a seat for each of so many clients, in order, through which no entry was added and which has seen this log
pub record AreNewSeats (n : ℕ) (log : List Item) (seats : List SeatState) : Type 0 where
  pub count : length seats ≡ n
  pub each : (i : ℕ) (s : SeatState) → slice_get seats i ≡ Some s → s ≡ record { client = i + 1; count = 0; seen = log }

abbrev pub refusal_entries : Why → ℕ
refusal_entries (why.Status status) = 1
refusal_entries why.Memory = 0

-- how many entries these calls add
abbrev pub submit_count : Result Token Refused → ℕ
submit_count (Ok token) = 1
submit_count (Err refused) = refusal_entries refused.why

abbrev pub collect_count : Result Done NotThere → ℕ
collect_count (Ok done) = 1
collect_count (Err fault) = 0

abbrev pub cancel_count : ℕ → ℕ
cancel_count zero = 0
cancel_count (suc n) = 1
