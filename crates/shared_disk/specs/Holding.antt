-- What the calls under the lock of a shared disk make of the desk and its log (own profile).
use Rattle.std.specs.Prelude.{◌≡◌, ℕ, ◌≤◌, List, ◌++◌, length, Option}
use Rattle.history.specs.declared.entry.Entry.{Entry}
use Rattle.disk_core.specs.Facts.{AreFacts}
use Rattle.shared_disk.specs.declared.log_rule.Item.{Item}
use Rattle.shared_disk.specs.Lines.{with_line_entry}
use Rattle.shared_disk.specs.Desk.{DeskState}
use Rattle.shared_disk.specs.Plate.{IsLogOf}
use Rattle.shared_disk.specs.Seats.{LockState, entry_items, own_items}

-- the history has one entry more, or none
abbrev pub Grows : List Entry → List Entry → Type 0
Grows H H' = (e : Option Entry) × (H' ≡ with_line_entry e H)

-- the log has the entry, where there is one
pub record HasLogged (H : List Entry) (log : List Item) (H' : List Entry) (log' : List Item) : Type 0 where
  pub entry : Option Entry
  pub history : H' ≡ with_line_entry entry H
  pub items : log' ≡ entry_items entry ++ log

-- a call on a desk added its items to the log
pub record Logs (old : DeskState) (log : List Item) (line : Option ℕ) (new : DeskState) (log' : List Item) : Type 0 where
  pub entry : Option Entry
  pub own : log' ≡ own_items entry line ++ log
  pub is_log : IsLogOf new log'
  pub setup : new.disk.setup ≡ old.disk.setup
  pub script : new.script ≡ old.script
  pub facts_before : AreFacts old.disk
  pub facts : AreFacts new.disk

-- the book's total is the count behind the lock, which is at most the number of entries; the share that stays there has one part and no amount
pub record IsCounted (sum parts amount : ℕ) (s : LockState) : Type 0 where
  pub total : sum ≡ s.count
  pub one_part : parts ≡ 1
  pub none : amount ≡ 0
  pub few : s.count ≤ length s.desk.disk.entries
