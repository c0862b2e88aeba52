-- The plate from which a shared disk is made (own profile).
use Rattle.std.specs.Prelude.{◌≡◌, ℕ, suc, ◌+◌, List, [], ◌∷◌, ◌++◌, length, map, replicate, sum_by}
use Rattle.atomic_table.specs.Seated.{TableId}
use Rattle.shared_disk.specs.declared.log_rule.Item.{Item}
use Rattle.shared_disk.specs.declared.log_rule.Item.TheVariants.{Happened, LineOf}
use Rattle.shared_disk.specs.Desk.{DeskState, done_of}
use Rattle.shared_disk.specs.Log.{logged_entries, line_count_of}

-- the table and the log of its pen; which ledger it has, and of how many parts
pub record PlateState : Type 0 where
  pub table : TableId
  pub log : List Item
  pub ledger : ℕ
  pub parts : ℕ

-- the lines done of the clients from this tag on, by their places
unfoldable pub lines_from : ℕ → List (List ℕ) → List Item
lines_from tag [] = []
lines_from tag (places ∷ rest) = lines_from (suc tag) rest ++ replicate (length places) (LineOf tag)

-- the log of a desk: its entries came first, and then the lines done of each client in order
abbrev pub log_of : DeskState → List Item
log_of s = lines_from 1 s.places ++ map Happened s.disk.entries

-- a log as long as it has to be, of this history, with the lines that each client has done
pub record IsLogOf (s : DeskState) (log : List Item) : Type 0 where
  pub entries : logged_entries log ≡ s.disk.entries
  pub lines : (i : ℕ) → line_count_of (i + 1) log ≡ done_of s i
  pub long : length log ≡ sum_by length s.places + length s.disk.entries
