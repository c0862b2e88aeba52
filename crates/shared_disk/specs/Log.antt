-- The log of a shared disk (own profile): what happened, in items. It stands newest item first. An entry of the history is one item; a line done
-- is another, right after the entry that it gave, if it gave one.
use Rattle.std.specs.Prelude.{◌≡◌, ℕ, suc, nat_eq, if◌then◌else◌, List, [], ◌∷◌, ◌++◌}
use Rattle.history.specs.declared.entry.Entry.{Entry}
use Rattle.shared_disk.specs.declared.log_rule.Item.{Item}
use Rattle.shared_disk.specs.declared.log_rule.Item.TheVariants.{Happened, LineOf}

-- the entries in it
unfoldable pub logged_entries : List Item → List Entry
logged_entries [] = []
logged_entries (Happened e ∷ log) = e ∷ logged_entries log
logged_entries (LineOf k ∷ log) = logged_entries log

-- how many lines the client with tag k has done
unfoldable pub line_count_of : ℕ → List Item → ℕ
line_count_of k [] = 0
line_count_of k (Happened e ∷ log) = line_count_of k log
line_count_of k (LineOf j ∷ log) = if nat_eq j k then suc (line_count_of k log) else line_count_of k log

-- the older log is a beginning of the other
pub record IsOld (old log : List Item) : Type 0 where
  pub more : List Item
  pub is : log ≡ more ++ old
