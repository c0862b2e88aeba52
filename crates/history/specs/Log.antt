-- The value of a history (own profile).
use Rattle.std.specs.Prelude.{ℕ, List}
use Rattle.history.specs.declared.entry.Entry.{Entry}

-- the entries from the newest to the oldest, and how many more may be added without taking memory
pub record Log : Type 0 where
  pub entries : List Entry
  pub spare : ℕ
