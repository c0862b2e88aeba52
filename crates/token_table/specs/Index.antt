-- How the records lie in a slab, with an index from number to key.
use Rattle.std.specs.Prelude.{◌≡◌, ℕ, ◌<◌, map, Option, None, Some}
use Rattle.std.specs.List.{range_with_len}
use Rattle.std.specs.Ordering.{nat_cmp}
use Rattle.std.specs.BTreeMap.{BTreeMap, get as key_at, IsOrdered}
use Rattle.slab.specs.Slab.{Slab, get}
use Rattle.token_table.specs.declared.record.Record.{Record}
use Rattle.token_table.specs.Records.{Records, IsShown}

-- what the slab has under this key
abbrev pub slot_under : Slab Record → Option ℕ → Option Record
slot_under slab None = None
slot_under slab (Some key) = get slab key

-- what it has for this number
unfoldable pub slot_of : BTreeMap ℕ ℕ → Slab Record → ℕ → Option Record
slot_of index slab n = slot_under slab (key_at nat_cmp index n)

-- the records of the numbers that were given
unfoldable pub records_of : BTreeMap ℕ ℕ → Slab Record → ℕ → Records
records_of index slab given = map (slot_of index slab) (range_with_len 0 given)

-- each number in the index was given and has a record, of its own; each record's event shows its mark
pub record IsIndexed (index : BTreeMap ℕ ℕ) (slab : Slab Record) (given : ℕ) : Type 0 where
  pub ordered : IsOrdered nat_cmp index
  pub below : (n key : ℕ) → key_at nat_cmp index n ≡ Some key → n < given
  pub stored : (n key : ℕ) → key_at nat_cmp index n ≡ Some key → (r : Record) × (get slab key ≡ Some r)
  pub apart : (m n key : ℕ) → key_at nat_cmp index m ≡ Some key → key_at nat_cmp index n ≡ Some key → m ≡ n
  pub shown : (key : ℕ) (r : Record) → get slab key ≡ Some r → IsShown r
