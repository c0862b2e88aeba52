-- The blocks that a block map holds.
use Rattle.std.specs.Prelude.{ℕ, ◌-◌, List, length, slice_get, IsSome, Option}
use Rattle.std.proofs.Math.Bool.{Bool-set}
use Rattle.std.specs.BTreeMap.{get}
use Rattle.std.specs.Ordering.{nat_cmp}
use Rattle.medium.specs.Places.{filled_block}
use Rattle.medium.specs.declared.block_map.BlockMap.{BlockMap}

-- the block with this number, where the map holds it
abbrev pub held_block : BlockMap → ℕ → Option (List ℕ)
held_block m b = filled_block (get nat_cmp m.places b)

-- the map has a place for this block
abbrev pub HasPlaceFor : BlockMap → ℕ → Type 0
HasPlaceFor m b = IsSome (get nat_cmp m.places b)

-- how many blocks it holds
abbrev pub held_count : BlockMap → ℕ
held_count m = length m.filled.items

-- the block that came last
abbrev pub last_of : BlockMap → Option ℕ
last_of m = slice_get m.filled.items (length m.filled.items - 1)

-- a place is there in one way
pub has_place-once : (m : BlockMap) (b : ℕ) → IsProp (HasPlaceFor m b)
has_place-once m b = Bool-set _ _
