-- Places of blocks.
use Rattle.std.specs.Prelude.{Bool, false, ℕ, List, Option, None, Some, if◌then◌else◌}
use Rattle.medium.specs.declared.place.Place.{Place}

-- whether there is a place, and it is filled
abbrev pub is_filled : Option Place → Bool
is_filled None = false
is_filled (Some place) = place.filled

-- the block in a place that is filled
abbrev pub filled_block : Option Place → Option (List ℕ)
filled_block None = None
filled_block (Some place) = if place.filled then Some place.bytes.items else None
