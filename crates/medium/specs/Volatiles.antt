-- The medium inside one with a volatile cache, and the blocks that it has saved.
use Rattle.std.specs.Prelude.{ℕ, List, Option}
use Rattle.medium.specs.BlockMap.{held_block}
use Rattle.medium.specs.declared.volatile.Volatile.{Volatile}

abbrev pub inside_of : {M : Type 0} {g : _} → Volatile M g → M
inside_of medium = medium.inner

-- the blocks that were saved since the last sync, as they then were
abbrev pub saved_blocks : {M : Type 0} {g : _} → Volatile M g → ℕ → Option (List ℕ)
saved_blocks medium = held_block medium.saved
