-- Bytes as blocks of one size, and blocks that stand in place of others (own profile).
use Rattle.std.specs.Prelude.{◌≡◌, ℕ, zero, suc, ◌+◌, ◌-◌, ◌*◌, ◌<◌, ◌≤◌, List, [], ◌++◌, take, drop, unwrap_or, Option, Some}

-- a block of the bytes
abbrev pub block_in : ℕ → List ℕ → ℕ → List ℕ
block_in size bytes b = take size (drop (b * size) bytes)

-- the first n blocks, one after another
unfoldable pub first_blocks : (ℕ → List ℕ) → ℕ → List ℕ
first_blocks block zero = []
first_blocks block (suc n) = first_blocks block n ++ block n

-- the block that stands in place of a block of the bytes, or else that one
abbrev pub block_over : (ℕ → Option (List ℕ)) → ℕ → List ℕ → ℕ → List ℕ
block_over held size bytes b = unwrap_or (held b) (block_in size bytes b)

-- n blocks of bytes, with other blocks in place of some
abbrev pub overlay : (ℕ → Option (List ℕ)) → ℕ → ℕ → List ℕ → List ℕ
overlay held size n bytes = first_blocks (block_over held size bytes) n

-- so many blocks from this one on are now held, and are those of the piece
pub record AreHeldFrom (held other : ℕ → Option (List ℕ)) (block count size : ℕ) (piece : List ℕ) : Type 0 where
  pub before : (b : ℕ) → b < block → other b ≡ held b
  pub within : (b : ℕ) → block ≤ b → b < block + count → other b ≡ Some (block_in size piece (b - block))
  pub behind : (b : ℕ) → block + count ≤ b → other b ≡ held b
