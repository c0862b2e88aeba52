-- The setup of a disk: what holds of it before its history begins (own profile).
use Rattle.std.specs.Prelude.{◌≡◌, ℕ, zero, suc, ◌%◌, Bool, List, slice_get, Option, None, Some}
use Rattle.disk_split.specs.declared.geometry.Geometry.{Geometry}
use Rattle.disk_split.specs.Units.{IsGeometry}

-- one medium: its blocks, and the bytes that it has at the beginning, where it tells them
pub record Opening : Type 0 where
  pub blocks : ℕ
  pub first : Option (List ℕ)

-- the blocks and groups of all media; whether writes are cached; whether writing is forbidden at the beginning; the
-- medium with id k is the k-th of the list, from 1
pub record Setup : Type 0 where
  pub geometry : Geometry
  pub cached : Bool
  pub protected : Bool
  pub media : List Opening

-- bytes of a block
abbrev pub size_of : Setup → ℕ
size_of S = S.geometry.size

-- blocks of a group
abbrev pub per_of : Setup → ℕ
per_of S = S.geometry.per

-- the id 0 names no medium
abbrev pub opening_of : Setup → ℕ → Option Opening
opening_of S zero = None
opening_of S (suc k) = slice_get S.media k

abbrev pub opening_blocks : Option Opening → ℕ
opening_blocks None = 0
opening_blocks (Some o) = o.blocks

abbrev pub opening_bytes : Option Opening → Option (List ℕ)
opening_bytes None = None
opening_bytes (Some o) = o.first

-- how many blocks medium k has
abbrev pub blocks_of : Setup → ℕ → ℕ
blocks_of S k = opening_blocks (opening_of S k)

-- the opening bytes of medium k
abbrev pub first_of : Setup → ℕ → Option (List ℕ)
first_of S k = opening_bytes (opening_of S k)

-- a setup that a disk may have: the groups of each medium are whole
pub record IsSetup (S : Setup) : Type 0 where
  pub geometry : IsGeometry S.geometry
  pub grouped : (k : ℕ) → blocks_of S k % per_of S ≡ 0
