-- Ranges of bytes, and the units into which a range is cut (UEFI 2.10, 13.7; groups and the cut into runs: own profile).
-- A range [a, z) has the bytes from a on and before z. The first words speak of blocks of any size: of a disk's blocks, or of its groups.
use Rattle.std.specs.Prelude.{◌≡◌, ℕ, zero, suc, ◌+◌, ◌-◌, ◌*◌, ◌/◌, ◌<◌, ◌≤◌, min, max, ◌⊎◌, Bool, true, false, nat_lt, if◌then◌else◌, List, [], ◌∷◌, ◌++◌}
use Rattle.disk_split.specs.declared.geometry.Geometry.{Geometry}
use Rattle.disk_split.specs.declared.span.Span.{Span}

-- the least block that begins at this byte or after it
abbrev pub up : ℕ → ℕ → ℕ
up size at = (at + size - 1) / size

-- how many whole blocks the range has
abbrev pub whole_of : ℕ → ℕ → ℕ → ℕ
whole_of size a z = z / size - up size a

-- a part: a block of which the range has some of its bytes and not all
pub record IsPart (size a z block : ℕ) : Type 0 where
  pub some : max a (block * size) < min z (block * size + size)
  pub cut : (block * size < a) ⊎ (z < block * size + size)

-- a whole block: the range has all of its bytes
pub record IsWhole (size a z block : ℕ) : Type 0 where
  pub begins : a ≤ block * size
  pub ends : block * size + size ≤ z

-- the blocks and groups that a disk may have (own profile)
pub record IsGeometry (G : Geometry) : Type 0 where
  pub size_some : 512 ≤ G.size
  pub size_most : G.size ≤ 4096
  pub per_some : 1 ≤ G.per
  pub per_most : G.per ≤ 8

-- the bytes of a group
abbrev pub group_size : Geometry → ℕ
group_size G = G.size * G.per

-- the first block of the group of this block
abbrev pub group_start : Geometry → ℕ → ℕ
group_start G block = block / G.per * G.per

-- the first block of the whole groups of a range that begins at this byte
abbrev pub first_whole : Geometry → ℕ → ℕ
first_whole G a = up (group_size G) a * G.per

-- how many blocks the whole groups of the range have
abbrev pub whole_blocks : Geometry → ℕ → ℕ → ℕ
whole_blocks G a z = whole_of (group_size G) a z * G.per

-- a part of the range is a group of which it has some bytes and not all; its block is the first one of the group
pub record IsGroupPart (G : Geometry) (a z block : ℕ) : Type 0 where
  pub number : ℕ
  pub begins : block ≡ number * G.per
  pub part : IsPart (group_size G) a z number

-- the blocks of the whole groups in order are cut into runs of 64 from the first, and the last run has the rest
pub record IsRun (G : Geometry) (a z block count : ℕ) : Type 0 where
  pub number : ℕ
  pub begins : block ≡ first_whole G a + 64 * number
  pub some : block < z / group_size G * G.per
  pub counted : count ≡ min 64 (z / group_size G * G.per - block)

abbrev pub IsKind : Geometry → ℕ → ℕ → Bool → ℕ → ℕ → Type 0
IsKind G a z false block count = IsGroupPart G a z block × (count ≡ G.per)
IsKind G a z true block count = IsRun G a z block count

-- a unit of the range: a part or a run, with the bytes of the range in its blocks
pub record IsUnit (G : Geometry) (a z : ℕ) (u : Span) : Type 0 where
  pub low : u.low ≡ max a (u.block * G.size)
  pub high : u.high ≡ min z ((u.block + u.count) * G.size)
  pub some : u.low < u.high
  pub kind : IsKind G a z u.whole u.block u.count

-- the bytes of the range [a, m) of one group, where there are any
abbrev pub part_in : Geometry → ℕ → ℕ → List Span
part_in G a m =
    if nat_lt a m
    then record { whole = false; block = a / group_size G * G.per; count = G.per; low = a; high = m } ∷ []
    else []

-- run number i of so many whole blocks, the first of which is this block
abbrev pub run_at : ℕ → ℕ → ℕ → ℕ → Span
run_at size first whole i =
    let count = min 64 (whole - 64 * i) in
    record { whole = true; block = first + 64 * i; count = count; low = (first + 64 * i) * size; high = (first + 64 * i + count) * size }

-- so many runs, from number i on
unfoldable pub runs_from : ℕ → ℕ → ℕ → ℕ → ℕ → List Span
runs_from size first whole zero i = []
runs_from size first whole (suc n) i = run_at size first whole i ∷ runs_from size first whole n (i + 1)

-- where the first part of the range ends, of blocks of this size
abbrev pub middle : ℕ → ℕ → ℕ → ℕ
middle size a z = min z (up size a * size)

-- where the whole blocks of the range end
abbrev pub whole_end : ℕ → ℕ → ℕ → ℕ
whole_end size a z = middle size a z + whole_of size a z * size

-- the runs of the whole groups of the range
abbrev pub whole_runs : Geometry → ℕ → ℕ → List Span
whole_runs G a z = runs_from G.size (first_whole G a) (whole_blocks G a z) ((whole_blocks G a z + 63) / 64) 0

-- the units of the range in order: the part before its whole groups, their runs, and the part behind them
unfoldable pub units_of : Geometry → ℕ → ℕ → List Span
units_of G a z =
    part_in G a (middle (group_size G) a z)
    ++ (whole_runs G a z
    ++ part_in G (whole_end (group_size G) a z) z)

-- spans in order that leave no byte of [a, z) out and have none twice
unfoldable pub Tile : ℕ → ℕ → List Span → Type 0
Tile a z [] = a ≡ z
Tile a z (u ∷ rest) = (u.low ≡ a) × (u.low < u.high) × Tile u.high z rest

-- each of these spans is a unit of the range
unfoldable pub AreUnits : Geometry → ℕ → ℕ → List Span → Type 0
AreUnits G a z [] = Unit {0}
AreUnits G a z (u ∷ rest) = IsUnit G a z u × AreUnits G a z rest
