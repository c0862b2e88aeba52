-- The units of a range tile it.
use Rattle.std.proofs.Common.{◌≡◌, ℕ, zero, suc, ◌+◌, ◌-◌, ◌*◌, ◌/◌, ◌<◌, ◌≤◌, min, List, [], ◌∷◌, ◌++◌, arith, refl, ap, sym, subst, inl, inr}
use Rattle.std.proofs.Math.Nat.{add-mul}
use Rattle.std.proofs.lemmas.Bool.{cases_lt, lt-ltb, le-ltb}
use Rattle.disk_split.specs.declared.span.Span.{Span}
use Rattle.disk_split.specs.declared.geometry.Geometry.{Geometry}
use Rattle.disk_split.specs.Units.{IsGeometry, up, whole_of, whole_end, middle, group_size, first_whole, whole_blocks, whole_runs, part_in, runs_from, units_of, Tile}
use Rattle.disk_split.proofs.Rounding.{up-reaches, whole_of-none, whole_end-within, wider, group-some, first-whole-bytes, whole-bytes}

-- tilings one behind the other
pub tile-append : (a m z : ℕ) (us vs : List Span) → Tile a m us → Tile m z vs → Tile a z (us ++ vs)
unfolding Tile
tile-append a m z [] vs e tail = rw e tail
tile-append a m z (u ∷ rest) vs (low, some, more) tail = (low, some, tile-append u.high m z rest vs more tail)

tile-at : (a b z y : ℕ) (us : List Span) → a ≡ b → z ≡ y → Tile a z us → Tile b y us
tile-at a b z y us begins ends tiled = rw (← begins, ← ends) tiled

-- a part is the whole of its range
pub tile-part : (G : Geometry) (a m : ℕ) → a ≤ m → Tile a m (part_in G a m)
unfolding Tile
tile-part G a m h = elim (cases_lt a m) [
  | inl less ↦ rw (lt-ltb a m less) (refl, less, refl)
  | inr same ↦ rw (le-ltb a m same) (omega arith)
]

-- the runs from number i on are the whole blocks that are left
pub tile-runs : (size first whole n i : ℕ) → 0 < size → whole ≤ 64 * (i + n) → 64 * (i + n) < whole + 64
    → Tile ((first + min whole (64 * i)) * size) ((first + whole) * size) (runs_from size first whole n i)
unfolding Tile runs_from
tile-runs size first whole zero i some reach tight = ap (λ n. (first + n) * size) (omega arith)
tile-runs size first whole (suc n) i some reach tight =
    let count : ℕ = min 64 (whole - 64 * i) in
    let begins : min whole (64 * i) ≡ 64 * i = omega arith in
    let next : first + min whole (64 * (i + 1)) ≡ first + 64 * i + count = omega arith in
    let From : ℕ → Type 0 = λ b. Tile (b * size) ((first + whole) * size) (runs_from size first whole n (i + 1)) in (
      ap (λ n. (first + n) * size) (sym begins),
      wider size (first + 64 * i) count some (omega arith),
      subst From next (tile-runs size first whole n (i + 1) some (omega arith) (omega arith)),
    )

-- the runs of a range tile its whole groups
pub tile-whole : (G : Geometry) (a z : ℕ) → IsGeometry G → Tile (middle (group_size G) a z) (whole_end (group_size G) a z) (whole_runs G a z)
unfolding Tile runs_from
tile-whole G a z is = elim (cases_lt z (up (group_size G) a * group_size G)) [
  | inl short ↦ let none : 0 * G.per ≡ 0 = omega arith in rw (whole_of-none (group_size G) a z (group-some G is) short, none) (omega arith)
  | inr long ↦
      let first : (first_whole G a + min (whole_blocks G a z) (64 * 0)) * G.size ≡ first_whole G a * G.size = ap (λ n. n * G.size) (omega arith) in
      tile-at _ _ _ _ _ (omega (arith, first-whole-bytes G a)) (omega (arith, whole-bytes G a z, add-mul (up (group_size G) a) (whole_of (group_size G) a z) (group_size G)))
      (tile-runs G.size (first_whole G a) (whole_blocks G a z) ((whole_blocks G a z + 63) / 64) 0 (omega (arith, is.size_some)) (omega arith) (omega arith))
]

-- the units of a range lie in it in order, leave none of its bytes out and have none twice
pub tile-units : (G : Geometry) (a z : ℕ) → IsGeometry G → a ≤ z → Tile a z (units_of G a z)
unfolding units_of
tile-units G a z is order =
    let some : 0 < group_size G = group-some G is in
    tile-append a (middle (group_size G) a z) z _ _
    (tile-part G a (middle (group_size G) a z) (omega (arith, up-reaches (group_size G) a some)))
    (tile-append (middle (group_size G) a z) (whole_end (group_size G) a z) z _ _ (tile-whole G a z is) (tile-part G (whole_end (group_size G) a z) z (whole_end-within (group_size G) a z some)))
