-- The units of a range as a list that grows at its end, and how many they are.
use Rattle.std.proofs.Common.{◌≡◌, ℕ, zero, suc, ◌+◌, ◌-◌, ◌*◌, ◌/◌, ◌<◌, ◌≤◌, Some, subst, false, true, not, List, [], ◌∷◌, ◌++◌, length, Option, arith, refl, ap, inl, inr, ◌∙◌, append_assoc, length-append}
use Rattle.std.specs.List.{Contains, count_by}
use Rattle.std.proofs.lemmas.Bool.{cases_lt, lt-ltb, le-ltb}
use Rattle.std.proofs.Math.Nat.{le-div_iff_mul-le, lt_of_mul-lt-mul_right, div-mul-le_self}
use Rattle.std.proofs.lemmas.Option.{slice_get-get_or, slice_get_within, get_or_from_slice_get}
use Rattle.std.proofs.lemmas.List.Sums.{sum_by-append}
use Rattle.disk_split.specs.declared.geometry.Geometry.{Geometry}
use Rattle.disk_split.specs.declared.span.Span.{Span}
use Rattle.disk_split.specs.declared.parts.Part.{Part}
use Rattle.disk_split.specs.Parts.{part_of, spans_of}
use Rattle.disk_split.specs.Units.{IsGeometry, up, whole_end, middle, group_size, first_whole, whole_blocks, part_in, run_at, runs_from, units_of, IsKind, IsRun, IsUnit, IsWhole, AreUnits}
use Rattle.disk_split.proofs.Shared.{are-get, unit-listed}
use Rattle.disk_split.proofs.Rounding.{whole-numbers, group-some}

-- one run more stands behind the others
pub runs-more : (size first whole n i : ℕ) → runs_from size first whole n i ++ (run_at size first whole (i + n) ∷ []) ≡ runs_from size first whole (n + 1) i
unfolding runs_from
runs-more size first whole zero i = ap (λ k. run_at size first whole k ∷ []) (omega arith)
runs-more size first whole (suc n) i =
    let longer : suc n + 1 ≡ suc (n + 1) = omega arith in
    let last : i + suc n ≡ i + 1 + n = omega arith in
    rw (longer, last) (ap (λ rest. run_at size first whole i ∷ rest) (runs-more size first whole n (i + 1)))

-- so a loop that appends them in order has them all
pub runs-pushed : (size first whole n : ℕ) (us vs ws : List Span) (u : Span) → vs ≡ us ++ runs_from size first whole n 0
    → u ≡ run_at size first whole n → ws ≡ vs ++ (u ∷ []) → ws ≡ us ++ runs_from size first whole (n + 1) 0
runs-pushed size first whole n us vs ws u before run pushed =
    let next : run_at size first whole n ≡ run_at size first whole (0 + n) = ap (λ k. run_at size first whole k) (omega arith) in
    pushed ∙ (rw (before, run, next, append_assoc) (ap (λ rest. us ++ rest) (runs-more size first whole n 0)))

-- a part as a unit is the bytes between its two ends
pub part-spans : (G : Geometry) (a m : ℕ) → spans_of G (part_of a m) ≡ part_in G a m
part-spans G a m = elim (cases_lt a m) [
  | inl less ↦
      let ends : a + (m - a) ≡ m = omega arith in
      rw (lt-ltb a m less) (ap (λ high. record { whole = false; block = a / group_size G * G.per; count = G.per; low = a; high = high } ∷ []) ends)
  | inr none ↦ rw (le-ltb a m none) refl
]

-- the parts and the runs one behind the other are the units
pub units-pushed : (G : Geometry) (a z first whole : ℕ) (under over : Option Part) (es us vs ws : List Span) → es ≡ [] → first ≡ first_whole G a → whole ≡ whole_blocks G a z
    → under ≡ part_of a (middle (group_size G) a z) → over ≡ part_of (whole_end (group_size G) a z) z → us ≡ es ++ spans_of G under
    → vs ≡ us ++ runs_from G.size first whole ((whole + 63) / 64) 0 → ws ≡ vs ++ spans_of G over → ws ≡ units_of G a z
unfolding units_of
units-pushed G a z first whole under over es us vs ws none begins count low high before runs behind =
    behind ∙ rw (runs, before, none, low, high, begins, count, part-spans G a (middle (group_size G) a z), part-spans G (whole_end (group_size G) a z) z, append_assoc) refl

length-part : (G : Geometry) (a m : ℕ) → length (part_in G a m) ≤ 1
length-part G a m = elim (cases_lt a m) [ inl less ↦ rw (lt-ltb a m less) (omega arith) | inr none ↦ rw (le-ltb a m none) (omega arith) ]

length-runs : (size first whole n i : ℕ) → length (runs_from size first whole n i) ≡ n
unfolding runs_from
length-runs size first whole zero i = refl
length-runs size first whole (suc n) i = ap (λ n. suc n) (length-runs size first whole n (i + 1))

-- at most two units are no runs
pub units-count : (G : Geometry) (a z : ℕ) → length (units_of G a z) ≤ (whole_blocks G a z + 63) / 64 + 2
unfolding units_of
units-count G a z = simp (length-append, length-runs) (omega (arith, length-part))

count-part : (G : Geometry) (a m : ℕ) → count_by (λ u. not u.whole) (part_in G a m) ≤ 1
count-part G a m = elim (cases_lt a m) [ inl less ↦ rw (lt-ltb a m less) (omega arith) | inr none ↦ rw (le-ltb a m none) (omega arith) ]

count-runs : (size first whole n i : ℕ) → count_by (λ u. not u.whole) (runs_from size first whole n i) ≡ 0
unfolding runs_from
count-runs size first whole zero i = refl
count-runs size first whole (suc n) i = omega (arith, count-runs size first whole n (i + 1))

pub parts-count : (G : Geometry) (a z : ℕ) → count_by (λ u. not u.whole) (units_of G a z) ≤ 2
unfolding units_of
parts-count G a z = simp (sum_by-append, count-runs) (omega (arith, count-part))

-- every unit of a range is in its cut
pub units-all : (G : Geometry) (a z : ℕ) (u : Span) → IsGeometry G → IsUnit G a z u → Contains (units_of G a z) u
units-all G a z u is unit =
    let (k, there) = unit-listed G a z u is unit in
    (k, slice_get_within _ k u there, get_or_from_slice_get _ k u u there)

-- the blocks of a run are blocks of whole groups of the range
pub units-whole : (G : Geometry) (a z : ℕ) (us : List Span) (u : Span) (block : ℕ) → IsGeometry G → AreUnits G a z us → Contains us u → u.whole ≡ true
    → u.block ≤ block → block < u.block + u.count → IsWhole (group_size G) a z (block / G.per)
units-whole G a z us u block is units (k, inside, there) whole from until =
    let unit : IsUnit G a z u = are-get G a z us k u units (slice_get-get_or us k u inside ∙ ap (λ v. Some v) there) in
    let run : IsRun G a z u.block u.count = subst (λ w. IsKind G a z w u.block u.count) whole unit.kind in
    let first : up (group_size G) a ≤ block / G.per = (le-div_iff_mul-le is.per_some).1 (omega (arith, run.begins)) in
    let last : block / G.per < z / group_size G = lt_of_mul-lt-mul_right G.per (omega (arith, run.some, run.counted, div-mul-le_self block G.per)) in
    (whole-numbers (group_size G) a z (block / G.per) (group-some G is)).1 (first, omega arith)
