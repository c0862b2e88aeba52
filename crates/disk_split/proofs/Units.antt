-- Each span of the cut is a unit of its range.
use Rattle.std.proofs.Common.{◌≡◌, ℕ, zero, suc, ◌+◌, ◌-◌, ◌*◌, ◌/◌, ◌<◌, ◌≤◌, min, max, false, List, [], ◌∷◌, ◌++◌, arith, refl, ap, sym, subst, inl, inr, ◌∙◌}
use Rattle.std.proofs.lemmas.Bool.{cases_lt, lt-ltb, le-ltb}
use Rattle.std.proofs.Math.Nat.{add-mul, div-mul-le_self, mul-le-mul_right, mul-div_left}
use Rattle.disk_split.specs.declared.geometry.Geometry.{Geometry}
use Rattle.disk_split.specs.declared.span.Span.{Span}
use Rattle.disk_split.specs.Units.{IsGeometry, up, whole_of, whole_end, middle, group_size, first_whole, whole_blocks, IsPart, IsUnit, part_in, run_at, runs_from, units_of, AreUnits}
use Rattle.disk_split.proofs.Rounding.{up-reaches, up-near, border-next, inside, whole_of-some, whole_end-some, whole_end-none, behind, wider, group-bytes, group-some, first-whole-bytes}

pub are-append : (G : Geometry) (a z : ℕ) (us vs : List Span) → AreUnits G a z us → AreUnits G a z vs → AreUnits G a z (us ++ vs)
unfolding AreUnits
are-append G a z [] vs few more = more
are-append G a z (u ∷ rest) vs (first, others) more = (first, are-append G a z rest vs others more)

-- the bytes of the range in one group of which it has some and not all are a unit
pub part-unit : (G : Geometry) (a z number low high : ℕ) → IsPart (group_size G) a z number → low ≡ max a (number * group_size G) → high ≡ min z (number * group_size G + group_size G)
    → IsUnit G a z (record { whole = false; block = number * G.per; count = G.per; low = low; high = high })
part-unit G a z number low high part begins ends =
    let bytes : number * G.per * G.size ≡ number * group_size G = group-bytes G number in
    let more : (number * G.per + G.per) * G.size ≡ number * group_size G + group_size G = omega (arith, add-mul (number * G.per) G.per G.size, bytes, group-bytes G 1) in
    record {
      low = rw bytes begins;
      high = rw more ends;
      some = omega (arith, part.some);
      kind = (record { number = number; begins = refl; part = part }, refl);
    }

-- the part before the whole groups
pub part-before : (G : Geometry) (a z : ℕ) → IsGeometry G → AreUnits G a z (part_in G a (middle (group_size G) a z))
unfolding AreUnits
part-before G a z is = elim (cases_lt a (middle (group_size G) a z)) [
  | inl less ↦
      let size : ℕ = group_size G in
      let some : 0 < size = group-some G is in
      let border : up size a * size ≡ (a / size + 1) * size = ap (λ n. n * size) (border-next size a some ((inside size a some).0 (omega arith))) in
      rw (lt-ltb a (middle size a z) less)
      (part-unit G a z (a / size) a (middle size a z) (record { some = omega arith; cut = inl (omega (arith, up-near size a some)) }) (omega arith) (omega arith), tt)
  | inr same ↦ rw (le-ltb a (middle (group_size G) a z) same) tt
]

-- the part behind them
pub part-behind : (G : Geometry) (a z : ℕ) → IsGeometry G → AreUnits G a z (part_in G (whole_end (group_size G) a z) z)
unfolding AreUnits
part-behind G a z is = elim (cases_lt (whole_end (group_size G) a z) z) [
  | inl less ↦
      let size : ℕ = group_size G in
      let some : 0 < size = group-some G is in
      let long : up size a * size ≤ z = elim (cases_lt z (up size a * size)) [
        | inl short ↦ let no_part : ⊥ = omega (arith, whole_end-none size a z some short) in absurd no_part
        | inr reaches ↦ reaches
      ] in
      let ends : whole_end size a z ≡ z / size * size = whole_end-some size a z some long in
      let order : up size a * size ≤ z / size * size = mul-le-mul_right size (omega (arith, whole_of-some size a z some long)) in
      let IsLast : ℕ → Type 0 = λ e. IsUnit G a z (record { whole = false; block = e / size * G.per; count = G.per; low = e; high = z }) in
      let last : IsLast (z / size * size) =
      rw (mul-div_left (z / size) some)
      (part-unit G a z (z / size) (z / size * size) z (record { some = omega (arith, up-reaches size a some, behind size z some); cut = inr (behind size z some) }) (omega (arith, up-reaches size a some)) (omega (arith, behind size z some))) in
      rw (lt-ltb (whole_end size a z) z less) (subst IsLast (sym ends) last, tt)
  | inr same ↦ rw (le-ltb (whole_end (group_size G) a z) z same) tt
]

-- where the whole groups of a range that has some end
whole-blocks-end : (G : Geometry) (a z : ℕ) → 0 < whole_blocks G a z → first_whole G a + whole_blocks G a z ≡ z / group_size G * G.per
whole-blocks-end G a z some = elim (cases_lt (up (group_size G) a) (z / group_size G)) [
  | inl less ↦
      let all : up (group_size G) a + whole_of (group_size G) a z ≡ z / group_size G = omega arith in
      sym (add-mul (up (group_size G) a) (whole_of (group_size G) a z) G.per) ∙ ap (λ n. n * G.per) all
  | inr none ↦
      let zero_of : whole_of (group_size G) a z ≡ 0 = omega arith in
      let no_blocks : ⊥ = omega (arith, rw zero_of at some) in absurd no_blocks
]

-- a run of the whole groups
pub run-is : (G : Geometry) (a z i : ℕ) → IsGeometry G → 64 * i < whole_blocks G a z → IsUnit G a z (run_at G.size (first_whole G a) (whole_blocks G a z) i)
run-is G a z i is within =
    let size : ℕ = group_size G in
    let all : first_whole G a + whole_blocks G a z ≡ z / size * G.per = whole-blocks-end G a z (omega arith) in
    let first : first_whole G a * G.size ≤ (first_whole G a + 64 * i) * G.size = mul-le-mul_right G.size (omega arith) in
    let last : (first_whole G a + 64 * i + min 64 (whole_blocks G a z - 64 * i)) * G.size ≤ (z / size * G.per) * G.size = mul-le-mul_right G.size (omega arith) in
    record {
      low = omega (arith, up-reaches size a (group-some G is), first-whole-bytes G a);
      high = omega (arith, div-mul-le_self z size, group-bytes G (z / size));
      some = wider G.size (first_whole G a + 64 * i) _ (omega (arith, is.size_some)) (omega arith);
      kind = record { number = i; begins = refl; some = omega arith; counted = omega arith };
    }

pub runs-are : (G : Geometry) (a z n i : ℕ) → IsGeometry G → 64 * (i + n) < whole_blocks G a z + 64
    → AreUnits G a z (runs_from G.size (first_whole G a) (whole_blocks G a z) n i)
unfolding AreUnits runs_from
runs-are G a z zero i is tight = tt
runs-are G a z (suc n) i is tight = (run-is G a z i is (omega arith), runs-are G a z n (i + 1) is (omega arith))

-- the cut of a range has nothing but its units
pub units-are : (G : Geometry) (a z : ℕ) → IsGeometry G → AreUnits G a z (units_of G a z)
unfolding units_of
units-are G a z is =
    are-append G a z _ _ (part-before G a z is)
    (are-append G a z _ _ (runs-are G a z ((whole_blocks G a z + 63) / 64) 0 is (omega arith)) (part-behind G a z is))
