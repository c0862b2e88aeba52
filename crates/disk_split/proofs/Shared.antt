-- A byte of a range lies in one unit, and every unit is one of the cut.
use Rattle.std.proofs.Common.{◌≡◌, ℕ, zero, suc, ◌+◌, ◌*◌, ◌/◌, ◌<◌, ◌≤◌, min, max, Bool, false, true, List, [], ◌∷◌, Some, arith, refl, ap, sym, subst, ◌∙◌}
use Rattle.std.specs.List.{slice_get}
use Rattle.std.proofs.Math.Nat.{add-mul, div-mul-le_self, mul-le-mul_right, lt_of_mul-lt-mul_right}
use Rattle.disk_split.specs.declared.geometry.Geometry.{Geometry}
use Rattle.disk_split.specs.declared.span.Span.{Span}
use Rattle.disk_split.specs.Units.{IsGeometry, up, group_size, first_whole, IsPart, IsGroupPart, IsRun, IsKind, IsUnit, units_of, AreUnits}
use Rattle.disk_split.proofs.Rounding.{up-reaches, wider, group-bytes, group-some, first-whole-bytes}
use Rattle.disk_split.proofs.Tiling.{tile-units}
use Rattle.disk_split.proofs.Tiled.{tile-finds}
use Rattle.disk_split.proofs.Units.{units-are}

-- spans with the same fields are the same
span-same : (u v : Span) → u.whole ≡ v.whole → u.block ≡ v.block → u.count ≡ v.count → u.low ≡ v.low → u.high ≡ v.high → u ≡ v
span-same u v whole block count low high = λ i. record { whole = whole i; block = block i; count = count i; low = low i; high = high i }

-- a block that begins by a byte is before any block that begins behind the byte
before : (size b c x : ℕ) → b * size ≤ x → x < c * size → b < c
before size b c x begins ends = lt_of_mul-lt-mul_right size (omega arith)

-- a part is none of the whole groups
part-apart : (size a z block : ℕ) → 0 < size → IsPart size a z block → up size a ≤ block → block < z / size → ⊥
part-apart size a z block some part from until =
    let begins : up size a * size ≤ block * size = mul-le-mul_right size from in
    let ends : (block + 1) * size ≤ z / size * size = mul-le-mul_right size (omega arith) in
    omega (arith, part.cut, up-reaches size a some, div-mul-le_self z size)

-- the bytes of a part are those of its group
pub part-bytes : (G : Geometry) (a z b : ℕ) (part : IsGroupPart G a z b) → (b * G.size ≡ part.number * group_size G) × ((b + G.per) * G.size ≡ (part.number + 1) * group_size G)
part-bytes G a z b part =
    let begins : b * G.size ≡ part.number * group_size G = ap (λ n. n * G.size) part.begins ∙ group-bytes G part.number in
    (begins, omega (arith, add-mul b G.per G.size, add-mul part.number 1 (group_size G), begins, group-bytes G 1))

-- no byte lies in a part and in a run
part-run : (G : Geometry) (a z x b c m : ℕ) → IsGeometry G → IsGroupPart G a z b → IsRun G a z c m
    → b * G.size ≤ x → x < (b + G.per) * G.size → c * G.size ≤ x → x < (c + m) * G.size → ⊥
part-run G a z x b c m is part run bb be cb ce =
    let size : ℕ = group_size G in
    let (begins, ends) = part-bytes G a z b part in
    let first : first_whole G a * G.size ≤ c * G.size = mul-le-mul_right G.size (omega (arith, run.begins)) in
    let last : (c + m) * G.size ≤ z / size * G.per * G.size = mul-le-mul_right G.size (omega (arith, run.some, run.counted)) in
    let left : part.number < z / size = before size part.number (z / size) x (omega arith) (omega (arith, group-bytes G (z / size))) in
    let right : up size a < part.number + 1 = before size (up size a) (part.number + 1) x (omega (arith, first-whole-bytes G a)) (omega arith) in
    part-apart size a z part.number (group-some G is) part.part (omega arith) left

kind-same : (G : Geometry) (a z x : ℕ) (w v : Bool) (b n c m : ℕ) → IsGeometry G → IsKind G a z w b n → IsKind G a z v c m
    → b * G.size ≤ x → x < (b + n) * G.size → c * G.size ≤ x → x < (c + m) * G.size → (w ≡ v) × (b ≡ c) × (n ≡ m)
kind-same G a z x false false b n c m is (part, one) (other, single) bb be cb ce =
    let (begins, ends) = part-bytes G a z b part in
    let (begins', ends') = part-bytes G a z c other in
    let left : part.number < other.number + 1 = before (group_size G) part.number (other.number + 1) x (omega arith) (rw (single, ends') at ce) in
    let right : other.number < part.number + 1 = before (group_size G) other.number (part.number + 1) x (omega arith) (rw (one, ends) at be) in
    let same : part.number ≡ other.number = omega arith in
    (refl, part.begins ∙ (ap (λ k. k * G.per) same ∙ sym other.begins), one ∙ sym single)
kind-same G a z x false true b n c m is (part, one) run bb be cb ce = absurd (part-run G a z x b c m is part run bb (rw one at be) cb ce)
kind-same G a z x true false b n c m is run (part, one) bb be cb ce = absurd (part-run G a z x c b n is part run cb (rw one at ce) bb be)
kind-same G a z x true true b n c m is run other bb be cb ce =
    let left : b < c + m = before G.size b (c + m) x bb ce in
    let right : c < b + n = before G.size c (b + n) x cb be in
    let same : b ≡ c = omega arith in
    (refl, same, omega arith)

-- two units of a range that share a byte are the same
pub units-same : (G : Geometry) (a z x : ℕ) (u v : Span) → IsGeometry G → IsUnit G a z u → IsUnit G a z v
    → u.low ≤ x → x < u.high → v.low ≤ x → x < v.high → u ≡ v
units-same G a z x u v is first second ul uh vl vh =
    let (whole, block, count) = kind-same G a z x u.whole v.whole u.block u.count v.block v.count is first.kind second.kind
    (omega (arith, first.low)) (omega (arith, first.high)) (omega (arith, second.low)) (omega (arith, second.high)) in
    span-same u v whole block count
    (first.low ∙ ap (λ b. max a (b * G.size)) block ∙ sym second.low)
    (first.high ∙ (ap (λ b. min z ((b + u.count) * G.size)) block ∙ ap (λ n. min z ((v.block + n) * G.size)) count) ∙ sym second.high)

-- each of a list of units is a unit
pub are-get : (G : Geometry) (a z : ℕ) (us : List Span) (k : ℕ) (u : Span) → AreUnits G a z us → slice_get us k ≡ Some u → IsUnit G a z u
unfolding AreUnits
are-get G a z [] k u all e = cc
are-get G a z (v ∷ rest) zero u (first, others) e = let same : v ≡ u = cc in subst (IsUnit G a z) same first
are-get G a z (v ∷ rest) (suc k) u (first, others) e = are-get G a z rest k u others e

-- every unit of a range is one of its cut
pub unit-listed : (G : Geometry) (a z : ℕ) (u : Span) → IsGeometry G → IsUnit G a z u → (k : ℕ) × (slice_get (units_of G a z) k ≡ Some u)
unit-listed G a z u is unit =
    let (k, v, e, from, until) = tile-finds a z (units_of G a z) u.low (tile-units G a z is (omega arith)) (omega arith) (omega arith) in
    let same : v ≡ u = units-same G a z u.low v u is (are-get G a z _ k v (units-are G a z is) e) unit from until (omega arith) unit.some in
    (k, cc)

-- a run is a unit
pub run-unit : (G : Geometry) (a z block count : ℕ) → IsGeometry G → IsRun G a z block count
    → IsUnit G a z (record { whole = true; block = block; count = count; low = block * G.size; high = (block + count) * G.size })
run-unit G a z block count is run =
    let first : first_whole G a * G.size ≤ block * G.size = mul-le-mul_right G.size (omega (arith, run.begins)) in
    let last : (block + count) * G.size ≤ z / group_size G * G.per * G.size = mul-le-mul_right G.size (omega (arith, run.some, run.counted)) in
    record {
      low = omega (arith, up-reaches (group_size G) a (group-some G is), first-whole-bytes G a);
      high = omega (arith, div-mul-le_self z (group_size G), group-bytes G (z / group_size G));
      some = wider G.size block count (omega (arith, is.size_some)) (omega (arith, run.some, run.counted));
      kind = run;
    }
