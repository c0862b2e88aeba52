-- The groups in which a range of bytes has one lie on the medium where the range does.
use Rattle.std.proofs.Common.{◌≡◌, ℕ, ◌+◌, ◌-◌, ◌*◌, ◌/◌, ◌%◌, ◌<◌, ◌≤◌, Option, None, Some, refl, sym, ◌∙◌, ap, arith, IsSome, Result, Ok, Err, OnOk}
use Rattle.std.specs.Prelude.{slice_set}
use Rattle.std.proofs.Math.Nat.{div-mul-le_self, lt_of_mul-lt-mul_right, mul_assoc, mul_comm, add-mul, one-mul}
use Rattle.std.proofs.lemmas.Nat.{div-add-mod', div-mul-add, mod_below, mul-le, mul-lt, le-div}
use Rattle.std.proofs.lemmas.List.{set-get_or}
use Rattle.std.proofs.lemmas.Option.{get_or_from_slice_get}
use Rattle.medium.specs.Device.{Device}
use Rattle.drive.specs.Drives.{DriveState, medium_in}
use Rattle.disk_split.specs.declared.geometry.Geometry.{Geometry}
use Rattle.disk_split.specs.Units.{group_size}
use Rattle.disk_core.specs.Commands.{OfMedium}
use Rattle.disk_core.specs.Admission.{IsTouched, StaysBut}
use Rattle.disk_core.proofs.Prepared.{medium-place}

-- a group that begins before the end of whole groups ends by it
pub group-inside : (size per blocks n z : ℕ) → 0 < per → n * (size * per) < z → z ≤ blocks * size → blocks % per ≡ 0 → (n + 1) * per ≤ blocks
group-inside size per blocks n z many low high whole =
    let b = blocks / per in
    let all : b * per ≡ blocks = (let parts = div-add-mod' blocks per in omega arith) in
    let same : blocks * size ≡ b * (size * per) = ap (λ x. x * size) (sym all) ∙ mul_assoc b per size ∙ ap (λ x. b * x) (mul_comm per size) in
    let below : n * (size * per) < b * (size * per) = omega arith in
    let fewer : n < b = lt_of_mul-lt-mul_right (size * per) below in
    let room : (n + 1) * per ≤ b * per = mul-le (n + 1) per b per (omega arith) (omega arith) in
    omega arith

-- the groups up to the last byte are one more than those before it
pub last-group : (a g : ℕ) → 0 < g → 0 < a → (a + g - 1) / g ≡ (a - 1) / g + 1
last-group a g some more =
    let n = (a - 1) / g in
    let r = (a - 1) % g in
    let parts : n * g + r ≡ a - 1 = div-add-mod' (a - 1) g in
    let next : (n + 1) * g ≡ n * g + g = add-mul n 1 g ∙ ap (λ x. n * g + x) (one-mul g) in
    let all : a + g - 1 ≡ (n + 1) * g + r = omega arith in
    ap (λ x. x / g) all ∙ div-mul-add (n + 1) g r (mod_below (a - 1) g some)

first-last : (from length g : ℕ) → 0 < g → 0 < length → from / g ≤ (from + length - 1) / g
first-last from length g some more = le-div (from / g) (from + length - 1) g some (let low = div-mul-le_self from g in omega arith)

-- so many blocks from the first one of the first group on are those of all groups up to the last
all-groups : (per first last : ℕ) → first ≤ last → first * per + (last + 1 - first) * per ≡ (last + 1) * per
all-groups per first last order = sym (add-mul first (last + 1 - first) per) ∙ ap (λ x. x * per) (let e : first + (last + 1 - first) ≡ last + 1 = omega arith in e)

pub groups-inside : (size per blocks from length : ℕ) → 0 < size → 0 < per → 0 < length → from + length ≤ blocks * size → blocks % per ≡ 0
    → from / (size * per) * per + ((from + length - 1) / (size * per) + 1 - from / (size * per)) * per ≤ blocks
groups-inside size per blocks from length some many more within whole =
    let g = size * per in
    let last = (from + length - 1) / g in
    let big : 0 < g = mul-lt 0 0 size per some many in
    let same = all-groups per (from / g) last (first-last from length g big more) in
    let begins : last * g < from + length = (let low = div-mul-le_self (from + length - 1) g in omega arith) in
    let inside = group-inside size per blocks last (from + length) many begins within whole in
    omega arith

pub touched-range : (G : Geometry) (from length b : ℕ) → 0 < group_size G → 0 < length → IsTouched G from (from + length) b
    → (from / group_size G * G.per ≤ b) × (b < from / group_size G * G.per + ((from + length - 1) / group_size G + 1 - from / group_size G) * G.per)
touched-range G from length b some more is =
    let g = group_size G in
    let last = (from + length - 1) / g in
    let same = all-groups G.per (from / g) last (first-last from length g some more) in
    let next : (from + length + g - 1) / g * G.per ≡ (last + 1) * G.per = ap (λ n. n * G.per) (last-group (from + length) g some (omega arith)) in
    let low = is.low in
    let high = is.high in
    (omega arith, omega arith)

-- a drive to which nothing was done
pub stays-same : {M : Type 0} (device : M → Device) (prepared : M → ℕ → Type 0) (drive : DriveState M) → IsSome (medium_in drive) → StaysBut device prepared drive drive
stays-same {M} device prepared drive in_it = by (medium_in drive) refl in_it
  where
    by : (o : Option M) → medium_in drive ≡ o → IsSome o → StaysBut device prepared drive drive
    by None there is = cc
    by (Some m) there is = record {
      before = m;
      after = m;
      was_in = there;
      drive = (let at = (medium-place drive m there).1 in
          λ i. record drive { media = (sym (set-get_or drive.media (drive.media_id - 1) m) ∙ ap (λ x. slice_set drive.media (drive.media_id - 1) x) (get_or_from_slice_get drive.media (drive.media_id - 1) m m at)) i });
      does = refl;
      stay = λ b is_so. is_so;
    }

-- what follows where a call was done
pub on-ok : {T E A B : Type 0} (result : Result T E) → (A → B) → OnOk result A → OnOk result B
on-ok (Ok x) then is = then is
on-ok (Err e) then is = tt

pub touched-ready : {E : Type 0} {M : Type 0} (prepared : M → ℕ → Type 0) (drive : DriveState M) (G : Geometry) (from length size per : ℕ) (result : Result (Unit {0}) E) → size ≡ G.size → per ≡ G.per → 0 < group_size G → 0 < length
    → OnOk result (OfMedium drive (λ m. (b : ℕ) → from / (size * per) * per ≤ b → b < from / (size * per) * per + ((from + length - 1) / (size * per) + 1 - from / (size * per)) * per → prepared m b))
    → OnOk result (OfMedium drive (λ m. (b : ℕ) → IsTouched G from (from + length) b → prepared m b))
touched-ready prepared drive G from length size per result size_is per_is some more ready =
    on-ok result (λ done m there b touched. (let in_it = touched-range G from length b some more touched in done m there b (rw (size_is, per_is) in_it.0) (rw (size_is, per_is) in_it.1))) ready
