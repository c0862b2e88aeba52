-- Rounding to block borders.
use Rattle.std.proofs.Common.{◌≡◌, ℕ, ◌+◌, ◌*◌, ◌/◌, ◌%◌, ◌<◌, ◌↔◌, ◌≤◌, ◌^◌, ◌⊎◌, arith, ap, inl, inr, ◌∙◌}
use Rattle.std.proofs.lemmas.Bool.{cases_lt}
use Rattle.std.proofs.Math.Nat.{div-mul-le_self, le-div_iff_mul-le, lt_of_mul-lt-mul_right, mul-le-mul, mul-le-mul_left, mul-le-mul_right, mul_assoc, mul_right_comm, add-mul}
use Rattle.std.specs.Int.{div_ceil}
use Rattle.disk_split.specs.declared.geometry.Geometry.{Geometry}
use Rattle.disk_split.specs.Units.{IsGeometry, IsWhole, up, whole_of, whole_end, group_size, first_whole, whole_blocks}

-- a block that begins at the byte or after it
pub up-reaches : (size a : ℕ) → 0 < size → a ≤ up size a * size
up-reaches size a some = omega arith

-- and the block before it begins before the byte
pub up-near : (size a : ℕ) → 0 < size → up size a * size < a + size
up-near size a some = omega arith

-- no other block is so near
pub up-only : (size a block : ℕ) → 0 < size → a ≤ block * size → block * size < a + size → up size a ≡ block
up-only size a block some reaches near =
    let left : up size a < block + 1 = lt_of_mul-lt-mul_right size (omega (arith, up-near size a some)) in
    let right : block < up size a + 1 = lt_of_mul-lt-mul_right size (omega (arith, up-reaches size a some)) in
    omega arith

-- a border is its own
pub border-here : (size a : ℕ) → 0 < size → a % size ≡ 0 → up size a ≡ a / size
border-here size a some border = up-only size a (a / size) some (omega arith) (omega arith)

-- any other byte has the next border behind its block
pub border-next : (size a : ℕ) → 0 < size → 0 < a % size → up size a ≡ a / size + 1
border-next size a some inside = up-only size a (a / size + 1) some (omega arith) (omega arith)

-- bytes before the next border are those of a byte inside a block
pub inside : (size a : ℕ) → 0 < size → a < up size a * size ↔ 0 < a % size
inside size a some = elim (cases_lt 0 (a % size)) [
  | inl inner ↦
      let border : up size a * size ≡ (a / size + 1) * size = ap (λ n. n * size) (border-next size a some inner) in
      (λ less. inner, λ less. omega arith)
  | inr border ↦
      let here : up size a * size ≡ a / size * size = ap (λ n. n * size) (border-here size a some (omega arith)) in
      (λ less. omega arith, λ less. omega arith)
]

pub up-ceil : (size a : ℕ) → 0 < size → div_ceil a size ≡ up size a
up-ceil size a some = elim (cases_lt 0 (a % size)) [
  | inl inner ↦ omega (arith, border-next size a some inner)
  | inr border ↦ omega (arith, border-here size a some (omega arith))
]

-- a range that does not reach the next block border has no whole block
pub whole_of-none : (size a z : ℕ) → 0 < size → z < up size a * size → whole_of size a z ≡ 0
whole_of-none size a z some short =
    let less : z / size < up size a = lt_of_mul-lt-mul_right size (omega (arith, div-mul-le_self z size)) in
    omega arith

-- a range that does reach it has its whole blocks up to the last border in it
pub whole_of-some : (size a z : ℕ) → 0 < size → up size a * size ≤ z → up size a + whole_of size a z ≡ z / size
whole_of-some size a z some long =
    let first : up size a ≤ z / size = (le-div_iff_mul-le some).1 long in
    omega arith

pub whole_end-some : (size a z : ℕ) → 0 < size → up size a * size ≤ z → whole_end size a z ≡ z / size * size
whole_end-some size a z some long =
    let all : (up size a + whole_of size a z) * size ≡ z / size * size = ap (λ n. n * size) (whole_of-some size a z some long) in
    omega arith

-- the whole blocks lie in the range
pub whole-within : (size a z : ℕ) → 0 < whole_of size a z → (up size a + whole_of size a z) * size ≤ z
whole-within size a z some =
    let all : (up size a + whole_of size a z) * size ≡ z / size * size = ap (λ n. n * size) (omega arith) in
    omega (arith, div-mul-le_self z size)

pub whole_end-none : (size a z : ℕ) → 0 < size → z < up size a * size → whole_end size a z ≡ z
whole_end-none size a z some short = rw (whole_of-none size a z some short) (omega arith)

pub whole_end-within : (size a z : ℕ) → 0 < size → whole_end size a z ≤ z
whole_end-within size a z some = elim (cases_lt z (up size a * size)) [
  | inl short ↦ omega (arith, whole_end-none size a z some short)
  | inr long ↦ omega (arith, whole_end-some size a z some long, div-mul-le_self z size)
]

-- and at most a block less one byte is left behind them
pub behind : (size z : ℕ) → 0 < size → z < z / size * size + size
behind size z some = omega arith

-- the whole blocks by their numbers
pub whole-numbers : (size a z block : ℕ) → 0 < size → IsWhole size a z block ↔ ((up size a ≤ block) × (block < up size a + whole_of size a z))
whole-numbers size a z block some = (
  λ whole.
      let first : up size a < block + 1 = lt_of_mul-lt-mul_right size (omega (arith, up-near size a some, whole.begins)) in
      let last : block + 1 ≤ z / size = (le-div_iff_mul-le some).1 (omega (arith, whole.ends)) in
      (omega arith, omega arith),
  λ (from, until).
      let first : up size a * size ≤ block * size = mul-le-mul_right size from in
      let last : (block + 1) * size ≤ z / size * size = mul-le-mul_right size (omega arith) in
      record { begins = omega (arith, up-reaches size a some); ends = omega (arith, div-mul-le_self z size) },
)

-- more blocks are more bytes
pub wider : (size block count : ℕ) → 0 < size → 0 < count → block * size < (block + count) * size
wider size block count some one =
    let least : 1 * size ≤ count * size = mul-le-mul_right size (omega arith) in
    omega arith

-- the bytes of so many groups are those of their blocks
pub group-bytes : (G : Geometry) (n : ℕ) → n * G.per * G.size ≡ n * group_size G
group-bytes G n = mul_right_comm n G.per G.size ∙ mul_assoc n G.size G.per

-- a group has bytes, and few of them
pub group-some : (G : Geometry) → IsGeometry G → 0 < group_size G
group-some G is =
    let least : 1 * 1 ≤ group_size G = mul-le-mul {n₁ = 1} {m₁ = 1} {n₂ = G.size} {m₂ = G.per} (omega (arith, is.size_some)) is.per_some in
    omega arith

pub group-most : (G : Geometry) → IsGeometry G → group_size G ≤ 32768
group-most G is =
    let most : group_size G ≤ 4096 * 8 = mul-le-mul {n₁ = G.size} {m₁ = G.per} {n₂ = 4096} {m₂ = 8} is.size_most is.per_most in
    omega arith

-- the whole groups of a range begin at a byte of it, and end in it
pub first-whole-bytes : (G : Geometry) (a : ℕ) → first_whole G a * G.size ≡ up (group_size G) a * group_size G
first-whole-bytes G a = group-bytes G (up (group_size G) a)

pub whole-bytes : (G : Geometry) (a z : ℕ) → (first_whole G a + whole_blocks G a z) * G.size ≡ (up (group_size G) a + whole_of (group_size G) a z) * group_size G
whole-bytes G a z =
    omega (
      arith,
      add-mul (first_whole G a) (whole_blocks G a z) G.size,
      add-mul (up (group_size G) a) (whole_of (group_size G) a z) (group_size G),
      group-bytes G (up (group_size G) a),
      group-bytes G (whole_of (group_size G) a z),
    )

-- their numbers are small where the range is
pub first-whole-fits : (G : Geometry) (a : ℕ) → IsGeometry G → a < 2 ^ 64 → first_whole G a < 2 ^ 64
first-whole-fits G a is small =
    let least : first_whole G a * 512 ≤ first_whole G a * G.size = mul-le-mul_left (first_whole G a) is.size_some in
    omega (arith, first-whole-bytes G a, up-near (group_size G) a (group-some G is), group-most G is)

pub whole-blocks-fits : (G : Geometry) (a z : ℕ) → IsGeometry G → z < 2 ^ 64 → whole_blocks G a z < 2 ^ 64
whole-blocks-fits G a z is small =
    let least : whole_blocks G a z * 512 ≤ whole_blocks G a z * G.size = mul-le-mul_left (whole_blocks G a z) is.size_some in
    let most : whole_of (group_size G) a z * group_size G ≤ z / group_size G * group_size G = mul-le-mul_right (group_size G) (omega arith) in
    omega (arith, group-bytes G (whole_of (group_size G) a z), div-mul-le_self z (group_size G))

-- the runs end in the range
pub whole-blocks-within : (G : Geometry) (a z : ℕ) → 0 < whole_blocks G a z → (first_whole G a + whole_blocks G a z) * G.size ≤ z
whole-blocks-within G a z some = rw (whole-bytes G a z) (whole-within (group_size G) a z (by (cases_lt 0 (whole_of (group_size G) a z))))
  where
    by : (0 < whole_of (group_size G) a z) ⊎ (whole_of (group_size G) a z ≤ 0) → 0 < whole_of (group_size G) a z
    by (inl more) = more
    by (inr none) =
        let zero_of : whole_of (group_size G) a z ≡ 0 = omega arith in
        let no_blocks : 0 < 0 * G.per = rw zero_of at some in
        absurd (omega arith)
