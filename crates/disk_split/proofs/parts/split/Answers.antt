use Rattle.std.proofs.Common.{◌≡◌, ℕ, ◌+◌, ◌-◌, ◌*◌, ◌/◌, ◌%◌, ◌<◌, min, arith, ap, ◌∙◌, IsSome, inl, inr, refl, ◌↔◌, Option}
use Rattle.disk_split.specs.declared.parts.Part.{Part}
use Rattle.std.specs.Int.{div_ceil}
use Rattle.std.proofs.lemmas.Bool.{cases_lt, lt-ltb, le-ltb}
use Rattle.disk_split.specs.Parts.{part_of}
use Rattle.disk_split.specs.Units.{up, whole_of, whole_end, middle}
use Rattle.disk_split.proofs.Rounding.{up-ceil, inside, whole-numbers, whole_end-some, whole_end-none, whole_end-within, behind}
use Rattle.disk_split.proofs.parts.split.Goals as goal

-- the numbers of the code are those of the definitions
record Cut (size a z first until whole stop : ℕ) : Type 0 where
  begins : first ≡ up size a
  before : until ≡ middle size a z
  count : whole ≡ whole_of size a z
  ends : stop ≡ whole_end size a z

cut-is : (size a len s first d m whole : ℕ) → 0 < size → s ≡ size → first ≡ div_ceil a s → a + d ≡ up s a * s → m ≡ min len d
    → whole ≡ (a + len) / s - first → Cut size a (a + len) first (a + m) whole (a + m + whole * s)
cut-is size a len s first d m whole some same ceil border less left =
    let begins : first ≡ up size a = ceil ∙ (ap (div_ceil a) same ∙ up-ceil size a some) in
    let reaches : a + d ≡ up size a * size = cc in
    let before : a + m ≡ middle size a (a + len) = omega arith in
    let count : whole ≡ whole_of size a (a + len) = cc in
    record { begins = begins; before = before; count = count; ends = cc }

-- fewer bytes than a block has are left behind the whole blocks
few-behind : (size a z : ℕ) → 0 < size → z < whole_end size a z + size
few-behind size a z some = elim (cases_lt z (up size a * size)) [
  | inl short ↦ omega (arith, whole_end-none size a z some short)
  | inr long ↦ omega (arith, whole_end-some size a z some long, behind size z some)
]

pub overflow_add-until-2 : goal.overflow_add-until-2
overflow_add-until-2 c =
    let cut = cut-is c.args.size c.args.at c.args.len _ _ _ _ _ c.requires.sized c.from-size.ensures c.div_ceil-first_whole.ensures c.to_border.ensures c.min.ensures c.saturating_sub-whole.ensures in
    omega (arith, cut.ends, whole_end-within c.args.size c.args.at (c.args.at + c.args.len) c.requires.sized)

pub part_between-requires-2 : goal.part_between-requires-2
part_between-requires-2 c =
    let cut = cut-is c.args.size c.args.at c.args.len _ _ _ _ _ c.requires.sized c.from-size.ensures c.div_ceil-first_whole.ensures c.to_border.ensures c.min.ensures c.saturating_sub-whole.ensures in
    omega (arith, cut.ends, few-behind c.args.size c.args.at (c.args.at + c.args.len) c.requires.sized)

-- the part before the whole blocks stands where a range begins inside a block
under-stands : (size a len : ℕ) (under : Option Part) → 0 < size → under ≡ part_of a (middle size a (a + len))
    → IsSome under ↔ ((0 < len) × (0 < a % size))
under-stands size a len under some same =
    let inner = inside size a some in
    elim (cases_lt a (middle size a (a + len))) [
      | inl less ↦ rw (same, lt-ltb a (middle size a (a + len)) less) (λ stands. (omega arith, inner.0 (omega arith)), λ stands. refl)
      | inr none ↦ rw (same, le-ltb a (middle size a (a + len)) none) (λ stands. cc, λ (bytes, rest). let none_left : ⊥ = omega (arith, inner.1 rest) in absurd none_left)
    ]

pub returns : goal.returns
returns c =
    let cut = cut-is c.args.size c.args.at c.args.len _ _ _ _ _ c.requires.sized c.from-size.ensures c.div_ceil-first_whole.ensures c.to_border.ensures c.min.ensures c.saturating_sub-whole.ensures in
    let under = c.part_between.ensures ∙ ap (part_of c.args.at) cut.before in
    record {
      under = under;
      cut = under-stands c.args.size c.args.at c.args.len _ c.requires.sized under;
      first = cut.begins;
      count = cut.count;
      whole = λ block. rw (cut.begins, cut.count) (whole-numbers c.args.size c.args.at (c.args.at + c.args.len) block c.requires.sized);
      over = c.part_between-2.ensures ∙ ap (λ e. part_of e (c.args.at + c.args.len)) cut.ends;
    }
