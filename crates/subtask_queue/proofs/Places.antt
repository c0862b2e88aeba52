-- The place of a token among the first units.
use Rattle.std.proofs.Common.{◌≡◌, ℕ, ◌+◌, ◌-◌, ◌<◌, ◌≤◌, true, false, cond, nat_lt, nat_eq, List, [], ◌∷◌, ◌++◌, length, get_or, set, Option, None, Some, is_some, inl, inr, eq-eqb, refl, sym, ◌∙◌, ap, arith, length-append}
use Rattle.std.proofs.lemmas.Bool.{cases_eq, cases_lt, ne_eqb}
use Rattle.std.proofs.lemmas.Bool.Decides.{nat_tests}
use Rattle.std.proofs.lemmas.List.{get_or_default, get_or-set_same, get_or-set_other, get_or_append_left}
use Rattle.std.proofs.Math.ListN.{get_or-eq_default}
use Rattle.std.proofs.Math.Seq.{get_or-append_seam}
use Rattle.subtask_queue.specs.Firsts.{FirstNodes, first_at, HasSlot, IsLeast}

low : (a b : ℕ) → a < b → nat_lt a b ≡ true
low a b is = grind (arith, nat_tests)

high : (a b : ℕ) → b ≤ a → nat_lt a b ≡ false
high a b is = grind (arith, nat_tests)

pub at-before : (f : FirstNodes) (token : ℕ) → token < f.base → first_at f token ≡ None
unfolding first_at
at-before f token before = rw (low token f.base before) refl

pub at-place : (f : FirstNodes) (token : ℕ) → f.base ≤ token → first_at f token ≡ get_or f.nodes (token - f.base) None
unfolding first_at
at-place f token after = rw (high token f.base after) refl

pub at-past : (f : FirstNodes) (token : ℕ) → length f.nodes ≤ token - f.base → first_at f token ≡ None
at-past f token past = elim (cases_lt token f.base) [
  | inl before ↦ at-before f token before
  | inr after ↦ at-place f token (omega arith) ∙ get_or-eq_default f.nodes None past
]

pub at-empty : (b : ℕ) (nodes : List (Option ℕ)) (token : ℕ) → nodes ≡ [] → first_at (record { base = b; nodes = nodes }) token ≡ None
at-empty b nodes token is = at-past (record { base = b; nodes = nodes }) token (rw is (omega arith))

-- a token that has a unit has a place
pub place-of : (f : FirstNodes) (token n : ℕ) → first_at f token ≡ Some n → HasSlot f token
place-of f token n is = elim (cases_lt token f.base) [
  | inl before ↦ let never : Some n ≡ None = sym is ∙ at-before f token before in cc
  | inr after ↦ elim (cases_lt (token - f.base) (length f.nodes)) [
    | inl inside ↦ record { after = omega arith; inside = inside }
    | inr past ↦ let never : Some n ≡ None = sym is ∙ at-past f token (omega arith) in cc
  ]
]

pub at-set : (f : FirstNodes) (token t : ℕ) (node : Option ℕ) → HasSlot f token → first_at (record { base = f.base; nodes = set f.nodes (token - f.base) node }) t ≡ cond (nat_eq t token) node (first_at f t)
at-set f token t node has = elim (cases_eq t token) [
  | inl same ↦ rw (eq-eqb t token same) (at-place (record { base = f.base; nodes = set f.nodes (token - f.base) node }) t (let after = has.after in omega arith)
      ∙ ap (λ k. get_or (set f.nodes (token - f.base) node) (k - f.base) None) same ∙ get_or-set_same f.nodes (token - f.base) node None has.inside)
  | inr other ↦ rw (ne_eqb t token other) (elim (cases_lt t f.base) [
    | inl before ↦ at-before (record { base = f.base; nodes = set f.nodes (token - f.base) node }) t before ∙ sym (at-before f t before)
    | inr after ↦
        at-place (record { base = f.base; nodes = set f.nodes (token - f.base) node }) t (omega arith)
        ∙ get_or-set_other f.nodes (token - f.base) (t - f.base) node None (λ same. let from = has.after in other (omega arith))
        ∙ sym (at-place f t (omega arith))
  ])
]

pub last-none : (nodes : List (Option ℕ)) (i : ℕ) → get_or (nodes ++ None ∷ []) i None ≡ get_or nodes i None
last-none nodes i = elim (cases_lt i (length nodes)) [
  | inl inside ↦ get_or_append_left nodes (None ∷ []) None i inside
  | inr past ↦ elim (cases_eq i (length nodes)) [
    | inl same ↦ ap (λ k. get_or (nodes ++ None ∷ []) k None) same ∙ get_or-append_seam nodes None [] None ∙ sym (get_or-eq_default nodes None (omega arith))
    | inr other ↦ get_or-eq_default (nodes ++ None ∷ []) None (omega (arith, length-append nodes (None ∷ []))) ∙ sym (get_or-eq_default nodes None (omega arith))
  ]
]

pub at-more : (b : ℕ) (nodes : List (Option ℕ)) (t : ℕ) → first_at (record { base = b; nodes = nodes ++ None ∷ [] }) t ≡ first_at (record { base = b; nodes = nodes }) t
at-more b nodes t = elim (cases_lt t b) [
  | inl before ↦ at-before (record { base = b; nodes = nodes ++ None ∷ [] }) t before ∙ sym (at-before (record { base = b; nodes = nodes }) t before)
  | inr after ↦ at-place (record { base = b; nodes = nodes ++ None ∷ [] }) t (omega arith) ∙ last-none nodes (t - b) ∙ sym (at-place (record { base = b; nodes = nodes }) t (omega arith))
]

pub read-place : (nodes : List (Option ℕ)) (i : ℕ) (o : Option ℕ) → i < length nodes → o ≡ get_or nodes i o → o ≡ get_or nodes i None
read-place nodes i o inside read = read ∙ get_or_default nodes i o None inside

pub at-here : (f : FirstNodes) (place t : ℕ) → t ≡ f.base + place → first_at f t ≡ get_or f.nodes place None
at-here f place t is = let same : t - f.base ≡ place = omega arith in at-place f t (omega arith) ∙ ap (λ k. get_or f.nodes k None) same

pub is-none : (o : Option ℕ) → is_some o ≡ false → o ≡ None
is-none None none = refl
is-none (Some x) none = cc

-- the scan that looks for the least token with a unit
pub scan-more : (f : FirstNodes) (token place t : ℕ) (o : Option ℕ) → ((k : ℕ) → token ≤ k → k < f.base + place → first_at f k ≡ None) → o ≡ get_or f.nodes place None → is_some o ≡ false
    → token ≤ t → t < f.base + (place + 1) → first_at f t ≡ None
scan-more f token place t o before read none from below = elim (cases_lt t (f.base + place)) [
  | inl passed ↦ before t from passed
  | inr here ↦ at-here f place t (omega arith) ∙ sym read ∙ is-none o none
]

pub scan-past : (f : FirstNodes) (token place t : ℕ) → ((k : ℕ) → token ≤ k → k < f.base + place → first_at f k ≡ None) → length f.nodes ≤ place → token ≤ t → first_at f t ≡ None
scan-past f token place t before past from = elim (cases_lt t (f.base + place)) [
  | inl passed ↦ before t from passed
  | inr here ↦ at-past f t (omega arith)
]

pub scan-found : (f : FirstNodes) (token begin place : ℕ) (o : Option ℕ) → token - f.base ≤ begin → begin ≤ place → ((k : ℕ) → token ≤ k → k < f.base + place → first_at f k ≡ None) → o ≡ get_or f.nodes place None → is_some o ≡ true
    → IsLeast (first_at f) token (f.base + place)
scan-found f token begin place o is far before read some = record {
  from = omega arith;
  some = ap is_some (at-here f place (f.base + place) refl ∙ sym read) ∙ some;
  least = before;
}
