-- Tests over the numbers of a range, and over the spans that tile it.
use Rattle.std.proofs.Common.{◌≡◌, ℕ, zero, suc, ◌+◌, ◌-◌, ◌<◌, ◌≤◌, inl, inr, Bool, true, false, ◌&&◌, List, [], ◌∷◌, slice_get, None, Some, refl, sym, ◌∙◌, arith}
use Rattle.std.specs.List.{list_all}
use Rattle.std.proofs.lemmas.Bool.{cases_eq, cases_Bool, and_right}
use Rattle.disk_split.specs.declared.span.Span.{Span}
use Rattle.disk_split.specs.Units.{Tile}
use Rattle.disk_split.proofs.Tiled.{tile-order}
use Rattle.history.specs.Marks.{all_from, first_from}

-- a test that holds of each number holds of all
pub all_from-true : (test : ℕ → Bool) (a n : ℕ) → ((x : ℕ) → a ≤ x → x < a + n → test x ≡ true) → all_from test a n ≡ true
unfolding all_from
all_from-true test a zero each = refl
all_from-true test a (suc n) each =
    rw (each a (omega arith) (omega arith), all_from-true test (a + 1) n (λ x from until. each x (omega arith) (omega arith)))

-- a number that fails the test
pub all_from-false : (test : ℕ → Bool) (a n x : ℕ) → a ≤ x → x < a + n → test x ≡ false → all_from test a n ≡ false
unfolding all_from
all_from-false test a zero x from until fails = absurd (omega arith)
all_from-false test a (suc n) x from until fails = elim (cases_eq a x) [
  | inl same ↦ rw (same, fails)
  | inr other ↦ and_right (test a) (all_from test (a + 1) n) (all_from-false test (a + 1) n x (omega (arith, other)) (omega arith) fails)
]

-- where it holds of all, it holds of each
pub all_from-each : (test : ℕ → Bool) (a n x : ℕ) → all_from test a n ≡ true → a ≤ x → x < a + n → test x ≡ true
all_from-each test a n x all from until = elim (cases_Bool (test x)) [
  | inl holds ↦ holds
  | inr fails ↦ let no_way : false ≡ true = sym (all_from-false test a n x from until fails) ∙ all in cc
]

-- tests that agree on a range
pub all_from-same : (test other : ℕ → Bool) (a n : ℕ) → ((x : ℕ) → a ≤ x → x < a + n → test x ≡ other x) → all_from test a n ≡ all_from other a n
unfolding all_from
all_from-same test other a zero same = refl
all_from-same test other a (suc n) same =
    rw (same a (omega arith) (omega arith), all_from-same test other (a + 1) n (λ x from until. same x (omega arith) (omega arith)))

and-assoc : (p q r : Bool) → ((p && q) && r) ≡ (p && (q && r))
and-assoc true q r = refl
and-assoc false q r = refl

-- a range in two parts
pub all_from-append : (test : ℕ → Bool) (a m n : ℕ) → all_from test a (m + n) ≡ (all_from test a m && all_from test (a + m) n)
unfolding all_from
all_from-append test a zero n =
    let first : a + 0 ≡ a = omega arith in
    let all : 0 + n ≡ n = omega arith in
    rw (first, all)
all_from-append test a (suc m) n =
    let next : a + suc m ≡ a + 1 + m = omega arith in
    let all : suc m + n ≡ suc (m + n) = omega arith in
    rw (next, all) (rw (all_from-append test (a + 1) m n) (sym (and-assoc (test a) (all_from test (a + 1) m) (all_from test (a + 1 + m) n))))

-- a test that says the same of the whole range
pub all_from-constant : (test : ℕ → Bool) (a n : ℕ) → 0 < n → ((x : ℕ) → a ≤ x → x < a + n → test x ≡ test a) → all_from test a n ≡ test a
all_from-constant test a n some same = elim (cases_Bool (test a)) [
  | inl holds ↦ all_from-true test a n (λ x from until. same x from until ∙ holds) ∙ sym holds
  | inr fails ↦ all_from-false test a n a (omega arith) (omega arith) fails ∙ sym fails
]

-- a test that says the same of each tile's bytes holds of the range where it holds of each tile's first
pub all_from-tiles : (test : ℕ → Bool) (a z : ℕ) (us : List Span) → Tile a z us
    → ((k x : ℕ) (u : Span) → slice_get us k ≡ Some u → u.low ≤ x → x < u.high → test x ≡ test u.low)
    → all_from test a (z - a) ≡ list_all (λ u. test u.low) us
unfolding Tile
all_from-tiles test a z [] tiled same = let none : z - a ≡ 0 = omega arith in rw none (all-none)
  where
    all-none : all_from test a 0 ≡ true
    all-none = all_from-true test a 0 (λ x from until. absurd (omega arith))
all_from-tiles test a z (u ∷ us) (low, some, more) same =
    let order : u.high ≤ z = tile-order u.high z us more in
    let parts : z - a ≡ (u.high - u.low) + (z - u.high) = omega arith in
    let next : u.low + (u.high - u.low) ≡ u.high = omega arith in
    let first : all_from test u.low (u.high - u.low) ≡ test u.low = all_from-constant test u.low (u.high - u.low) (omega arith) (λ x from until. same 0 x u refl from (omega arith)) in
    let rest : all_from test u.high (z - u.high) ≡ list_all (λ v. test v.low) us = all_from-tiles test u.high z us more (λ k x v is from until. same (suc k) x v is from until) in
    rw (parts, ← low) (all_from-append test u.low (u.high - u.low) (z - u.high) ∙ rw (next, first, rest))

-- none where it holds of none
pub first_from-none : (test : ℕ → Bool) (a n : ℕ) → ((j : ℕ) → a ≤ j → j < a + n → test j ≡ false) → first_from test a n ≡ None
unfolding first_from
first_from-none test a zero none = refl
first_from-none test a (suc n) none = rw (none a (omega arith) (omega arith)) (first_from-none test (a + 1) n (λ j lo hi. none j (omega arith) (omega arith)))

-- the least of them lies in the range, passes the test, and none before it does
pub first_from-some : (test : ℕ → Bool) (a n k : ℕ) → first_from test a n ≡ Some k → (a ≤ k) × (k < a + n) × (test k ≡ true) × ((j : ℕ) → a ≤ j → j < k → test j ≡ false)
unfolding first_from
first_from-some test a zero k is = cc
first_from-some test a (suc n) k is = elim (cases_Bool (test a)) [
  | inl holds ↦
      let same : a ≡ k = (let e : Some a ≡ Some k = rw holds at is in cc) in
      (omega arith, omega arith, rw (← same) holds, λ j lo hi. absurd (omega arith))
  | inr fails ↦
      let e : first_from test (a + 1) n ≡ Some k = rw fails at is in
      let rest : (a + 1 ≤ k) × (k < a + 1 + n) × (test k ≡ true) × ((j : ℕ) → a + 1 ≤ j → j < k → test j ≡ false) = first_from-some test (a + 1) n k e in
      (omega (arith, rest.0), omega (arith, rest.1), rest.2, λ j lo hi. elim (cases_eq a j) [ inl same ↦ rw (← same) fails | inr other ↦ rest.3 j (omega (arith, other)) hi ])
]

-- where none is found, none passes
pub first_from-fails : (test : ℕ → Bool) (a n k : ℕ) → first_from test a n ≡ None → a ≤ k → k < a + n → test k ≡ false
unfolding first_from
first_from-fails test a zero k is from until = absurd (omega arith)
first_from-fails test a (suc n) k is from until = elim (cases_Bool (test a)) [
  | inl holds ↦ let e : Some a ≡ None = rw holds at is in cc
  | inr fails ↦
      let e : first_from test (a + 1) n ≡ None = rw fails at is in
      elim (cases_eq a k) [ inl same ↦ rw (← same) fails | inr other ↦ first_from-fails test (a + 1) n k e (omega (arith, other)) (omega arith) ]
]
