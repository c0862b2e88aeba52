-- The tokens of one tag in order, and which of them is the first outstanding or uncollected one.
use Rattle.std.proofs.Common.{◌≡◌, ◌≢◌, ℕ, zero, suc, ◌+◌, ◌<◌, ◌≤◌, ◌⊎◌, inl, inr, Bool, true, false, ◌&&◌, List, [], ◌∷◌, ◌++◌, length, slice_get, Option, None, Some, refl, ap, arith}
use Rattle.std.proofs.lemmas.Bool.{cases_eq, cases_lt}
use Rattle.std.proofs.lemmas.Option.{slice_get_within}
use Rattle.history.specs.declared.entry.Entry.{Entry}
use Rattle.history.specs.Tokens.{token_count, request}
use Rattle.history.specs.Marks.{first_from}
use Rattle.history_laws.proofs.ScanLemmas.{first_from-none, first_from-some, first_from-fails}
use Rattle.shared_disk.specs.Lines.{has_tag, own_before}

-- an item of a list with one more behind it
get-last : {X : Type 0} (xs : List X) (x : X) → slice_get (xs ++ x ∷ []) (length xs) ≡ Some x
get-last [] x = refl
get-last (y ∷ xs) x = get-last xs x

get-front : {X : Type 0} (xs : List X) (x y : X) (j : ℕ) → slice_get xs j ≡ Some y → slice_get (xs ++ x ∷ []) j ≡ Some y
get-front [] x y j is = cc
get-front (z ∷ xs) x y zero is = is
get-front (z ∷ xs) x y (suc j) is = get-front xs x y j is

pub get-push : {X : Type 0} (xs : List X) (x y : X) (t : ℕ) → slice_get (xs ++ x ∷ []) t ≡ Some y → (slice_get xs t ≡ Some y) ⊎ ((t ≡ length xs) × (x ≡ y))
get-push [] x y zero is = inr (refl, cc)
get-push [] x y (suc t) is = cc
get-push (z ∷ xs) x y zero is = inl is
get-push (z ∷ xs) x y (suc t) is = elim (get-push xs x y t is) [ inl before ↦ inl before | inr last ↦ inr (omega (arith, last.0), last.1) ]

pub own-more : (H : List Entry) (tag n : ℕ) → has_tag tag (request H n) ≡ true → own_before H tag (suc n) ≡ own_before H tag n ++ n ∷ []
unfolding own_before
own-more H tag n own = rw own refl

pub own-same : (H : List Entry) (tag n : ℕ) → has_tag tag (request H n) ≡ false → own_before H tag (suc n) ≡ own_before H tag n
unfolding own_before
own-same H tag n other = rw other refl

-- a token of the tag stands among them
pub own-in : (H : List Entry) (tag n t : ℕ) → t < n → has_tag tag (request H t) ≡ true → (j : ℕ) × (slice_get (own_before H tag n) j ≡ Some t)
own-in H tag zero t lt own = absurd (omega (arith, lt))
own-in H tag (suc n) t lt own = by (cases_eq t n) (has_tag tag (request H n)) refl (λ less. own-in H tag n t less own)
  where
    by : (t ≡ n) ⊎ (t ≢ n) → (b : Bool) → has_tag tag (request H n) ≡ b → (t < n → (j : ℕ) × (slice_get (own_before H tag n) j ≡ Some t)) → (j : ℕ) × (slice_get (own_before H tag (suc n)) j ≡ Some t)
    by (inl same) true is before = (length (own_before H tag n), rw (own-more H tag n is, same) (get-last (own_before H tag n) n))
    by (inl same) false is before = let bad : has_tag tag (request H n) ≡ true = rw same at own in cc
    by (inr other) true is before = let at : (j : ℕ) × (slice_get (own_before H tag n) j ≡ Some t) = before (omega (arith, lt, other)) in (at.0, rw (own-more H tag n is) (get-front (own_before H tag n) n t at.0 at.1))
    by (inr other) false is before = let at : (j : ℕ) × (slice_get (own_before H tag n) j ≡ Some t) = before (omega (arith, lt, other)) in (at.0, rw (own-same H tag n is) at.1)

-- what stands at a place of theirs: a token of the tag, and each of them before it stands at a place before
pub record IsOwnAt (H : List Entry) (tag n j t : ℕ) : Type 0 where
  pub within : t < n
  pub own : has_tag tag (request H t) ≡ true
  pub before : (u : ℕ) → u < t → has_tag tag (request H u) ≡ true → (k : ℕ) × (k < j) × (slice_get (own_before H tag n) k ≡ Some u)

own-at-more : (H : List Entry) (tag n j t : ℕ) → has_tag tag (request H n) ≡ true → (slice_get (own_before H tag n) j ≡ Some t → IsOwnAt H tag n j t) → slice_get (own_before H tag n ++ n ∷ []) j ≡ Some t → IsOwnAt H tag (suc n) j t
own-at-more H tag n j t own before at = elim (get-push (own_before H tag n) n t j at) [
  | inl there ↦
      let was : IsOwnAt H tag n j t = before there in
      record {
        within = omega (arith, was.within);
        own = was.own;
        before = λ u lt is. let k : (k : ℕ) × (k < j) × (slice_get (own_before H tag n) k ≡ Some u) = was.before u lt is in (k.0, k.1, rw (own-more H tag n own) (get-front (own_before H tag n) n u k.0 k.2));
      }
  | inr last ↦ record {
    within = omega (arith, last.1);
    own = rw (← last.1) own;
    before = λ u lt is.
        let k : (k : ℕ) × (slice_get (own_before H tag n) k ≡ Some u) = own-in H tag n u (omega (arith, lt, last.1)) is in
        (k.0, omega (arith, slice_get_within (own_before H tag n) k.0 u k.1, last.0), rw (own-more H tag n own) (get-front (own_before H tag n) n u k.0 k.1));
  }
]

own-at-none : (H : List Entry) (tag j t : ℕ) → slice_get (own_before H tag zero) j ≡ Some t → IsOwnAt H tag zero j t
unfolding own_before
own-at-none H tag j t at = cc

pub own-at : (H : List Entry) (tag n j t : ℕ) → slice_get (own_before H tag n) j ≡ Some t → IsOwnAt H tag n j t
own-at H tag zero j t at = own-at-none H tag j t at
own-at H tag (suc n) j t at = by (has_tag tag (request H n)) refl (λ there. own-at H tag n j t there)
  where
    by : (b : Bool) → has_tag tag (request H n) ≡ b → (slice_get (own_before H tag n) j ≡ Some t → IsOwnAt H tag n j t) → IsOwnAt H tag (suc n) j t
    by true is before = own-at-more H tag n j t is before (rw (own-more H tag n is) at at)
    by false is before =
        let was : IsOwnAt H tag n j t = before (rw (own-same H tag n is) at at) in
        record { within = omega (arith, was.within); own = was.own; before = λ u lt own. rw (own-same H tag n is) (was.before u lt own) }

-- the least number that passes a test
pub first_from-least : (test : ℕ → Bool) (n t : ℕ) → t < n → test t ≡ true → ((u : ℕ) → u < t → test u ≡ false) → first_from test 0 n ≡ Some t
first_from-least test n t lt is before = by (first_from test 0 n) refl
  where
    not-other : (k : ℕ) → (0 ≤ k) × (k < 0 + n) × (test k ≡ true) × ((j : ℕ) → 0 ≤ j → j < k → test j ≡ false) → k ≢ t → ⊥
    not-other k found other = elim (cases_lt k t) [
      | inl less ↦ (let bad : test k ≡ false = before k less in let good : test k ≡ true = found.2 in cc)
      | inr more ↦ (let bad : test t ≡ false = found.3 t (omega arith) (omega (arith, more, other)) in cc)
    ]

    by : (o : Option ℕ) → first_from test 0 n ≡ o → o ≡ Some t
    by None none = let bad : test t ≡ false = first_from-fails test 0 n t none (omega arith) (omega (arith, lt)) in cc
    by (Some k) some = elim (cases_eq k t) [
      | inl same ↦ ap Some same
      | inr other ↦ absurd (not-other k (first_from-some test 0 n k some) other)
    ]

and-false : (b : Bool) → (b && false) ≡ false
and-false true = refl
and-false false = refl

-- of the tokens of the tag those before a place are done with, and the one there is not: it is the least
pub own-least : (H : List Entry) (tag m t : ℕ) (test : ℕ → Bool) → ((j u : ℕ) → j < m → slice_get (own_before H tag (token_count H)) j ≡ Some u → test u ≡ false) → slice_get (own_before H tag (token_count H)) m ≡ Some t → test t ≡ true
    → first_from (λ u. test u && has_tag tag (request H u)) 0 (token_count H) ≡ Some t
own-least H tag m t test done at is =
    let here : IsOwnAt H tag (token_count H) m t = own-at H tag (token_count H) m t at in
    first_from-least (λ u. test u && has_tag tag (request H u)) (token_count H) t here.within (rw (is, here.own) refl) (λ u lt. by u (here.before u lt) (has_tag tag (request H u)) refl)
  where
    by : (u : ℕ) → (has_tag tag (request H u) ≡ true → (k : ℕ) × (k < m) × (slice_get (own_before H tag (token_count H)) k ≡ Some u)) → (b : Bool) → has_tag tag (request H u) ≡ b → (test u && has_tag tag (request H u)) ≡ false
    by u before true own = let k : (k : ℕ) × (k < m) × (slice_get (own_before H tag (token_count H)) k ≡ Some u) = before own in rw (done k.0 u k.1 k.2) refl
    by u before false other = rw other (and-false (test u))

-- all of them are done with: there is none
pub own-none : (H : List Entry) (tag : ℕ) (test : ℕ → Bool) → ((j u : ℕ) → slice_get (own_before H tag (token_count H)) j ≡ Some u → test u ≡ false) → first_from (λ u. test u && has_tag tag (request H u)) 0 (token_count H) ≡ None
own-none H tag test done = first_from-none (λ u. test u && has_tag tag (request H u)) 0 (token_count H) (λ u le lt. by u (omega (arith, lt)) (has_tag tag (request H u)) refl)
  where
    by : (u : ℕ) → u < token_count H → (b : Bool) → has_tag tag (request H u) ≡ b → (test u && has_tag tag (request H u)) ≡ false
    by u lt true own = let k : (j : ℕ) × (slice_get (own_before H tag (token_count H)) j ≡ Some u) = own-in H tag (token_count H) u lt own in rw (done k.0 u k.1) refl
    by u lt false other = rw other (and-false (test u))

-- the tokens of the tag are the same where the requests are
pub own-before-same : (H H' : List Entry) (tag n : ℕ) → ((t : ℕ) → t < n → request H' t ≡ request H t) → own_before H' tag n ≡ own_before H tag n
unfolding own_before
own-before-same H H' tag zero same = refl
own-before-same H H' tag (suc n) same = rw (same n (omega arith), own-before-same H H' tag n (λ t lt. same t (omega (arith, lt)))) refl
