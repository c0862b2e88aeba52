-- The first unit of each token: before and after some units are taken out or put behind.
use Rattle.std.proofs.Common.{◌≡◌, ◌≢◌, ℕ, ◌+◌, ◌≤◌, Bool, true, false, cond, not, List, [], ◌∷◌, ◌++◌, length, slice_get, None, Some, option_map, inl, inr, eq-eqb, refl, sym, ◌∙◌, ap, subst, arith}
use Rattle.std.specs.Prelude.{if◌then◌else◌}
use Rattle.std.specs.List.{find, filter, count_by}
use Rattle.std.proofs.lemmas.Bool.{cases_Bool, ne_eqb, eqb-true}
use Rattle.std.proofs.lemmas.List.Sums.{sum_by-cons}
use Rattle.subtask_queue.specs.declared.sub.Sub.{Sub}
use Rattle.subtask_queue.specs.Subs.{token_of, block_of, is_of, has_block, is_unit, without_first, without_token, AreBelow}
use Rattle.subtask_queue.specs.Owned.{sub_at, units_at, subs_in, is_own, is_node, first_node, without_one, AreOf, AreRising}
use Rattle.subtask_queue.proofs.Walks.{node-own, not-of, rising-from}

-- ---- the first unit of a token, which has a block or not

pub first-taken : (subs : List Sub) (xs : List ℕ) (token block first : ℕ) → first_node (is_own token) (units_at subs xs) ≡ Some first → is_node token block (first, sub_at subs first) ≡ true
    → without_one (is_own token) (units_at subs xs) ≡ without_one (is_node token block) (units_at subs xs)
unfolding first_node units_at without_one
first-taken subs [] token block first is here = cc
first-taken subs (x ∷ xs) token block first is here = elim (cases_Bool (is_own token (x, sub_at subs x))) [
  | inl own ↦
      let head : Some x ≡ Some first = rw own at is in
      let same : x ≡ first = cc in
      let node : is_node token block (x, sub_at subs x) ≡ true = subst (λ y. is_node token block (y, sub_at subs y) ≡ true) (sym same) here in
      rw (own, node) refl
  | inr other ↦
      rw (other, not-of (is_node token block) (is_own token) (x, sub_at subs x) (node-own token block (x, sub_at subs x)) other)
      (ap (λ us. (x, sub_at subs x) ∷ us) (first-taken subs xs token block first (rw other at is) here))
]

pub first-kept : (subs : List Sub) (xs : List ℕ) (token block first : ℕ) → first_node (is_own token) (units_at subs xs) ≡ Some first → is_node token block (first, sub_at subs first) ≡ false
    → first_node (is_own token) (without_one (is_node token block) (units_at subs xs)) ≡ Some first
unfolding first_node units_at without_one
first-kept subs [] token block first is here = cc
first-kept subs (x ∷ xs) token block first is here = elim (cases_Bool (is_own token (x, sub_at subs x))) [
  | inl own ↦
      let head : Some x ≡ Some first = rw own at is in
      let same : x ≡ first = cc in
      let node : is_node token block (x, sub_at subs x) ≡ false = subst (λ y. is_node token block (y, sub_at subs y) ≡ false) (sym same) here in
      rw (node, own) head
  | inr other ↦
      rw (not-of (is_node token block) (is_own token) (x, sub_at subs x) (node-own token block (x, sub_at subs x)) other, other)
      (first-kept subs xs token block first (rw other at is) here)
]

pub first-own : (subs : List Sub) (xs : List ℕ) (token first : ℕ) → first_node (is_own token) (units_at subs xs) ≡ Some first → is_own token (first, sub_at subs first) ≡ true
unfolding first_node units_at
first-own subs [] token first is = cc
first-own subs (x ∷ xs) token first is = elim (cases_Bool (is_own token (x, sub_at subs x))) [
  | inl own ↦
      let head : Some x ≡ Some first = rw own at is in
      let same : x ≡ first = cc in
      subst (λ y. is_own token (y, sub_at subs y) ≡ true) same own
  | inr other ↦ first-own subs xs token first (rw other at is)
]

pub none-taken : (p : ℕ × Sub → Bool) (us : List (ℕ × Sub)) → first_node p us ≡ None → us ≡ without_one p us
unfolding first_node without_one
none-taken p [] is = refl
none-taken p (e ∷ us) is = elim (cases_Bool (p e)) [
  | inl here ↦ let never : Some e.0 ≡ None = rw here at is in cc
  | inr other ↦ rw other (ap (λ rest. e ∷ rest) (none-taken p us (rw other at is)))
]

-- ---- the tokens rise still

pub rising-without : (least : ℕ) (p : ℕ × Sub → Bool) (us : List (ℕ × Sub)) → AreRising least us → AreRising least (without_one p us)
unfolding AreRising without_one
rising-without least p [] is = tt
rising-without least p (e ∷ us) is = elim (p e) as (λ v. AreRising least (if v then us else e ∷ without_one p us)) [
  | true ↦ rising-from (token_of e.1) least us is.0 is.1
  | false ↦ (is.0, rising-without (token_of e.1) p us is.1)
]

pub rising-filter : (least : ℕ) (p : ℕ × Sub → Bool) (us : List (ℕ × Sub)) → AreRising least us → AreRising least (filter p us)
unfolding AreRising
rising-filter least p [] is = tt
rising-filter least p (e ∷ us) is = elim (p e) as (λ v. AreRising least (if v then e ∷ filter p us else filter p us)) [
  | true ↦ (is.0, rising-filter (token_of e.1) p us is.1)
  | false ↦ rising-from (token_of e.1) least (filter p us) is.0 (rising-filter (token_of e.1) p us is.1)
]

rising-own : (token : ℕ) (us : List (ℕ × Sub)) → AreOf token (subs_in us) → AreRising token us
unfolding AreRising AreOf subs_in
rising-own token [] of = tt
rising-own token (e ∷ us) of = let same = of.0 in (omega arith, subst (λ t. AreRising t us) (sym same) (rising-own token us of.1))

pub rising-append : (least token : ℕ) (us vs : List (ℕ × Sub)) → least ≤ token → AreRising least us → AreBelow token (subs_in us) → AreOf token (subs_in vs) → AreRising least (us ++ vs)
unfolding AreRising AreBelow subs_in
rising-append least token [] vs within is below of = rising-from token least vs within (rising-own token vs of)
rising-append least token (e ∷ us) vs within is below of = let low = below.0 in (is.0, rising-append (token_of e.1) token us vs (omega arith) is.1 below.1 of)

-- ---- what is left are the units of the queue without some

pub subs-without : (token block : ℕ) (us : List (ℕ × Sub)) → subs_in (without_one (is_node token block) us) ≡ without_first (is_unit token block) (subs_in us)
unfolding subs_in without_one without_first is_node
subs-without token block [] = refl
subs-without token block (e ∷ us) = elim (is_unit token block e.1) as (λ v. subs_in (if v then us else e ∷ without_one (is_node token block) us) ≡ (if v then subs_in us else e.1 ∷ without_first (is_unit token block) (subs_in us))) [
  | true ↦ refl
  | false ↦ ap (λ rest. e.1 ∷ rest) (subs-without token block us)
]

pub subs-filter : (token : ℕ) (us : List (ℕ × Sub)) → subs_in (filter (λ e. not (is_own token e)) us) ≡ without_token token (subs_in us)
unfolding subs_in without_token is_own
subs-filter token [] = refl
subs-filter token (e ∷ us) = elim (is_of token e.1) as (λ v. subs_in (if not v then e ∷ filter (λ f. not (is_own token f)) us else filter (λ f. not (is_own token f)) us) ≡ (if not v then e.1 ∷ without_token token (subs_in us) else without_token token (subs_in us))) [
  | true ↦ subs-filter token us
  | false ↦ ap (λ rest. e.1 ∷ rest) (subs-filter token us)
]

pub subs-count : (token : ℕ) (us : List (ℕ × Sub)) → count_by (is_own token) us ≡ count_by (is_of token) (subs_in us)
unfolding subs_in is_own
subs-count token [] = refl
subs-count token (e ∷ us) =
    sum_by-cons (λ x. cond (is_own token x) 1 0) e us ∙ ap (λ n. cond (is_of token e.1) 1 0 + n) (subs-count token us) ∙ sym (sum_by-cons (λ x. cond (is_of token x) 1 0) e.1 (subs_in us))

pub subs-append : (us vs : List (ℕ × Sub)) → subs_in (us ++ vs) ≡ subs_in us ++ subs_in vs
unfolding subs_in
subs-append [] vs = refl
subs-append (e ∷ us) vs = ap (λ rest. e.1 ∷ rest) (subs-append us vs)

-- ---- the first unit of another token

pub other-own : (token t : ℕ) (e : ℕ × Sub) → t ≢ token → is_own token e ≡ true → is_own t e ≡ false
unfolding is_own is_of
other-own token t e differ own = let same = eqb-true token (token_of e.1) own in ne_eqb t (token_of e.1) (λ is. differ (is ∙ sym same))

pub first-without : (token block t : ℕ) (us : List (ℕ × Sub)) → t ≢ token → first_node (is_own t) us ≡ first_node (is_own t) (without_one (is_node token block) us)
unfolding first_node without_one
first-without token block t [] differ = refl
first-without token block t (e ∷ us) differ = elim (cases_Bool (is_node token block e)) [
  | inl node ↦ rw (node, other-own token t e differ (node-own token block e node)) refl
  | inr other ↦ rw other (elim (is_own t e) as (λ v. option_map (λ (f : ℕ × Sub). f.0) (cond v (Some e) (find (is_own t) us)) ≡ option_map (λ (f : ℕ × Sub). f.0) (cond v (Some e) (find (is_own t) (without_one (is_node token block) us)))) [
    | true ↦ refl
    | false ↦ first-without token block t us differ
  ])
]

pub first-filter : (token t : ℕ) (us : List (ℕ × Sub)) → t ≢ token → first_node (is_own t) us ≡ first_node (is_own t) (filter (λ e. not (is_own token e)) us)
unfolding first_node
first-filter token t [] differ = refl
first-filter token t (e ∷ us) differ = elim (cases_Bool (is_own token e)) [
  | inl own ↦ rw (own, other-own token t e differ own) (first-filter token t us differ)
  | inr other ↦ rw other (elim (is_own t e) as (λ v. option_map (λ (f : ℕ × Sub). f.0) (cond v (Some e) (find (is_own t) us)) ≡ option_map (λ (f : ℕ × Sub). f.0) (cond v (Some e) (find (is_own t) (filter (λ f. not (is_own token f)) us)))) [
    | true ↦ refl
    | false ↦ first-filter token t us differ
  ])
]

pub none-filter : (p : ℕ × Sub → Bool) (us : List (ℕ × Sub)) → None ≡ first_node p (filter (λ e. not (p e)) us)
unfolding first_node
none-filter p [] = refl
none-filter p (e ∷ us) = elim (cases_Bool (p e)) [
  | inl own ↦ rw own (none-filter p us)
  | inr other ↦ rw (other, other) (none-filter p us)
]

pub first-before : (t : ℕ) (us vs : List (ℕ × Sub)) → first_node (is_own t) vs ≡ None → first_node (is_own t) us ≡ first_node (is_own t) (us ++ vs)
unfolding first_node
first-before t [] vs none = sym none
first-before t (e ∷ us) vs none = elim (is_own t e) as (λ v. option_map (λ (f : ℕ × Sub). f.0) (cond v (Some e) (find (is_own t) us)) ≡ option_map (λ (f : ℕ × Sub). f.0) (cond v (Some e) (find (is_own t) (us ++ vs)))) [
  | true ↦ refl
  | false ↦ first-before t us vs none
]

pub first-behind : (t : ℕ) (us vs : List (ℕ × Sub)) → first_node (is_own t) us ≡ None → first_node (is_own t) vs ≡ first_node (is_own t) (us ++ vs)
unfolding first_node
first-behind t [] vs none = refl
first-behind t (e ∷ us) vs none = elim (cases_Bool (is_own t e)) [
  | inl own ↦ let never : Some e.0 ≡ None = rw own at none in cc
  | inr other ↦ rw other (first-behind t us vs (rw other at none))
]

pub of-own : (token : ℕ) (e : ℕ × Sub) → token_of e.1 ≡ token → is_own token e ≡ true
unfolding is_own is_of
of-own token e same = eq-eqb token (token_of e.1) (sym same)

pub none-own : (token t : ℕ) (vs : List (ℕ × Sub)) → t ≢ token → AreOf token (subs_in vs) → first_node (is_own t) vs ≡ None
unfolding first_node AreOf subs_in
none-own token t [] differ of = refl
none-own token t (e ∷ vs) differ of = rw (other-own token t e differ (of-own token e of.0)) (none-own token t vs differ of.1)

pub none-below : (token : ℕ) (us : List (ℕ × Sub)) → AreBelow token (subs_in us) → first_node (is_own token) us ≡ None
unfolding first_node AreBelow subs_in
none-below token [] below = refl
none-below token (e ∷ us) below = let low = below.0 in rw (other-own (token_of e.1) token e (λ same. omega (arith, same, low)) (of-own (token_of e.1) e refl)) (none-below token us below.1)

pub first-all : (token : ℕ) (vs : List (ℕ × Sub)) → AreOf token (subs_in vs) → option_map (λ e. e.0) (slice_get vs 0) ≡ first_node (is_own token) vs
unfolding first_node AreOf subs_in
first-all token [] of = refl
first-all token (e ∷ vs) of = rw (of-own token e of.0) refl

-- ---- the units of a token are taken out one after the other

pub filter-without : (p : ℕ × Sub → Bool) (us : List (ℕ × Sub)) → filter (λ e. not (p e)) (without_one p us) ≡ filter (λ e. not (p e)) us
unfolding without_one
filter-without p [] = refl
filter-without p (e ∷ us) = elim (cases_Bool (p e)) [
  | inl here ↦ rw here refl
  | inr other ↦ rw (other, other) (ap (λ rest. e ∷ rest) (filter-without p us))
]

pub filter-none : (p : ℕ × Sub → Bool) (us : List (ℕ × Sub)) → first_node p us ≡ None → us ≡ filter (λ e. not (p e)) us
unfolding first_node
filter-none p [] is = refl
filter-none p (e ∷ us) is = elim (cases_Bool (p e)) [
  | inl here ↦ let never : Some e.0 ≡ None = rw here at is in cc
  | inr other ↦ rw other (ap (λ rest. e ∷ rest) (filter-none p us (rw other at is)))
]

count-cons : (p : ℕ × Sub → Bool) (e : ℕ × Sub) (us : List (ℕ × Sub)) (v : Bool) → p e ≡ v → count_by p (e ∷ us) ≡ cond v 1 0 + count_by p us
count-cons p e us v is = sum_by-cons (λ x. cond (p x) 1 0) e us ∙ ap (λ b. cond b 1 0 + count_by p us) is

pub count-without : (p : ℕ × Sub → Bool) (us : List (ℕ × Sub)) (x : ℕ) → first_node p us ≡ Some x → count_by p us ≡ 1 + count_by p (without_one p us)
unfolding first_node without_one
count-without p [] x is = cc
count-without p (e ∷ us) x is = elim (cases_Bool (p e)) [
  | inl here ↦ count-cons p e us true here ∙ ap (λ v. 1 + count_by p (if v then us else e ∷ without_one p us)) (sym here)
  | inr other ↦
      let more = count-without p us x (rw other at is) in
      let left : count_by p (e ∷ us) ≡ 1 + count_by p (e ∷ without_one p us) = omega (arith, count-cons p e us false other, count-cons p e (without_one p us) false other, more) in
      left ∙ ap (λ v. 1 + count_by p (if v then us else e ∷ without_one p us)) (sym other)
]

pub count-none : (p : ℕ × Sub → Bool) (us : List (ℕ × Sub)) → first_node p us ≡ None → count_by p us ≡ 0
unfolding first_node
count-none p [] is = refl
count-none p (e ∷ us) is = elim (cases_Bool (p e)) [
  | inl here ↦ let never : Some e.0 ≡ None = rw here at is in cc
  | inr other ↦ omega (arith, count-cons p e us false other, count-none p us (rw other at is))
]

pub length-without : (p : ℕ × Sub → Bool) (us : List (ℕ × Sub)) (x : ℕ) → first_node p us ≡ Some x → length us ≡ length (without_one p us) + 1
unfolding first_node without_one
length-without p [] x is = cc
length-without p (e ∷ us) x is = elim (cases_Bool (p e)) [
  | inl here ↦ rw here (omega arith)
  | inr other ↦ let more = length-without p us x (rw other at is) in rw other (omega (arith, more))
]

pub has-node : (token block x : ℕ) (s : Sub) → is_own token (x, s) ≡ true → block ≡ block_of s → is_node token block (x, s) ≡ true
unfolding is_node is_unit is_own has_block
has-node token block x s own same = rw own (eq-eqb block (block_of s) same)

pub has-no-node : (token block x : ℕ) (s : Sub) → is_own token (x, s) ≡ true → block ≢ block_of s → is_node token block (x, s) ≡ false
unfolding is_node is_unit is_own has_block
has-no-node token block x s own other = rw own (ne_eqb block (block_of s) other)

pub none-long : (p : ℕ × Sub → Bool) (us : List (ℕ × Sub)) → length us ≤ 0 → first_node p us ≡ None
unfolding first_node
none-long p [] none = refl
none-long p (e ∷ us) none = absurd (omega arith)
