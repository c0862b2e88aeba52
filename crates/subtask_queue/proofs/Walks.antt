-- A walk along the nodes that wait: what is passed, and what is still to come.
use Rattle.std.proofs.Common.{◌≡◌, ◌≢◌, ℕ, zero, suc, ◌+◌, ◌<◌, ◌≤◌, Bool, true, false, List, [], ◌∷◌, length, map, drop, slice_get, Option, None, Some, inl, inr, eq-eqb, refl, sym, ◌∙◌, ap, subst, arith}
use Rattle.std.specs.List.{find}
use Rattle.std.proofs.lemmas.Bool.{cases_Bool, ne_eqb, eqb-true, and_parts}
use Rattle.std.proofs.lemmas.List.{length-map}
use Rattle.std.proofs.lemmas.Map.Steps.{length-le_from_distinct_below}
use Rattle.index_links.specs.Lists.{LinkedLists, list_at, is_among, is_listed, AreApart}
use Rattle.index_links.proofs.LinkedListsLemmas.{among-at, listed-from}
use Rattle.subtask_queue.specs.declared.sub.Sub.{Sub}
use Rattle.subtask_queue.specs.Subs.{token_of, is_of, is_unit, has_block}
use Rattle.subtask_queue.specs.Owned.{sub_at, units_at, subs_in, first_node, without_one, is_own, is_node, AreRising, AreNodes}

drop-some : (xs : List ℕ) (i x : ℕ) → slice_get xs i ≡ Some x → drop i xs ≡ x ∷ drop (suc i) xs
drop-some [] i x is = cc
drop-some (y ∷ ys) zero x is = let same : y ≡ x = cc in ap (λ z. z ∷ ys) same
drop-some (y ∷ ys) (suc i) x is = drop-some ys i x is

drop-none : (xs : List ℕ) (i : ℕ) → slice_get xs i ≡ None → drop i xs ≡ []
drop-none [] zero is = refl
drop-none [] (suc i) is = refl
drop-none (y ∷ ys) zero is = cc
drop-none (y ∷ ys) (suc i) is = drop-none ys i is

drop-past : (xs : List ℕ) (i : ℕ) → length xs ≤ i → drop i xs ≡ []
drop-past [] zero past = refl
drop-past [] (suc i) past = refl
drop-past (y ∷ ys) zero past = absurd (omega arith)
drop-past (y ∷ ys) (suc i) past = drop-past ys i (omega arith)

-- a list has at most as many nodes as there are
pub list-short : (s : LinkedLists) (l : ℕ) → AreApart s → length (list_at s l) ≤ s.nodes
unfolding is_among
list-short s l apart = length-le_from_distinct_below (list_at s l) s.nodes (apart.distinct l) (λ x among. apart.within l x among)

pub node-inside : (s : LinkedLists) (l i x : ℕ) → AreApart s → slice_get (list_at s l) i ≡ Some x → x < s.nodes
node-inside s l i x apart is = apart.within l x (among-at (list_at s l) i x is)

pub node-listed : (s : LinkedLists) (l i x : ℕ) → slice_get (list_at s l) i ≡ Some x → is_listed s x ≡ true
node-listed s l i x is = listed-from s l x (among-at (list_at s l) i x is)

units-drop : (subs : List Sub) (xs : List ℕ) (i x : ℕ) → slice_get xs i ≡ Some x → units_at subs (drop i xs) ≡ (x, sub_at subs x) ∷ units_at subs (drop (suc i) xs)
unfolding units_at
units-drop subs xs i x is = ap (map (λ n. (n, sub_at subs n))) (drop-some xs i x is)

units-none : (subs : List Sub) (xs : List ℕ) (i : ℕ) → drop i xs ≡ [] → units_at subs (drop i xs) ≡ []
unfolding units_at
units-none subs xs i is = ap (map (λ n. (n, sub_at subs n))) is

-- ---- the first unit that passes a test

pub find-here : (p : Sub → Bool) (subs : List Sub) (xs : List ℕ) (i x : ℕ) → slice_get xs i ≡ Some x → p (sub_at subs x) ≡ true → find p (subs_in (units_at subs (drop i xs))) ≡ Some (sub_at subs x)
unfolding subs_in
find-here p subs xs i x is is-so = rw (units-drop subs xs i x is, is-so) refl

pub find-later : (p : Sub → Bool) (subs : List Sub) (xs : List ℕ) (i x : ℕ) → slice_get xs i ≡ Some x → p (sub_at subs x) ≡ false → find p (subs_in (units_at subs (drop i xs))) ≡ find p (subs_in (units_at subs (drop (suc i) xs)))
unfolding subs_in
find-later p subs xs i x is no' = rw (units-drop subs xs i x is, no') refl

find-empty : (p : Sub → Bool) (subs : List Sub) (xs : List ℕ) (i : ℕ) → drop i xs ≡ [] → find p (subs_in (units_at subs (drop i xs))) ≡ None
unfolding subs_in
find-empty p subs xs i is = rw (units-none subs xs i is) refl

pub find-end : (p : Sub → Bool) (subs : List Sub) (xs : List ℕ) (i : ℕ) → slice_get xs i ≡ None → find p (subs_in (units_at subs (drop i xs))) ≡ None
find-end p subs xs i is = find-empty p subs xs i (drop-none xs i is)

pub find-past : (p : Sub → Bool) (subs : List Sub) (s : LinkedLists) (l i : ℕ) → AreApart s → s.nodes ≡ length subs → length subs ≤ i → find p (subs_in (units_at subs (drop i (list_at s l)))) ≡ None
find-past p subs s l i apart nodes past = find-empty p subs (list_at s l) i (drop-past (list_at s l) i (omega (arith, list-short s l apart, nodes)))

-- ---- the units of one token, from its first one on

-- the place at which the walk begins: none before it is of the token, and the tokens rise behind it
pub record Begins (subs : List Sub) (xs : List ℕ) (token first : ℕ) : Type 0 where
  pub place : ℕ
  pub at_place : slice_get xs place ≡ Some first
  pub own : is_own token (first, sub_at subs first) ≡ true
  pub passed : (p : ℕ × Sub → Bool) → ((e : ℕ × Sub) → p e ≡ true → is_own token e ≡ true) → first_node p (units_at subs xs) ≡ first_node p (units_at subs (drop place xs))
  pub second : first_node (is_own token) (without_one (is_own token) (units_at subs xs)) ≡ first_node (is_own token) (units_at subs (drop (suc place) xs))
  pub rising : AreRising token (units_at subs (drop place xs))

pub rising-from : (least low : ℕ) (us : List (ℕ × Sub)) → low ≤ least → AreRising least us → AreRising low us
unfolding AreRising
rising-from least low [] within is = tt
rising-from least low (e ∷ us) within is = (let h = is.0 in omega arith, is.1)

pub not-of : (p own : ℕ × Sub → Bool) (e : ℕ × Sub) → (p e ≡ true → own e ≡ true) → own e ≡ false → p e ≡ false
not-of p own e of not' = elim (cases_Bool (p e)) [ inl is ↦ let never : true ≡ false = sym (of is) ∙ not' in cc | inr is ↦ is ]

pub begins : (least : ℕ) (subs : List Sub) (xs : List ℕ) (token first : ℕ) → AreRising least (units_at subs xs) → first_node (is_own token) (units_at subs xs) ≡ Some first → Begins subs xs token first
unfolding AreRising units_at first_node without_one is_own is_of
begins least subs [] token first rising is = cc
begins least subs (x ∷ xs) token first rising is = elim (cases_Bool (is_own token (x, sub_at subs x))) [
  | inl here ↦
      let head : Some x ≡ Some first = rw here at is in
      let same : x ≡ first = cc in
      record {
        place = zero;
        at_place = head;
        own = subst (λ y. is_own token (y, sub_at subs y) ≡ true) same here;
        passed = λ p of. refl;
        second = rw here refl;
        rising = (let eq = eqb-true token (token_of (sub_at subs x)) here in omega arith, rising.1);
      }
  | inr other ↦
      let later = begins (token_of (sub_at subs x)) subs xs token first rising.1 (rw other at is) in
      record {
        place = suc later.place;
        at_place = later.at_place;
        own = later.own;
        passed = λ p of. rw (not-of p (is_own token) (x, sub_at subs x) (of (x, sub_at subs x)) other) (later.passed p of);
        second = rw (other, other) later.second;
        rising = later.rising;
      }
]

-- ---- the unit of a token with some block

pub node-own : (token block : ℕ) (e : ℕ × Sub) → is_node token block e ≡ true → is_own token e ≡ true
unfolding is_node is_own is_unit
node-own token block e is = (and_parts (is_of token e.1) (has_block block e.1) is).0

pub unit-begins : (subs : List Sub) (xs : List ℕ) (token first block : ℕ) (b : Begins subs xs token first) → first_node (is_node token block) (units_at subs xs) ≡ first_node (is_node token block) (units_at subs (drop b.place xs))
unit-begins subs xs token first block b = b.passed (is_node token block) (node-own token block)

pub unit-end : (subs : List Sub) (xs : List ℕ) (token block i : ℕ) → slice_get xs i ≡ None → first_node (is_node token block) (units_at subs (drop i xs)) ≡ None
unfolding first_node
unit-end subs xs token block i is = rw (units-none subs xs i (drop-none xs i is)) refl

pub unit-past : (subs : List Sub) (s : LinkedLists) (l token block i : ℕ) → AreApart s → s.nodes ≡ length subs → length subs ≤ i → first_node (is_node token block) (units_at subs (drop i (list_at s l))) ≡ None
unfolding first_node
unit-past subs s l token block i apart nodes past = rw (units-none subs (list_at s l) i (drop-past (list_at s l) i (omega (arith, list-short s l apart, nodes)))) refl

pub unit-here : (subs : List Sub) (xs : List ℕ) (token block i x : ℕ) → slice_get xs i ≡ Some x → is_node token block (x, sub_at subs x) ≡ true → first_node (is_node token block) (units_at subs (drop i xs)) ≡ Some x
unfolding first_node
unit-here subs xs token block i x is here = rw (units-drop subs xs i x is, here) refl

pub unit-later : (subs : List Sub) (xs : List ℕ) (token block i x : ℕ) → slice_get xs i ≡ Some x → is_node token block (x, sub_at subs x) ≡ false
    → first_node (is_node token block) (units_at subs (drop i xs)) ≡ first_node (is_node token block) (units_at subs (drop (suc i) xs))
unfolding first_node
unit-later subs xs token block i x is other = rw (units-drop subs xs i x is, other) refl

pub rising-later : (subs : List Sub) (xs : List ℕ) (token i x : ℕ) → slice_get xs i ≡ Some x → AreRising token (units_at subs (drop i xs)) → AreRising token (units_at subs (drop (suc i) xs))
unfolding AreRising
rising-later subs xs token i x is rising =
    let all : AreRising token ((x, sub_at subs x) ∷ units_at subs (drop (suc i) xs)) = subst (AreRising token) (units-drop subs xs i x is) rising in
    rising-from (token_of (sub_at subs x)) token (units_at subs (drop (suc i) xs)) all.0 all.1

-- no unit of a later token is of this one
pub not-own : (token : ℕ) (e : ℕ × Sub) → token < token_of e.1 → is_own token e ≡ false
unfolding is_own is_of
not-own token e below = ne_eqb token (token_of e.1) (λ same. omega (arith, same, below))

pub own-same : (token : ℕ) (e : ℕ × Sub) → is_own token e ≡ false → token ≢ token_of e.1
unfolding is_own is_of
own-same token e other same = let never : true ≡ false = sym (eq-eqb token (token_of e.1) same) ∙ other in cc

pub later-none : (token least : ℕ) (p : ℕ × Sub → Bool) (us : List (ℕ × Sub)) → ((e : ℕ × Sub) → p e ≡ true → is_own token e ≡ true) → AreRising least us → token < least → first_node p us ≡ None
unfolding first_node AreRising
later-none token least p [] of rising below = refl
later-none token least p (e ∷ us) of rising below =
    let high = rising.0 in
    rw (not-of p (is_own token) e (of e) (not-own token e (omega arith))) (later-none token (token_of e.1) p us of rising.1 (omega arith))

pub beyond : (subs : List Sub) (xs : List ℕ) (token i x : ℕ) (p : ℕ × Sub → Bool) → ((e : ℕ × Sub) → p e ≡ true → is_own token e ≡ true) → slice_get xs i ≡ Some x → AreRising token (units_at subs (drop i xs))
    → is_own token (x, sub_at subs x) ≡ false → first_node p (units_at subs (drop i xs)) ≡ None
unfolding AreRising
beyond subs xs token i x p of is rising other =
    let all : AreRising token ((x, sub_at subs x) ∷ units_at subs (drop (suc i) xs)) = subst (AreRising token) (units-drop subs xs i x is) rising in
    let differs : token ≢ token_of (sub_at subs x) = own-same token (x, sub_at subs x) other in
    let high = all.0 in
    let above : token < token_of (sub_at subs x) = omega arith in
    ap (first_node p) (units-drop subs xs i x is)
    ∙ later-none token (token_of (sub_at subs x)) p ((x, sub_at subs x) ∷ units_at subs (drop (suc i) xs)) of (omega arith, all.1) above

pub unit-beyond : (subs : List Sub) (xs : List ℕ) (token block i x : ℕ) → slice_get xs i ≡ Some x → AreRising token (units_at subs (drop i xs))
    → is_own token (x, sub_at subs x) ≡ false → first_node (is_node token block) (units_at subs (drop i xs)) ≡ None
unit-beyond subs xs token block i x is rising other = beyond subs xs token i x (is_node token block) (node-own token block) is rising other

-- ---- the second unit of a token

pub next-place : (xs : List ℕ) (i : ℕ) (o : Option ℕ) → o ≡ slice_get xs (i + 1) → o ≡ slice_get xs (suc i)
next-place xs i o is = let one : i + 1 ≡ suc i = omega arith in is ∙ ap (slice_get xs) one

pub second-here : (subs : List Sub) (xs : List ℕ) (token i x : ℕ) → slice_get xs i ≡ Some x → is_own token (x, sub_at subs x) ≡ true → first_node (is_own token) (units_at subs (drop i xs)) ≡ Some x
unfolding first_node
second-here subs xs token i x is here = rw (units-drop subs xs i x is, here) refl

pub second-end : (subs : List Sub) (xs : List ℕ) (token i : ℕ) → slice_get xs i ≡ None → first_node (is_own token) (units_at subs (drop i xs)) ≡ None
unfolding first_node
second-end subs xs token i is = rw (units-none subs xs i (drop-none xs i is)) refl

pub second-beyond : (subs : List Sub) (xs : List ℕ) (token first : ℕ) (b : Begins subs xs token first) (x : ℕ) → slice_get xs (suc b.place) ≡ Some x
    → is_own token (x, sub_at subs x) ≡ false → first_node (is_own token) (units_at subs (drop (suc b.place) xs)) ≡ None
second-beyond subs xs token first b x is other =
    beyond subs xs token (suc b.place) x (is_own token) (λ e own. own) is (rising-later subs xs token b.place first b.at_place b.rising) other

pub units-short : (subs : List Sub) (s : LinkedLists) (spare : ℕ) → AreNodes subs s spare → length (units_at subs (list_at s 0)) ≤ length subs
unfolding units_at
units-short subs s spare are = omega (arith, length-map {B = ℕ × Sub} (list_at s 0) (λ n. (n, sub_at subs n)), list-short s 0 are.apart, are.nodes)
