-- The tokens that have a unit, by their nodes.
use Rattle.std.proofs.Common.{◌≡◌, ℕ, ◌+◌, ◌-◌, ◌<◌, ◌≤◌, ◌^◌, Bool, true, false, ◌||◌, List, [], ◌∷◌, ◌++◌, length, max, get_or, set, slice_get, Option, None, Some, is_some, eqb, inl, inr, eq-eqb, refl, sym, ◌∙◌, ap, subst, length-append, arith}
use Rattle.std.specs.List.{list_any}
use Rattle.std.proofs.Math.Bool.{beq}
use Rattle.std.proofs.Math.Nat.{max-le, max-eq_left}
use Rattle.std.proofs.lemmas.Bool.{cases_eq, cases_lt, ne_eqb, or_cases, or_left, or_right, eqb-true, false_from_ne_true}
use Rattle.std.proofs.lemmas.List.{get_or-set_same, get_or-set_other, length-set}
use Rattle.index_links.specs.Lists.{LinkedLists, list_at, is_among, is_listed, without, empty_lists, with_more_nodes, with_node_at_end, AreApart}
use Rattle.index_links.proofs.LinkedListsLemmas.{among-append, among-last, pushed-other, long-pushed, nodes-pushed, grown-at, grown-listed, long-grown, nodes-grown}
use Rattle.subtask_queue.specs.Firsts.{FirstNodes, first_at, IsRising, AreLive}
use Rattle.subtask_queue.proofs.Moving.{gone-without}
use Rattle.subtask_queue.proofs.Behind.{listed-inside}
use Rattle.subtask_queue.proofs.Places.{at-before, at-place, at-here, is-none, last-none}

rising-low : (low least : ℕ) (xs : List ℕ) → low ≤ least → IsRising least xs → IsRising low xs
unfolding IsRising
rising-low low least [] under is = tt
rising-low low least (x ∷ xs) under is = (let high = is.0 in omega arith, is.1)

rising-least : (least p : ℕ) (xs : List ℕ) → IsRising least xs → is_among xs p ≡ true → least ≤ p
unfolding IsRising is_among
rising-least least p [] is among = cc
rising-least least p (x ∷ xs) is among =
    let high = is.0 in elim (or_cases (eqb p x) (list_any (eqb p) xs) among) [
      | inl here ↦ let same = eqb-true p x here in omega arith
      | inr later ↦ let above = rising-least (x + 1) p xs is.1 later in omega arith
    ]

pub rising-out : (least n : ℕ) (xs : List ℕ) → IsRising least xs → IsRising least (without n xs)
unfolding IsRising without
rising-out least n [] is = tt
rising-out least n (x ∷ xs) is = elim (cases_eq n x) [
  | inl same ↦ rw (eq-eqb n x same) (rising-low least (x + 1) (without n xs) (let high = is.0 in omega arith) (rising-out (x + 1) n xs is.1))
  | inr other ↦ rw (ne_eqb n x other) (is.0, rising-out (x + 1) n xs is.1)
]

rising-end : (least n : ℕ) (xs : List ℕ) → least ≤ n → IsRising least xs → ((p : ℕ) → is_among xs p ≡ true → p < n) → IsRising least (xs ++ n ∷ [])
unfolding IsRising is_among
rising-end least n [] low is below = (low, tt)
rising-end least n (x ∷ xs) low is below =
    let under = below x (or_left (eqb x x) (list_any (eqb x) xs) (eq-eqb x x refl)) in
    (is.0, rising-end (x + 1) n xs (omega arith) is.1 (λ p among. below p (or_right (eqb p x) (list_any (eqb p) xs) among)))

among-out : (n p : ℕ) (xs : List ℕ) → (p ≡ n → ⊥) → is_among (without n xs) p ≡ is_among xs p
unfolding is_among without
among-out n p [] other = refl
among-out n p (x ∷ xs) other = elim (cases_eq n x) [
  | inl same ↦ rw (eq-eqb n x same, ne_eqb p x (λ is. other (is ∙ sym same))) (among-out n p xs other)
  | inr differ ↦ rw (ne_eqb n x differ) (ap (λ b. eqb p x || b) (among-out n p xs other))
]

or-false : (b : Bool) → (b || false) ≡ b
or-false true = refl
or-false false = refl

among-end : (n p : ℕ) (xs : List ℕ) → (p ≡ n → ⊥) → is_among (without n xs ++ n ∷ []) p ≡ is_among xs p
unfolding is_among
among-end n p xs other = among-append (without n xs) (n ∷ []) p ∙ rw (ne_eqb p n other, among-out n p xs other) (or-false (is_among xs p))

head-least : (p head : ℕ) (xs : List ℕ) → IsRising 0 xs → slice_get xs 0 ≡ Some head → is_among xs p ≡ true → p < head → ⊥
unfolding IsRising
head-least p head [] is first among under = cc
head-least p head (x ∷ xs) is first among under =
    let same : x ≡ head = cc in
    let high = rising-least x p (x ∷ xs) (omega arith, is.1) among in
    absurd (omega arith)

none-among : (p : ℕ) (xs : List ℕ) → slice_get xs 0 ≡ None → is_among xs p ≡ false
unfolding is_among
none-among p [] is = refl
none-among p (x ∷ xs) is = cc

before-last : (n p : ℕ) (xs : List ℕ) → (n ≤ p → is_among xs p ≡ false) → is_among (without n xs) p ≡ true → p < n
before-last n p xs none among = elim (cases_lt p n) [
  | inl under ↦ under
  | inr high ↦
      let differ : p ≡ n → ⊥ = λ same. let never : true ≡ false = sym among ∙ ap (is_among (without n xs)) same ∙ gone-without n xs in cc in
      let never : true ≡ false = sym among ∙ among-out n p xs differ ∙ none (omega arith) in cc
]

-- the head of the list is the least token with a unit
pub least-head : (base : ℕ) (nodes : List (Option ℕ)) (s : LinkedLists) (head p : ℕ) → AreLive base nodes s → slice_get (list_at s 0) 0 ≡ Some head → p < head → is_some (get_or nodes p None) ≡ false
least-head base nodes s head p live is under = sym (live.live p) ∙ false_from_ne_true (is_among (list_at s 0) p) (λ among. absurd (head-least p head (list_at s 0) live.rising is among under))

pub none-live : (base : ℕ) (nodes : List (Option ℕ)) (s : LinkedLists) (p : ℕ) → AreLive base nodes s → slice_get (list_at s 0) 0 ≡ None → is_some (get_or nodes p None) ≡ false
none-live base nodes s p live is = sym (live.live p) ∙ none-among p (list_at s 0) is

-- a node after `set`, whose list changes at most
live-set : (base n : ℕ) (node : Option ℕ) (nodes : List (Option ℕ)) (s t : LinkedLists) → AreLive base nodes s → n < length nodes → base + n < 2 ^ 64 → t.nodes ≡ s.nodes → length t.lists ≡ 2 → AreApart t
    → ((p : ℕ) → (p ≡ n → ⊥) → is_among (list_at t 0) p ≡ is_among (list_at s 0) p) → is_among (list_at t 0) n ≡ is_some node → IsRising 0 (list_at t 0) → AreLive base (set nodes n node) t
live-set base n node nodes s t live inside low same lists apart others here rising = record {
  nodes_is = same ∙ live.nodes_is ∙ sym (length-set nodes n node);
  few = omega (arith, length-set nodes n node, live.few);
  lists = lists;
  apart = apart;
  live = λ p. elim (cases_eq p n) [
    | inl is ↦ ap (is_among (list_at t 0)) is ∙ here ∙ ap is_some (sym (ap (λ k. get_or (set nodes n node) k None) is ∙ get_or-set_same nodes n node None inside))
    | inr other ↦ others p other ∙ live.live p ∙ ap is_some (sym (get_or-set_other nodes n p node None other))
  ];
  rising = rising;
  below = λ p some. elim (cases_eq p n) [
    | inl is ↦ omega (arith, is, low)
    | inr other ↦ live.below p (ap is_some (sym (get_or-set_other nodes n p node None other)) ∙ some)
  ];
}

pub live-kept : (base n : ℕ) (node : Option ℕ) (nodes : List (Option ℕ)) (s : LinkedLists) → AreLive base nodes s → n < length nodes → base + n < 2 ^ 64 → is_some (get_or nodes n None) ≡ is_some node → AreLive base (set nodes n node) s
live-kept base n node nodes s live inside low is = live-set base n node nodes s s live inside low refl live.lists live.apart (λ p other. refl) (live.live n ∙ is) live.rising

pub live-freed : (base n : ℕ) (node : Option ℕ) (nodes : List (Option ℕ)) (s t : LinkedLists) → AreLive base nodes s → n < length nodes → base + n < 2 ^ 64 → t.nodes ≡ s.nodes → length t.lists ≡ 2 → AreApart t
    → list_at t 0 ≡ without n (list_at s 0) → is_some node ≡ false → AreLive base (set nodes n node) t
live-freed base n node nodes s t live inside low same lists apart is none =
    live-set base n node nodes s t live inside low same lists apart
    (λ p other. ap (λ xs. is_among xs p) is ∙ among-out n p (list_at s 0) other) (ap (λ xs. is_among xs n) is ∙ gone-without n (list_at s 0) ∙ sym none) (rw is (rising-out 0 n (list_at s 0) live.rising))

pub live-opened : (base n : ℕ) (node : Option ℕ) (nodes : List (Option ℕ)) (s t : LinkedLists) → AreLive base nodes s → n < length nodes → base + n < 2 ^ 64 → t.nodes ≡ s.nodes → length t.lists ≡ 2 → AreApart t
    → list_at t 0 ≡ without n (list_at s 0) ++ n ∷ [] → is_some node ≡ true → ((p : ℕ) → n ≤ p → is_some (get_or nodes p None) ≡ false) → AreLive base (set nodes n node) t
live-opened base n node nodes s t live inside low same lists apart is some last =
    live-set base n node nodes s t live inside low same lists apart
    (λ p other. ap (λ xs. is_among xs p) is ∙ among-end n p (list_at s 0) other) (ap (λ xs. is_among xs n) is ∙ among-last (without n (list_at s 0)) n ∙ sym some)
    (rw is (rising-end 0 n (without n (list_at s 0)) (omega arith) (rising-out 0 n (list_at s 0) live.rising) (λ p among. before-last n p (list_at s 0) (λ high. live.live p ∙ last p high) among)))

-- where no token has a unit, the places begin with any other one
place-none : (base p : ℕ) (nodes : List (Option ℕ)) → ((t : ℕ) → first_at (record { base = base; nodes = nodes }) t ≡ None) → get_or nodes p None ≡ None
place-none base p nodes none = sym (at-here (record { base = base; nodes = nodes }) p (base + p) refl) ∙ none (base + p)

pub live-restarted : (base b : ℕ) (nodes : List (Option ℕ)) (s : LinkedLists) → AreLive base nodes s → ((t : ℕ) → first_at (record { base = base; nodes = nodes }) t ≡ None) → AreLive b nodes s
live-restarted base b nodes s live none = record {
  nodes_is = live.nodes_is;
  few = live.few;
  lists = live.lists;
  apart = live.apart;
  live = live.live;
  rising = live.rising;
  below = λ p some. let never : true ≡ false = sym some ∙ ap is_some (place-none base p nodes none) in cc;
}

pub none-restarted : (base b : ℕ) (nodes : List (Option ℕ)) → ((t : ℕ) → first_at (record { base = base; nodes = nodes }) t ≡ None) → (t : ℕ) → first_at (record { base = b; nodes = nodes }) t ≡ None
none-restarted base b nodes none t = elim (cases_lt t b) [
  | inl before ↦ at-before (record { base = b; nodes = nodes }) t before
  | inr after ↦ at-place (record { base = b; nodes = nodes }) t (omega arith) ∙ place-none base (t - b) nodes none
]

pub max-other : (a b m : ℕ) → m ≡ max a b → a < m → m ≤ b
max-other a b m is less = elim (cases_lt b a) [
  | inl low ↦ absurd (omega (arith, less, is, max-eq_left {n = a} {m = b} (omega (arith, low))))
  | inr high ↦ omega (arith, is, max-le {a = a} {b = b} {k = b} (omega (arith, high)) (omega arith))
]

-- before the place at which the scan begins
pub scan-begins : (f : FirstNodes) (s : LinkedLists) (token head begin t : ℕ) → AreLive f.base f.nodes s → slice_get (list_at s 0) 0 ≡ Some head → (token - f.base < begin → begin ≤ head) → token ≤ t → t < f.base + begin → first_at f t ≡ None
scan-begins f s token head begin t live is most from below = elim (cases_lt t f.base) [
  | inl before ↦ at-before f t before
  | inr after ↦
      let high = most (omega arith) in
      at-place f t (omega arith) ∙ is-none (get_or f.nodes (t - f.base) None) (least-head f.base f.nodes s head (t - f.base) live is (omega arith))
]

pub scan-none : (f : FirstNodes) (s : LinkedLists) (t : ℕ) → AreLive f.base f.nodes s → slice_get (list_at s 0) 0 ≡ None → first_at f t ≡ None
scan-none f s t live is = elim (cases_lt t f.base) [
  | inl before ↦ at-before f t before
  | inr after ↦ at-place f t (omega arith) ∙ is-none (get_or f.nodes (t - f.base) None) (none-live f.base f.nodes s (t - f.base) live is)
]

-- one more node, which is free
pub live-more : (base : ℕ) (nodes : List (Option ℕ)) (s t : LinkedLists) → AreLive base nodes s → t.nodes ≡ s.nodes + 1 → length nodes + 1 < 2 ^ 32 → length t.lists ≡ 2 → AreApart t → list_at t 0 ≡ list_at s 0 → AreLive base (nodes ++ None ∷ []) t
live-more base nodes s t live more few lists apart same = record {
  nodes_is = omega (arith, more, live.nodes_is, length-append nodes (None ∷ []));
  few = omega (arith, few, length-append nodes (None ∷ []));
  lists = lists;
  apart = apart;
  live = λ p. ap (λ xs. is_among xs p) same ∙ live.live p ∙ ap is_some (sym (last-none nodes p));
  rising = rw same live.rising;
  below = λ p some. live.below p (ap is_some (sym (last-none nodes p)) ∙ some);
}

pub live-none : (nodes : List (Option ℕ)) (s : LinkedLists) → nodes ≡ [] → s ≡ empty_lists 0 2 → AreApart s → AreLive 0 nodes s
unfolding empty_lists list_at is_among IsRising
live-none nodes s none is apart = record {
  nodes_is = ap (λ t. t.nodes) is ∙ ap length (sym none);
  few = rw none (omega arith);
  lists = ap (λ t. length t.lists) is;
  apart = apart;
  live = λ p. ap (λ t. is_among (list_at t 0) p) is ∙ ap is_some (sym (ap (λ xs. get_or xs p None) none));
  rising = rw is tt;
  below = λ p some. let never : true ≡ false = sym some ∙ ap (λ xs. is_some (get_or xs p None)) none in cc;
}

pub lists-more : (s k : LinkedLists) → k ≡ with_more_nodes s 1 → length k.lists ≡ length s.lists
lists-more s k is = ap (λ t. length t.lists) is ∙ long-grown s 1

pub nodes-more : (s k : LinkedLists) → k ≡ with_more_nodes s 1 → k.nodes ≡ s.nodes + 1
nodes-more s k is = ap (λ t. t.nodes) is ∙ nodes-grown s 1

-- a new node is in no list
pub new-unlisted : (s k : LinkedLists) (n : ℕ) → AreApart s → k ≡ with_more_nodes s 1 → n ≡ s.nodes → is_listed k n ≡ false
new-unlisted s k n apart is new = false_from_ne_true (is_listed k n) (λ listed.
    let inside = listed-inside s n apart (sym (ap (λ t. is_listed t n) is ∙ grown-listed s 1 n) ∙ listed) in absurd (omega (arith, inside, new)))

pub live-grown : (base n : ℕ) (nodes : List (Option ℕ)) (s k t : LinkedLists) → AreLive base nodes s → length nodes + 1 < 2 ^ 32 → k ≡ with_more_nodes s 1 → t ≡ with_node_at_end k 1 n → AreApart t → AreLive base (nodes ++ None ∷ []) t
live-grown base n nodes s k t live few more is apart =
    live-more base nodes s t live (ap (λ u. u.nodes) is ∙ nodes-pushed k 1 n ∙ nodes-more s k more) few (ap (λ u. length u.lists) is ∙ long-pushed k 1 n ∙ lists-more s k more ∙ live.lists) apart
    (ap (λ u. list_at u 0) is ∙ pushed-other k 1 n 0 (λ one. omega arith) ∙ ap (λ u. list_at u 0) more ∙ grown-at s 1 0)

-- where no token from this place on has a unit
pub last-place : (f : FirstNodes) (token p : ℕ) → f.base ≤ token → ((t : ℕ) → token ≤ t → first_at f t ≡ None) → token - f.base ≤ p → is_some (get_or f.nodes p None) ≡ false
last-place f token p after none from = ap is_some (sym (at-here f p (f.base + p) refl) ∙ none (f.base + p) (omega arith))

pub other-true : (a b : Bool) → beq a b ≡ false → a ≡ true → b ≡ false
other-true true true differ is = cc
other-true true false differ is = refl
other-true false b differ is = cc

pub other-false : (a b : Bool) → beq a b ≡ false → a ≡ false → b ≡ true
other-false false false differ is = cc
other-false false true differ is = refl
other-false true b differ is = cc
