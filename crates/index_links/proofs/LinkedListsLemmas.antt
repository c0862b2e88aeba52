-- What callers need of the lists: each list after a call, and which nodes are in it.
use Rattle.std.proofs.Common.{◌≡◌, ℕ, zero, suc, ◌+◌, ◌<◌, ◌≤◌, true, false, not, ◌||◌, List, [], ◌∷◌, ◌++◌, length, get_or, set, slice_get, Some, eqb, inl, inr, eq-eqb, refl, sym, ◌∙◌, subst, arith}
use Rattle.std.specs.List.{list_any, filter}
use Rattle.std.proofs.lemmas.Bool.{cases_eq, cases_lt, ne_eqb, eqb-true, or_cases, or_left, or_right, false_from_ne_true}
use Rattle.std.proofs.lemmas.List.{length-map, get_or-set_same, get_or-set_other, length-set}
use Rattle.std.proofs.lemmas.List.Folds.{list_any-append, list_any_at}
use Rattle.std.proofs.Math.ListN.{get_or-eq_default, get_or-map}
use Rattle.index_links.specs.Lists.{LinkedLists, list_at, is_among, is_listed, without, with_more_nodes, with_node_at_end, without_node, with_list_at_end}

pub past-lists : (s : LinkedLists) (l : ℕ) → length s.lists ≤ l → list_at s l ≡ []
unfolding list_at
past-lists s l past = get_or-eq_default s.lists [] past

-- a list with a node in it is one of the lists
pub list-exists : (s : LinkedLists) (l x : ℕ) → is_among (list_at s l) x ≡ true → l < length s.lists
unfolding is_among
list-exists s l x among = elim (cases_lt l (length s.lists)) [
  | inl inside ↦ inside
  | inr past ↦ let never : is_among [] x ≡ true = subst (λ xs. is_among xs x ≡ true) (past-lists s l past) among in cc
]

-- a node of one of the lists is listed
pub listed-from : (s : LinkedLists) (l x : ℕ) → is_among (list_at s l) x ≡ true → is_listed s x ≡ true
unfolding is_listed list_at is_among
listed-from s l x among = elim (cases_lt l (length s.lists)) [
  | inl inside ↦ list_any_at (λ xs. is_among xs x) s.lists l [] inside among
  | inr past ↦ let empty : get_or s.lists l [] ≡ [] = get_or-eq_default s.lists [] past in let never : is_among [] x ≡ true = subst (λ xs. is_among xs x ≡ true) empty among in cc
]

-- a listed node is in one of the lists
pub listed-in : (s : LinkedLists) (x : ℕ) → is_listed s x ≡ true → (l : ℕ) × (l < length s.lists) × (is_among (list_at s l) x ≡ true)
unfolding is_listed list_at
listed-in s x listed = go s.lists listed where
  go : (lists : List (List ℕ)) → list_any (λ xs. is_among xs x) lists ≡ true → (l : ℕ) × (l < length lists) × (is_among (get_or lists l []) x ≡ true)
  go [] never = cc
  go (xs ∷ lists) is = elim (or_cases (is_among xs x) (list_any (λ xs. is_among xs x) lists) is) [
    | inl here ↦ (zero, omega arith, here)
    | inr later ↦ let (l, inside, among) = go lists later in (suc l, omega arith, among)
  ]

-- what is in no list afterwards was in none before, where each list keeps its nodes in some list
pub unlisted-before : (s t : LinkedLists) (y : ℕ) → ((l : ℕ) → is_among (list_at s l) y ≡ true → (m : ℕ) × (is_among (list_at t m) y ≡ true)) → is_listed t y ≡ false → is_listed s y ≡ false
unlisted-before s t y keeps none = false_from_ne_true (is_listed s y) (λ listed.
    let (l, inside, among) = listed-in s y listed in
    let (m, still) = keeps l among in
    let never : is_listed t y ≡ true = listed-from t m y still in cc)

pub among-append : (xs ys : List ℕ) (y : ℕ) → is_among (xs ++ ys) y ≡ (is_among xs y || is_among ys y)
unfolding is_among
among-append xs ys y = list_any-append (eqb y) xs ys

pub among-last : (xs : List ℕ) (x : ℕ) → is_among (xs ++ x ∷ []) x ≡ true
unfolding is_among
among-last xs x = list_any-append (eqb x) xs (x ∷ []) ∙ or_right (list_any (eqb x) xs) (eqb x x || false) (or_left (eqb x x) false (eq-eqb x x refl))

pub among-at : (xs : List ℕ) (i x : ℕ) → slice_get xs i ≡ Some x → is_among xs x ≡ true
unfolding is_among
among-at [] i x is = cc
among-at (y ∷ ys) zero x is = let same : y ≡ x = cc in or_left (eqb x y) (list_any (eqb x) ys) (eq-eqb x y (sym same))
among-at (y ∷ ys) (suc i) x is = or_right (eqb x y) (list_any (eqb x) ys) (among-at ys i x is)

pub among-without : (x y : ℕ) (xs : List ℕ) → (y ≡ x → ⊥) → is_among xs y ≡ true → is_among (without x xs) y ≡ true
unfolding is_among without
among-without x y [] other among = among
among-without x y (z ∷ zs) other among = elim (or_cases (eqb y z) (list_any (eqb y) zs) among) [
  | inl here ↦
      let same : y ≡ z = eqb-true y z here in
      rw (ne_eqb x z (λ is. other (same ∙ sym is))) (or_left (eqb y z) (list_any (eqb y) (filter (λ w. not (eqb x w)) zs)) here)
  | inr later ↦ elim (cases_eq x z) [
    | inl same ↦ rw (eq-eqb x z same) (among-without x y zs other later)
    | inr apart ↦ rw (ne_eqb x z apart) (or_right (eqb y z) (list_any (eqb y) (filter (λ w. not (eqb x w)) zs)) (among-without x y zs other later))
  ]
]

pub pushed-here : (s : LinkedLists) (l x : ℕ) → l < length s.lists → list_at (with_node_at_end s l x) l ≡ list_at s l ++ x ∷ []
unfolding list_at with_node_at_end
pushed-here s l x there = get_or-set_same s.lists l (get_or s.lists l [] ++ x ∷ []) [] there

pub pushed-other : (s : LinkedLists) (l x m : ℕ) → (m ≡ l → ⊥) → list_at (with_node_at_end s l x) m ≡ list_at s m
unfolding list_at with_node_at_end
pushed-other s l x m other = get_or-set_other s.lists l m (get_or s.lists l [] ++ x ∷ []) [] other

pub long-pushed : (s : LinkedLists) (l x : ℕ) → length (with_node_at_end s l x).lists ≡ length s.lists
unfolding with_node_at_end
long-pushed s l x = length-set s.lists l (list_at s l ++ x ∷ [])

pub nodes-pushed : (s : LinkedLists) (l x : ℕ) → (with_node_at_end s l x).nodes ≡ s.nodes
unfolding with_node_at_end
nodes-pushed s l x = refl

pub among-pushed : (s : LinkedLists) (l x m y : ℕ) → is_among (list_at s m) y ≡ true → is_among (list_at (with_node_at_end s l x) m) y ≡ true
among-pushed s l x m y among = elim (cases_eq m l) [
  | inl same ↦ rw (same, pushed-here s l x (subst (λ h. h < length s.lists) same (list-exists s m y among)), among-append (list_at s l) (x ∷ []) y)
      (or_left (is_among (list_at s l) y) (is_among (x ∷ []) y) (subst (λ h. is_among (list_at s h) y ≡ true) same among))
  | inr other ↦ rw (pushed-other s l x m other) among
]

pub long-unlinked : (s : LinkedLists) (x : ℕ) → length (without_node s x).lists ≡ length s.lists
unfolding without_node
long-unlinked s x = length-map s.lists (without x)

pub nodes-unlinked : (s : LinkedLists) (x : ℕ) → (without_node s x).nodes ≡ s.nodes
unfolding without_node
nodes-unlinked s x = refl

pub unlinked-at : (s : LinkedLists) (x l : ℕ) → list_at (without_node s x) l ≡ without x (list_at s l)
unfolding list_at without_node without
unlinked-at s x l = get_or-map (without x) s.lists l []

pub moved-from : (s : LinkedLists) (from to : ℕ) → from < length s.lists → list_at (with_list_at_end s from to) from ≡ []
unfolding list_at with_list_at_end
moved-from s from to there = get_or-set_same (set s.lists to (get_or s.lists to [] ++ get_or s.lists from [])) from [] [] (rw length-set there)

pub moved-to : (s : LinkedLists) (from to : ℕ) → to < length s.lists → (to ≡ from → ⊥) → list_at (with_list_at_end s from to) to ≡ list_at s to ++ list_at s from
unfolding list_at with_list_at_end
moved-to s from to there other =
    get_or-set_other (set s.lists to (get_or s.lists to [] ++ get_or s.lists from [])) from to [] [] other
    ∙ get_or-set_same s.lists to (get_or s.lists to [] ++ get_or s.lists from []) [] there

pub moved-other : (s : LinkedLists) (from to l : ℕ) → (l ≡ from → ⊥) → (l ≡ to → ⊥) → list_at (with_list_at_end s from to) l ≡ list_at s l
unfolding list_at with_list_at_end
moved-other s from to l not-from not-to =
    get_or-set_other (set s.lists to (get_or s.lists to [] ++ get_or s.lists from [])) from l [] [] not-from
    ∙ get_or-set_other s.lists to l (get_or s.lists to [] ++ get_or s.lists from []) [] not-to

pub long-moved : (s : LinkedLists) (from to : ℕ) → length (with_list_at_end s from to).lists ≡ length s.lists
unfolding with_list_at_end
long-moved s from to = length-set (set s.lists to (list_at s to ++ list_at s from)) from [] ∙ length-set s.lists to (list_at s to ++ list_at s from)

pub nodes-moved : (s : LinkedLists) (from to : ℕ) → (with_list_at_end s from to).nodes ≡ s.nodes
unfolding with_list_at_end
nodes-moved s from to = refl

-- each node that was in a list is in one
pub among-moved : (s : LinkedLists) (from to l y : ℕ) → from < length s.lists → to < length s.lists → (to ≡ from → ⊥) → is_among (list_at s l) y ≡ true →
    (m : ℕ) × (is_among (list_at (with_list_at_end s from to) m) y ≡ true)
among-moved s from to l y from-in to-in differ among = elim (cases_eq l from) [
  | inl same ↦ (
    to,
    rw (moved-to s from to to-in differ, among-append (list_at s to) (list_at s from) y)
        (or_right (is_among (list_at s to) y) (is_among (list_at s from) y) (subst (λ h. is_among (list_at s h) y ≡ true) same among)),
  )
  | inr not-from ↦ elim (cases_eq l to) [
    | inl same ↦ (
      to,
      rw (moved-to s from to to-in differ, among-append (list_at s to) (list_at s from) y)
          (or_left (is_among (list_at s to) y) (is_among (list_at s from) y) (subst (λ h. is_among (list_at s h) y ≡ true) same among)),
    )
    | inr not-to ↦ (l, rw (moved-other s from to l not-from not-to) among)
  ]
]

pub grown-at : (s : LinkedLists) (n l : ℕ) → list_at (with_more_nodes s n) l ≡ list_at s l
unfolding list_at with_more_nodes
grown-at s n l = refl

pub grown-listed : (s : LinkedLists) (n x : ℕ) → is_listed (with_more_nodes s n) x ≡ is_listed s x
unfolding is_listed with_more_nodes
grown-listed s n x = refl

pub long-grown : (s : LinkedLists) (n : ℕ) → length (with_more_nodes s n).lists ≡ length s.lists
unfolding with_more_nodes
long-grown s n = refl

pub nodes-grown : (s : LinkedLists) (n : ℕ) → (with_more_nodes s n).nodes ≡ s.nodes + n
unfolding with_more_nodes
nodes-grown s n = refl
