-- How the lists of nodes change, and the units in them.
use Rattle.std.proofs.Common.{◌≡◌, ℕ, ◌+◌, ◌<◌, Bool, true, false, List, [], ◌∷◌, ◌++◌, length, slice_get, get_or, set, Option, Some, is_some, eqb, inl, inr, eq-eqb, refl, sym, ◌∙◌, ap, subst, arith}
use Rattle.std.specs.List.{list_any, AllByRecursion, IsDistinct}
use Rattle.std.proofs.lemmas.Bool.{cases_eq, cases_Bool, ne_eqb, or_left, or_right, or_parts, false_from_ne_true}
use Rattle.std.proofs.lemmas.List.{get_or_default, get_or-set_same, get_or-set_other}
use Rattle.index_links.specs.Lists.{LinkedLists, list_at, is_among, is_listed, without, with_node_at_end, without_node, AreApart}
use Rattle.index_links.proofs.LinkedListsLemmas.{pushed-here, pushed-other, unlinked-at, long-unlinked, long-pushed, nodes-unlinked, nodes-pushed, listed-in}
use Rattle.subtask_queue.specs.declared.sub.Sub.{Sub}
use Rattle.subtask_queue.specs.declared.sub.Sub.TheVariants.{Part}
use Rattle.subtask_queue.specs.Owned.{sub_at, units_at, first_node, without_one, AreNodes}

without-absent : (x : ℕ) (xs : List ℕ) → is_among xs x ≡ false → without x xs ≡ xs
unfolding is_among without
without-absent x [] none = refl
without-absent x (y ∷ ys) none =
    let (here, later) = or_parts (eqb x y) (list_any (eqb x) ys) none in
    rw here (ap (λ zs. y ∷ zs) (without-absent x ys later))

pub gone-without : (x : ℕ) (xs : List ℕ) → is_among (without x xs) x ≡ false
unfolding is_among without
gone-without x [] = refl
gone-without x (y ∷ ys) = elim (cases_eq x y) [
  | inl same ↦ rw (eq-eqb x y same) (gone-without x ys)
  | inr other ↦ rw (ne_eqb x y other, ne_eqb x y other) (gone-without x ys)
]

absent-distinct : (x : ℕ) (xs : List ℕ) → AllByRecursion (λ y. eqb x y ≡ false) xs → is_among xs x ≡ false
unfolding is_among
absent-distinct x [] all = refl
absent-distinct x (y ∷ ys) all = rw all.0 (absent-distinct x ys all.1)

-- the first node of a list without it
pub without-first : (x : ℕ) (xs : List ℕ) → IsDistinct eqb xs → slice_get xs 0 ≡ Some x → length xs ≡ length (without x xs) + 1
unfolding IsDistinct without
without-first x [] distinct is = cc
without-first x (y ∷ ys) distinct is =
    let same : y ≡ x = cc in
    let gone : is_among ys x ≡ false = subst (λ z. is_among ys z ≡ false) same (absent-distinct y ys distinct.0) in
    rw (eq-eqb x y (sym same)) (omega (arith, ap length (without-absent x ys gone)))

-- a node of one list is in no other
pub absent : (L : LinkedLists) (n a c : ℕ) → AreApart L → is_among (list_at L a) n ≡ true → (c ≡ a → ⊥) → is_among (list_at L c) n ≡ false
absent L n a c apart among other = false_from_ne_true (is_among (list_at L c) n) (λ also. other (apart.alone c a n also among))

pub without-other : (L : LinkedLists) (n a c : ℕ) → AreApart L → is_among (list_at L a) n ≡ true → (c ≡ a → ⊥) → without n (list_at L c) ≡ list_at L c
without-other L n a c apart among other = without-absent n (list_at L c) (absent L n a c apart among other)

-- a node that was taken out is in no list
pub unlisted : (L K : LinkedLists) (n : ℕ) → K ≡ without_node L n → is_listed K n ≡ false
unlisted L K n is = ap (λ s. is_listed s n) is ∙ false_from_ne_true (is_listed (without_node L n) n) (λ listed.
    let (l, inside, among) = listed-in (without_node L n) n listed in
    let never : false ≡ true = sym (gone-without n (list_at L l)) ∙ subst (λ xs. is_among xs n ≡ true) (unlinked-at L n l) among in cc)

pub lists-out : (L K : LinkedLists) (n : ℕ) → K ≡ without_node L n → length K.lists ≡ length L.lists
lists-out L K n is = ap (λ s. length s.lists) is ∙ long-unlinked L n

pub nodes-out : (L K : LinkedLists) (n : ℕ) → K ≡ without_node L n → K.nodes ≡ L.nodes
nodes-out L K n is = ap (λ s. s.nodes) is ∙ nodes-unlinked L n

-- ---- the units in nodes

units-without-absent : (subs : List Sub) (x : ℕ) (xs : List ℕ) → is_among xs x ≡ false → units_at subs (without x xs) ≡ units_at subs xs
units-without-absent subs x xs none = ap (units_at subs) (without-absent x xs none)

-- the node of which a test holds first is among them
pub among-first : (test : ℕ × Sub → Bool) (subs : List Sub) (xs : List ℕ) (x : ℕ) → first_node test (units_at subs xs) ≡ Some x → is_among xs x ≡ true
unfolding first_node units_at is_among
among-first test subs [] x is = cc
among-first test subs (y ∷ ys) x is = elim (cases_Bool (test (y, sub_at subs y))) [
  | inl here ↦
      let first : Some y ≡ Some x = rw here at is in
      or_left (eqb x y) (list_any (eqb x) ys) (eq-eqb x y (cc))
  | inr other ↦ or_right (eqb x y) (list_any (eqb x) ys) (among-first test subs ys x (rw other at is))
]

-- without the first node of which a test holds
pub units-without : (test : ℕ × Sub → Bool) (subs : List Sub) (xs : List ℕ) (x : ℕ) → IsDistinct eqb xs → first_node test (units_at subs xs) ≡ Some x → units_at subs (without x xs) ≡ without_one test (units_at subs xs)
unfolding first_node units_at without without_one IsDistinct
units-without test subs [] x distinct is = refl
units-without test subs (y ∷ ys) x distinct is = elim (cases_Bool (test (y, sub_at subs y))) [
  | inl here ↦
      let first : Some y ≡ Some x = rw here at is in
      let same : y ≡ x = cc in
      let gone : is_among ys x ≡ false = subst (λ z. is_among ys z ≡ false) same (absent-distinct y ys distinct.0) in
      rw (eq-eqb x y (sym same), here) (units-without-absent subs x ys gone)
  | inr other ↦
      let later : first_node test (units_at subs ys) ≡ Some x = rw other at is in
      let differs : x ≡ y → ⊥ = λ same.
      let never : false ≡ true = sym (absent-distinct y ys distinct.0) ∙ subst (λ z. is_among ys z ≡ true) same (among-first test subs ys x later) in cc in
      rw (ne_eqb x y differs, other) (ap (λ us. (y, sub_at subs y) ∷ us) (units-without test subs ys x distinct.1 later))
]

-- a unit put into a node that does not wait
pub units-set : (subs : List Sub) (x : ℕ) (s : Sub) (xs : List ℕ) → is_among xs x ≡ false → units_at (set subs x s) xs ≡ units_at subs xs
unfolding units_at is_among sub_at
units-set subs x s [] none = refl
units-set subs x s (y ∷ ys) none =
    let (here, later) = or_parts (eqb x y) (list_any (eqb x) ys) none in
    let differs : y ≡ x → ⊥ = λ same. let never : true ≡ false = sym (eq-eqb x y (sym same)) ∙ here in cc in
    rw (get_or-set_other subs x y s (Part 0 0 0 0 false) differs) (ap (λ us. (y, get_or subs y (Part 0 0 0 0 false)) ∷ us) (units-set subs x s ys later))

pub units-append : (subs : List Sub) (xs ys : List ℕ) → units_at subs (xs ++ ys) ≡ units_at subs xs ++ units_at subs ys
unfolding units_at
units-append subs [] ys = refl
units-append subs (x ∷ xs) ys = ap (λ us. (x, sub_at subs x) ∷ us) (units-append subs xs ys)

units-last : (subs : List Sub) (x : ℕ) (s : Sub) → x < length subs → units_at (set subs x s) (x ∷ []) ≡ (x, s) ∷ []
unfolding units_at sub_at
units-last subs x s there = ap (λ z. (x, z) ∷ []) (get_or-set_same subs x s (Part 0 0 0 0 false) there)

pub units-put : (subs : List Sub) (x : ℕ) (s : Sub) (xs : List ℕ) → is_among xs x ≡ false → x < length subs → units_at (set subs x s) (xs ++ x ∷ []) ≡ units_at subs xs ++ (x, s) ∷ []
units-put subs x s xs none there =
    units-append (set subs x s) xs (x ∷ []) ∙ ap (λ us. us ++ units_at (set subs x s) (x ∷ [])) (units-set subs x s xs none)
    ∙ ap (λ us. units_at subs xs ++ us) (units-last subs x s there)

pub no-units : (subs : List Sub) (xs : List ℕ) (o : Option ℕ) → o ≡ slice_get xs 0 → is_some o ≡ false → units_at subs xs ≡ []
unfolding units_at
no-units subs [] o is none = refl
no-units subs (x ∷ xs) o is none = let never : true ≡ false = sym (ap is_some is) ∙ none in cc

pub some-units : (subs : List Sub) (xs : List ℕ) (o : Option ℕ) → o ≡ slice_get xs 0 → is_some o ≡ true → 0 < length (units_at subs xs)
unfolding units_at
some-units subs [] o is some = let never : false ≡ true = sym (ap is_some is) ∙ some in cc
some-units subs (x ∷ xs) o is some = omega arith

-- a unit that was read
pub read-is : (subs : List Sub) (n : ℕ) (s : Sub) → n < length subs → s ≡ get_or subs n s → s ≡ sub_at subs n
unfolding sub_at
read-is subs n s there read = read ∙ get_or_default subs n s (Part 0 0 0 0 false) there

pub waits-inside : (test : ℕ × Sub → Bool) (subs : List Sub) (links : LinkedLists) (x spare : ℕ) → AreNodes subs links spare → first_node test (units_at subs (list_at links 0)) ≡ Some x → x < length subs
waits-inside test subs links x spare are is = subst (λ n. x < n) are.nodes (are.apart.within 0 x (among-first test subs (list_at links 0) x is))
