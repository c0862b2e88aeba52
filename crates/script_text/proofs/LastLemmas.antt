-- Lists with a last item changed, and sums over them.
use Rattle.std.proofs.Common.{◌≡◌, ℕ, suc, ◌+◌, ◌-◌, ◌<◌, ◌&&◌, Bool, true, false, List, [], ◌∷◌, length, set, get_or, sum_by, slice_get, not, ◌==◌, Some, None, refl, ap, sym, arith, rules}
use Rattle.std.proofs.lemmas.Bool.Decides.{nat_tests}
use Rattle.std.proofs.lemmas.List.Sums.{sum_by-cons}
use Rattle.std.proofs.lemmas.Option.{get_or_from_slice_get, slice_get-get_or}
use Rattle.script_text.specs.Last.{on_last, last_is, has_some}

set_at_end : {X : Type 0} (f : X → X) (y : X) (more : List X) (x : X) → x ≡ get_or (y ∷ more) (length more) x → set (y ∷ more) (length more) (f x) ≡ on_last f (y ∷ more)
unfolding on_last
set_at_end f y [] x is = ap (λ z. f z ∷ []) is
set_at_end f y (z ∷ more) x is = ap (λ l. y ∷ l) (set_at_end f z more x is)

-- a list with its last item changed
pub set_last : {X : Type 0} (f : X → X) (xs : List X) (i : ℕ) (x : X) → 0 < length xs → i ≡ length xs - 1 → x ≡ get_or xs i x → set xs i (f x) ≡ on_last f xs
set_last f [] i x some at is = absurd (omega arith)
set_last f (y ∷ more) i x some at is =
    let end : i ≡ length more = omega arith in
    rw end (set_at_end f y more x (rw end at is))

last_at_end : {X : Type 0} (test : X → Bool) (y : X) (more : List X) (x : X) → x ≡ get_or (y ∷ more) (length more) x → test x ≡ last_is test (y ∷ more)
unfolding last_is
last_at_end test y [] x is = ap test is
last_at_end test y (z ∷ more) x is = last_at_end test z more x is

-- a test of the last item
pub last_passes : {X : Type 0} (test : X → Bool) (xs : List X) (i : ℕ) (x : X) → 0 < length xs → i ≡ length xs - 1 → x ≡ get_or xs i x → test x ≡ last_is test xs
last_passes test [] i x some at is = absurd (omega arith)
last_passes test (y ∷ more) i x some at is =
    let end : i ≡ length more = omega arith in
    last_at_end test y more x (rw end at is)

-- the last item, as it is looked up
pub last_from_get : {X : Type 0} (test : X → Bool) (xs : List X) (x : X) → Some x ≡ slice_get xs (length xs - 1) → test x ≡ last_is test xs
last_from_get test [] x is = absurd (cc)
last_from_get test (y ∷ more) x is =
    let at : x ≡ get_or (y ∷ more) (length (y ∷ more) - 1) x = sym (get_or_from_slice_get (y ∷ more) (length (y ∷ more) - 1) x x (sym is)) in
    last_passes test (y ∷ more) (length (y ∷ more) - 1) x (omega arith) refl at

pub no_last : {X : Type 0} (test : X → Bool) (xs : List X) → None ≡ slice_get xs (length xs - 1) → false ≡ last_is test xs
unfolding last_is
no_last test [] is = refl
no_last test (y ∷ more) is =
    let inside : length (y ∷ more) - 1 < length (y ∷ more) = omega arith in
    absurd (let there = slice_get-get_or (y ∷ more) (length (y ∷ more) - 1) y inside in cc)

pub some_is : {X : Type 0} (xs : List X) → not (length xs == 0) ≡ has_some xs
some_is [] = refl
some_is (x ∷ xs) = let test : (length (x ∷ xs) == 0) ≡ false = search (rules, nat_tests) in ap not test

-- sums where the last item changes
pub sum_on_last : {X : Type 0} (size : X → ℕ) (f : X → X) (test : X → Bool) (n : ℕ) → ((x : X) → test x ≡ true → size (f x) ≡ size x + n) → (xs : List X) → last_is test xs ≡ true → sum_by size (on_last f xs) ≡ sum_by size xs + n
unfolding on_last last_is
sum_on_last size f test n grows [] has = absurd (cc)
sum_on_last size f test n grows (x ∷ []) has = let at = grows x has in omega arith
sum_on_last size f test n grows (x ∷ y ∷ more) has =
    let rest : sum_by size (on_last f (y ∷ more)) ≡ sum_by size (y ∷ more) + n = sum_on_last size f test n grows (y ∷ more) has in
    rw (sum_by-cons size x (on_last f (y ∷ more)), sum_by-cons size x (y ∷ more), rest) (omega arith)

-- a list that has some item has a last one
pub some_last : {X : Type 0} (xs : List X) → has_some xs ≡ true → last_is (λ x. true) xs ≡ true
unfolding last_is
some_last [] has = has
some_last (x ∷ []) has = refl
some_last (x ∷ y ∷ more) has = some_last (y ∷ more) refl

pub some_length : {X : Type 0} (xs : List X) → has_some xs ≡ true → 0 < length xs
some_length [] has = absurd (cc)
some_length (x ∷ xs) has = omega arith

-- two tests that the last item passes
pub last_both : {X : Type 0} (one two : X → Bool) (xs : List X) → last_is one xs ≡ true → last_is two xs ≡ true → last_is (λ x. one x && two x) xs ≡ true
unfolding last_is
last_both one two [] first second = absurd (cc)
last_both one two (x ∷ []) first second = rw (first, second) refl
last_both one two (x ∷ y ∷ more) first second = last_both one two (y ∷ more) first second

pub length_on_last : {X : Type 0} (f : X → X) (xs : List X) → length (on_last f xs) ≡ length xs
unfolding on_last
length_on_last f [] = refl
length_on_last f (x ∷ []) = refl
length_on_last f (x ∷ y ∷ more) = ap (λ n. suc n) (length_on_last f (y ∷ more))
