-- One course is written over.
use Rattle.std.proofs.Common.{◌≡◌, ◌≢◌, ◌∙◌, ℕ, zero, suc, ◌<◌, List, [], ◌∷◌, length, slice_get, slice_set, get_or, None, Some, refl, sym, ap, arith, ◌++◌, option_map, ◌⊎◌, inl, inr}
use Rattle.std.specs.Global.{Vec}
use Rattle.std.specs.Vec.{with_item}
use Rattle.std.proofs.lemmas.List.{length-set}
use Rattle.std.proofs.lemmas.Option.{slice_get-get_or, slice_get-map, slice_get_within, get_or_from_slice_get}
use Rattle.shared_disk.specs.declared.books.Books.{Books}
use Rattle.shared_disk.specs.declared.books.Course.{Course}
use Rattle.shared_disk.specs.declared.books.Slot.{Slot}
use Rattle.shared_disk.specs.Inside.{ChangesCourse, AreSame, HasLineMore, places_in}
use Rattle.shared_disk.specs.Script.{places_at}
use Rattle.std.proofs.lemmas.Bool.{cases_eq}

some-same : {X : Type 0} (x y : X) → Some x ≡ Some y → x ≡ y
some-same x y e = cc

pub item-at : {X : Type 0} (xs : List X) (i : ℕ) (x : X) → i < length xs → x ≡ get_or xs i x → slice_get xs i ≡ Some x
item-at xs i x lt is = slice_get-get_or xs i x lt ∙ ap Some (sym is)

pub set-here : {X : Type 0} (xs : List X) (i : ℕ) (x : X) → i < length xs → slice_get (slice_set xs i x) i ≡ Some x
set-here [] i x lt = absurd (omega (arith, lt))
set-here (y ∷ xs) zero x lt = refl
set-here (y ∷ xs) (suc i) x lt = set-here xs i x (omega (arith, lt))

pub set-other : {X : Type 0} (xs : List X) (i j : ℕ) (x : X) → j ≢ i → slice_get (slice_set xs i x) j ≡ slice_get xs j
set-other [] i j x other = refl
set-other (y ∷ xs) zero zero x other = absurd (other refl)
set-other (y ∷ xs) zero (suc j) x other = refl
set-other (y ∷ xs) (suc i) zero x other = refl
set-other (y ∷ xs) (suc i) (suc j) x other = set-other xs i j x (λ same. other (ap suc same))

-- a course is written over, and the slots are the same or have room
unfoldable pub changes-course : (b : Books) (place : ℕ) (slots : Vec Slot) (was now : Course) (Changes : Course → Course → Type 0) → place < length b.courses.items → was ≡ get_or b.courses.items place was → slots.items ≡ b.slots.items → Changes was now
    → ChangesCourse b place Changes (record { opened = b.opened; clients = b.clients; courses = with_item b.courses place now; slots = slots; ended = b.ended; collected = b.collected })
changes-course b place slots was now Changes lt is same change = record {
  opened = refl;
  clients = refl;
  slots = same;
  ended = refl;
  collected = refl;
  count = length-set b.courses.items place now;
  was = was;
  there = item-at b.courses.items place was lt is;
  now = now;
  here = set-here b.courses.items place now lt;
  changes = change;
  others = λ i other. set-other b.courses.items place i now other;
}

-- lists with the same items are the same
pub list-same : {X : Type 0} (xs ys : List X) → ((i : ℕ) → slice_get xs i ≡ slice_get ys i) → xs ≡ ys
list-same [] [] same = refl
list-same [] (y ∷ ys) same = let e : None ≡ Some y = same 0 in cc
list-same (x ∷ xs) [] same = let e : Some x ≡ None = same 0 in cc
list-same (x ∷ xs) (y ∷ ys) same =
    let e : Some x ≡ Some y = same 0 in
    let first : x ≡ y = some-same x y e in
    rw (first, list-same xs ys (λ i. same (suc i))) refl

-- a course that keeps its places
pub same-places : (b b' : Books) (place : ℕ) (Changes : Course → Course → Type 0) (change : ChangesCourse b place Changes b') → change.now.places.items ≡ change.was.places.items → places_in b' ≡ places_in b
same-places b b' place Changes change same = list-same (places_in b') (places_in b) (λ i. slice_get-map places b'.courses.items i ∙ (by i (cases_eq i place) ∙ sym (slice_get-map places b.courses.items i)))
  where
    places : Course → List ℕ
    places c = c.places.items

    by : (i : ℕ) → (i ≡ place) ⊎ (i ≢ place) → option_map places (slice_get b'.courses.items i) ≡ option_map places (slice_get b.courses.items i)
    by i (inl is) = rw (is, change.here, change.there, same) refl
    by i (inr other) = rw (change.others i other) refl

pub are-same : (b b' : Books) (place : ℕ) (Changes : Course → Course → Type 0) (change : ChangesCourse b place Changes b') → change.now.places.items ≡ change.was.places.items → AreSame b b'
are-same b b' place Changes change same = record {
  opened = change.opened;
  clients = change.clients;
  places = same-places b b' place Changes change same;
  given = rw change.slots refl;
}

-- a course with one place more
pub more-places : (b b' : Books) (place before : ℕ) (change : ChangesCourse b place (HasLineMore before) b') → places_in b' ≡ slice_set (places_in b) place (places_at (places_in b) place ++ before ∷ [])
more-places b b' place before change = list-same (places_in b') (slice_set (places_in b) place (places_at (places_in b) place ++ before ∷ [])) (λ i. slice_get-map places b'.courses.items i ∙ by i (cases_eq i place))
  where
    places : Course → List ℕ
    places c = c.places.items

    there : slice_get (places_in b) place ≡ Some change.was.places.items
    there = slice_get-map places b.courses.items place ∙ ap (option_map places) change.there

    at : places_at (places_in b) place ≡ change.was.places.items
    at = get_or_from_slice_get (places_in b) place change.was.places.items [] there

    by : (i : ℕ) → (i ≡ place) ⊎ (i ≢ place) → option_map places (slice_get b'.courses.items i) ≡ slice_get (slice_set (places_in b) place (places_at (places_in b) place ++ before ∷ [])) i
    by i (inl is) = rw (is, change.here, at) (ap Some change.changes.places ∙ sym (set-here (places_in b) place (change.was.places.items ++ before ∷ []) (slice_get_within (places_in b) place change.was.places.items there)))
    by i (inr other) = rw (change.others i other, set-other (places_in b) place i (places_at (places_in b) place ++ before ∷ []) other) (sym (slice_get-map places b.courses.items i))
