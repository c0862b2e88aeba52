-- Lists of what passes a test: twice, of images, and that they are no longer.
use Rattle.std.proofs.Common.{◌≡◌, ℕ, ◌≤◌, inl, inr, Bool, ◌&&◌, List, [], ◌∷◌, length, map, refl, ap, arith}
use Rattle.std.specs.Prelude.{filter, not}
use Rattle.std.proofs.lemmas.Bool.{cases_Bool}

pub filter-twice : {X : Type 0} (p q : X → Bool) (xs : List X) → filter p (filter q xs) ≡ filter (λ x. q x && p x) xs
filter-twice p q [] = refl
filter-twice p q (x ∷ xs) = elim (cases_Bool (q x)) [
  | inl kept ↦ rw kept (elim (cases_Bool (p x)) [ inl also ↦ rw also (ap (λ ys. x ∷ ys) (filter-twice p q xs)) | inr isnt ↦ rw isnt (filter-twice p q xs) ])
  | inr dropped ↦ rw dropped (filter-twice p q xs)
]

pub filter-mapped : {X Y : Type 0} (p : Y → Bool) (f : X → Y) (xs : List X) → filter p (map f xs) ≡ map f (filter (λ x. p (f x)) xs)
filter-mapped p f [] = refl
filter-mapped p f (x ∷ xs) = elim (cases_Bool (p (f x))) [
  | inl kept ↦ rw kept (ap (λ ys. f x ∷ ys) (filter-mapped p f xs))
  | inr dropped ↦ rw dropped (filter-mapped p f xs)
]

pub filter-less : {X : Type 0} (p : X → Bool) (xs : List X) → length (filter p xs) ≤ length xs
filter-less p [] = omega arith
filter-less p (x ∷ xs) = elim (cases_Bool (p x)) [
  | inl kept ↦ rw kept (let rest = filter-less p xs in omega arith)
  | inr dropped ↦ rw dropped (let rest = filter-less p xs in omega arith)
]
