-- The children of the first of several records or entries, in order of place.
use Rattle.std.proofs.Common.{◌≡◌, ◌≤◌, ◌<◌, ℕ, zero, suc, ◌+◌, Bool, true, false, List, [], ◌∷◌, ◌++◌, get_or, length, map, filter, take, take_all, refl, sym, ap, ◌∙◌, arith}
use Rattle.std.specs.List.{enumerate_from}
use Rattle.std.proofs.lemmas.List.{append-nil, map-append}
use Rattle.std.proofs.lemmas.List.Elements.{filter-append}
use Rattle.partition_tables.specs.declared.table.Child.{Child}

-- one more of the elements with their places
enumerate_more : {X : Type 0} (n i : ℕ) (xs : List X) (d : X) → i < length xs → enumerate_from n (take (suc i) xs) ≡ enumerate_from n (take i xs) ++ (n + i, get_or xs i d) ∷ []
enumerate_more n i [] d h = absurd (omega arith)
enumerate_more n zero (x ∷ xs) d h = ap (λ (k : ℕ). (k, x) ∷ []) (omega arith)
enumerate_more {X = X} n (suc i) (x ∷ xs) d h =
    let next = enumerate_more (n + 1) i xs d (omega arith) in
    ap (λ l. (n, x) ∷ l) (next ∙ ap (λ (k : ℕ). enumerate_from (n + 1) (take i xs) ++ (k, get_or xs i d) ∷ []) (omega arith))

module _ {X : Type 0} (gives : ℕ × X → Bool) (child_of : ℕ × X → Child) (xs : List X) where
  -- those of the elements before a place that give one
  abbrev pub children_before : ℕ → List Child
  children_before place = map child_of (filter gives (enumerate_from 0 (take place xs)))

  module _ (place : ℕ) (x : X) (within : place < length xs) (here : x ≡ get_or xs place x) where
    before-more : children_before (place + 1) ≡ children_before place ++ map child_of (filter gives ((place, x) ∷ []))
    before-more =
        let suc_place : place + 1 ≡ suc place = omega arith in
        let one : enumerate_from 0 (take (place + 1) xs) ≡ enumerate_from 0 (take place xs) ++ (place, x) ∷ [] =
        ap (λ (n : ℕ). enumerate_from 0 (take n xs)) suc_place ∙ (enumerate_more 0 place xs x within ∙ pair) in
        ap (λ (l : List (ℕ × X)). map child_of (filter gives l)) one
        ∙ (ap (map child_of) (filter-append gives (enumerate_from 0 (take place xs)) ((place, x) ∷ [])) ∙ map-append child_of (filter gives (enumerate_from 0 (take place xs))) (filter gives ((place, x) ∷ [])))
      where
        pair : enumerate_from 0 (take place xs) ++ (0 + place, get_or xs place x) ∷ [] ≡ enumerate_from 0 (take place xs) ++ (place, x) ∷ []
        pair = let same : 0 + place ≡ place = omega arith in rw (same, ← here) refl

    pub child-added : (old new : List Child) (child : Child) → gives (place, x) ≡ true → child ≡ child_of (place, x) → new ≡ old ++ child ∷ [] → old ≡ children_before place → new ≡ children_before (place + 1)
    child-added old new child is made added so_far = rw (before-more, is) (added ∙ rw (so_far, made) refl)

    pub none-added : (old : List Child) → gives (place, x) ≡ false → old ≡ children_before place → old ≡ children_before (place + 1)
    none-added old isnt so_far = rw (before-more, isnt) (so_far ∙ sym (append-nil (children_before place)))

  -- at the end they are those of all elements
  pub all-before : (place : ℕ) → length xs ≤ place → children_before place ≡ map child_of (filter gives (enumerate_from 0 xs))
  all-before place past = ap (λ (l : List X). map child_of (filter gives (enumerate_from 0 l))) (take_all place xs past)
