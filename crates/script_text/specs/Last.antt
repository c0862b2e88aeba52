-- Lists with a last item (own profile).
use Rattle.std.specs.Prelude.{Bool, true, false, List, [], ◌∷◌}

-- the list with its last item changed
unfoldable pub on_last : {X : Type 0} → (X → X) → List X → List X
on_last f [] = []
on_last f (x ∷ []) = f x ∷ []
on_last f (x ∷ y ∷ more) = x ∷ on_last f (y ∷ more)

-- a test of the last item; none passes it
unfoldable pub last_is : {X : Type 0} → (X → Bool) → List X → Bool
last_is test [] = false
last_is test (x ∷ []) = test x
last_is test (x ∷ y ∷ more) = last_is test (y ∷ more)

abbrev pub has_some : {X : Type 0} → List X → Bool
has_some [] = false
has_some (x ∷ more) = true
