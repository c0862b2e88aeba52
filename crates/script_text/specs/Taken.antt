-- The names of images, kept so that each is found by its bytes (own profile).
use Rattle.std.specs.Prelude.{◌≡◌, ℕ, List, String, bytes_eq}
use Rattle.std.specs.List.{list_any}
use Rattle.std.specs.BTreeSet.{BTreeSet, contains_text}

module _ {Y : Type 0} where
  -- the set finds just these images
  abbrev pub FindsImages : BTreeSet (String Y) → List (List ℕ) → Type 0
  FindsImages names images = (image : List ℕ) → contains_text names image ≡ list_any (λ name. bytes_eq name image) images
