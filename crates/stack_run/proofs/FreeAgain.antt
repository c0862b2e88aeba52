-- All names are free again where one alone was changed and is free.
use Rattle.std.proofs.Common.{◌≡◌, ℕ, List, Bool, true, false, bytes_eq, Decides, refl}
use Rattle.std.proofs.lemmas.Bool.{false≢true}
use Rattle.std.proofs.lemmas.Slice.Eq.{bytes_eq-Decides}
use Rattle.image_store.specs.Place.{Image, IsFree, ChangesOnly}

free-at : (old new : List ℕ → Image) (name other : List ℕ) (same : Bool) → Decides same (other ≡ name) → IsFree (old other).place → IsFree (new name).place → ChangesOnly name old new → IsFree (new other).place
free-at old new name other true decided before free others = rw (decided.0 refl) free
free-at old new name other false decided before free others = rw (others other (λ same. false≢true (decided.1 same))) before

pub all-again : (old new : List ℕ → Image) (name : List ℕ) → ((n : List ℕ) → IsFree (old n).place) → IsFree (new name).place → ChangesOnly name old new → (other : List ℕ) → IsFree (new other).place
all-again old new name before free others other = free-at old new name other (bytes_eq other name) (bytes_eq-Decides other name) (before other) free others
