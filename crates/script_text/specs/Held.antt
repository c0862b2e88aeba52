-- Text that is held back before it goes to a sink (own profile).
use Rattle.std.specs.Prelude.{ℕ, List, ◌++◌, Option, Result, Ok, Err}
use Rattle.image_store.specs.Edge.{AppendsUpTo, AppendsFront}

-- the text follows what was held back: a front of both was written, and the rest is held back
unfoldable pub AddsText : {E : Type 0} → Option (List ℕ) → List ℕ → Result (Unit {0}) E → Option (List ℕ) → List ℕ → List ℕ → Type 0
AddsText old held (Ok done) new held' text = AppendsUpTo old new (held ++ text) held'
AddsText old held (Err fault) new held' text = AppendsFront old new (held ++ text)
