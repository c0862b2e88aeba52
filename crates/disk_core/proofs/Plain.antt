-- Small facts of options, booleans and lists.
use Rattle.std.proofs.Common.{◌≡◌, Option, None, Some, sym, ◌∙◌}
use Rattle.std.proofs.lemmas.Option.{none-some}

pub some-none : {X : Type 0} (m : Option X) (x : X) → m ≡ None → m ≡ Some x → ⊥
some-none m x none some = none-some x (sym none ∙ some)
