-- Causes of faults over several calls.
use Rattle.std.proofs.Common.{◌≡◌, ℕ, Result, subst}
use Rattle.image_store.specs.Edge.{HasCauseOf}

-- a count that stayed up to a moment has the cause that it has from that moment on
pub earlier_cause : {T E : Type 0} (fault : E) (a b c : ℕ) (result : Result T E) → b ≡ a → HasCauseOf fault b c result → HasCauseOf fault a c result
earlier_cause fault a b c result same cause = subst (λ (n : ℕ). HasCauseOf fault n c result) same cause
