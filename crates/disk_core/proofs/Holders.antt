-- The holders of a token, one after the other.
use Rattle.std.proofs.Common.{◌≡◌, ℕ, zero, suc, ◌+◌, ◌<◌, ◌≤◌, Bool, true, false, List, [], ◌∷◌, length, drop, slice_get, get_or, Option, None, Some, refl, sym, ap, arith}
use Rattle.std.specs.Prelude.{is_some}
use Rattle.std.proofs.lemmas.Option.{slice_get-get_or}
use Rattle.block_gate.specs.Gates.{Gates, gate_of, without_hold}
use Rattle.disk_core.specs.declared.parts.Holder.{Holder}
use Rattle.disk_core.specs.Moves.{without_gate, without_gates_of, without_gate_of, after_pass}

pub revoked-step : (token : ℕ) (holders : List Holder) (i : ℕ) (h : Holder) (s : Gates) → slice_get holders i ≡ Some h → without_gates_of token (drop i holders) s ≡ without_gates_of token (drop (suc i) holders) (without_gate_of token h s)
unfolding without_gates_of
revoked-step token [] i h s is = absurd (clash is)
  where
    clash : None ≡ Some h → ⊥
    clash e = cc
revoked-step token (x ∷ holders) zero h s is = ap (λ o. without_gates_of token holders (without_gate_of token (unsome o) s)) is
  where
    unsome : Option Holder → Holder
    unsome None = h
    unsome (Some y) = y
revoked-step token (x ∷ holders) (suc i) h s is = revoked-step token holders i h s is

pub revoked-over : (token : ℕ) (holders : List Holder) (i : ℕ) (s : Gates) → length holders ≤ i → without_gates_of token (drop i holders) s ≡ s
unfolding without_gates_of
revoked-over token [] zero s past = refl
revoked-over token [] (suc i) s past = refl
revoked-over token (x ∷ holders) zero s past = absurd (omega arith)
revoked-over token (x ∷ holders) (suc i) s past = revoked-over token holders i s (omega arith)

pub revoked-next : (token : ℕ) (holders : List Holder) (i : ℕ) (d : Holder) (s s' : Gates) → i < length holders → s' ≡ without_gate_of token (get_or holders i d) s → without_gates_of token (drop (i + 1) holders) s' ≡ without_gates_of token (drop i holders) s
revoked-next token holders i d s s' lt is =
    let next : i + 1 ≡ suc i = omega arith in
    rw (next, is) (sym (revoked-step token holders i (get_or holders i d) s (slice_get-get_or holders i d lt)))

pub revoke-is : (b : Bool) (s s' : Gates) (k : ℕ) → b ≡ is_some (gate_of s.held k) → (b ≡ true → s' ≡ without_hold s k) → (b ≡ false → s' ≡ s) → s' ≡ without_gate s k
revoke-is true s s' k is done kept = rw (sym is) (done refl)
revoke-is false s s' k is done kept = rw (sym is) (kept refl)

pub passing-over : (token : ℕ) (holders : List Holder) (i : ℕ) → length holders ≤ i → after_pass token i holders ≡ holders
passing-over token [] zero past = refl
passing-over token [] (suc i) past = refl
passing-over token (x ∷ holders) zero past = absurd (omega arith)
passing-over token (x ∷ holders) (suc i) past = ap (λ rest. x ∷ rest) (passing-over token holders i (omega arith))
