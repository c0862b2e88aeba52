-- The units of an outstanding token fit its medium, and an era has no more commands than the history has entries.
use Rattle.std.proofs.Common.{Bool, List, Some, ap, arith, false, inl, inr, length, refl, subst, sym, true, ℕ, ◌*◌, ◌+◌, ◌/◌, ◌<◌, ◌∙◌, ◌≡◌, ◌≤◌}
use Rattle.std.proofs.Math.Nat.{div-mul-le_self, lt_of_mul-lt-mul_right, mod-eq-sub-div-mul, mul-le-mul_right, mul_assoc, mul_comm}
use Rattle.std.proofs.lemmas.Bool.{cases_lt}
use Rattle.disk_split.specs.Units.{IsKind, IsUnit}
use Rattle.disk_split.specs.declared.span.Span.{Span}
use Rattle.history.specs.Eras.{era_commands, era_faults, is_command, is_fault, media_id_of}
use Rattle.history.specs.Marks.{IsOutstanding}
use Rattle.history.specs.Room.{commands, faults}
use Rattle.history.specs.Rules.{IsLegal}
use Rattle.history.specs.Setup.{IsSetup, Setup, blocks_of, per_of, size_of}
use Rattle.history.specs.Tokens.{Request, from_of, is_flush, request, until_of}
use Rattle.history.specs.declared.entry.Entry.{Entry}
use Rattle.history_laws.proofs.CountLemmas.{commands-few, faults-few}
use Rattle.history_laws.proofs.EraLemmas.{era_count-within}
use Rattle.history_laws.proofs.MediaLemmas.{open-media, range-in-view}
use Rattle.history_laws.proofs.PieceLemmas.{run-high}

cancel : (a b size : ℕ) → 0 < size → a * size ≤ b * size → a ≤ b
cancel a b size some le = elim (cases_lt b a) [
  | inl lt ↦ absurd (let more : (b + 1) * size ≤ a * size = mul-le-mul_right size (omega arith) in let sum : (b + 1) * size ≡ b * size + size = omega arith in omega arith)
  | inr le' ↦ le'
]

-- the blocks of a unit are 1 to 64, and lie on the medium
pub record UnitFits (u : Span) (blocks : ℕ) : Type 0 where
  pub some : 0 < u.count
  pub most : u.count ≤ 64
  pub fits : u.block + u.count ≤ blocks

unit-fits : (S : Setup) (r : Request) (u : Span) (k : ℕ) → IsSetup S → until_of S r ≤ blocks_of S k * size_of S → IsUnit S.geometry (from_of S r) (until_of S r) u → UnitFits u (blocks_of S k)
unit-fits S r u k is inside unit = by u.whole refl unit.kind
  where
    size_some : 0 < size_of S
    size_some = (let h = is.geometry.size_some in omega arith)

    by : (v : Bool) → u.whole ≡ v → IsKind S.geometry (from_of S r) (until_of S r) v u.block u.count → UnitFits u (blocks_of S k)
    by true whole run =
        let high = run-high S.geometry (from_of S r) (until_of S r) u is.geometry unit whole in
        let ends = unit.high in
        let some = run.some in let counted = run.counted in
        record { some = omega arith; most = omega arith; fits = cancel (u.block + u.count) (blocks_of S k) (size_of S) size_some (omega arith) }
    by false whole (part, count) =
        let number = part.number in
        let some = part.part.some in
        let begins = part.begins in
        let per_some = is.geometry.per_some in let per_most = is.geometry.per_most in
        let group : number * (size_of S * per_of S) ≡ number * per_of S * size_of S = ap (λ n. number * n) (mul_comm (size_of S) (per_of S)) ∙ sym (mul_assoc number (per_of S) (size_of S)) in
        let below : number * per_of S < blocks_of S k = lt_of_mul-lt-mul_right (size_of S) (omega arith) in
        let q = blocks_of S k / per_of S in
        let whole_groups : blocks_of S k ≡ q * per_of S = omega (arith, is.grouped k, mod-eq-sub-div-mul (blocks_of S k) (per_of S), div-mul-le_self (blocks_of S k) (per_of S)) in
        let next : number < q = lt_of_mul-lt-mul_right (per_of S) (omega arith) in
        let more : (number + 1) * per_of S ≤ q * per_of S = mul-le-mul_right (per_of S) (omega arith) in
        let sum : (number + 1) * per_of S ≡ number * per_of S + per_of S = omega arith in
        record { some = omega arith; most = omega arith; fits = omega arith }

-- those of a unit of an open token
pub open-fits : (S : Setup) (H : List Entry) (t : ℕ) (r : Request) (u : Span) → IsSetup S → IsLegal S H → IsOutstanding S H t → request H t ≡ Some r → is_flush r.asked.kind ≡ false → IsUnit S.geometry (from_of S r) (until_of S r) u
    → UnitFits u (blocks_of S (media_id_of H)) × (until_of S r ≤ blocks_of S (media_id_of H) * size_of S)
open-fits S H t r u is legal open_ named moving unit =
    let view = range-in-view S H t r legal named moving in
    let id = (open-media S H t r legal open_ named).1 in
    let ends = view.ends in
    let lies : r.view.start + r.view.length ≤ blocks_of S (media_id_of H) * size_of S = subst (λ k. r.view.start + r.view.length ≤ blocks_of S k * size_of S) id view.lies in
    let inside : until_of S r ≤ blocks_of S (media_id_of H) * size_of S = omega arith in
    (unit-fits S r u (media_id_of H) is inside unit, inside)

-- an era has no more commands than the history has entries
pub commands-within : (k : ℕ) (H : List Entry) → era_commands k H ≤ length H
unfolding commands
commands-within k H = let within = era_count-within is_command k H in let few = commands-few H in omega arith

-- nor more faults
pub faults-within : (k : ℕ) (H : List Entry) → era_faults k H ≤ length H
unfolding faults commands
faults-within k H = let within = era_count-within is_fault k H in let few = faults-few H in let all = commands-few H in omega arith
