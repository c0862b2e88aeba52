-- What tokens owe while the ends of an entry come to be known one after the other.
use Rattle.std.proofs.Common.{◌≡◌, ◌≢◌, ℕ, zero, suc, ◌+◌, ◌<◌, ◌≤◌, inl, inr, Bool, true, false, List, ◌∷◌, Option, None, Some, refl, sym, ap, subst, arith}
use Rattle.std.proofs.lemmas.Bool.{cases_eq}
use Rattle.efi_status.specs.declared.Status.{Status}
use Rattle.history.specs.declared.entry.Entry.{Entry}
use Rattle.history.specs.Setup.{Setup}
use Rattle.history.specs.Tokens.{Request, token_count, request, was_collected}
use Rattle.history.specs.Marks.{mark_of}
use Rattle.history.specs.Room.{commands_owed, request_owed, token_owed, tokens_owed, media_owed}
use Rattle.history_laws.specs.OwedSoFar.{token_owed_so_far, tokens_owed_so_far, owed_so_far}
use Rattle.history_laws.proofs.CountLemmas.{accepted-same}
use Rattle.history_laws.proofs.TokenLemmas.{request-same, collected-same, done_commands-same}
use Rattle.history_laws.proofs.OwingLemmas.{owed-alike}
use Rattle.history_laws.proofs.QuietLemmas.{IsEnding}

pub owed-some : (S : Setup) (H : List Entry) (t : ℕ) (q : Request) (marks marks' : ℕ → Option Status) (status : Status) → request H t ≡ Some q → marks t ≡ None → marks' t ≡ Some status
    → token_owed_so_far S H marks' t + (commands_owed S H t q + 1) ≤ token_owed_so_far S H marks t
owed-some S H t q marks marks' status named open_now here = rw (named, open_now, here) (by _)
  where
    by : (collected : Bool) → request_owed S H t (Some q) (Some status) collected + (commands_owed S H t q + 1) ≤ commands_owed S H t q + 2
    by true = omega arith
    by false = omega arith

owed-same : (S : Setup) (H : List Entry) (marks marks' : ℕ → Option Status) (t n : ℕ) → n ≤ t → ((u : ℕ) → u ≢ t → marks' u ≡ marks u) → tokens_owed_so_far S H marks' n ≡ tokens_owed_so_far S H marks n
unfolding tokens_owed_so_far
owed-same S H marks marks' t zero below away = refl
owed-same S H marks marks' t (suc n) below away =
    let rest = owed-same S H marks marks' t n (omega arith) away in
    let one = away n (λ same. absurd (omega arith)) in
    rw (rest, one) refl

pub owed-falls : (S : Setup) (H : List Entry) (marks marks' : ℕ → Option Status) (t n paid : ℕ) → t < n → token_owed_so_far S H marks' t + paid ≤ token_owed_so_far S H marks t → ((u : ℕ) → u ≢ t → marks' u ≡ marks u)
    → tokens_owed_so_far S H marks' n + paid ≤ tokens_owed_so_far S H marks n
unfolding tokens_owed_so_far
owed-falls S H marks marks' t zero paid below falls away = absurd (omega arith)
owed-falls S H marks marks' t (suc n) paid below falls away = elim (cases_eq n t) [
  | inl same ↦
      let rest = owed-same S H marks marks' t n (omega arith) away in
      let one : token_owed_so_far S H marks' n + paid ≤ token_owed_so_far S H marks n = subst (λ m. token_owed_so_far S H marks' m + paid ≤ token_owed_so_far S H marks m) (sym same) falls in
      omega arith
  | inr other ↦
      let rest = owed-falls S H marks marks' t n paid (omega (arith, other)) falls away in
      let one : token_owed_so_far S H marks' n ≡ token_owed_so_far S H marks n = ap (λ m. request_owed S H n (request H n) m (was_collected H n)) (away n other) in
      omega arith
]

pub owed-within : (S : Setup) (H : List Entry) (marks : ℕ → Option Status) (t n : ℕ) → t < n → token_owed_so_far S H marks t ≤ tokens_owed_so_far S H marks n
unfolding tokens_owed_so_far
owed-within S H marks t zero below = absurd (omega arith)
owed-within S H marks t (suc n) below = elim (cases_eq n t) [
  | inl same ↦ rw same (omega arith)
  | inr other ↦ (let rest = owed-within S H marks t n (omega (arith, other)) in omega arith)
]

-- where all ends are known they owe what the history says
pub owed-all : (S : Setup) (H : List Entry) (n : ℕ) → tokens_owed_so_far S H (mark_of S H) n ≡ tokens_owed S H n
unfolding tokens_owed_so_far tokens_owed token_owed
owed-all S H zero = refl
owed-all S H (suc n) = ap (λ m. m + token_owed_so_far S H (mark_of S H) n) (owed-all S H n)

module _ (S : Setup) (H : List Entry) (e : Entry) (is : IsEnding S H e) where
  tokens-before : (n : ℕ) → tokens_owed_so_far S (e ∷ H) (mark_of S H) n ≡ tokens_owed S H n
  unfolding tokens_owed_so_far tokens_owed token_owed
  tokens-before zero = refl
  tokens-before (suc n) =
      rw (request-same H e n is.adds_none, collected-same H e n (is.collects_none n))
      (let rest = tokens-before n in
      let one = owed-alike S H (e ∷ H) n (request H n) (mark_of S H n) (was_collected H n) (done_commands-same H e n is.unmoving) in
      omega arith)

  -- as long as no end has come to the parts the tokens owe what they did
  pub owed-before : owed_so_far S (e ∷ H) (mark_of S H) ≡ tokens_owed S H (token_count H) + media_owed S (e ∷ H)
  owed-before = rw (accepted-same H e is.adds_none, tokens-before (token_count H)) refl
