-- How much a history of so many entries has.
use Rattle.std.proofs.Common.{◌≡◌, ◌+◌, ◌<◌, ◌≤◌, inl, inr, true, List, [], ◌∷◌, length, refl, arith}
use Rattle.std.proofs.lemmas.Bool.{cases_lt, eqb-true, eqb-false}
use Rattle.history.specs.declared.entry.Entry.{Entry}
use Rattle.history.specs.declared.entry.Entry.TheVariants.{Accept, Done, Fault, Eject, Insert}
use Rattle.history.specs.Setup.{Setup}
use Rattle.history.specs.Eras.{ejects, inserts, is_command}
use Rattle.history.specs.Tokens.{token_count}
use Rattle.history.specs.Marks.{is_fetch_entry, fetches}
use Rattle.history.specs.Room.{commands}
use Rattle.history.specs.Rules.{MayFollow, IsLegal}
use Rattle.history_laws.proofs.CountLemmas.{count-less, commands-none, accepted-none, accepted-more, accepted-same, ejects-none, ejects-more, ejects-same, inserts-none, inserts-more, inserts-same, commands-more, commands-same}
use Rattle.history_laws.proofs.EndLemmas.{command-open}

-- accepts, commands, ejections and insertions are no more than the entries together
pub counts-together : (H : List Entry) → token_count H + (commands H + (ejects H + inserts H)) ≤ length H
counts-together [] = omega (arith, accepted-none, commands-none, ejects-none, inserts-none)
counts-together (Accept a b c d ∷ H) =
    let e : Entry = Accept a b c d in
    omega (arith, counts-together H, accepted-more H e refl, commands-same H e refl, ejects-same H e refl, inserts-same H e refl)
counts-together (Done a b ∷ H) =
    let e : Entry = Done a b in
    omega (arith, counts-together H, accepted-same H e refl, commands-more H e refl, ejects-same H e refl, inserts-same H e refl)
counts-together (Fault a b c ∷ H) =
    let e : Entry = Fault a b c in
    omega (arith, counts-together H, accepted-same H e refl, commands-more H e refl, ejects-same H e refl, inserts-same H e refl)
counts-together (Eject a ∷ H) =
    let e : Entry = Eject a in
    omega (arith, counts-together H, accepted-same H e refl, commands-same H e refl, ejects-more H e refl, inserts-same H e refl)
counts-together (Insert a b ∷ H) =
    let e : Entry = Insert a b in
    omega (arith, counts-together H, accepted-same H e refl, commands-same H e refl, ejects-same H e refl, inserts-more H e refl)
counts-together (e ∷ H) = omega (arith, counts-together H, accepted-same H e refl, commands-same H e refl, ejects-same H e refl, inserts-same H e refl)

-- a fetch is a command
pub fetches-few : (H : List Entry) → fetches H ≤ commands H
unfolding fetches commands
fetches-few H = count-less is_fetch_entry is_command H by
  where
    by : (e : Entry) → is_fetch_entry e ≡ true → is_command e ≡ true
    by (Done t c) is = refl
    by (Fault t c done) is = refl
    by e is = cc

-- a legal history with a command has accepted a request
pub commands-after-accept : (S : Setup) (H : List Entry) → IsLegal S H → 0 < commands H → 0 < token_count H
unfolding IsLegal MayFollow
commands-after-accept S [] legal some = absurd (omega (arith, some, commands-none))
commands-after-accept S (Done t c ∷ H) (legal, may) some = omega (arith, (command-open S H t c may).token, accepted-same H (Done t c) refl)
commands-after-accept S (Fault t c done ∷ H) (legal, may) some = omega (arith, (command-open S H t c may.0).token, accepted-same H (Fault t c done) refl)
commands-after-accept S (Accept a b c d ∷ H) (legal, may) some = omega (arith, accepted-more H (Accept a b c d) refl)
commands-after-accept S (e ∷ H) (legal, may) some =
    let before : 0 < commands H = omega (arith, some, commands-same H e refl) in
    omega (arith, commands-after-accept S H legal before, accepted-same H e refl)

-- so it has fewer commands than entries
pub commands-fewer : (S : Setup) (H : List Entry) → IsLegal S H → 0 < length H → commands H < length H
commands-fewer S H legal some = elim (cases_lt 0 (commands H)) [
  | inl made ↦ omega (arith, counts-together H, commands-after-accept S H legal made)
  | inr none ↦ omega arith
]

-- each insertion of a legal history is after an ejection of its own
pub inserts-after-ejects : (S : Setup) (H : List Entry) → IsLegal S H → (inserts H ≤ ejects H) × (ejects H ≤ inserts H + 1)
unfolding IsLegal MayFollow
inserts-after-ejects S [] legal = omega (arith, ejects-none, inserts-none)
inserts-after-ejects S (Eject tag ∷ H) (legal, present) =
    let level : ejects H ≡ inserts H = eqb-true (ejects H) (inserts H) present in
    omega (arith, level, ejects-more H (Eject tag) refl, inserts-same H (Eject tag) refl)
inserts-after-ejects S (Insert tag k ∷ H) (legal, (out, is, within)) =
    let apart : ejects H ≡ inserts H → ⊥ = eqb-false (ejects H) (inserts H) out in
    omega (arith, apart, inserts-after-ejects S H legal, ejects-same H (Insert tag k) refl, inserts-more H (Insert tag k) refl)
inserts-after-ejects S (e ∷ H) (legal, may) = omega (arith, inserts-after-ejects S H legal, ejects-same H e refl, inserts-same H e refl)

-- so it has fewer insertions than entries
pub inserts-fewer : (S : Setup) (H : List Entry) → IsLegal S H → 0 < length H → inserts H < length H
inserts-fewer S H legal some = omega (arith, counts-together H, inserts-after-ejects S H legal)

-- both
pub both-fewer : (S : Setup) (H : List Entry) → IsLegal S H → 0 < length H → (commands H < length H) × (inserts H < length H)
both-fewer S H legal some = (commands-fewer S H legal some, inserts-fewer S H legal some)
