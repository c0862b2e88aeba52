-- The tokens of the opening history are over.
use Rattle.std.proofs.Common.{◌≡◌, ℕ, ◌<◌, ◌≤◌, inl, inr, true, false, List, [], ◌∷◌, None, Some, arith}
use Rattle.std.proofs.lemmas.Bool.{cases_lt}
use Rattle.history.specs.declared.entry.Entry.{Entry}
use Rattle.history.specs.Setup.{Setup}
use Rattle.history.specs.Tokens.{token_count, was_collected}
use Rattle.history.specs.Marks.{IsOutstanding}
use Rattle.history.specs.Rules.{IsLegal}
use Rattle.history_laws.proofs.CountLemmas.{accepted-none}
use Rattle.history_laws.proofs.OwingLemmas.{open-kept}
use Rattle.history_laws.proofs.TokenLemmas.{collected-stays}
use Rattle.shared_disk.specs.Script.{Script, Deed, Enters, Does, IsOpening, entries_by, Follows, KeepsScript}

opening-collected : (S : Setup) (d : Script) (log : List Deed) (t : ℕ) → Follows S d log → t < token_count d.opening → was_collected (entries_by d.opening log) t ≡ true
unfolding Follows entries_by
opening-collected S d [] t follows lt = follows.collected t lt
opening-collected S d (Enters e ∷ log) t follows lt = collected-stays (entries_by d.opening log) e t (opening-collected S d log t follows.0 lt)
opening-collected S d (Does i None ∷ log) t follows lt = opening-collected S d log t follows.0 lt
opening-collected S d (Does i (Some e) ∷ log) t follows lt = collected-stays (entries_by d.opening log) e t (opening-collected S d log t follows.0 lt)

-- an open token is none of the opening's
pub later-open : (S : Setup) (d : Script) (places : List (List ℕ)) (H : List Entry) (t : ℕ) → IsLegal S H → KeepsScript S d places H → IsOutstanding S H t → token_count d.opening ≤ t
later-open S d places H t legal keeps there = elim (cases_lt t (token_count d.opening)) [
  | inl less ↦
      (let was : was_collected H t ≡ true = rw keeps.history at (opening-collected S d keeps.log t keeps.follows less) in
      let not : was_collected H t ≡ false = open-kept S H t legal there.unmarked in
      cc)
  | inr more ↦ more
]

-- clients may begin where nothing has happened
pub opening-none : (H : List Entry) → H ≡ [] → IsOpening H
opening-none H none = rw none (record { tags = λ k d lt. absurd (omega (arith, lt)); collected = λ t lt. absurd (omega (arith, lt, accepted-none)) })
