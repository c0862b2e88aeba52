-- The laws of the plain schedule (own profile).
use Rattle.std.specs.Prelude.{◌≡◌, ℕ, ◌+◌, ◌<◌, true, List, None}
use Rattle.std.specs.List.{list_all}
use Rattle.history.specs.declared.entry.Entry.{Entry}
use Rattle.history.specs.Setup.{Setup, IsSetup}
use Rattle.history.specs.Tokens.{token_count, was_collected}
use Rattle.history.specs.Rules.{IsLegal}
use Rattle.history.specs.Next.{first_open, Outcome}
use Rattle.shared_disk.specs.Lines.{Role}
use Rattle.shared_disk.specs.Script.{IsOpening}
use Rattle.device_workers.specs.Plain.{Progress, progress, has_no_order, after_rounds, plain_from, rounds, plain_history}

-- more rounds than these change nothing, whatever the outcomes are
abbrev pub RoundsAreEnough : Type 0
RoundsAreEnough =
    (S : Setup) (opening : List Entry) (roles : List Role) (outcomes : List Outcome) (more : ℕ) → IsSetup S → first_open S opening ≡ None
    → plain_from (rounds roles + more) S (progress opening roles outcomes) ≡ plain_history S opening roles outcomes

-- no line is left, and each token has ended and was collected
pub record IsAllDone (S : Setup) (s : Progress) (H : List Entry) : Type 0 where
  pub lines : list_all has_no_order s.lefts ≡ true
  pub ended : first_open S H ≡ None
  pub collected : (t : ℕ) → t < token_count H → was_collected H t ≡ true

-- so it is after the rounds, whatever the lines and the outcomes are
abbrev pub RoundsDoAll : Type 0
RoundsDoAll =
    (S : Setup) (opening : List Entry) (roles : List Role) (outcomes : List Outcome) → IsSetup S → IsLegal S opening → IsOpening opening
    → IsAllDone S (after_rounds (rounds roles) S (progress opening roles outcomes)) (plain_history S opening roles outcomes)
