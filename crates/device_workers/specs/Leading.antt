-- How one stand of the plain schedule leads on to another, whatever outcomes are still to come (own profile).
use Rattle.std.specs.Prelude.{◌≡◌, ℕ, ◌+◌, Bool, List, ◌∷◌, Some}
use Rattle.history.specs.declared.entry.Entry.{Entry}
use Rattle.history.specs.Setup.{Setup}
use Rattle.history.specs.Next.{Turn, next_turn, Outcome, entry_of}
use Rattle.disk_core.specs.Calls.{is_fetched}
use Rattle.shared_disk.specs.Lines.{Role}
use Rattle.device_workers.specs.Plain.{outcomes_onto, progress, after_line_of, after_lines_of_first, after_step, after_rounds}

-- client i took its line, and no command was made
pub record TakesBy (S : Setup) (i : ℕ) (H : List Entry) (lefts : List Role) (H' : List Entry) (lefts' : List Role) : Type 0 where
  pub goes : (outcomes : List Outcome) → after_line_of S i (progress H lefts outcomes) ≡ progress H' lefts' outcomes
  pub same : (more : List Outcome) → outcomes_onto H' more ≡ outcomes_onto H more

-- the first n clients took their lines
pub record TakesFirst (S : Setup) (n : ℕ) (H : List Entry) (lefts : List Role) (H' : List Entry) (lefts' : List Role) : Type 0 where
  pub goes : (outcomes : List Outcome) → after_lines_of_first S n (progress H lefts outcomes) ≡ progress H' lefts' outcomes
  pub same : (more : List Outcome) → outcomes_onto H' more ≡ outcomes_onto H more

-- one step of the schedule, whatever lines are left and whatever outcomes are still to come
pub record StepsOn (S : Setup) (H H' : List Entry) (lefts : List Role) (more : List Outcome) : Type 0 where
  pub given : List Outcome
  pub same : outcomes_onto H' more ≡ outcomes_onto H given
  pub goes : after_step S (progress H lefts given) ≡ progress H' lefts more

abbrev pub IsStep : Setup → List Entry → List Entry → Type 0
IsStep S H H' = (lefts : List Role) (more : List Outcome) → StepsOn S H H' lefts more

-- a command was made, and it was a done fetch or not
pub record IsTurned (S : Setup) (H H' : List Entry) (fetched : Bool) : Type 0 where
  pub turn : Turn
  pub outcome : Outcome
  pub next : next_turn S H ≡ Some turn
  pub entries : H' ≡ entry_of turn outcome ∷ H
  pub answer : is_fetched turn.command outcome ≡ fetched

-- so many rounds lead from one stand to another, with these outcomes still to come
pub record LeadsFor (S : Setup) (k : ℕ) (H : List Entry) (lefts : List Role) (H' : List Entry) (lefts' : List Role) (n : ℕ) (more : List Outcome) : Type 0 where
  pub given : List Outcome
  pub same : outcomes_onto H' more ≡ outcomes_onto H given
  pub goes : after_rounds (n + k) S (progress H lefts given) ≡ after_rounds n S (progress H' lefts' more)

-- whatever outcomes are still to come
pub record Leads (S : Setup) (H : List Entry) (lefts : List Role) (H' : List Entry) (lefts' : List Role) : Type 0 where
  pub k : ℕ
  pub on : (n : ℕ) (more : List Outcome) → LeadsFor S k H lefts H' lefts' n more
