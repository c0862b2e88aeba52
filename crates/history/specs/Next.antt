-- Which command comes next where no group is held: that of the least outstanding token's unfinished unit of least byte (own profile).
use Rattle.std.specs.Prelude.{ℕ, not, List, Option, None, Some, option_map, find}
use Rattle.history.specs.declared.entry.Command.{Command}
use Rattle.history.specs.declared.entry.Entry.{Entry}
use Rattle.history.specs.declared.entry.Entry.TheVariants.{Done, Fault}
use Rattle.history.specs.Setup.{Setup}
use Rattle.history.specs.Tokens.{Request, token_count, request}
use Rattle.history.specs.Marks.{first_from, is_outstanding}
use Rattle.history.specs.Tasks.{Task, tasks_of, is_finished, task_command}

-- the least outstanding token
unfoldable pub first_open : Setup → List Entry → Option ℕ
first_open S H = first_from (is_outstanding S H) 0 (token_count H)

-- the first unit of the request that is not finished
unfoldable pub next_task : Setup → List Entry → ℕ → Request → Option Task
next_task S H t r = find (λ task. not (is_finished S H t task)) (tasks_of S r)

-- a token and its command
pub record Turn : Type 0 where
  pub token : ℕ
  pub command : Command

abbrev pub turn_of_request : Setup → List Entry → ℕ → Option Request → Option Turn
turn_of_request S H t None = None
turn_of_request S H t (Some r) = option_map (λ task. record { token = t; command = task_command H t r.asked.kind task }) (next_task S H t r)

abbrev pub turn_of_token : Setup → List Entry → Option ℕ → Option Turn
turn_of_token S H None = None
turn_of_token S H (Some t) = turn_of_request S H t (request H t)

-- the command that comes next
unfoldable pub next_turn : Setup → List Entry → Option Turn
next_turn S H = turn_of_token S H (first_open S H)

-- how a command ended: done, or failed after so many blocks
pub data Outcome : Type 0 where
  Made : Outcome
  Failed : (done : ℕ) → Outcome

abbrev pub entry_of : Turn → Outcome → Entry
entry_of turn Made = Done turn.token turn.command
entry_of turn (Failed done) = Fault turn.token turn.command done
