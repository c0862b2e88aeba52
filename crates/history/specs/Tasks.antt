-- The units of each token, which are unfinished, and which of them may run now (UEFI 2.10, 13.7; order, gates and sets: own profile).
use Rattle.std.specs.Prelude.{ℕ, zero, suc, ◌+◌, Bool, true, false, not, ◌&&◌, ◌||◌, if◌then◌else◌, List, [], ◌∷◌, ◌++◌, map, filter, find, Option, None, Some}
use Rattle.disk_split.specs.declared.span.Span.{Span}
use Rattle.disk_split.specs.Units.{units_of}
use Rattle.history.specs.declared.entry.Kind.{Kind}
use Rattle.history.specs.declared.entry.Kind.TheVariants.{Read, Write, Flush, Erase}
use Rattle.history.specs.declared.entry.Command.{Command}
use Rattle.history.specs.declared.entry.Command.TheVariants.{Fetch, Store, Put, Get, Wipe, Sync}
use Rattle.history.specs.declared.entry.Entry.{Entry}
use Rattle.history.specs.Setup.{Setup}
use Rattle.history.specs.Tokens.{Request, token_count, request, is_flush, changes_bytes, from_of, until_of}
use Rattle.history.specs.Commands.{is_sync, has_done, is_moved}
use Rattle.history.specs.Marks.{all_from, is_outstanding, was_fetched}

-- a unit of a request: a part or a run of its range, or the sync of a flush
pub data Task : Type 0 where
  Moves : (span : Span) → Task
  Syncs : Task

-- the units of a read, write or erase are the parts and runs of its range; a flush has one
abbrev pub tasks_of : Setup → Request → List Task
tasks_of S r = if is_flush r.asked.kind then Syncs ∷ [] else map Moves (units_of S.geometry (from_of S r) (until_of S r))

-- a part or a run is finished where its bytes were moved, and with them its first
abbrev pub is_finished : Setup → List Entry → ℕ → Task → Bool
is_finished S H t (Moves u) = is_moved S H t u.low
is_finished S H t Syncs = has_done is_sync H t

-- a unit of a token
pub record Todo : Type 0 where
  pub token : ℕ
  pub kind : Kind
  pub task : Task

abbrev pub todo_of_request : Setup → List Entry → ℕ → Option Request → List Todo
todo_of_request S H t None = []
todo_of_request S H t (Some r) =
    map (λ task. record { token = t; kind = r.asked.kind; task = task }) (filter (λ task. not (is_finished S H t task)) (tasks_of S r))

-- the unfinished units of a token that is outstanding
unfoldable pub todo_of : Setup → List Entry → ℕ → List Todo
todo_of S H t = if is_outstanding S H t then todo_of_request S H t (request H t) else []

-- the unfinished units of the outstanding tokens before token n, by token and byte
unfoldable pub todo_before : Setup → List Entry → ℕ → List Todo
todo_before S H zero = []
todo_before S H (suc n) = todo_before S H n ++ todo_of S H n

-- the unfinished units of all outstanding tokens
abbrev pub units_left : Setup → List Entry → List Todo
units_left S H = todo_before S H (token_count H)

-- a part of a write or an erase needs its group unheld and a free buffer set, a run that none of its blocks is held
abbrev pub is_clear : (ℕ → Bool) → Bool → Span → Bool
is_clear held free u =
    if u.whole
    then all_from (λ b. not (held b)) u.block u.count
    else not (held u.block) && free

abbrev pub is_task_clear : (ℕ → Bool) → Bool → Kind → Task → Bool
is_task_clear held free kind (Moves u) = not (changes_bytes kind) || is_clear held free u
is_task_clear held free kind Syncs = true

-- the unit may run now, where these blocks are held and a buffer set is free or not; what only reads always may
abbrev pub is_runnable : (ℕ → Bool) → Bool → Todo → Bool
is_runnable held free todo = is_task_clear held free todo.kind todo.task

-- the first of them, by token and byte
unfoldable pub first_runnable : (ℕ → Bool) → Bool → Setup → List Entry → Option Todo
first_runnable held free S H = find (is_runnable held free) (units_left S H)

-- the command of a unit: a part of a write or an erase is fetched and then stored
abbrev pub span_command : List Entry → ℕ → Kind → Bool → ℕ → ℕ → Command
span_command H t Read whole b n = Get b n
span_command H t Write true b n = Put b n
span_command H t Write false b n = if was_fetched H t b then Store b else Fetch b
span_command H t Erase true b n = Wipe b n
span_command H t Erase false b n = if was_fetched H t b then Store b else Fetch b
span_command H t Flush whole b n = Sync

abbrev pub task_command : List Entry → ℕ → Kind → Task → Command
task_command H t kind (Moves u) = span_command H t kind u.whole u.block u.count
task_command H t kind Syncs = Sync
