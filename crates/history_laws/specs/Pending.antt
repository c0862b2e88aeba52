-- Which units are left after an entry (own profile).
use Rattle.std.specs.Prelude.{◌≡◌, ℕ, ◌<◌, ◌⊎◌, Bool, false, not, nat_eq, ◌&&◌, List, [], ◌∷◌, slice_get, map, Some}
use Rattle.disk_split.specs.declared.span.Span.{Span}
use Rattle.history.specs.declared.entry.Entry.{Entry}
use Rattle.history.specs.Setup.{Setup}
use Rattle.history.specs.Tokens.{Request}
use Rattle.history.specs.Marks.{is_outstanding}
use Rattle.history.specs.Tasks.{Task, Moves, Syncs, tasks_of, is_finished, Todo}

-- the unit's token is open and the unit is not finished
abbrev pub is_todo : Setup → List Entry → Todo → Bool
is_todo S H todo = is_outstanding S H todo.token && not (is_finished S H todo.token todo.task)

-- a unit of this request
abbrev pub todo_at : ℕ → Request → Task → Todo
todo_at t r task = record { token = t; kind = r.asked.kind; task = task }

-- all units of a new request
abbrev pub todos_of : Setup → ℕ → Request → List Todo
todos_of S t r = map (todo_at t r) (tasks_of S r)

abbrev pub is_task_of : Span → Task → Bool
is_task_of u (Moves v) = nat_eq v.low u.low
is_task_of u Syncs = false

-- it is the unit of the token that begins at the first byte of this one
abbrev pub is_todo_of : ℕ → Span → Todo → Bool
is_todo_of t u todo = nat_eq todo.token t && is_task_of u todo.task

abbrev pub task_low : Task → ℕ
task_low (Moves u) = u.low
task_low Syncs = 0

-- a unit stands before another: it is of an earlier token, or of the same one and begins before it
abbrev pub IsBefore : Todo → Todo → Type 0
IsBefore one other = (one.token < other.token) ⊎ ((one.token ≡ other.token) × (task_low one.task < task_low other.task))

-- each element of the list stands so to each one behind it
unfoldable pub Ordered : {X : Type 0} → (X → X → Type 0) → List X → Type 0
Ordered R [] = Unit {0}
Ordered {X} R (x ∷ xs) = ((k : ℕ) (y : X) → slice_get xs k ≡ Some y → R x y) × Ordered R xs
