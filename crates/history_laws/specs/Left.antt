-- What an open token has left, and how many tokens an entry ends (own profile).
use Rattle.std.specs.Prelude.{ℕ, zero, suc, ◌+◌, ◌-◌, ◌&&◌, not, if◌then◌else◌, List, filter, sum_by, is_some}
use Rattle.history.specs.declared.entry.Entry.{Entry}
use Rattle.history.specs.Setup.{Setup}
use Rattle.history.specs.Tokens.{Request, token_count}
use Rattle.history.specs.Marks.{is_outstanding, ending}
use Rattle.history.specs.Tasks.{Task, Moves, Syncs, tasks_of, is_finished}

-- the bytes of a unit, and 1 for a sync
abbrev pub task_bytes : Task → ℕ
task_bytes (Moves u) = u.high - u.low
task_bytes Syncs = 1

-- the bytes of the request's units that are not finished, and 1 for a flush that is not done
unfoldable pub left_of : Setup → List Entry → ℕ → Request → ℕ
left_of S H t r = sum_by task_bytes (filter (λ task. not (is_finished S H t task)) (tasks_of S r))

-- how many of the first n tokens are outstanding and ended by this entry
unfoldable pub end_count_before : Setup → List Entry → Entry → ℕ → ℕ
end_count_before S H e zero = 0
end_count_before S H e (suc n) = if is_outstanding S H n && is_some (ending S H e n) then end_count_before S H e n + 1 else end_count_before S H e n

-- how many outstanding tokens this entry ends
unfoldable pub end_count : Setup → List Entry → Entry → ℕ
end_count S H e = end_count_before S H e (token_count H)
