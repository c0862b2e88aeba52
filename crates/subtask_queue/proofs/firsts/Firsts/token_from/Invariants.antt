use Rattle.std.proofs.Common.{◌≡◌, ℕ, ◌+◌, ◌<◌, ◌≤◌, None}
use Rattle.subtask_queue.specs.Firsts.{first_at}
use Rattle.subtask_queue.proofs.firsts.Firsts.token_from.Given as goal

-- no token so far has a unit
abbrev pub invariant-loop-place : goal.invariant-loop-place
invariant-loop-place l = (l.begin ≤ l.place) × ((t : ℕ) → l.token ≤ t → t < l.self.base + l.place → first_at l.self t ≡ None)
