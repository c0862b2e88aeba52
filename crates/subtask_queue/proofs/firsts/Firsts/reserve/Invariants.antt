use Rattle.std.proofs.Common.{◌≡◌, ℕ, length}
use Rattle.subtask_queue.specs.Firsts.{first_at}
use Rattle.subtask_queue.proofs.firsts.Firsts.reserve.Given as goal

-- the places so far are new; no token has a unit that had none
abbrev pub invariant-loop : goal.invariant-loop
invariant-loop l = (l.self.base ≡ l.fn.self.base) × (length l.self.nodes ≡ l.counter) × ((t : ℕ) → first_at l.self t ≡ first_at l.fn.self t)
