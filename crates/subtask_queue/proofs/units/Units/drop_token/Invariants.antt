use Rattle.std.proofs.Common.{◌≡◌, ◌+◌, ◌≤◌, not, length}
use Rattle.std.specs.List.{filter, count_by}
use Rattle.subtask_queue.specs.Owned.{is_own, first_node, AreRising}
use Rattle.subtask_queue.proofs.units.Units.drop_token.Given as goal

-- the walk stands at the first unit of the token that is left; the others are counted and out
abbrev pub invariant-loop : goal.invariant-loop
invariant-loop l =
    (l.at ≡ first_node (is_own l.token) l.self) × AreRising 0 l.self
    × (filter (λ e. not (is_own l.token e)) l.self ≡ filter (λ e. not (is_own l.token e)) l.fn.self)
    × (count_by (is_own l.token) l.fn.self ≡ l.count + count_by (is_own l.token) l.self)
    × (l.count ≡ l.counter) × (length l.self + l.counter ≤ l.most)
