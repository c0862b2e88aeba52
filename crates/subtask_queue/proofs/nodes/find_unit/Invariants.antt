use Rattle.std.proofs.Common.{◌≡◌, ℕ, ◌≤◌, drop, slice_get}
use Rattle.index_links.specs.Lists.{list_at}
use Rattle.subtask_queue.specs.Owned.{units_at, first_node, is_node, AreRising}
use Rattle.subtask_queue.proofs.nodes.find_unit.Given as goal

-- the walk stands at some place; no unit so far is the one, and the tokens rise from the token on
abbrev pub invariant-loop : goal.invariant-loop
invariant-loop l =
    (place : ℕ) × (l.counter ≤ place) × (l.at ≡ slice_get (list_at l.links 0) place)
    × (first_node (is_node l.token l.block) (units_at l.subs (list_at l.links 0)) ≡ first_node (is_node l.token l.block) (units_at l.subs (drop place (list_at l.links 0))))
    × AreRising l.token (units_at l.subs (drop place (list_at l.links 0)))
