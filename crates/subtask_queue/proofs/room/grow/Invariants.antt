use Rattle.std.proofs.Common.{◌≡◌, ℕ, ◌+◌, ◌<◌, ◌≤◌, ◌^◌, true, length}
use Rattle.index_links.specs.Lists.{list_at, is_listed, AreApart}
use Rattle.subtask_queue.specs.Owned.{units_at}
use Rattle.subtask_queue.proofs.room.grow.Given as goal

-- the places so far are nodes that are free; those behind them stand in no list yet
abbrev pub invariant-loop : goal.invariant-loop
invariant-loop l =
    (l.links.nodes ≡ length l.fn.subs.items + l.more) × (length l.links.lists ≡ 2) × AreApart l.links
    × (length l.subs.items ≡ length l.fn.subs.items + l.counter) × (length l.fn.subs.items + l.more ≤ l.subs.cap) × (length l.fn.subs.items + l.more < 2 ^ 32)
    × (list_at l.links 0 ≡ list_at l.fn.links 0) × (length (list_at l.links 1) ≡ length (list_at l.fn.links 1) + l.counter)
    × (units_at l.subs.items (list_at l.fn.links 0) ≡ units_at l.fn.subs.items (list_at l.fn.links 0))
    × ((x : ℕ) → is_listed l.links x ≡ true → x < length l.subs.items)
