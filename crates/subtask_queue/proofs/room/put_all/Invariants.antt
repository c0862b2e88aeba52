use Rattle.std.proofs.Common.{◌≡◌, ◌+◌, take, length}
use Rattle.index_links.specs.Lists.{list_at}
use Rattle.subtask_queue.specs.Owned.{units_at, AreNodes, AreAppended}
use Rattle.subtask_queue.proofs.room.put_all.Given as goal

-- the units so far stand behind the others, and as many nodes are no longer free
abbrev pub invariant-loop-sub : goal.invariant-loop-sub
invariant-loop-sub l =
    AreNodes l.subs.items l.links 0
    × (length (list_at l.fn.links 1) ≡ length (list_at l.links 1) + l.sub-index)
    × AreAppended (take l.sub-index l.units) l.first (units_at l.fn.subs.items (list_at l.fn.links 0)) (units_at l.subs.items (list_at l.links 0))
