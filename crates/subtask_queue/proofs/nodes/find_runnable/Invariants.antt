use Rattle.std.proofs.Common.{◌≡◌, drop, slice_get}
use Rattle.std.specs.Prelude.{find, nat_lt}
use Rattle.block_gate.specs.Gates.{is_block_held}
use Rattle.index_links.specs.Lists.{list_at}
use Rattle.subtask_queue.specs.Owned.{subs_in, units_at}
use Rattle.subtask_queue.specs.Subs.{may_run}
use Rattle.subtask_queue.proofs.nodes.find_runnable.Given as goal

-- none of the units so far may run
abbrev pub invariant-loop : goal.invariant-loop
invariant-loop l =
    (l.at ≡ slice_get (list_at l.links 0) l.counter)
    × (find (may_run (is_block_held l.gates.held) (nat_lt 0 l.gates.free)) (subs_in (units_at l.subs (list_at l.links 0)))
    ≡ find (may_run (is_block_held l.gates.held) (nat_lt 0 l.gates.free)) (subs_in (units_at l.subs (drop l.counter (list_at l.links 0)))))
