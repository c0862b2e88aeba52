use Rattle.std.proofs.Common.{◌≡◌, drop, slice_get}
use Rattle.index_links.specs.Lists.{list_at}
use Rattle.block_gate.specs.Gates.{least_ticket}
use Rattle.block_gate.specs.Sets.{gates_in}
use Rattle.block_gate.proofs.Walks.{joined}
use Rattle.block_gate.proofs.finding.least_of.Given as goal

-- the least so far, and what is to come
abbrev pub invariant-loop : goal.invariant-loop
invariant-loop l =
    (l.at ≡ slice_get (list_at l.links l.list) l.counter)
    × (least_ticket (gates_in l.sets (list_at l.links l.list)) ≡ joined l.least (least_ticket (gates_in l.sets (drop l.counter (list_at l.links l.list)))))
