use Rattle.std.proofs.Common.{◌≡◌, drop, slice_get}
use Rattle.std.specs.List.{find}
use Rattle.index_links.specs.Lists.{list_at}
use Rattle.block_gate.specs.Sets.{gates_in, is_sought}
use Rattle.block_gate.proofs.finding.find_set.Given as goal

-- none of the sets so far is the one
abbrev pub invariant-loop : goal.invariant-loop
invariant-loop l =
    (l.at ≡ slice_get (list_at l.links l.list) l.counter)
    × (find (is_sought l.sought) (gates_in l.sets (list_at l.links l.list)) ≡ find (is_sought l.sought) (gates_in l.sets (drop l.counter (list_at l.links l.list))))
