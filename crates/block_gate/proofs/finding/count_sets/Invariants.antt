use Rattle.std.proofs.Common.{◌≡◌, ◌+◌, ◌≤◌, drop, slice_get, length}
use Rattle.std.specs.List.{filter}
use Rattle.index_links.specs.Lists.{list_at}
use Rattle.block_gate.specs.Sets.{gates_in, is_so}
use Rattle.block_gate.proofs.finding.count_sets.Given as goal

-- how many there were so far, and what is to come
abbrev pub invariant-loop : goal.invariant-loop
invariant-loop l =
    (l.at ≡ slice_get (list_at l.links l.list) l.counter)
    × (length (filter (is_so l.out) (gates_in l.sets (list_at l.links l.list))) ≡ l.count + length (filter (is_so l.out) (gates_in l.sets (drop l.counter (list_at l.links l.list)))))
    × (l.count ≤ l.counter)
