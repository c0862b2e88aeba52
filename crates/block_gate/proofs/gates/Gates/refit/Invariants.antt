use Rattle.std.proofs.Common.{◌≡◌, ◌≤◌, length}
use Rattle.block_gate.specs.Gates.{with_new_sets}
use Rattle.block_gate.specs.Sets.{gates_of, AreSets}
use Rattle.block_gate.proofs.gates.Gates.refit.Given as goal

-- the first so many revoked tickets are forgotten
abbrev pub invariant-loop : goal.invariant-loop
invariant-loop l =
    AreSets l.self-inside.sets.items l.self-inside.links l.self-inside.size
    × (gates_of l.self-inside.sets.items l.self-inside.links l.self-inside.size ≡ with_new_sets l.fn.self l.count)
    × (l.count ≡ l.counter) × (l.count ≤ length l.fn.self.gone) × (length l.fn.self.gone ≤ length l.self-inside.sets.items)
