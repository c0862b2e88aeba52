use Rattle.std.proofs.Common.{◌≡◌, ℕ, ◌<◌, [], true, length}
use Rattle.index_links.specs.Lists.{list_at, is_among, AreApart}
use Rattle.block_gate.proofs.relinking.free_links.Given as goal

-- the nodes so far are in the list of the free ones
abbrev pub invariant-loop-node : goal.invariant-loop-node
invariant-loop-node l =
    (l.links.nodes ≡ l.count) × (length l.links.lists ≡ 3) × (length (list_at l.links 0) ≡ l.node) × (list_at l.links 1 ≡ []) × (list_at l.links 2 ≡ [])
    × AreApart l.links × ((x : ℕ) → is_among (list_at l.links 0) x ≡ true → x < l.node)
