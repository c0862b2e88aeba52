use Rattle.std.proofs.Common.{◌≡◌, ℕ, ◌+◌, ◌≤◌, length}
use Rattle.index_links.specs.Rings.{after_at, AreRings}
use Rattle.index_links.proofs.rings.Rings.grow.Given as goal

-- the places so far are rings; the others still fit
abbrev pub invariant-loop : goal.invariant-loop
invariant-loop l =
    AreRings l.self-inside.links.items × ((p : ℕ) → after_at l.self-inside.links.items p ≡ after_at l.fn.self p)
    × (length l.self-inside.links.items ≡ length l.fn.self + l.counter) × (length l.fn.self + l.count ≤ l.self-inside.links.cap)
