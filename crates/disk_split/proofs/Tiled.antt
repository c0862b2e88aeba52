-- What a tiling says of each of its spans.
use Rattle.std.proofs.Common.{◌≡◌, ℕ, zero, suc, ◌<◌, ◌≤◌, List, [], ◌∷◌, Some, arith, ap, refl, inl, inr}
use Rattle.std.specs.List.{slice_get}
use Rattle.std.proofs.lemmas.Bool.{cases_lt}
use Rattle.disk_split.specs.declared.span.Span.{Span}
use Rattle.disk_split.specs.Units.{Tile}

-- a tiled range does not end before it begins
pub tile-order : (a z : ℕ) (us : List Span) → Tile a z us → a ≤ z
unfolding Tile
tile-order a z [] tiled = omega arith
tile-order a z (u ∷ rest) (low, some, more) = omega (arith, tile-order u.high z rest more)

-- each span lies in the range and has a byte
pub tile-within : (a z : ℕ) (us : List Span) (k : ℕ) (u : Span) → Tile a z us → slice_get us k ≡ Some u → (a ≤ u.low) × (u.low < u.high) × (u.high ≤ z)
unfolding Tile
tile-within a z [] k u tiled e = cc
tile-within a z (v ∷ rest) zero u (low, some, more) e =
    let same : v ≡ u = cc in
    omega (arith, tile-order v.high z rest more, ap (λ s. s.low) same, ap (λ s. s.high) same)
tile-within a z (v ∷ rest) (suc k) u (low, some, more) e = omega (arith, tile-within v.high z rest k u more e)

-- each byte of the range lies in a span
pub tile-finds : (a z : ℕ) (us : List Span) (x : ℕ) → Tile a z us → a ≤ x → x < z → (k : ℕ) × (u : Span) × (slice_get us k ≡ Some u) × (u.low ≤ x) × (x < u.high)
unfolding Tile
tile-finds a z [] x tiled from until = let no_byte : ⊥ = omega arith in absurd no_byte
tile-finds a z (u ∷ rest) x (low, some, more) from until = elim (cases_lt x u.high) [
  | inl here ↦ (0, u, refl, omega arith, here)
  | inr later ↦ let (k, v, e, f, g) = tile-finds u.high z rest x more later until in (suc k, v, e, f, g)
]
