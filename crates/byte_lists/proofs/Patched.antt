-- Laws of patching.
use Rattle.std.proofs.Common.{◌≡◌, ℕ, ◌+◌, ◌≤◌, List, length, arith, length-append, length-take, length-drop}
use Rattle.byte_lists.specs.Patching.{patch}

-- a piece that fits leaves the length
pub length-patch : (b : List ℕ) (at : ℕ) (piece : List ℕ) → at + length piece ≤ length b → length (patch b at piece) ≡ length b
length-patch b at piece fits = grind (arith, length-append, length-take, length-drop)
