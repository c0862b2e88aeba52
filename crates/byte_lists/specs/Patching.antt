-- Patching of byte lists (own profile).
use Rattle.std.specs.Prelude.{ℕ, ◌+◌, List, ◌++◌, length, take, drop}

-- b with the bytes from at on replaced by the piece
abbrev pub patch : List ℕ → ℕ → List ℕ → List ℕ
patch b at piece = take at b ++ (piece ++ drop (at + length piece) b)
