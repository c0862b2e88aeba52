-- Bytes of one line (own profile).
use Rattle.std.specs.Prelude.{◌≡◌, ℕ, Bool, not, ◌==◌, List, ◌++◌}
use Rattle.std.specs.List.{list_all}

-- bytes without a line feed (10)
abbrev pub is_one_line : List ℕ → Bool
is_one_line bytes = list_all (λ b. not (b == 10)) bytes

-- the bytes end in this line, which is all that is kept of them
abbrev pub EndsIn : List ℕ → List ℕ → Type 0
EndsIn bytes line = (front : List ℕ) × (bytes ≡ front ++ line)
