-- Counts that are kept in 64 bits and stand still at their end (own profile).
use Rattle.std.specs.Prelude.{ℕ, ◌+◌, ◌-◌, ◌^◌, ◌≤◌, min}

-- the greatest count
abbrev pub most : ℕ
most = 2 ^ 64 - 1

-- so many more, as far as the count goes
abbrev pub capped_sum : ℕ → ℕ → ℕ
capped_sum before n = min (before + n) most

-- the count rose
abbrev pub Rose : ℕ → ℕ → Type 0
Rose before now = capped_sum before 1 ≤ now
