-- The register of the private functions: the number whose bits, the least one first, added to the first 32 coefficients
-- of the dividend that are left, are what long division has left (own profile).
use Rattle.std.specs.Prelude.{ℕ, zero, suc, ◌/◌, ◌%◌, ◌==◌, if◌then◌else◌, bit_xor, List, [], ◌∷◌}
use Rattle.crc_table.specs.Crc32.{polynomial}

-- after one coefficient of the quotient
abbrev pub next_register : ℕ → ℕ
next_register register = bit_xor (register / 2) (if register % 2 == 1 then polynomial else 0)

-- after `count` coefficients of the quotient
unfoldable pub after_shifts : ℕ → ℕ → ℕ
after_shifts zero register = register
after_shifts (suc count) register = after_shifts count (next_register register)

-- after these bytes, of each of which the eight lowest bits count
unfoldable pub register_after : ℕ → List ℕ → ℕ
register_after register [] = register
register_after register (byte ∷ bytes) = register_after (after_shifts 8 (bit_xor register (byte % 256))) bytes
