-- CRC32 as the rest of a division. UEFI 2.10 names the polynomial, 04C11DB7, in section 4.2, and the fields that hold a
-- CRC32 in section 5.3.2. The order of the bits and the two inversions are written out here as this project's own profile.
use Rattle.std.specs.Prelude.{◌≡◌, ℕ, zero, suc, ◌+◌, ◌*◌, ◌/◌, ◌%◌, Bool, true, ◌==◌, if◌then◌else◌, not, List, [], ◌∷◌, ◌++◌, length, map, take, drop}
use Rattle.crc_table.specs.Division.{zero_bits, rest_of_division}

-- the `count` lowest bits of a number, the least one first
unfoldable pub bits_of : ℕ → ℕ → List Bool
bits_of zero number = []
bits_of (suc count) number = (number % 2 == 1) ∷ bits_of count (number / 2)

-- the number with these bits, the least one first
unfoldable pub bits_number : List Bool → ℕ
bits_number [] = 0
bits_number (bit ∷ bits) = (if bit then 1 else 0) + 2 * bits_number bits

-- the bits of the bytes, the least bit of each byte first
unfoldable pub message_bits : List ℕ → List Bool
message_bits [] = []
message_bits (byte ∷ bytes) = bits_of 8 byte ++ message_bits bytes

-- the bits of the bytes and then 32 zero bits, with the first 32 bits of that list inverted
unfoldable pub dividend : List ℕ → List Bool
dividend bytes =
    let all = message_bits bytes ++ zero_bits 32 in map not (take 32 all) ++ drop 32 all

-- 04C11DB7 with its 32 bits in reverse
abbrev pub polynomial : ℕ
polynomial = 0xEDB88320

-- the divisor below x^32: the coefficient of x^(31-i) is bit i of the polynomial
unfoldable pub divisor_tail : List Bool
divisor_tail = bits_of 32 polynomial

unfoldable pub divisor : List Bool
divisor = true ∷ divisor_tail

-- the rest of the division
unfoldable pub remainder_of : List ℕ → List Bool
remainder_of bytes = rest_of_division (length (message_bits bytes)) divisor_tail (dividend bytes)

-- the CRC32 of the bytes: bit i is the coefficient of x^(31-i) of the rest, and all 32 bits are inverted
unfoldable pub crc32_of : List ℕ → ℕ
crc32_of bytes = bits_number (map not (remainder_of bytes))

-- a `Crc`, which clauses see as a number, has taken in these bytes, all of them and in this order
abbrev pub HasTaken : ℕ → List ℕ → Type 0
HasTaken crc bytes = crc ≡ crc32_of bytes
