-- A register: the number whose bits, added to the first 32 of the bits that are left, are what long division has left.
use Rattle.std.proofs.Common.{◌≡◌, ℕ, zero, suc, ◌+◌, ◌-◌, ◌/◌, ◌%◌, ◌^◌, ◌<◌, ◌≤◌, Bool, true, false, ◌==◌, not, List, [], ◌∷◌, ◌++◌, length, map, take, drop, replicate, refl, sym, ap, ◌∙◌, arith, length-append, append_assoc, bit_xor}
use Rattle.std.specs.Prelude.{if◌then◌else◌}
use Rattle.std.proofs.Math.Numerals.{suc-eq-add-one}
use Rattle.std.proofs.Math.Pow.{mod-mod-pow}
use Rattle.std.proofs.Math.Nat.{pow-suc, zero-add, suc-add}
use Rattle.std.proofs.lemmas.Nat.{xor_shr, xor_mod, xor_lt, field_of}
use Rattle.crc_table.specs.Division.{add, plus, multiple_of, zero_bits, rest_of_division, HasOneRest}
use Rattle.crc_table.specs.Crc32.{bits_of, bits_number, message_bits, dividend, polynomial, divisor_tail, divisor, remainder_of, crc32_of, HasTaken}
use Rattle.crc_table.specs.Registers.{next_register, after_shifts, register_after}
use Rattle.crc_table.proofs.Rests.{plus_comm, plus_assoc, plus-zeros, length-plus, divided-HasOneRest}

-- ---- the bits of a number

length-bits_of : (n c : ℕ) → length (bits_of n c) ≡ n
unfolding bits_of
length-bits_of zero c = refl
length-bits_of (suc n) c = ap suc (length-bits_of n (c / 2))

pub odd-xor : (a b : ℕ) → a < 2 → b < 2 → (bit_xor a b == 1) ≡ add (a == 1) (b == 1)
odd-xor zero b p q = refl
odd-xor (suc zero) zero p q = refl
odd-xor (suc zero) (suc zero) p q = refl
odd-xor (suc zero) (suc (suc b)) p q = absurd (omega arith)
odd-xor (suc (suc a)) b p q = absurd (omega arith)

bits_of-xor : (n a b : ℕ) → bits_of n (bit_xor a b) ≡ plus (bits_of n a) (bits_of n b)
unfolding bits_of plus
bits_of-xor zero a b = refl
bits_of-xor (suc n) a b =
    let first : (bit_xor a b % 2 == 1) ≡ add (a % 2 == 1) (b % 2 == 1) =
    ap (λ k. k == 1) (xor_mod a b 1) ∙ odd-xor (a % 2) (b % 2) (omega arith) (omega arith) in
    let others : bits_of n (bit_xor a b / 2) ≡ plus (bits_of n (a / 2)) (bits_of n (b / 2)) =
    ap (bits_of n) (xor_shr a b 1) ∙ bits_of-xor n (a / 2) (b / 2) in
    cc

bits_of-zero : (n : ℕ) → bits_of n 0 ≡ zero_bits n
unfolding bits_of
bits_of-zero zero = refl
bits_of-zero (suc n) = ap (λ l. false ∷ l) (bits_of-zero n)

bits_of-mod : (n c : ℕ) → bits_of n (c % 2 ^ n) ≡ bits_of n c
unfolding bits_of
bits_of-mod zero c = refl
bits_of-mod (suc n) c =
    let low : c % 2 ^ suc n % 2 ≡ c % 2 = ap (λ k. c % 2 ^ k % 2) (suc-eq-add-one n) ∙ mod-mod-pow c n 1 in
    let high : c % 2 ^ suc n / 2 ≡ c / 2 % 2 ^ n = ap (λ k. c % 2 ^ k / 2) (suc-eq-add-one n) ∙ field_of c n 1 in
    let others : bits_of n (c % 2 ^ suc n / 2) ≡ bits_of n (c / 2) = ap (bits_of n) high ∙ bits_of-mod n (c / 2) in
    cc

scaled-true : (l : List Bool) → multiple_of true l ≡ l
scaled-true [] = refl
scaled-true (x ∷ xs) = ap (λ l. x ∷ l) (scaled-true xs)

scaled-false : (l : List Bool) → multiple_of false l ≡ zero_bits (length l)
scaled-false [] = refl
scaled-false (x ∷ xs) = ap (λ l. false ∷ l) (scaled-false xs)

bits_of-if : (n c : ℕ) (x : Bool) → bits_of n (if x then c else 0) ≡ multiple_of x (bits_of n c)
bits_of-if n c true = sym (scaled-true (bits_of n c))
bits_of-if n c false = bits_of-zero n ∙ ap zero_bits (sym (length-bits_of n c)) ∙ sym (scaled-false (bits_of n c))

halves : (n c : ℕ) → c < 2 ^ suc n → c / 2 < 2 ^ n
halves n c small = omega (arith, pow-suc 2 n)

-- bits above the highest one of a number add nothing
plus-bits_of : (n m c : ℕ) (l : List Bool) → c < 2 ^ n → n ≤ m → m ≤ length l → plus (bits_of m c) l ≡ plus (bits_of n c) l
unfolding bits_of plus
plus-bits_of zero m c l small wide within =
    let none : c ≡ 0 = omega arith in
    ap (λ k. plus (bits_of m k) l) none ∙ ap (λ b. plus b l) (bits_of-zero m) ∙ plus-zeros m l within
plus-bits_of (suc n) zero c l small wide within = absurd (omega arith)
plus-bits_of (suc n) (suc m) c [] small wide within = absurd (omega arith)
plus-bits_of (suc n) (suc m) c (x ∷ xs) small wide within =
    ap (λ r. add (c % 2 == 1) x ∷ r) (plus-bits_of n m (c / 2) xs (halves n c small) (omega arith) (omega arith))

-- ---- one coefficient of the quotient, eight of them, and those of a message

add_false : (x : Bool) → add x false ≡ x
add_false false = refl
add_false true = refl

divided_shift : (w n c : ℕ) (l : List Bool) → c < 2 ^ suc w → suc w ≤ length l
    → rest_of_division (suc n) (bits_of (suc w) polynomial) (plus (bits_of (suc w) c) (false ∷ l))
    ≡ rest_of_division n (bits_of (suc w) polynomial) (plus (bits_of (suc w) (next_register c)) l)
unfolding plus rest_of_division bits_of
divided_shift w n c l small within =
    let tail = bits_of (suc w) polynomial in
    let odd = c % 2 == 1 in
    let taken = multiple_of odd tail in
    let half = bits_of (suc w) (c / 2) in
    let rest : plus (bits_of w (c / 2)) l ≡ plus half l =
    sym (plus-bits_of w (suc w) (c / 2) l (halves w c small) (omega arith) within) in
    let register : bits_of (suc w) (next_register c) ≡ plus half taken =
    bits_of-xor (suc w) (c / 2) (if odd then polynomial else 0) ∙ ap (plus half) (bits_of-if (suc w) polynomial odd) in
    let turned : plus (plus half l) taken ≡ plus (plus half taken) l =
    plus_assoc half l taken ∙ ap (plus half) (plus_comm l taken) ∙ sym (plus_assoc half taken l) in
    ap (λ b. rest_of_division n tail (plus (plus (bits_of w (c / 2)) l) (multiple_of b tail))) (add_false odd)
    ∙ ap (rest_of_division n tail) (ap (λ r. plus r taken) rest ∙ turned ∙ ap (λ r. plus r l) (sym register))

shifted_lt : (c : ℕ) → c < 2 ^ 32 → next_register c < 2 ^ 32
shifted_lt c small = xor_lt 32 (c / 2) (if c % 2 == 1 then polynomial else 0) (omega arith) (at_most (c % 2 == 1))
  where
    at_most : (x : Bool) → (if x then polynomial else 0) < 2 ^ 32
    at_most true = omega arith
    at_most false = omega arith

pub shifted_by_lt : (k c : ℕ) → c < 2 ^ 32 → after_shifts k c < 2 ^ 32
unfolding after_shifts
shifted_by_lt zero c small = small
shifted_by_lt (suc k) c small = shifted_by_lt k (next_register c) (shifted_lt c small)

length-wide : (k : ℕ) (l : List Bool) → length l ≤ length (zero_bits k ++ l)
length-wide k l = omega (arith, length-append (zero_bits k) l)

divided_shifts : (k n c : ℕ) (l : List Bool) → c < 2 ^ 32 → 32 ≤ length l
    → rest_of_division (k + n) divisor_tail (plus (bits_of 32 c) (zero_bits k ++ l)) ≡ rest_of_division n divisor_tail (plus (bits_of 32 (after_shifts k c)) l)
unfolding divisor_tail after_shifts
divided_shifts zero n c l small within = ap (λ j. rest_of_division j divisor_tail (plus (bits_of 32 c) l)) (zero-add n)
divided_shifts (suc k) n c l small within =
    ap (λ j. rest_of_division j divisor_tail (plus (bits_of 32 c) (false ∷ (zero_bits k ++ l)))) (suc-add k n)
    ∙ divided_shift 31 (k + n) c (zero_bits k ++ l) small (omega (arith, length-wide k l))
    ∙ divided_shifts k n (next_register c) l (shifted_lt c small) within

plus-padded : (a l : List Bool) → plus a (zero_bits (length a) ++ l) ≡ a ++ l
unfolding plus
plus-padded [] l = refl
plus-padded (x ∷ xs) l = cc (add_false x, plus-padded xs l)

-- a byte added to the register is added to the first eight bits that are left
plus-byte : (c byte : ℕ) (l : List Bool) → 32 ≤ length l
    → plus (bits_of 32 c) (bits_of 8 byte ++ l) ≡ plus (bits_of 32 (bit_xor c (byte % 256))) (zero_bits 8 ++ l)
plus-byte c byte l within =
    let low = byte % 256 in
    let eight : plus (bits_of 8 low) (zero_bits 8 ++ l) ≡ bits_of 8 low ++ l =
    ap (λ k. plus (bits_of 8 low) (zero_bits k ++ l)) (sym (length-bits_of 8 low)) ∙ plus-padded (bits_of 8 low) l in
    let wide : plus (bits_of 32 low) (zero_bits 8 ++ l) ≡ bits_of 8 byte ++ l =
    plus-bits_of 8 32 low (zero_bits 8 ++ l) (omega arith) (omega arith) (omega (arith, length-wide 8 l))
    ∙ eight ∙ ap (λ b. b ++ l) (bits_of-mod 8 byte) in
    ap (plus (bits_of 32 c)) (sym wide) ∙ sym (plus_assoc (bits_of 32 c) (bits_of 32 low) (zero_bits 8 ++ l))
    ∙ ap (λ b. plus b (zero_bits 8 ++ l)) (sym (bits_of-xor 32 c low))

xor-byte_lt : (c byte : ℕ) → c < 2 ^ 32 → bit_xor c (byte % 256) < 2 ^ 32
xor-byte_lt c byte small = xor_lt 32 c (byte % 256) small (omega arith)

pub after_lt : (bytes : List ℕ) (c : ℕ) → c < 2 ^ 32 → register_after c bytes < 2 ^ 32
unfolding register_after
after_lt [] c small = small
after_lt (byte ∷ bytes) c small = after_lt bytes _ (shifted_by_lt 8 _ (xor-byte_lt c byte small))

divided_message : (bytes : List ℕ) (c : ℕ) → c < 2 ^ 32
    → rest_of_division (length (message_bits bytes)) divisor_tail (plus (bits_of 32 c) (message_bits bytes ++ zero_bits 32)) ≡ bits_of 32 (register_after c bytes)
unfolding rest_of_division message_bits register_after
divided_message [] c small = plus_comm (bits_of 32 c) (zero_bits 32) ∙ plus-zeros 32 (bits_of 32 c) (omega (arith, length-bits_of 32 c))
divided_message (byte ∷ bytes) c small =
    let later = message_bits bytes in
    let next = bit_xor c (byte % 256) in
    let within : 32 ≤ length (later ++ zero_bits 32) = omega (arith, length-append later (zero_bits 32)) in
    let count : length (bits_of 8 byte ++ later) ≡ 8 + length later =
    length-append (bits_of 8 byte) later ∙ ap (λ k. k + length later) (length-bits_of 8 byte) in
    let left : plus (bits_of 32 c) ((bits_of 8 byte ++ later) ++ zero_bits 32) ≡ plus (bits_of 32 next) (zero_bits 8 ++ (later ++ zero_bits 32)) =
    ap (plus (bits_of 32 c)) (append_assoc (bits_of 8 byte) later (zero_bits 32)) ∙ plus-byte c byte (later ++ zero_bits 32) within in
    ap (λ k. rest_of_division k divisor_tail (plus (bits_of 32 c) ((bits_of 8 byte ++ later) ++ zero_bits 32))) count
    ∙ ap (rest_of_division (8 + length later) divisor_tail) left
    ∙ divided_shifts 8 (length later) next (later ++ zero_bits 32) (xor-byte_lt c byte small) within
    ∙ divided_message bytes (after_shifts 8 next) (shifted_by_lt 8 next (xor-byte_lt c byte small))

-- ---- the first 32 bits inverted, and the rest inverted

plus-ones : (n : ℕ) (l : List Bool) → n ≤ length l → plus (replicate n true) l ≡ map not (take n l) ++ drop n l
unfolding plus
plus-ones zero l within = refl
plus-ones (suc n) [] within = absurd (omega arith)
plus-ones (suc n) (x ∷ xs) within = ap (λ l. not x ∷ l) (plus-ones n xs (omega arith))

all_ones : bits_of 32 0xFFFFFFFF ≡ replicate 32 true
unfolding bits_of
all_ones = refl

dividend-plus : (bytes : List ℕ) → dividend bytes ≡ plus (bits_of 32 0xFFFFFFFF) (message_bits bytes ++ zero_bits 32)
unfolding dividend
dividend-plus bytes =
    let all = message_bits bytes ++ zero_bits 32 in
    sym (ap (λ b. plus b all) all_ones ∙ plus-ones 32 all (omega (arith, length-append (message_bits bytes) (zero_bits 32))))

rest_of-after : (bytes : List ℕ) → remainder_of bytes ≡ bits_of 32 (register_after 0xFFFFFFFF bytes)
unfolding remainder_of
rest_of-after bytes =
    ap (rest_of_division (length (message_bits bytes)) divisor_tail) (dividend-plus bytes) ∙ divided_message bytes 0xFFFFFFFF (omega arith)

-- `rest_of` is the rest of the division, and the only one
pub rest_of-HasOneRest : (bytes : List ℕ) → HasOneRest (dividend bytes) divisor (remainder_of bytes)
unfolding remainder_of divisor divisor_tail
rest_of-HasOneRest bytes =
    let all = message_bits bytes ++ zero_bits 32 in
    let padded = length-append (message_bits bytes) (zero_bits 32) in
    let long : length (dividend bytes) ≡ length all =
    ap length (dividend-plus bytes) ∙ length-plus (bits_of 32 0xFFFFFFFF) all (omega (arith, length-bits_of 32 0xFFFFFFFF, padded)) in
    divided-HasOneRest (length (message_bits bytes)) divisor_tail (dividend bytes) (omega (arith, long, padded, length-bits_of 32 polynomial))

number_of-not : (n c : ℕ) → c < 2 ^ n → bits_number (map not (bits_of n c)) + c + 1 ≡ 2 ^ n
unfolding bits_of bits_number
number_of-not zero c small = omega arith
number_of-not (suc n) c small =
    let digit : (k : ℕ) → k < 2 → (if not (k == 1) then 1 else 0) + k ≡ 1 = one_digit in
    omega (arith, pow-suc 2 n, number_of-not n (c / 2) (halves n c small), digit (c % 2) (omega arith))
  where
    one_digit : (k : ℕ) → k < 2 → (if not (k == 1) then 1 else 0) + k ≡ 1
    one_digit zero p = refl
    one_digit (suc zero) p = refl
    one_digit (suc (suc k)) p = absurd (omega arith)

-- the CRC32 and the register are each other's inverse
pub crc32_of-after : (bytes : List ℕ) → crc32_of bytes + register_after 0xFFFFFFFF bytes + 1 ≡ 2 ^ 32
unfolding crc32_of
crc32_of-after bytes =
    ap (λ l. bits_number (map not l) + register_after 0xFFFFFFFF bytes + 1) (rest_of-after bytes)
    ∙ number_of-not 32 (register_after 0xFFFFFFFF bytes) (after_lt bytes 0xFFFFFFFF (omega arith))

pub after-append : (a b : List ℕ) (c : ℕ) → register_after c (a ++ b) ≡ register_after (register_after c a) b
unfolding register_after
after-append [] b c = refl
after-append (byte ∷ bytes) b c = after-append bytes b (after_shifts 8 (bit_xor c (byte % 256)))

-- the register inverted, after more bytes
pub Holds-append : (crc register : ℕ) (before bytes : List ℕ) → register ≡ register_after (2 ^ 32 - 1 - crc) bytes → HasTaken crc before
    → HasTaken (2 ^ 32 - 1 - register) (before ++ bytes)
Holds-append crc register before bytes is holds =
    let start : 2 ^ 32 - 1 - crc ≡ register_after 0xFFFFFFFF before = omega (arith, crc32_of-after before, holds) in
    let same : register ≡ register_after 0xFFFFFFFF (before ++ bytes) =
    is ∙ ap (λ r. register_after r bytes) start ∙ sym (after-append before bytes 0xFFFFFFFF) in
    omega (arith, crc32_of-after (before ++ bytes), same)

pub Holds-none : HasTaken 0 []
unfolding register_after
Holds-none = omega (arith, crc32_of-after [])
