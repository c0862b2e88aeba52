-- A register as a sum of registers, the tables, and the look-ups that take in a byte or eight.
use Rattle.std.proofs.Common.{◌≡◌, ℕ, zero, suc, ◌-◌, ◌+◌, ◌*◌, ◌/◌, ◌%◌, ◌^◌, ◌<◌, ◌≤◌, Bool, true, false, ◌&&◌, ◌==◌, List, [], ◌∷◌, ◌++◌, length, take, drop, get_or, subst, append_assoc, refl, sym, ap, ◌∙◌, arith, bit_xor, bit_and}
use Rattle.std.specs.Prelude.{if◌then◌else◌}
use Rattle.std.specs.Int.Bits.{xor_assoc, xor_zero_l, xor_zero_r}
use Rattle.std.specs.Int.{from_le_bytes, w64}
use Rattle.std.specs.List.{concat}
use Rattle.std.specs.Simd.{first_chunks}
use Rattle.std.proofs.Math.Nat.{pow-suc, add-zero, zero-add, suc-add, zero-mul}
use Rattle.std.proofs.lemmas.List.{take_more, take-append-drop, drop-drop, append-nil}
use Rattle.std.proofs.lemmas.List.Folds.{concat-append}
use Rattle.std.proofs.lemmas.Bool.{eqb-true, and_parts}
use Rattle.std.proofs.lemmas.Nat.{xor_shr, xor_mod, xor_comm, xor_block, shr_split, pow_pos, mod_below, and_mask, shr_below}
use Rattle.crc_table.specs.Division.{add}
use Rattle.crc_table.specs.declared.tables.TheConstants.{TABLES}
use Rattle.crc_table.specs.Crc32.{polynomial}
use Rattle.crc_table.specs.Registers.{next_register, after_shifts, register_after}
use Rattle.crc_table.proofs.Registers.{odd-xor, after-append}

-- ---- a sum of registers

abbrev taken : Bool → ℕ
taken x = if x then polynomial else 0

taken-add : (x y : Bool) → taken (add x y) ≡ bit_xor (taken x) (taken y)
taken-add false y = sym (xor_zero_l (taken y))
taken-add true false = refl
taken-add true true = refl

xor_turned : (a b c d : ℕ) → bit_xor (bit_xor a b) (bit_xor c d) ≡ bit_xor (bit_xor a c) (bit_xor b d)
xor_turned a b c d =
    xor_assoc a b (bit_xor c d)
    ∙ ap (bit_xor a) (sym (xor_assoc b c d) ∙ ap (λ n. bit_xor n d) (xor_comm b c) ∙ xor_assoc c b d)
    ∙ sym (xor_assoc a c (bit_xor b d))

shifted-xor : (a b : ℕ) → next_register (bit_xor a b) ≡ bit_xor (next_register a) (next_register b)
shifted-xor a b =
    let odd : (bit_xor a b % 2 == 1) ≡ add (a % 2 == 1) (b % 2 == 1) =
    ap (λ k. k == 1) (xor_mod a b 1) ∙ odd-xor (a % 2) (b % 2) (omega arith) (omega arith) in
    ap (λ n. bit_xor n (taken (bit_xor a b % 2 == 1))) (xor_shr a b 1)
    ∙ ap (λ x. bit_xor (bit_xor (a / 2) (b / 2)) (taken x)) odd
    ∙ ap (bit_xor (bit_xor (a / 2) (b / 2))) (taken-add (a % 2 == 1) (b % 2 == 1))
    ∙ xor_turned (a / 2) (b / 2) (taken (a % 2 == 1)) (taken (b % 2 == 1))

after_shifts-xor : (k a b : ℕ) → after_shifts k (bit_xor a b) ≡ bit_xor (after_shifts k a) (after_shifts k b)
unfolding after_shifts
after_shifts-xor zero a b = refl
after_shifts-xor (suc k) a b = ap (after_shifts k) (shifted-xor a b) ∙ after_shifts-xor k (next_register a) (next_register b)

-- coefficients of 0 only move the register down
after_shifts-high : (k c : ℕ) → after_shifts k (c * 2 ^ k) ≡ c
unfolding after_shifts
after_shifts-high zero c = omega arith
after_shifts-high (suc k) c =
    let even : c * 2 ^ suc k ≡ 2 * (c * 2 ^ k) = omega (arith, ap (λ n. c * n) (pow-suc 2 k)) in
    let half : c * 2 ^ suc k / 2 ≡ c * 2 ^ k = omega arith in
    let low : c * 2 ^ suc k % 2 ≡ 0 = omega arith in
    ap (λ n. after_shifts k (bit_xor n (taken (c * 2 ^ suc k % 2 == 1)))) half
    ∙ ap (λ n. after_shifts k (bit_xor (c * 2 ^ k) (taken (n == 1)))) low
    ∙ ap (after_shifts k) (xor_zero_r (c * 2 ^ k))
    ∙ after_shifts-high k c

after_shifts-add : (j k c : ℕ) → after_shifts (j + k) c ≡ after_shifts k (after_shifts j c)
unfolding after_shifts
after_shifts-add zero k c = ap (λ n. after_shifts n c) (zero-add k)
after_shifts-add (suc j) k c = ap (λ n. after_shifts n c) (suc-add j k) ∙ after_shifts-add j k (next_register c)

-- a number is the sum of its k low bits and of the others
xor_parts : (k low high : ℕ) → low < 2 ^ k → bit_xor low (high * 2 ^ k) ≡ high * 2 ^ k + low
xor_parts k low high small =
    let block = xor_block k high 0 0 low (pow_pos k) small in
    let first : high * 2 ^ k + 0 ≡ high * 2 ^ k = omega arith in
    let second : 0 * 2 ^ k + low ≡ low = omega arith in
    cc (block, first, second, xor_zero_r high, xor_zero_l low, xor_comm low (high * 2 ^ k))

-- the low bits of a register are looked up, and the others move down
after_shifts-split : (j k c : ℕ) → after_shifts (j + k) c ≡ bit_xor (after_shifts (j + k) (c % 2 ^ j)) (after_shifts k (c / 2 ^ j))
after_shifts-split j k c =
    let low = c % 2 ^ j in
    let high = c / 2 ^ j in
    let parts : c ≡ bit_xor low (high * 2 ^ j) = omega (arith, xor_parts j low high (mod_below c (2 ^ j) (pow_pos j)), shr_split c j) in
    ap (after_shifts (j + k)) parts ∙ after_shifts-xor (j + k) low (high * 2 ^ j)
    ∙ ap (bit_xor (after_shifts (j + k) low)) (after_shifts-add j k (high * 2 ^ j) ∙ ap (after_shifts k) (after_shifts-high j high))

-- ---- the tables

abbrev are_entries : ℕ → ℕ → List ℕ → Bool
are_entries count i [] = true
are_entries count i (word ∷ words) = (word == after_shifts count i) && are_entries count (suc i) words

-- tables of 256 entries, for 8 * n coefficients and then always eight fewer
abbrev are_tables : ℕ → List (List ℕ) → Bool
are_tables n [] = true
are_tables n (words ∷ tables) = (length words == 256) && (are_entries (8 * n) 0 words && are_tables (n - 1) tables)

tables_tested : are_tables 8 TABLES ≡ true
unfolding after_shifts
tables_tested = refl

get_or-entries : (words : List ℕ) (count from i : ℕ) → are_entries count from words ≡ true → i < length words → get_or words i 0 ≡ after_shifts count (from + i)
get_or-entries [] count from i tested within = absurd (omega arith)
get_or-entries (word ∷ words) count from zero tested within =
    eqb-true word (after_shifts count from) (and_parts _ _ tested).0 ∙ ap (after_shifts count) (sym (add-zero from))
get_or-entries (word ∷ words) count from (suc i) tested within =
    get_or-entries words count (suc from) i (and_parts (word == after_shifts count from) _ tested).1 (omega arith) ∙ ap (after_shifts count) (omega arith)

get_or-tables : (tables : List (List ℕ)) (n j i : ℕ) → are_tables n tables ≡ true → j < length tables → i < 256
    → get_or (get_or tables j []) i 0 ≡ after_shifts (8 * (n - j)) i
get_or-tables [] n j i tested within small = absurd (omega arith)
get_or-tables (words ∷ tables) n zero i tested within small =
    let parts = and_parts (length words == 256) _ tested in
    let entries = and_parts (are_entries (8 * n) 0 words) _ parts.1 in
    get_or-entries words (8 * n) 0 i entries.0 (omega (arith, eqb-true (length words) 256 parts.0))
    ∙ ap (λ k. after_shifts (8 * n) k) (zero-add i) ∙ ap (λ k. after_shifts (8 * k) i) (omega arith)
get_or-tables (words ∷ tables) n (suc j) i tested within small =
    let parts = and_parts (length words == 256) _ tested in
    let entries = and_parts (are_entries (8 * n) 0 words) _ parts.1 in
    get_or-tables tables (n - 1) j i entries.1 (omega arith) small ∙ ap (λ k. after_shifts (8 * k) i) (omega arith)

-- the rule of the tables: a look-up for the low byte, and eight coefficients fewer for the others
pub after_shifts-table : (j c : ℕ) → j < 8
    → after_shifts (8 * (8 - j)) c ≡ bit_xor (get_or (get_or TABLES j []) (bit_and c 255) 0) (after_shifts (8 * (8 - (j + 1))) (c / 256))
after_shifts-table j c within =
    let count : 8 * (8 - j) ≡ 8 + 8 * (8 - (j + 1)) = omega arith in
    let entry : get_or (get_or TABLES j []) (bit_and c 255) 0 ≡ after_shifts (8 * (8 - j)) (c % 2 ^ 8) =
    ap (λ i. get_or (get_or TABLES j []) i 0) (and_mask c 8) ∙ get_or-tables TABLES 8 j (c % 2 ^ 8) tables_tested within (omega arith) in
    ap (λ n. after_shifts n c) count ∙ after_shifts-split 8 (8 * (8 - (j + 1))) c
    ∙ ap (λ n. bit_xor n (after_shifts (8 * (8 - (j + 1))) (c / 2 ^ 8))) (ap (λ n. after_shifts n (c % 2 ^ 8)) (sym count) ∙ sym entry)

-- ---- bytes

-- the number with these bytes, the least one first
abbrev joined : List ℕ → ℕ
joined [] = 0
joined (byte ∷ bytes) = joined bytes * 256 + byte % 256

after-joined : (bytes : List ℕ) (c : ℕ) → register_after c bytes ≡ after_shifts (8 * length bytes) (bit_xor c (joined bytes))
unfolding after_shifts register_after
after-joined [] c = sym (xor_zero_r c)
after-joined (byte ∷ bytes) c =
    let low = byte % 256 in
    let high = joined bytes * 2 ^ 8 in
    let count : 8 * suc (length bytes) ≡ 8 + 8 * length bytes = omega arith in
    let parts : bit_xor c (high + low) ≡ bit_xor (bit_xor c low) high =
    ap (bit_xor c) (sym (xor_parts 8 low (joined bytes) (omega arith))) ∙ sym (xor_assoc c low high) in
    let next : after_shifts 8 (bit_xor (bit_xor c low) high) ≡ bit_xor (after_shifts 8 (bit_xor c low)) (joined bytes) =
    after_shifts-xor 8 (bit_xor c low) high ∙ ap (bit_xor (after_shifts 8 (bit_xor c low))) (after_shifts-high 8 (joined bytes)) in
    after-joined bytes (after_shifts 8 (bit_xor c low))
    ∙ ap (after_shifts (8 * length bytes)) (sym next)
    ∙ sym (ap (λ n. after_shifts n (bit_xor c (high + low))) count ∙ ap (after_shifts (8 + 8 * length bytes)) parts ∙ after_shifts-add 8 (8 * length bytes) (bit_xor (bit_xor c low) high))

-- a register after one more of these bytes
pub after-take : (start : ℕ) (bytes : List ℕ) (i register byte : ℕ) → i < length bytes → byte ≡ get_or bytes i 0 → byte < 256 → register ≡ register_after start (take i bytes)
    → bit_xor (get_or (get_or TABLES 7 []) (bit_and (bit_xor register byte) 255) 0) (bit_xor register byte / 256) ≡ register_after start (take (i + 1) bytes)
unfolding after_shifts register_after
after-take start bytes i register byte within is small so_far =
    let low : byte ≡ get_or bytes i 0 % 256 = omega arith in
    sym (ap (register_after start) (take_more bytes i 0 within) ∙ after-append (take i bytes) (get_or bytes i 0 ∷ []) start
    ∙ ap (λ r. after_shifts 8 (bit_xor r (get_or bytes i 0 % 256))) (sym so_far) ∙ ap (λ b. after_shifts 8 (bit_xor register b)) (sym low)
    ∙ after_shifts-table 7 (bit_xor register byte) (omega arith))

-- ---- eight bytes, of which the first j are looked up

pub lookup-more : (j sum left all : ℕ) → j < 8 → bit_xor sum (after_shifts (8 * (8 - j)) left) ≡ all
    → bit_xor (bit_xor sum (get_or (get_or TABLES j []) (bit_and left 255) 0)) (after_shifts (8 * (8 - (j + 1))) (left / 256)) ≡ all
lookup-more j sum left all within is =
    xor_assoc sum (get_or (get_or TABLES j []) (bit_and left 255) 0) (after_shifts (8 * (8 - (j + 1))) (left / 256))
    ∙ ap (bit_xor sum) (sym (after_shifts-table j left within)) ∙ is

pub lookup_lt : (j left : ℕ) → j < 8 → left < 2 ^ (8 * (8 - j)) → left / 256 < 2 ^ (8 * (8 - (j + 1)))
lookup_lt j left within small =
    let count : 8 * (8 - j) ≡ 8 * (8 - (j + 1)) + 8 = omega arith in
    let P : ℕ → Type 0 = λ k. left < 2 ^ k in
    shr_below left (8 * (8 - (j + 1))) 8 (subst P count small)

pub lookup-end : (j sum left all : ℕ) → 8 ≤ j → left < 2 ^ (8 * (8 - j)) → bit_xor sum (after_shifts (8 * (8 - j)) left) ≡ all → sum ≡ all
unfolding after_shifts
lookup-end j sum left all over small is =
    let count : 8 * (8 - j) ≡ 0 = omega arith in
    let P : ℕ → Type 0 = λ k. left < 2 ^ k in
    let none : left ≡ 0 = omega (arith, subst P count small) in
    sym (xor_zero_r sum) ∙ ap (bit_xor sum) (sym (ap (λ k. after_shifts k left) count ∙ none)) ∙ is

joined-eight : (bytes : List ℕ) → length bytes ≡ 8 → ((i : ℕ) → get_or bytes i 0 < 256) → joined bytes ≡ from_le_bytes w64 bytes
joined-eight (a ∷ b ∷ c ∷ d ∷ e ∷ f ∷ g ∷ h ∷ []) eight small =
    let first : a < 256 = small 0 in
    let second : b < 256 = small 1 in
    let third : c < 256 = small 2 in
    let fourth : d < 256 = small 3 in
    let fifth : e < 256 = small 4 in
    let sixth : f < 256 = small 5 in
    let seventh : g < 256 = small 6 in
    let eighth : h < 256 = small 7 in
    omega arith
joined-eight bytes eight small = absurd (omega arith)

pub after-eight : (register n : ℕ) (bytes : List ℕ) → length bytes ≡ 8 → ((i : ℕ) → get_or bytes i 0 < 256) → n ≡ from_le_bytes w64 bytes
    → after_shifts 64 (bit_xor n register) ≡ register_after register bytes
after-eight register n bytes eight small is =
    sym (after-joined bytes register ∙ ap (λ k. after_shifts (8 * k) (bit_xor register (joined bytes))) eight
    ∙ ap (after_shifts 64) (ap (bit_xor register) (joined-eight bytes eight small ∙ sym is) ∙ xor_comm register n))

pub after-eights : (start : ℕ) (eights : List (List ℕ)) (i register : ℕ) → i < length eights → register ≡ register_after start (concat (take i eights))
    → register_after register (get_or eights i []) ≡ register_after start (concat (take (i + 1) eights))
after-eights start eights i register within so_far =
    let eight = get_or eights i [] in
    sym (ap (λ l. register_after start (concat l)) (take_more eights i [] within) ∙ ap (register_after start) (concat-append (take i eights) (eight ∷ []))
    ∙ after-append (concat (take i eights)) (eight ++ []) start
    ∙ ap (λ r. register_after r (eight ++ [])) (sym so_far) ∙ ap (register_after register) (append-nil eight))

-- the eights of some bytes and the bytes after them
concat-chunks : (k : ℕ) (bytes : List ℕ) → concat (first_chunks 8 k bytes) ++ drop (k * 8) bytes ≡ bytes
concat-chunks zero bytes = ap (λ n. drop n bytes) (zero-mul 8)
concat-chunks (suc k) bytes =
    append_assoc (take 8 bytes) (concat (first_chunks 8 k (drop 8 bytes))) (drop (suc k * 8) bytes)
    ∙ ap (λ l. take 8 bytes ++ (concat (first_chunks 8 k (drop 8 bytes)) ++ l)) (ap (λ n. drop n bytes) (omega arith) ∙ sym (drop-drop (k * 8) 8 bytes))
    ∙ ap (λ l. take 8 bytes ++ l) (concat-chunks k (drop 8 bytes)) ∙ take-append-drop 8 bytes

pub after-chunks : (register : ℕ) (bytes : List ℕ) → register_after (register_after register (concat (first_chunks 8 (length bytes / 8) bytes))) (drop (length bytes / 8 * 8) bytes) ≡ register_after register bytes
after-chunks register bytes =
    let chunks = concat (first_chunks 8 (length bytes / 8) bytes) in
    sym (after-append chunks (drop (length bytes / 8 * 8) bytes) register) ∙ ap (register_after register) (concat-chunks (length bytes / 8) bytes)
