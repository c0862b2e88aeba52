-- What the lines of a generated script say by their words.
use Rattle.std.proofs.Common.{◌≡◌, ℕ, zero, suc, ◌+◌, ◌-◌, ◌/◌, ◌%◌, ◌^◌, ◌<◌, ◌≤◌, Bool, true, false, not, ◌==◌, ◌&&◌, nat_eq, nat_le, List, [], ◌∷◌, ◌++◌, length, slice_index, codes, decimal, refl, ap, sym, ◌∙◌, subst, Some, None, Ok, arith}
use Rattle.std.specs.Char.{is_ascii_digit}
use Rattle.std.specs.Fmt.{digits, digit_glyph}
use Rattle.std.specs.List.{list_all}
use Rattle.std.proofs.lemmas.Bool.Decides.{nat_tests}
use Rattle.std.proofs.lemmas.Fmt.{decimal_nonempty, hex_byte}
use Rattle.hex.specs.Hex.{IsBytes, encode_with, encode_lower, lower_digits}
use Rattle.history.specs.declared.entry.Kind.TheVariants.{Read, Write, Flush}
use Rattle.history.specs.declared.entry.UnitKind.TheVariants.{Bytes}
use Rattle.history.specs.declared.order.Order.TheVariants as order
use Rattle.history.specs.declared.order.Payload.TheVariants.{Fill, Nothing}
use Rattle.script_text.specs.declared.language.line.Line.TheVariants.{Disk, Client, Asks}
use Rattle.script_text.specs.Fitting.{is_name_byte}
use Rattle.script_text.specs.Law.{IsWord64}
use Rattle.script_text.specs.Tables.{digits_of}
use Rattle.script_text.specs.Text.{hex_text}
use Rattle.script_text.specs.Words.{number_of, hex_of}
use Rattle.script_text.specs.Wording.{is_mark, is_fixed_word, byte_of, request_order, only_byte, physical_of, flags_of, disk_words, client_words, fill_order, sized_order, aimed_order, plain_order, aimed_words, whole_order, line_of_kind}
use Rattle.script_text.proofs.Back.{decimal_digits, number_back, hex_back}
use Rattle.script_text.proofs.Chains.{both_true}
use Rattle.script_text.proofs.Padded.{padded-to}
use Rattle.stack_run.proofs.Spaced.{IsWord, weaker}

-- a word that says a number, and has no other use
pub record SaysNumber (w : List ℕ) (n : ℕ) : Type 0 where
  pub word : IsWord w
  pub free : is_fixed_word w ≡ false
  pub unmarked : is_mark w ≡ false
  pub number : number_of w ≡ Some n

digit-printable : (b : ℕ) → is_ascii_digit b ≡ true → is_name_byte b ≡ true
digit-printable b is = grind (arith, nat_tests)

digit-no : (x m : ℕ) → is_ascii_digit x ≡ true → 58 ≤ m → (x == m) ≡ false
digit-no x m is high = grind (arith, nat_tests)

-- a word that begins with a digit is no word with a place of its own
digits-free : (w : List ℕ) → 0 < length w → list_all is_ascii_digit w ≡ true → (is_fixed_word w ≡ false) × (is_mark w ≡ false)
digits-free [] some all = absurd (omega arith)
digits-free (x ∷ w) some all =
    let one = (both_true (is_ascii_digit x) (list_all is_ascii_digit w) all).0 in (
      rw (digit-no x 64 one (omega arith), digit-no x 99 one (omega arith), digit-no x 112 one (omega arith), digit-no x 111 one (omega arith)) refl,
      digit-no x 64 one (omega arith),
    )

pub decimal-says : (n : ℕ) → n < 2 ^ 64 → SaysNumber (decimal n) n
decimal-says n short =
    let all = decimal_digits n short in
    let some = decimal_nonempty n short in
    record {
      word = record { some = some; clean = weaker is_ascii_digit is_name_byte digit-printable (decimal n) all };
      free = (digits-free (decimal n) some all).0;
      unmarked = (digits-free (decimal n) some all).1;
      number = number_back n short;
    }

was_false : (b : Bool) → not b ≡ true → b ≡ false
was_false true is = absurd (cc)
was_false false is = refl

-- a test of each number below this one
abbrev pub all_below : ℕ → (ℕ → Bool) → Bool
all_below zero p = true
all_below (suc n) p = all_below n p && p n

below-at : (n k : ℕ) (p : ℕ → Bool) (b : Bool) → nat_eq k n ≡ b → all_below (suc n) p ≡ true → k < suc n → (k < n → p k ≡ true) → p k ≡ true
below-at n k p true is all low before = let same : k ≡ n = grind (arith, nat_tests) in rw same (both_true (all_below n p) (p n) all).1
below-at n k p false is all low before = before (grind (arith, nat_tests))

below : (n : ℕ) (p : ℕ → Bool) → all_below n p ≡ true → (k : ℕ) → k < n → p k ≡ true
below zero p all k low = absurd (omega arith)
below (suc n) p all k low = below-at n k p (nat_eq k n) refl all low (λ lower. below n p (both_true (all_below n p) (p n) all).0 k lower)

-- a hexadecimal digit
abbrev is_glyph : ℕ → Bool
is_glyph d =
    nat_eq (digit_glyph false d) (slice_index lower_digits d) && (is_name_byte (digit_glyph false d)
    && (not (digit_glyph false d == 64) && nat_le (digit_glyph false d) 102))

all-glyphs : all_below 16 is_glyph ≡ true
all-glyphs = refl

record IsGlyph (x : ℕ) (d : ℕ) : Type 0 where
  pub digit : x ≡ slice_index lower_digits d
  pub clean : is_name_byte x ≡ true
  pub unmarked : (x == 64) ≡ false
  pub most : x ≤ 102

same-number : (a b : ℕ) → nat_eq a b ≡ true → a ≡ b
same-number a b is = grind (arith, nat_tests)

no-more : (a b : ℕ) → nat_le a b ≡ true → a ≤ b
no-more a b is = grind (arith, nat_tests)

glyph-is : (x d : ℕ) → (nat_eq x (slice_index lower_digits d) && (is_name_byte x && (not (x == 64) && nat_le x 102))) ≡ true → IsGlyph x d
glyph-is x d is =
    let (one, rest) = both_true (nat_eq x (slice_index lower_digits d)) _ is in
    let (two, more) = both_true (is_name_byte x) _ rest in
    let (three, four) = both_true (not (x == 64)) (nat_le x 102) more in
    record { digit = same-number x _ one; clean = two; unmarked = was_false (x == 64) three; most = no-more x 102 four }

glyph : (d : ℕ) → d < 16 → IsGlyph (digit_glyph false d) d
glyph d low = glyph-is (digit_glyph false d) d (below 16 is_glyph all-glyphs d low)

-- a word of two hexadecimal digits that says a byte, and has no other use
pub record SaysByte (w : List ℕ) (b : ℕ) : Type 0 where
  pub word : IsWord w
  pub free : is_fixed_word w ≡ false
  pub unmarked : is_mark w ≡ false
  pub byte : byte_of w ≡ Some b
  pub long : length w ≡ 2

glyph-no : (x m : ℕ) → x ≤ 102 → 103 ≤ m → (x == m) ≡ false
glyph-no x m low high = grind (arith, nat_tests)

never-both : (a b : Bool) → (a && (b && false)) ≡ false
never-both true true = refl
never-both true false = refl
never-both false b = refl

one-byte : (b : ℕ) → b < 256 → IsBytes (b ∷ [])
one-byte b small zero = small
one-byte b small (suc i) = omega arith

glyphs-say : (b x y : ℕ) → b < 256 → IsGlyph x (b / 16) → IsGlyph y (b % 16) → SaysByte (x ∷ y ∷ []) b
unfolding byte_of hex_text encode_with
glyphs-say b x y small one two =
    let text : x ∷ y ∷ [] ≡ encode_lower (b ∷ []) = λ i. one.digit i ∷ two.digit i ∷ [] in
    record {
      word = record { some = omega arith; clean = rw (one.clean, two.clean) refl };
      free = rw (one.unmarked, never-both (x == 99) (y == 97), glyph-no x 112 one.most (omega arith), glyph-no x 111 one.most (omega arith)) refl;
      unmarked = one.unmarked;
      byte = ap (λ w. only_byte (hex_of w)) text ∙ ap only_byte (hex_back (b ∷ []) (one-byte b small));
      long = refl;
    }

pub byte-says : (b : ℕ) → b < 256 → SaysByte (digits_of 2 b) b
byte-says b small =
    let two : digits_of 2 b ≡ digit_glyph false (b / 16) ∷ digit_glyph false (b % 16) ∷ [] = sym (padded-to 2 (digits 16 false b)) ∙ hex_byte false b small in
    let P : List ℕ → Type 0 = λ w. SaysByte w b in
    subst P (sym two) (glyphs-say b _ _ small (glyph (b / 16) (omega arith)) (glyph (b % 16) (omega arith)))

-- the lines by their words
pub fill-kind : (a c h : List ℕ) (at n b : ℕ) → SaysNumber a at → SaysNumber c n → SaysByte h b → line_of_kind (codes "fill") (a ∷ c ∷ h ∷ []) ≡ Ok (Asks (request_order Write Bytes at n (Fill b) 1) None)
unfolding line_of_kind aimed_words plain_order aimed_order fill_order
fill-kind a c h at n b one two three =
    rw (one.free, two.free, three.free, three.unmarked, one.number, two.number, three.byte) refl

pub read-kind : (a c : List ℕ) (at n : ℕ) → SaysNumber a at → SaysNumber c n → line_of_kind (codes "read") (a ∷ c ∷ []) ≡ Ok (Asks (request_order Read Bytes at n Nothing 1) None)
unfolding line_of_kind aimed_words plain_order aimed_order sized_order
read-kind a c at n one two = rw (one.free, two.free, two.unmarked, one.number, two.number) refl

pub flush-kind : line_of_kind (codes "flush") [] ≡ Ok (Asks (request_order Flush Bytes 0 0 Nothing 1) None)
unfolding line_of_kind aimed_words plain_order aimed_order
flush-kind = refl

pub wait-kind : line_of_kind (codes "wait") [] ≡ Ok (Asks order.Wait None)
unfolding line_of_kind whole_order
wait-kind = refl

pub client-kind : line_of_kind (codes "client") [] ≡ Ok (Client None)
unfolding line_of_kind client_words
client-kind = refl

pub disk-kind : line_of_kind (codes "disk") (codes "g" ∷ codes "512" ∷ codes "1" ∷ []) ≡ Ok (Disk (codes "g") 512 1 (record { cached = false; protected = false; physical = 1 }))
unfolding line_of_kind disk_words flags_of physical_of number_of
disk-kind = refl
