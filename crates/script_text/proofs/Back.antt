-- Numbers, bytes and views, read back from their text.
use Rattle.std.proofs.Common.{◌≡◌, ℕ, zero, suc, ◌/◌, ◌%◌, ◌-◌, ◌^◌, ◌<◌, ◌≤◌, Bool, true, false, not, ◌||◌, ◌==◌, le-leb, List, [], ◌∷◌, ◌++◌, length, slice_index, bytes_eq, codes, decimal, Option, None, Some, refl, ap, ◌∙◌, arith}
use Rattle.std.specs.Char.{is_ascii_digit}
use Rattle.std.specs.List.{list_all, slice_split, onto_first}
use Rattle.std.specs.Option.{option_and_then}
use Rattle.std.specs.Str.Parse.{digits_value}
use Rattle.std.proofs.lemmas.Bool.Decides.{nat_tests}
use Rattle.std.proofs.lemmas.Fmt.{decimal_is_IsNumeral, length-decimal-le}
use Rattle.std.proofs.lemmas.List.Splits.{slice_split-cons_yes, slice_split-cons_no}
use Rattle.std.proofs.lemmas.Str.Parse.{IsNumeralModel}
use Rattle.hex.specs.Hex.{IsBytes, encode_lower, encode_with, lower_digits}
use Rattle.hex.proofs.HexLemmas.{decode_of-encode_lower, length-encode_with}
use Rattle.history.specs.declared.entry.View.{View}
use Rattle.script_text.specs.Words.{number_of, hex_of}
use Rattle.script_text.specs.Text.{hex_text, view_text}
use Rattle.script_text.specs.Law.{IsWord64, IsShortView}
use Rattle.script_text.proofs.Numbers.{own}
use Rattle.script_text.proofs.Chains.{both_true}

-- no element passes
abbrev pub lacks : (ℕ → Bool) → List ℕ → Bool
lacks p w = list_all (λ c. not (p c)) w

was_false : (b : Bool) → not b ≡ true → b ≡ false
was_false true is = absurd (cc)
was_false false is = refl

-- a word is cut off at what follows it
pub cut_word : (p : ℕ → Bool) (w : List ℕ) (c : ℕ) (rest : List ℕ) → lacks p w ≡ true → p c ≡ true → slice_split p (w ++ c ∷ rest) ≡ w ∷ slice_split p rest
cut_word p [] c rest none is = slice_split-cons_yes p c rest is
cut_word p (x ∷ w) c rest none is =
    let (one, more) = both_true (not (p x)) (lacks p w) none in
    slice_split-cons_no p x (w ++ c ∷ rest) (was_false (p x) one) ∙ ap (onto_first x) (cut_word p w c rest more is)

pub last_word : (p : ℕ → Bool) (w : List ℕ) → lacks p w ≡ true → slice_split p w ≡ w ∷ []
last_word p [] none = refl
last_word p (x ∷ w) none =
    let (one, more) = both_true (not (p x)) (lacks p w) none in
    slice_split-cons_no p x w (was_false (p x) one) ∙ ap (onto_first x) (last_word p w more)

-- digits
pub decimal_digits : (n : ℕ) → IsWord64 n → list_all is_ascii_digit (decimal n) ≡ true
decimal_digits n short = IsNumeralModel.from own (decimal n) (decimal_is_IsNumeral n short).0.1

pub number_back : (n : ℕ) → IsWord64 n → number_of (decimal n) ≡ Some n
unfolding number_of
number_back n short =
    let numeral = decimal_is_IsNumeral n short in
    let some : 0 < length (decimal n) = numeral.0.0 in
    let few : length (decimal n) ≤ 20 = length-decimal-le 20 n (omega arith) (omega arith) short in
    let value : digits_value 10 (decimal n) ≡ n = numeral.1 in
    rw (value, le-leb 1 (length (decimal n)) (omega arith), le-leb (length (decimal n)) 20 few, decimal_digits n short, le-leb n (2 ^ 64 - 1) (omega arith)) refl

digits_lack : (p : ℕ → Bool) → ((c : ℕ) → is_ascii_digit c ≡ true → not (p c) ≡ true) → (w : List ℕ) → list_all is_ascii_digit w ≡ true → lacks p w ≡ true
digits_lack p none [] digits = refl
digits_lack p none (x ∷ w) digits =
    let (one, more) = both_true (is_ascii_digit x) (list_all is_ascii_digit w) digits in
    rw (none x one, digits_lack p none w more) refl

-- what ends a word of a line
abbrev pub is_end : ℕ → Bool
is_end c = c == 32 || c == 10

end_no_digit : (c : ℕ) → is_ascii_digit c ≡ true → not (is_end c) ≡ true
end_no_digit c digit = grind (arith, nat_tests)

pub decimal_lacks : (n : ℕ) → IsWord64 n → lacks is_end (decimal n) ≡ true
decimal_lacks n short = digits_lack is_end end_no_digit (decimal n) (decimal_digits n short)

-- what ends a number of a view
abbrev is_no_digit : ℕ → Bool
is_no_digit c = not (is_ascii_digit c)

mark_no_digit : (c : ℕ) → is_ascii_digit c ≡ true → not (is_no_digit c) ≡ true
mark_no_digit c digit = rw digit refl

number_lacks : (n : ℕ) → IsWord64 n → lacks is_no_digit (decimal n) ≡ true
number_lacks n short = digits_lack is_no_digit mark_no_digit (decimal n) (decimal_digits n short)

-- a number that a word writes, handed on
abbrev pub with_number : {A : Type 0} → List ℕ → (ℕ → Option A) → Option A
with_number w f = option_and_then f (number_of w)

abbrev view_of_numbers : List (List ℕ) → Option View
view_of_numbers (a ∷ b ∷ c ∷ d ∷ []) = with_number a (λ start. with_number b (λ count. with_number c (λ id. with_number d (λ i. Some (record { start = start; length = count; media_id = id; index = i })))))
view_of_numbers words = None

unfoldable pub read_view : List ℕ → Option View
read_view w = view_of_numbers (slice_split is_no_digit w)

pub view_back : (v : View) → IsShortView v → read_view (view_text v) ≡ Some v
unfolding read_view view_text
view_back v s =
    rw (
      cut_word is_no_digit (decimal v.start) 43 (decimal v.length ++ (64 ∷ (decimal v.media_id ++ (47 ∷ decimal v.index)))) (number_lacks v.start s.start) refl,
      cut_word is_no_digit (decimal v.length) 64 (decimal v.media_id ++ (47 ∷ decimal v.index)) (number_lacks v.length s.length) refl,
      cut_word is_no_digit (decimal v.media_id) 47 (decimal v.index) (number_lacks v.media_id s.media_id) refl,
      last_word is_no_digit (decimal v.index) (number_lacks v.index s.index),
      number_back v.start s.start,
      number_back v.length s.length,
      number_back v.media_id s.media_id,
      number_back v.index s.index,
    ) refl

pub lacks_both : (p : ℕ → Bool) (a b : List ℕ) → lacks p a ≡ true → lacks p b ≡ true → lacks p (a ++ b) ≡ true
lacks_both p [] b one two = two
lacks_both p (x ∷ a) b one two =
    let (first, more) = both_true (not (p x)) (lacks p a) one in
    rw (first, lacks_both p a b more two) refl

pub view_lacks : (v : View) → IsShortView v → lacks is_end (view_text v) ≡ true
unfolding view_text
view_lacks v s =
    lacks_both is_end (decimal v.start) _ (decimal_lacks v.start s.start)
    (lacks_both is_end (decimal v.length) _ (decimal_lacks v.length s.length)
    (lacks_both is_end (decimal v.media_id) _ (decimal_lacks v.media_id s.media_id) (decimal_lacks v.index s.index)))

-- bytes
two_or_more : (x y : ℕ) (rest : List ℕ) (b : Bool) → (x == 45) ≡ b → bytes_eq (x ∷ y ∷ rest) (codes "-") ≡ false
two_or_more x y rest true is = rw is refl
two_or_more x y rest false is = rw is refl

pub hex_back : (bytes : List ℕ) → IsBytes bytes → hex_of (hex_text bytes) ≡ Some bytes
unfolding hex_of hex_text encode_with
hex_back [] all = refl
hex_back (b ∷ more) all =
    let long : 2 ≤ length (encode_lower (b ∷ more)) = omega (arith, length-encode_with lower_digits (b ∷ more)) in
    rw (
      two_or_more (slice_index lower_digits (b / 16)) (slice_index lower_digits (b % 16)) (encode_with lower_digits more) (slice_index lower_digits (b / 16) == 45) refl,
      le-leb 2 (length (encode_lower (b ∷ more))) long,
      decode_of-encode_lower (b ∷ more) all,
    ) refl

glyph_at : (t : List ℕ) (i : ℕ) → lacks is_end t ≡ true → not (is_end (slice_index t i)) ≡ true
glyph_at [] i none = refl
glyph_at (x ∷ t) zero none = (both_true (not (is_end x)) (lacks is_end t) none).0
glyph_at (x ∷ t) (suc i) none = glyph_at t i (both_true (not (is_end x)) (lacks is_end t) none).1

encoded_lacks : (bytes : List ℕ) → lacks is_end (encode_with lower_digits bytes) ≡ true
unfolding encode_with
encoded_lacks [] = refl
encoded_lacks (b ∷ more) = rw (glyph_at lower_digits (b / 16) refl, glyph_at lower_digits (b % 16) refl, encoded_lacks more) refl

pub hex_lacks : (bytes : List ℕ) → lacks is_end (hex_text bytes) ≡ true
unfolding hex_text
hex_lacks [] = refl
hex_lacks (b ∷ more) = encoded_lacks (b ∷ more)
