-- Pieces of a text have no comma and no parenthesis, and are ASCII.
use Rattle.std.proofs.Common.{◌≡◌, ℕ, zero, suc, ◌-◌, ◌^◌, ◌<◌, ◌≤◌, Bool, true, false, if◌then◌else◌, List, [], ◌∷◌, ◌++◌, length, get_or, refl, sym, ap, ◌∙◌, arith}
use Rattle.std.specs.Prelude.{replicate}
use Rattle.std.specs.Char.{digit_value}
use Rattle.std.specs.List.{AllByRecursion}
use Rattle.std.specs.Str.{IsAscii}
use Rattle.std.specs.Str.Parse.{AllDigits, IsNumeral, digits_value}
use Rattle.std.specs.Fmt.{decimal}
use Rattle.std.proofs.lemmas.Bool.Decides.{nat_tests}
use Rattle.std.proofs.lemmas.Str.Ascii.{IsAscii-nil, IsAscii-cons}
use Rattle.std.proofs.lemmas.Fmt.{decimal_is_IsNumeral, digits_is_IsNumeral}
use Rattle.uuid.specs.Text.{by_index, hex_digit, hyphenated_text, lower, nibble, is_hyphen_place, digit_place}
use Rattle.uuid.proofs.TextLemmas.{nibble_small}
use Rattle.device_path.specs.declared.hard_drive.Format.{Format}
use Rattle.device_path.specs.declared.hard_drive.Format.TheVariants as formats
use Rattle.device_path.specs.declared.hard_drive.Sign.{Sign}
use Rattle.device_path.specs.declared.hard_drive.Sign.TheVariants as signs
use Rattle.device_path.specs.Node.{IsSign}
use Rattle.device_path.specs.Text.{block_text, eight_digits, format_text, hexadecimal, sign_text}
use Rattle.device_path.specs.Reading.{Lacks, TellsNumber}

-- past the comma, which is 44, and the parentheses before it
abbrev pub IsPlainText : List ℕ → Type 0
IsPlainText xs = AllByRecursion (λ c. (44 < c) × (c < 128)) xs

plain-append : (xs ys : List ℕ) → IsPlainText xs → IsPlainText ys → IsPlainText (xs ++ ys)
plain-append [] ys p q = q
plain-append (x ∷ xs) ys p q = (p.0, plain-append xs ys p.1 q)

pub plain-at : (xs : List ℕ) (i : ℕ) → IsPlainText xs → i < length xs → 44 < get_or xs i 0
plain-at [] i p h = absurd (omega arith)
plain-at (x ∷ xs) zero p h = p.0.0
plain-at (x ∷ xs) (suc i) p h = plain-at xs i p.1 (omega arith)

pub plain-lacks : (c : ℕ) (xs : List ℕ) → c ≤ 44 → IsPlainText xs → Lacks c xs
plain-lacks c xs low p = record { at = λ i h e. let above = plain-at xs i p h in omega arith }

pub plain-ascii : (xs : List ℕ) → IsPlainText xs → IsAscii xs
plain-ascii [] p = IsAscii-nil
plain-ascii (x ∷ xs) p = IsAscii-cons x xs p.0.1 (plain-ascii xs p.1)

digit-plain : (radix c : ℕ) → radix ≤ 16 → digit_value c < radix → (44 < c) × (c < 128)
digit-plain radix c low h = (grind (arith, nat_tests), grind (arith, nat_tests))

pub digits-plain : (radix : ℕ) (ds : List ℕ) → radix ≤ 16 → AllDigits radix ds → IsPlainText ds
digits-plain radix [] low h = tt
digits-plain radix (c ∷ ds) low h = (digit-plain radix c low h.0, digits-plain radix ds low h.1)

pub decimal-plain : (n : ℕ) → n < 2 ^ 32 → IsPlainText (decimal n)
decimal-plain n h = digits-plain 10 (decimal n) (omega arith) (decimal_is_IsNumeral n (omega arith)).0.1

pub format-plain : (format : Format) → IsPlainText (format_text format)
format-plain formats.Mbr = ((omega arith, omega arith), ((omega arith, omega arith), ((omega arith, omega arith), tt)))
format-plain formats.Gpt = ((omega arith, omega arith), ((omega arith, omega arith), ((omega arith, omega arith), tt)))

-- hexadecimal digits tell their number, with or without zeros before
hexadecimal-tells : (n : ℕ) → n < 2 ^ 64 → IsNumeral 16 (hexadecimal n) × (digits_value 16 (hexadecimal n) ≡ n)
hexadecimal-tells n h = digits_is_IsNumeral 16 false (omega arith) (omega arith) n (omega arith)

pub block-tells : (n : ℕ) → n < 2 ^ 64 → TellsNumber n (block_text n)
block-tells n h = let own = hexadecimal-tells n h in record { digits = hexadecimal n; is = refl; numeral = own.0; value = own.1 }

zeros-digits : (k : ℕ) (ds : List ℕ) → AllDigits 16 ds → AllDigits 16 (replicate k 48 ++ ds)
zeros-digits zero ds h = h
zeros-digits (suc k) ds h = (omega arith, zeros-digits k ds h)

zeros-value : (k : ℕ) (ds : List ℕ) → digits_value 16 (replicate k 48 ++ ds) ≡ digits_value 16 ds
zeros-value zero ds = refl
zeros-value (suc k) ds = zeros-value k ds

zeros-length : (k : ℕ) (ds : List ℕ) → 0 < length ds → 0 < length (replicate k 48 ++ ds)
zeros-length zero ds h = h
zeros-length (suc k) ds h = omega arith

pub eight-tells : (n : ℕ) → n < 2 ^ 32 → TellsNumber n (sign_text (signs.Mbr n))
eight-tells n h =
    let own = hexadecimal-tells n (omega arith) in
    let ds = hexadecimal n in
    let k : ℕ = 8 - length ds in record {
      digits = eight_digits n;
      is = refl;
      numeral = (zeros-length k ds own.0.0, zeros-digits k ds own.0.1);
      value = zeros-value k ds ∙ own.1;
    }

pub tells-plain : (n : ℕ) (text : List ℕ) → TellsNumber n text → IsPlainText text
tells-plain n text tells = rw tells.is ((omega arith, omega arith), ((omega arith, omega arith), digits-plain 16 tells.digits (omega arith) tells.numeral.1))

-- the text of a GUID
hex-plain : (hyphen : Bool) (d : ℕ) → d < 16 → let c = if hyphen then 45 else hex_digit lower d in (44 < c) × (c < 128)
hex-plain true d h = (omega arith, omega arith)
hex-plain false d h = (grind (arith, nat_tests), grind (arith, nat_tests))

by_index-plain : (n : ℕ) (f : ℕ → ℕ) → ((k : ℕ) → (44 < f k) × (f k < 128)) → IsPlainText (by_index n f)
unfolding by_index
by_index-plain zero f h = tt
by_index-plain (suc n) f h = plain-append (by_index n f) (f n ∷ []) (by_index-plain n f h) (h n, tt)

guid-plain : (guid : List ℕ) → IsPlainText (hyphenated_text lower guid)
guid-plain guid = by_index-plain 36 _ (λ k. hex-plain (is_hyphen_place k) (nibble guid (digit_place k)) (nibble_small guid (digit_place k)))

pub sign-plain : (sign : Sign) → IsSign sign → IsPlainText (sign_text sign)
sign-plain signs.None can = ((omega arith, omega arith), tt)
sign-plain (signs.Mbr signature) can = tells-plain signature _ (eight-tells signature can)
sign-plain (signs.Guid guid) can = guid-plain guid

-- what stands before the first parenthesis, and before the x of a number
pub head-plain : IsPlainText (72 ∷ 68 ∷ [])
head-plain = ((omega arith, omega arith), ((omega arith, omega arith), tt))

pub zero-lacks-x : Lacks 120 (48 ∷ [])
zero-lacks-x = record { at = λ i h e. let first : i ≡ 0 = omega arith in let two : 48 ≡ 120 = sym (ap (λ j. get_or (48 ∷ []) j 0) first) ∙ e in absurd (omega arith) }
