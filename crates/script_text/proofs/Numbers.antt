-- Numbers in decimal digits.
use Rattle.std.proofs.Common.{◌≡◌, ℕ, ◌-◌, ◌<◌, ◌≤◌, ◌^◌, Bool, true, false, nat_le, le-leb, ap, List, length, None, Some, Result, Ok, Err, refl, arith, rules}
use Rattle.std.specs.Char.{is_ascii_digit}
use Rattle.std.specs.List.{list_all}
use Rattle.std.specs.Result.{result_ok}
use Rattle.std.specs.Str.Parse.{ParsesUnsigned, digits_value}
use Rattle.std.proofs.lemmas.Bool.Decides.{nat_tests}
use Rattle.std.proofs.lemmas.Str.Parse.{IsNumeralModel, numerals_by_value, parse_digits}
use Rattle.script_text.specs.Words.{number_of}

pub own : IsNumeralModel (λ ds. list_all is_ascii_digit ds ≡ true) (digits_value 10)
own = numerals_by_value _ (search rules)

-- a number that does not fit is none
none_fits : (word : List ℕ) (b : Bool) → nat_le (digits_value 10 word) (2 ^ 64 - 1) ≡ b → nat_le 1 (length word) ≡ true → length word ≤ 20 → list_all is_ascii_digit word ≡ true → ((0 < length word) × (digits_value 10 word < 2 ^ 64) → ⊥) → None ≡ number_of word
unfolding number_of
none_fits word true fits some few digits none = absurd (none ((grind (arith, nat_tests)), (grind (arith, nat_tests))))
none_fits word false fits some few digits none = rw (some, le-leb (length word) 20 few, digits, fits) refl

none_there : (word : List ℕ) (b : Bool) → nat_le 1 (length word) ≡ b → length word ≤ 20 → list_all is_ascii_digit word ≡ true → ((0 < length word) × (digits_value 10 word < 2 ^ 64) → ⊥) → None ≡ number_of word
unfolding number_of
none_there word true some few digits none = none_fits word (nat_le (digits_value 10 word) (2 ^ 64 - 1)) refl some few digits none
none_there word false some few digits none = rw some refl

-- what parsing answers for at most 20 digits
pub number_parsed : {E : Type 0} (word : List ℕ) (r : Result ℕ E) → length word ≤ 20 → list_all is_ascii_digit word ≡ true → ParsesUnsigned 64 10 word r → result_ok r ≡ number_of word
unfolding number_of
number_parsed {E} word (Ok x) few digits h =
    let k = parse_digits own {E = E} 64 word (Ok x) h digits in
    let some : 0 < length word = k.0.0 in
    let fits : digits_value 10 word < 2 ^ 64 = k.0.1 in
    let is : x ≡ digits_value 10 word = k.1 in
    rw (le-leb 1 (length word) (omega arith), le-leb (length word) 20 few, digits, le-leb (digits_value 10 word) (2 ^ 64 - 1) (omega arith)) (ap Some is)
number_parsed {E} word (Err e) few digits h = none_there word (nat_le 1 (length word)) refl few digits (parse_digits own {E = E} 64 word (Err e) h digits)

pub no_number_long : (word : List ℕ) → 20 < length word → number_of word ≡ None
unfolding number_of
no_number_long word long = grind (arith, nat_tests)

pub no_number_other : (word : List ℕ) → list_all is_ascii_digit word ≡ false → number_of word ≡ None
unfolding number_of
no_number_other word other = grind (arith, nat_tests)
