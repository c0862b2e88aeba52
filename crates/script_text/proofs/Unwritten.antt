-- Words that write no number.
use Rattle.std.proofs.Common.{◌≡◌, ℕ, ◌<◌, ◌-◌, Bool, true, false, length, take, drop, List, None, refl, ap, sym, arith}
use Rattle.std.specs.Char.{is_ascii_digit}
use Rattle.std.specs.List.{list_all}
use Rattle.std.specs.Str.{IsUtf8}
use Rattle.std.proofs.lemmas.Bool.Decides.{nat_tests}
use Rattle.std.proofs.lemmas.List.Sums.{AllPass-from_list_all}
use Rattle.std.proofs.lemmas.Str.{IsUtf8-from_ascii}
use Rattle.std.proofs.lemmas.Str.Ascii.{IsAscii-from_all}
use Rattle.std.proofs.lemmas.List.{take_all, length-drop}
use Rattle.script_text.specs.Words.{number_of}
use Rattle.script_text.specs.Wording.{short_number_of, if_short}
use Rattle.script_text.proofs.Numbers.{no_number_other}

digit_below : (b : ℕ) → is_ascii_digit b ≡ true → b < 128
digit_below b is = grind (arith, nat_tests)

no_digits : (word : List ℕ) (b : Bool) → list_all is_ascii_digit word ≡ b → ¬ (IsUtf8 word) → number_of word ≡ None
no_digits word true digits none = absurd (none (IsUtf8-from_ascii word (IsAscii-from_all word (λ k d inside. digit_below _ (AllPass-from_list_all is_ascii_digit word digits k d inside)))))
no_digits word false digits none = no_number_other word digits

-- what is no text writes no number
pub no_short_number : (word : List ℕ) → ¬ (IsUtf8 word) → short_number_of word ≡ None
unfolding short_number_of
no_short_number word none = ap if_short (no_digits word (list_all is_ascii_digit word) refl none)

-- the same behind a first byte
pub no_number_behind : (word : List ℕ) → ¬ (IsUtf8 (take (length word - 1) (drop 1 word))) → None ≡ short_number_of (drop 1 word)
no_number_behind word none =
    let all : take (length word - 1) (drop 1 word) ≡ drop 1 word = take_all _ _ (omega (arith, length-drop 1 word)) in
    sym (no_short_number (drop 1 word) (rw all at none))
