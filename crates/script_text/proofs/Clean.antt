-- Lines of printable bytes, and their words.
use Rattle.std.proofs.Common.{◌≡◌, ℕ, ◌<◌, Bool, ◌||◌, true, List, [], ◌∷◌, map, refl, ap, arith}
use Rattle.std.specs.List.{list_all, list_any}
use Rattle.std.specs.Str.{IsUtf8}
use Rattle.std.proofs.lemmas.Bool.Decides.{nat_tests}
use Rattle.std.proofs.lemmas.List.Sums.{AllPass-from_list_all}
use Rattle.std.proofs.lemmas.Str.{IsUtf8-from_ascii}
use Rattle.std.proofs.lemmas.Str.Ascii.{IsAscii-from_all}
use Rattle.script_text.specs.Words.{is_line_byte}

line_byte_below : (b : ℕ) → is_line_byte b ≡ true → b < 128
line_byte_below b is = grind (arith, nat_tests)

-- printable bytes are text
pub clean_is_text : (line : List ℕ) → list_all is_line_byte line ≡ true → IsUtf8 line
clean_is_text line clean = IsUtf8-from_ascii line (IsAscii-from_all line (λ k d inside. line_byte_below _ (AllPass-from_list_all is_line_byte line clean k d inside)))

pub list_any_map : {X Y : Type 0} (p : Y → Bool) (f : X → Y) (xs : List X) → list_any p (map f xs) ≡ list_any (λ x. p (f x)) xs
list_any_map p f [] = refl
list_any_map p f (x ∷ xs) = ap (λ b. p (f x) || b) (list_any_map p f xs)
