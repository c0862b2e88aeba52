-- The words of a line are printable and not empty.
use Rattle.std.proofs.Common.{◌≡◌, ℕ, ◌<◌, Bool, true, false, not, ◌==◌, if◌then◌else◌, List, [], ◌∷◌, length, filter, refl, arith}
use Rattle.std.specs.List.{list_all, slice_split, onto_first}
use Rattle.std.proofs.lemmas.Bool.Decides.{nat_tests}
use Rattle.script_text.specs.Words.{words_of, is_line_byte}
use Rattle.script_text.specs.Fitting.{is_name_byte}
use Rattle.script_text.proofs.Chains.{both_true}

-- words of printable bytes
abbrev pub AreWords : List (List ℕ) → Type 0
AreWords [] = Unit {0}
AreWords (word ∷ more) = (0 < length word) × (list_all is_name_byte word ≡ true) × AreWords more

abbrev ArePrintable : List (List ℕ) → Type 0
ArePrintable [] = Unit {0}
ArePrintable (part ∷ more) = (list_all is_name_byte part ≡ true) × ArePrintable more

onto_printable : (x : ℕ) (parts : List (List ℕ)) → is_name_byte x ≡ true → ArePrintable parts → ArePrintable (onto_first x parts)
onto_printable x [] is all = (rw is refl, tt)
onto_printable x (part ∷ parts) is all = (rw is all.0, all.1)

name_byte : (x : ℕ) → (x == 32) ≡ false → is_line_byte x ≡ true → is_name_byte x ≡ true
name_byte x space clean = grind (arith, nat_tests)

part_if : (b : Bool) (x : ℕ) (xs : List ℕ) → (x == 32) ≡ b → is_line_byte x ≡ true → ArePrintable (slice_split (λ c. c == 32) xs) → ArePrintable (if b then [] ∷ slice_split (λ c. c == 32) xs else onto_first x (slice_split (λ c. c == 32) xs))
part_if true x xs space clean all = (refl, all)
part_if false x xs space clean all = onto_printable x (slice_split (λ c. c == 32) xs) (name_byte x space clean) all

parts_printable : (line : List ℕ) → list_all is_line_byte line ≡ true → ArePrintable (slice_split (λ c. c == 32) line)
parts_printable [] clean = (refl, tt)
parts_printable (x ∷ xs) clean =
    let (one, more) = both_true (is_line_byte x) (list_all is_line_byte xs) clean in
    part_if (x == 32) x xs refl one (parts_printable xs more)

kept_names : (b : Bool) (part : List ℕ) (rest : List (List ℕ)) → not (length part == 0) ≡ b → list_all is_name_byte part ≡ true → AreWords rest → AreWords (if b then part ∷ rest else rest)
kept_names true part rest some is all = (grind (arith, nat_tests), is, all)
kept_names false part rest some is all = all

names_of : (parts : List (List ℕ)) → ArePrintable parts → AreWords (filter (λ word. not (length word == 0)) parts)
names_of [] all = tt
names_of (part ∷ more) all = kept_names (not (length part == 0)) part (filter (λ word. not (length word == 0)) more) refl all.0 (names_of more all.1)

pub words_are_names : (line : List ℕ) → list_all is_line_byte line ≡ true → AreWords (words_of line)
unfolding words_of
words_are_names line clean = names_of (slice_split (λ c. c == 32) line) (parts_printable line clean)
