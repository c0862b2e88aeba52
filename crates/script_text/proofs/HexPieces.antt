-- Bytes in hexadecimal digits, in pieces.
use Rattle.std.proofs.Common.{◌≡◌, ℕ, List, [], ◌∷◌, ◌++◌, slice_index, ◌/◌, ◌%◌, refl, ap, sym, ◌∙◌, append_assoc}
use Rattle.std.proofs.lemmas.List.{append-nil}
use Rattle.hex.specs.Hex.{encode_with, encode_lower, lower_digits}

encode_both : (t xs ys : List ℕ) → encode_with t (xs ++ ys) ≡ encode_with t xs ++ encode_with t ys
unfolding encode_with
encode_both t [] ys = refl
encode_both t (b ∷ xs) ys = ap (λ l. slice_index t (b / 16) ∷ slice_index t (b % 16) ∷ l) (encode_both t xs ys)

-- a text with the next piece, and the rest
pub next_piece : (text piece rest left : List ℕ) → left ≡ piece ++ rest → (text ++ encode_lower piece) ++ encode_lower rest ≡ text ++ encode_lower left
next_piece text piece rest left is =
    append_assoc text (encode_lower piece) (encode_lower rest)
    ∙ ap (λ l. text ++ l) (sym (encode_both lower_digits piece rest) ∙ ap encode_lower (sym is))

-- nothing is left
pub all_pieces : (text left all : List ℕ) → left ≡ [] → text ++ encode_lower left ≡ all → text ≡ all
unfolding encode_with
all_pieces text left all none is = sym (append-nil text) ∙ ap (λ l. text ++ encode_lower l) (sym none) ∙ is
