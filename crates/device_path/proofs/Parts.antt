-- Bytes cut into the fields of a node.
use Rattle.std.proofs.Common.{◌≡◌, ℕ, ◌+◌, ◌<◌, ◌≤◌, true, List, [], ◌∷◌, ◌++◌, length, get_or, take, drop, refl, sym, ap, ◌∙◌, arith, append_assoc, length-drop, drop-cons}
use Rattle.std.specs.Prelude.{◌==◌, replicate}
use Rattle.std.specs.List.{concat, list_all}
use Rattle.std.proofs.lemmas.List.{take-append-drop, drop-drop, drop-take, take-take, length-take-le}
use Rattle.std.proofs.lemmas.Grind.{common_steps}
use Rattle.std.proofs.lemmas.Bool.Decides.{nat_tests}

-- the parts of so many bytes each, from this place on
abbrev pub parts : ℕ → List ℕ → List ℕ → List (List ℕ)
parts at [] bytes = []
parts at (count ∷ counts) bytes = take count (drop at bytes) ∷ parts (at + count) counts bytes

-- how many bytes they have together, from this place on
abbrev pub end_of : ℕ → List ℕ → ℕ
end_of at [] = at
end_of at (count ∷ counts) = end_of (at + count) counts

-- the parts are the bytes, up to their end
pub concat-parts : (at : ℕ) (counts bytes : List ℕ) → drop at bytes ≡ concat (parts at counts bytes) ++ drop (end_of at counts) bytes
concat-parts at [] bytes = refl
concat-parts at (count ∷ counts) bytes =
    let part = take count (drop at bytes) in
    sym (take-append-drop count (drop at bytes)) ∙ ap (λ rest. part ++ rest) (drop-drop count at bytes ∙ concat-parts (at + count) counts bytes)
    ∙ sym (append_assoc part (concat (parts (at + count) counts bytes)) (drop (end_of (at + count) counts) bytes))

-- a part of bytes has bytes
pub get_or-part : (at count : ℕ) (bytes : List ℕ) → ((i : ℕ) → get_or bytes i 0 < 256) → (i : ℕ) → get_or (take count (drop at bytes)) i 0 < 256
get_or-part at count bytes small i = grind (arith, common_steps)

-- a part of one byte
pub part-one : (at : ℕ) (bytes : List ℕ) → at < length bytes → take 1 (drop at bytes) ≡ get_or bytes at 0 ∷ []
part-one at bytes within = rw (drop-cons bytes at 0 within) refl

-- a part in two
pub part-two : (at m n : ℕ) (bytes : List ℕ) → take (m + n) (drop at bytes) ≡ take m (drop at bytes) ++ take n (drop (at + m) bytes)
part-two at m n bytes =
    let part = drop at bytes in
    let front : take m (take (m + n) part) ≡ take m part = take-take m (m + n) part (omega arith) in
    let back : drop m (take (m + n) part) ≡ take n (drop (at + m) bytes) = drop-take m n part ∙ ap (take n) (drop-drop m at bytes) in
    sym (take-append-drop m (take (m + n) part)) ∙ (λ i. front i ++ back i)

pub length-part : (at count : ℕ) (bytes : List ℕ) → at + count ≤ length bytes → length (take count (drop at bytes)) ≡ count
length-part at count bytes within = length-take-le count (drop at bytes) (omega (arith, length-drop at bytes))

-- bytes that are all zero
pub zeros : (bytes : List ℕ) → list_all (λ b. b == 0) bytes ≡ true → bytes ≡ replicate (length bytes) 0
zeros [] h = refl
zeros (b ∷ bytes) h = grind (arith, nat_tests, zeros bytes)
