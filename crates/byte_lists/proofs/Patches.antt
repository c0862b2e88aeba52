-- Patching a list of bytes, byte by byte.
use Rattle.std.proofs.Common.{◌≡◌, ℕ, zero, suc, ◌+◌, ◌-◌, ◌<◌, ◌≤◌, inl, inr, List, [], ◌∷◌, ◌++◌, slice_get, length, take, drop, Some, refl, sym, ◌∙◌, ap, arith, length-take, take-append-drop}
use Rattle.std.proofs.lemmas.Bool.{cases_lt}
use Rattle.byte_lists.specs.Patching.{patch}
use Rattle.byte_lists.proofs.Patched.{length-patch}

-- an element of the front
pub get-front : (xs ys : List ℕ) (i : ℕ) → i < length xs → slice_get (xs ++ ys) i ≡ slice_get xs i
get-front [] ys i lt = absurd (omega arith)
get-front (x ∷ xs) ys zero lt = refl
get-front (x ∷ xs) ys (suc i) lt = get-front xs ys i (omega arith)

-- an element behind it
pub get-behind : (xs ys : List ℕ) (i : ℕ) → length xs ≤ i → slice_get (xs ++ ys) i ≡ slice_get ys (i - length xs)
get-behind [] ys i le = let e : i - 0 ≡ i = omega arith in rw e
get-behind (x ∷ xs) ys zero le = absurd (omega arith)
get-behind (x ∷ xs) ys (suc i) le = let e : suc i - suc (length xs) ≡ i - length xs = omega arith in rw e (get-behind xs ys i (omega arith))

pub get-take : (n : ℕ) (xs : List ℕ) (i : ℕ) → i < n → slice_get (take n xs) i ≡ slice_get xs i
get-take zero xs i lt = absurd (omega arith)
get-take (suc n) [] i lt = refl
get-take (suc n) (x ∷ xs) zero lt = refl
get-take (suc n) (x ∷ xs) (suc i) lt = get-take n xs i (omega arith)

pub get-drop : (n : ℕ) (xs : List ℕ) (i : ℕ) → slice_get (drop n xs) i ≡ slice_get xs (n + i)
get-drop zero xs i = let e : 0 + i ≡ i = omega arith in rw e
get-drop (suc n) [] i = refl
get-drop (suc n) (x ∷ xs) i = let e : suc n + i ≡ suc (n + i) = omega arith in rw e (get-drop n xs i)

-- a byte of the piece
pub patch-in : (b : List ℕ) (at : ℕ) (p : List ℕ) (i : ℕ) → at + length p ≤ length b → at ≤ i → i < at + length p → slice_get (patch b at p) i ≡ slice_get p (i - at)
patch-in b at p i fits from until =
    let front : length (take at b) ≡ at = omega (arith, length-take at b) in
    get-behind (take at b) (p ++ drop (at + length p) b) i (omega arith)
    ∙ (rw front (get-front p (drop (at + length p) b) (i - at) (omega arith)))

-- a byte before the piece
pub patch-before : (b : List ℕ) (at : ℕ) (p : List ℕ) (i : ℕ) → at + length p ≤ length b → i < at → slice_get (patch b at p) i ≡ slice_get b i
patch-before b at p i fits below =
    let front : length (take at b) ≡ at = omega (arith, length-take at b) in
    get-front (take at b) (p ++ drop (at + length p) b) i (omega arith) ∙ get-take at b i below

-- a byte behind it
pub patch-behind : (b : List ℕ) (at : ℕ) (p : List ℕ) (i : ℕ) → at + length p ≤ length b → at + length p ≤ i → slice_get (patch b at p) i ≡ slice_get b i
patch-behind b at p i fits above =
    let front : length (take at b) ≡ at = omega (arith, length-take at b) in
    let place : (at + length p) + (i - at - length p) ≡ i = omega arith in
    get-behind (take at b) (p ++ drop (at + length p) b) i (omega arith)
    ∙ (rw front (get-behind p (drop (at + length p) b) (i - at) (omega arith)
    ∙ (get-drop (at + length p) b (i - at - length p) ∙ ap (slice_get b) place)))

-- patching with nothing
pub patch-nothing : (b : List ℕ) (at : ℕ) → patch b at [] ≡ b
patch-nothing b at = let e : at + 0 ≡ at = omega arith in rw e (take-append-drop at b)

-- lists of one length with the same elements are the same
pub same-bytes : (xs ys : List ℕ) → length xs ≡ length ys → ((i : ℕ) → i < length xs → slice_get xs i ≡ slice_get ys i) → xs ≡ ys
same-bytes [] [] len each = refl
same-bytes [] (y ∷ ys) len each = absurd (omega arith)
same-bytes (x ∷ xs) [] len each = absurd (omega arith)
same-bytes (x ∷ xs) (y ∷ ys) len each =
    let heads : Some x ≡ Some y = each 0 (omega arith) in
    let tails : xs ≡ ys = same-bytes xs ys (omega arith) (λ i lt. each (suc i) (omega arith)) in
    cc

-- a byte of a patched block that is put back
block-byte : (b : List ℕ) (at : ℕ) (block : List ℕ) (skip : ℕ) (p : List ℕ) (i : ℕ) → at + length block ≤ length b → skip + length p ≤ length block
    → ((j : ℕ) → j < length block → slice_get block j ≡ slice_get b (at + j)) → at ≤ i → i < at + length block
    → slice_get (patch block skip p) (i - at) ≡ slice_get (patch b (at + skip) p) i
block-byte b at block skip p i fits inside same from until =
    let place : at + (i - at) ≡ i = omega arith in
    elim (cases_lt i (at + skip)) [
      | inl below ↦
          patch-before block skip p (i - at) inside (omega arith)
          ∙ (same (i - at) (omega arith) ∙ (ap (slice_get b) place ∙ sym (patch-before b (at + skip) p i (omega arith) below)))
      | inr above ↦
          elim (cases_lt i (at + skip + length p)) [
            | inl in_piece ↦
                let offset : i - at - skip ≡ i - (at + skip) = omega arith in
                patch-in block skip p (i - at) inside (omega arith) (omega arith)
                ∙ (ap (slice_get p) offset ∙ sym (patch-in b (at + skip) p i (omega arith) above in_piece))
            | inr behind ↦
                patch-behind block skip p (i - at) inside (omega arith)
                ∙ (same (i - at) (omega arith) ∙ (ap (slice_get b) place ∙ sym (patch-behind b (at + skip) p i (omega arith) behind)))
          ]
    ]

-- a block of a medium that is patched and put back is the medium patched
pub patch-block : (b : List ℕ) (at : ℕ) (block : List ℕ) (skip : ℕ) (p : List ℕ) → at + length block ≤ length b → skip + length p ≤ length block
    → ((j : ℕ) → j < length block → slice_get block j ≡ slice_get b (at + j))
    → patch b at (patch block skip p) ≡ patch b (at + skip) p
patch-block b at block skip p fits inside same =
    let patched : length (patch block skip p) ≡ length block = length-patch block skip p inside in
    same-bytes (patch b at (patch block skip p)) (patch b (at + skip) p)
    (length-patch b at (patch block skip p) (omega arith) ∙ sym (length-patch b (at + skip) p (omega arith)))
    (λ i lt. each i patched)
  where
    each : (i : ℕ) → length (patch block skip p) ≡ length block → slice_get (patch b at (patch block skip p)) i ≡ slice_get (patch b (at + skip) p) i
    each i patched =
        elim (cases_lt i at) [
          | inl below ↦
              patch-before b at (patch block skip p) i (omega arith) below ∙ sym (patch-before b (at + skip) p i (omega arith) (omega arith))
          | inr above ↦
              elim (cases_lt i (at + length block)) [
                | inl within ↦
                    patch-in b at (patch block skip p) i (omega arith) above (omega arith)
                    ∙ block-byte b at block skip p i fits inside same above within
                | inr behind ↦
                    patch-behind b at (patch block skip p) i (omega arith) (omega arith)
                    ∙ sym (patch-behind b (at + skip) p i (omega arith) (omega arith))
              ]
        ]

-- the bytes of a part of a list
pub part-byte : (b : List ℕ) (at n j : ℕ) → j < n → slice_get (take n (drop at b)) j ≡ slice_get b (at + j)
part-byte b at n j lt = get-take n (drop at b) j lt ∙ get-drop at b j
