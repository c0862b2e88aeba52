-- Blocks of bytes, and blocks that stand in place of others.
use Rattle.std.proofs.Common.{◌≡◌, ◌≢◌, ℕ, zero, suc, ◌+◌, ◌-◌, ◌*◌, ◌<◌, ◌≤◌, List, [], ◌∷◌, ◌++◌, length, take, drop, unwrap_or, Option, None, Some, IsSome, refl, sym, ◌∙◌, ap, subst, arith, ⊎_elim, append_assoc}
use Rattle.std.proofs.lemmas.Bool.{cases_eq, cases_lt}
use Rattle.std.proofs.lemmas.List.{length-append, length-take, length-drop, length-take-le, take-append-drop, take_all, take-take, take_at, take-append-le, drop-drop, drop_at, drop-append-le, drop-take}
use Rattle.std.proofs.Math.Nat.{mul-le-mul_left}
use Rattle.byte_lists.proofs.Patched.{length-patch}
use Rattle.byte_lists.specs.Patching.{patch}
use Rattle.medium.specs.Blocks.{block_in, first_blocks, block_over, overlay, AreHeldFrom}

-- a block lies among the blocks
pub block-fits : (size b n : ℕ) → b < n → b * size + size ≤ n * size
block-fits size b n less = let above : b + 1 ≤ n = omega arith in omega (arith, mul-le-mul_left size above)

-- each of the first n blocks has this size
abbrev pub AreLong : (ℕ → List ℕ) → ℕ → ℕ → Type 0
AreLong block size n = (b : ℕ) → b < n → length (block b) ≡ size

pub length-joined : (block : ℕ → List ℕ) (size n : ℕ) → AreLong block size n → length (first_blocks block n) ≡ n * size
unfolding first_blocks
length-joined block size zero long = omega arith
length-joined block size (suc n) long = omega (arith, length-append (first_blocks block n) (block n), length-joined block size n (λ b less. long b (omega arith)), long n (omega arith))

-- the first bytes of what lies in front
take-drop-front : (n k : ℕ) (xs ys : List ℕ) → k + n ≤ length xs → take n (drop k (xs ++ ys)) ≡ take n (drop k xs)
take-drop-front n k xs ys fits =
    let inside : k ≤ length xs = omega arith in
    let enough : n ≤ length (drop k xs) = omega (arith, length-drop k xs) in
    ap (take n) (drop-append-le k xs ys inside) ∙ take-append-le n (drop k xs) ys enough

take-drop-take : (n k m : ℕ) (xs : List ℕ) → k + n ≤ m → take n (drop k (take m xs)) ≡ take n (drop k xs)
take-drop-take n k m xs fits =
    let split : m ≡ k + (m - k) = omega arith in
    subst (λ (x : ℕ). take n (drop k (take x xs)) ≡ take n (drop k xs)) (sym split) (ap (take n) (drop-take k (m - k) xs) ∙ take-take n (m - k) (drop k xs) (omega arith))

-- a block of the joined blocks is that block
pub block_of-joined : (block : ℕ → List ℕ) (size n b : ℕ) → AreLong block size n → b < n → block_in size (first_blocks block n) b ≡ block b
unfolding first_blocks
block_of-joined block size zero b long less = absurd (omega arith)
block_of-joined block size (suc n) b long less = ⊎_elim (λ same. last same) (λ apart. earlier (omega arith) (block_of-joined block size n b (λ q inside. long q (omega arith)) (omega arith))) (cases_eq b n) where
  front : length (first_blocks block n) ≡ n * size
  front = length-joined block size n (λ q below. long q (omega arith))

  earlier : b < n → block_in size (first_blocks block n) b ≡ block b → block_in size (first_blocks block n ++ block n) b ≡ block b
  earlier below is = take-drop-front size (b * size) (first_blocks block n) (block n) (omega (arith, front, block-fits size b n below)) ∙ is

  last : b ≡ n → block_in size (first_blocks block n ++ block n) b ≡ block b
  last same = subst (λ (x : ℕ). block_in size (first_blocks block n ++ block n) x ≡ block x) (sym same) (ap (take size) (drop_at (first_blocks block n) (block n) (n * size) front) ∙ take_all size (block n) (omega (arith, long n (omega arith))))

-- bytes are their blocks
pub joined-block_of : (block : ℕ → List ℕ) (size n : ℕ) (bytes : List ℕ) → length bytes ≡ n * size → ((b : ℕ) → b < n → block_in size bytes b ≡ block b) → bytes ≡ first_blocks block n
unfolding first_blocks
joined-block_of block size zero [] long same = refl
joined-block_of block size zero (x ∷ bytes) long same = absurd (omega arith)
joined-block_of block size (suc n) bytes long same =
    let front = joined-block_of block size n (take (n * size) bytes) (omega (arith, length-take (n * size) bytes)) (λ b less. take-drop-take size (b * size) (n * size) bytes (block-fits size b n less) ∙ same b (omega arith)) in
    let last : drop (n * size) bytes ≡ block n = sym (take_all size (drop (n * size) bytes) (omega (arith, length-drop (n * size) bytes))) ∙ same n (omega arith) in
    sym (take-append-drop (n * size) bytes) ∙ ap (λ (xs : List ℕ). xs ++ drop (n * size) bytes) front ∙ ap (λ (ys : List ℕ). first_blocks block n ++ ys) last

-- joined blocks depend on the blocks alone
pub joined-same : (block other : ℕ → List ℕ) (n : ℕ) → ((b : ℕ) → b < n → block b ≡ other b) → first_blocks block n ≡ first_blocks other n
unfolding first_blocks
joined-same block other zero same = refl
joined-same block other (suc n) same = ap (λ (xs : List ℕ). xs ++ block n) (joined-same block other n (λ b less. same b (omega arith))) ∙ ap (λ (ys : List ℕ). first_blocks other n ++ ys) (same n (omega arith))

pub length-block_of : (size n b : ℕ) (bytes : List ℕ) → length bytes ≡ n * size → b < n → length (block_in size bytes b) ≡ size
length-block_of size n b bytes long less = length-take-le size (drop (b * size) bytes) (omega (arith, length-drop (b * size) bytes, block-fits size b n less))

-- a block before a patch, behind it, and one that is patched
pub block_of-before : (size b at : ℕ) (bytes piece : List ℕ) → b * size + size ≤ at → at ≤ length bytes → block_in size (patch bytes at piece) b ≡ block_in size bytes b
block_of-before size b at bytes piece before inside =
    let long : length (take at bytes) ≡ at = length-take-le at bytes inside in
    take-drop-front size (b * size) (take at bytes) (piece ++ drop (at + length piece) bytes) (omega arith) ∙ take-drop-take size (b * size) at bytes before

pub block_of-behind : (size b at : ℕ) (bytes piece : List ℕ) → at + length piece ≤ b * size → at ≤ length bytes → block_in size (patch bytes at piece) b ≡ block_in size bytes b
block_of-behind size b at bytes piece behind inside = ap (take size) (subst (λ (x : ℕ). drop x (patch bytes at piece) ≡ drop x bytes) (sym split) rest) where
  front : List ℕ
  front = take at bytes ++ piece

  long : length front ≡ at + length piece
  long = omega (arith, length-append (take at bytes) piece, length-take-le at bytes inside)

  split : b * size ≡ (at + length piece) + (b * size - (at + length piece))
  split = omega arith

  rest : drop ((at + length piece) + (b * size - (at + length piece))) (patch bytes at piece) ≡ drop ((at + length piece) + (b * size - (at + length piece))) bytes
  rest = sym (drop-drop (b * size - (at + length piece)) (at + length piece) (patch bytes at piece)) ∙ ap (drop (b * size - (at + length piece))) (ap (drop (at + length piece)) (sym (append_assoc (take at bytes) piece (drop (at + length piece) bytes))) ∙ drop_at front (drop (at + length piece) bytes) (at + length piece) long) ∙ drop-drop (b * size - (at + length piece)) (at + length piece) bytes

pub block_of-patched : (size b : ℕ) (bytes piece : List ℕ) → length piece ≡ size → b * size ≤ length bytes → block_in size (patch bytes (b * size) piece) b ≡ piece
block_of-patched size b bytes piece long inside =
    ap (take size) (drop_at (take (b * size) bytes) (piece ++ drop (b * size + length piece) bytes) (b * size) (length-take-le (b * size) bytes inside)) ∙ take_at piece (drop (b * size + length piece) bytes) size long

-- the first bytes of a longer front
take-add : (n m : ℕ) (xs : List ℕ) → take (n + m) xs ≡ take n xs ++ take m (drop n xs)
take-add n m xs = sym (take-append-drop n (take (n + m) xs)) ∙ ap (λ (ys : List ℕ). ys ++ drop n (take (n + m) xs)) (take-take n (n + m) xs (omega arith)) ∙ ap (λ (ys : List ℕ). take n xs ++ ys) (drop-take n m xs)

-- one more piece of the whole was copied
pub take-patch-more : (out whole piece : List ℕ) (at size : ℕ) → at + size ≤ length out → length piece ≡ size → take at out ≡ take at whole → piece ≡ take size (drop at whole) → take (at + size) (patch out at piece) ≡ take (at + size) whole
take-patch-more out whole piece at size fits long same is = grown ∙ ap (λ (xs : List ℕ). xs ++ piece) same ∙ ap (λ (xs : List ℕ). take at whole ++ xs) is ∙ sym (take-add at size whole) where
  front : length (take at out ++ piece) ≡ at + size
  front = omega (arith, length-append (take at out) piece, length-take-le at out (omega arith))

  grown : take (at + size) (patch out at piece) ≡ take at out ++ piece
  grown = ap (take (at + size)) (sym (append_assoc (take at out) piece (drop (at + length piece) out))) ∙ take_at (take at out ++ piece) (drop (at + length piece) out) (at + size) front

-- a block inside a patch
pub block_of-inside : (size at b : ℕ) (bytes piece : List ℕ) → at * size ≤ length bytes → at ≤ b → (b - at) * size + size ≤ length piece → block_in size (patch bytes (at * size) piece) b ≡ block_in size piece (b - at)
block_of-inside size at b bytes piece inside from fits = subst (λ (x : ℕ). take size (drop x (patch bytes (at * size) piece)) ≡ block_in size piece (b - at)) (sym split) there where
  split : b * size ≡ at * size + (b - at) * size
  split = let parts : b ≡ at + (b - at) = omega arith in ap (λ (x : ℕ). x * size) parts ∙ omega arith

  there : take size (drop (at * size + (b - at) * size) (patch bytes (at * size) piece)) ≡ block_in size piece (b - at)
  there = ap (take size) (sym (drop-drop ((b - at) * size) (at * size) (patch bytes (at * size) piece)) ∙ ap (drop ((b - at) * size)) (drop_at (take (at * size) bytes) (piece ++ drop (at * size + length piece) bytes) (at * size) (length-take-le (at * size) bytes inside))) ∙ take-drop-front size ((b - at) * size) piece (drop (at * size + length piece) bytes) fits

-- held blocks have this size
abbrev pub AreHeldLong : (ℕ → Option (List ℕ)) → ℕ → Type 0
AreHeldLong held size = (b : ℕ) (block : List ℕ) → held b ≡ Some block → length block ≡ size

pub over-long : (held : ℕ → Option (List ℕ)) (size n : ℕ) (bytes : List ℕ) → AreHeldLong held size → length bytes ≡ n * size → AreLong (block_over held size bytes) size n
over-long held size n bytes sized long b less = by_case (held b) refl where
  by_case : (o : Option (List ℕ)) → held b ≡ o → length (unwrap_or o (block_in size bytes b)) ≡ size
  by_case None is = length-block_of size n b bytes long less
  by_case (Some block) is = sized b block is

pub length-overlay : (held : ℕ → Option (List ℕ)) (size n : ℕ) (bytes : List ℕ) → AreHeldLong held size → length bytes ≡ n * size → length (overlay held size n bytes) ≡ n * size
length-overlay held size n bytes sized long = length-joined (block_over held size bytes) size n (over-long held size n bytes sized long)

-- nothing stands in place of anything
pub overlay-none : (held : ℕ → Option (List ℕ)) (size n : ℕ) (bytes : List ℕ) → ((b : ℕ) → held b ≡ None) → length bytes ≡ n * size → overlay held size n bytes ≡ bytes
overlay-none held size n bytes none long = sym (joined-block_of (block_over held size bytes) size n bytes long (λ b less. rw (none b) refl))

-- blocks that are held from now on patch the bytes
pub overlay-held : (held other : ℕ → Option (List ℕ)) (size n : ℕ) (bytes : List ℕ) (block count : ℕ) (piece : List ℕ) → AreHeldFrom held other block count size piece → AreHeldLong held size → length bytes ≡ n * size → length piece ≡ count * size → block + count ≤ n → overlay other size n bytes ≡ patch (overlay held size n bytes) (block * size) piece
overlay-held held other size n bytes block count piece from sized long whole fits = sym (joined-block_of (block_over other size bytes) size n (patch whole_bytes (block * size) piece) patched each) where
  whole_bytes : List ℕ
  whole_bytes = overlay held size n bytes

  size_of_whole : length (overlay held size n bytes) ≡ n * size
  size_of_whole = length-overlay held size n bytes sized long

  inside : block * size + count * size ≤ n * size
  inside = omega (arith, mul-le-mul_left size fits)

  patched : length (patch (overlay held size n bytes) (block * size) piece) ≡ n * size
  patched = length-patch (overlay held size n bytes) (block * size) piece (omega (arith, whole, inside, size_of_whole)) ∙ size_of_whole

  kept : (b : ℕ) → b < n → other b ≡ held b → block_in size (overlay held size n bytes) b ≡ block_over other size bytes b
  kept b less same = block_of-joined (block_over held size bytes) size n b (over-long held size n bytes sized long) less ∙ ap (λ (o : Option (List ℕ)). unwrap_or o (block_in size bytes b)) (sym same)

  before : (b : ℕ) → b < n → b < block → block_in size (patch (overlay held size n bytes) (block * size) piece) b ≡ block_over other size bytes b
  before b less below = block_of-before size b (block * size) (overlay held size n bytes) piece (block-fits size b block below) (omega (arith, inside, size_of_whole)) ∙ kept b less (from.before b below)

  behind : (b : ℕ) → b < n → block + count ≤ b → block_in size (patch (overlay held size n bytes) (block * size) piece) b ≡ block_over other size bytes b
  behind b less above = block_of-behind size b (block * size) (overlay held size n bytes) piece (omega (arith, whole, mul-le-mul_left size above)) (omega (arith, inside, size_of_whole)) ∙ kept b less (from.behind b above)

  within : (b : ℕ) → block ≤ b → b < block + count → block_in size (patch (overlay held size n bytes) (block * size) piece) b ≡ block_over other size bytes b
  within b low high = let part : b - block < count = omega arith in block_of-inside size block b (overlay held size n bytes) piece (omega (arith, inside, size_of_whole)) low (omega (arith, whole, block-fits size (b - block) count part)) ∙ ap (λ (o : Option (List ℕ)). unwrap_or o (block_in size bytes b)) (sym (from.within b low high))

  each : (b : ℕ) → b < n → block_in size (patch (overlay held size n bytes) (block * size) piece) b ≡ block_over other size bytes b
  each b less = ⊎_elim (λ below. before b less below) (λ low. ⊎_elim (λ high. within b low high) (λ above. behind b less above) (cases_lt b (block + count))) (cases_lt b block)

-- a block of an overlay
pub overlay-block : (held : ℕ → Option (List ℕ)) (size n : ℕ) (bytes : List ℕ) (b : ℕ) → AreHeldLong held size → length bytes ≡ n * size → b < n → block_in size (overlay held size n bytes) b ≡ block_over held size bytes b
overlay-block held size n bytes b sized long less = block_of-joined (block_over held size bytes) size n b (over-long held size n bytes sized long) less

-- one more block was copied out of the bytes from a block on
pub copied-more : (out bytes piece : List ℕ) (size block i : ℕ) → i * size + size ≤ length out → length piece ≡ size → piece ≡ block_in size bytes (block + i) → take (i * size) out ≡ take (i * size) (drop (block * size) bytes) → take ((i + 1) * size) (patch out (i * size) piece) ≡ take ((i + 1) * size) (drop (block * size) bytes)
copied-more out bytes piece size block i fits long is same = subst (λ (x : ℕ). take x (patch out (i * size) piece) ≡ take x (drop (block * size) bytes)) (sym next) (take-patch-more out (drop (block * size) bytes) piece (i * size) size fits long same (is ∙ ap (take size) (sym (drop-drop (i * size) (block * size) bytes ∙ ap (λ (x : ℕ). drop x bytes) (sym place))))) where
  next : (i + 1) * size ≡ i * size + size
  next = omega arith

  place : (block + i) * size ≡ block * size + i * size
  place = omega arith

-- a block that stood in place of another was put there
pub overlay-let_go : (held other : ℕ → Option (List ℕ)) (size n : ℕ) (bytes : List ℕ) (b : ℕ) (block : List ℕ) → held b ≡ Some block → other b ≡ None → ((q : ℕ) → q ≢ b → other q ≡ held q) → length block ≡ size → length bytes ≡ n * size → b < n → overlay other size n (patch bytes (b * size) block) ≡ overlay held size n bytes
overlay-let_go held other size n bytes b block was none others sized long inside = joined-same (block_over other size (patch bytes (b * size) block)) (block_over held size bytes) n (λ q less. ⊎_elim (λ same. here q same) (λ apart. elsewhere q less apart) (cases_eq q b)) where
  fits : b * size + size ≤ length bytes
  fits = omega (arith, long, block-fits size b n inside)

  here : (q : ℕ) → q ≡ b → block_over other size (patch bytes (b * size) block) q ≡ block_over held size bytes q
  here q same = rw (same, none, was) (block_of-patched size b bytes block sized (omega (arith, fits)))

  apart_blocks : (q : ℕ) → q ≢ b → block_in size (patch bytes (b * size) block) q ≡ block_in size bytes q
  apart_blocks q apart = ⊎_elim (λ below. block_of-before size q (b * size) bytes block (block-fits size q b below) (omega (arith, fits))) (λ above. let behind : b < q = omega arith in block_of-behind size q (b * size) bytes block (omega (arith, sized, block-fits size b q behind)) (omega (arith, fits))) (cases_lt q b)

  elsewhere : (q : ℕ) → q < n → q ≢ b → block_over other size (patch bytes (b * size) block) q ≡ block_over held size bytes q
  elsewhere q less apart = rw (others q apart) (ap (unwrap_or (held q)) (apart_blocks q apart))

-- a block of a part of the bytes
pub block_of-part : (size block count i : ℕ) (bytes : List ℕ) → i < count → block_in size (take (count * size) (drop (block * size) bytes)) i ≡ block_in size bytes (block + i)
block_of-part size block count i bytes less = take-drop-take size (i * size) (count * size) (drop (block * size) bytes) (block-fits size i count less) ∙ ap (take size) (drop-drop (i * size) (block * size) bytes ∙ ap (λ (x : ℕ). drop x bytes) place) where
  place : block * size + i * size ≡ (block + i) * size
  place = omega arith

-- blocks that are held as they are change nothing
pub overlay-saved : (held other : ℕ → Option (List ℕ)) (size n : ℕ) (bytes : List ℕ) (block count : ℕ) (piece : List ℕ) → AreHeldFrom held other block count size piece → ((b : ℕ) → block ≤ b → b < block + count → held b ≡ None) → piece ≡ take (count * size) (drop (block * size) bytes) → overlay other size n bytes ≡ overlay held size n bytes
overlay-saved held other size n bytes block count piece from none is = joined-same (block_over other size bytes) (block_over held size bytes) n (λ b less. ⊎_elim (λ below. same b (from.before b below)) (λ low. ⊎_elim (λ high. within b low high) (λ above. same b (from.behind b above)) (cases_lt b (block + count))) (cases_lt b block)) where
  same : (b : ℕ) → other b ≡ held b → block_over other size bytes b ≡ block_over held size bytes b
  same b is' = ap (λ (o : Option (List ℕ)). unwrap_or o (block_in size bytes b)) is'

  within : (b : ℕ) → block ≤ b → b < block + count → block_over other size bytes b ≡ block_over held size bytes b
  within b low high =
      let part : b - block < count = omega arith in
      let place : block + (b - block) ≡ b = omega arith in
      let piece_is : block_in size piece (b - block) ≡ block_in size bytes b = ap (λ (xs : List ℕ). block_in size xs (b - block)) is ∙ block_of-part size block count (b - block) bytes part ∙ ap (block_in size bytes) place in
      ap (λ (o : Option (List ℕ)). unwrap_or o (block_in size bytes b)) (from.within b low high) ∙ piece_is ∙ ap (λ (o : Option (List ℕ)). unwrap_or o (block_in size bytes b)) (sym (none b low high))

-- a patch in blocks that are all held changes nothing
pub overlay-covered : (held : ℕ → Option (List ℕ)) (size n : ℕ) (bytes : List ℕ) (block count : ℕ) (piece : List ℕ) → ((b : ℕ) → block ≤ b → b < block + count → IsSome (held b)) → length piece ≤ count * size → block * size ≤ length bytes → overlay held size n (patch bytes (block * size) piece) ≡ overlay held size n bytes
overlay-covered held size n bytes block count piece covered fits inside = joined-same (block_over held size (patch bytes (block * size) piece)) (block_over held size bytes) n (λ b less. ⊎_elim (λ below. before b below) (λ low. ⊎_elim (λ high. within b (held b) (covered b low high)) (λ above. behind b above) (cases_lt b (block + count))) (cases_lt b block)) where
  before : (b : ℕ) → b < block → block_over held size (patch bytes (block * size) piece) b ≡ block_over held size bytes b
  before b below = ap (unwrap_or (held b)) (block_of-before size b (block * size) bytes piece (block-fits size b block below) inside)

  behind : (b : ℕ) → block + count ≤ b → block_over held size (patch bytes (block * size) piece) b ≡ block_over held size bytes b
  behind b above = ap (unwrap_or (held b)) (block_of-behind size b (block * size) bytes piece (omega (arith, fits, mul-le-mul_left size above)) inside)

  within : (b : ℕ) (o : Option (List ℕ)) → IsSome o → unwrap_or o (block_in size (patch bytes (block * size) piece) b) ≡ unwrap_or o (block_in size bytes b)
  within b None some = cc
  within b (Some v) some = refl
