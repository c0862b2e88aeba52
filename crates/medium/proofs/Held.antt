-- The blocks that a block map holds.
use Rattle.std.proofs.Common.{◌≡◌, ℕ, ◌+◌, ◌*◌, ◌/◌, ◌<◌, ◌≤◌, List, length, Option, IsSome, ◌∙◌, subst, ⊎_elim, arith}
use Rattle.std.proofs.lemmas.Bool.{cases_lt}
use Rattle.byte_lists.specs.Patching.{patch}
use Rattle.medium.proofs.Listed.{filled_block-long}
use Rattle.medium.proofs.Overlays.{AreHeldLong, overlay-held}
use Rattle.medium.proofs.Sizes.{count-is}
use Rattle.medium.specs.BlockMap.{held_block}
use Rattle.medium.specs.Blocks.{overlay, AreHeldFrom}
use Rattle.medium.specs.Device.{IsBlockSize}
use Rattle.medium.specs.declared.block_map.BlockMap.{BlockMap}

-- they have its size
pub held-long : (m : BlockMap) (size : ℕ) → m.size ≡ size → AreHeldLong (held_block m) size
held-long m size same b block is = filled_block-long m.places size (λ q place there. m.sized q place there ∙ same) b block is

-- blocks that it was given patch the bytes
pub overlay-given : (old new : BlockMap) (size n : ℕ) (bytes : List ℕ) (block count : ℕ) (piece : List ℕ) → IsBlockSize size → AreHeldFrom (held_block old) (held_block new) block (length piece / size) old.size piece → old.size ≡ size → length bytes ≡ n * size → length piece ≡ count * size → block + count ≤ n → overlay (held_block new) size n bytes ≡ patch (overlay (held_block old) size n bytes) (block * size) piece
overlay-given old new size n bytes block count piece one held same long whole fits =
    let P : ℕ → ℕ → Type 0 = λ k s. AreHeldFrom (held_block old) (held_block new) block k s piece in
    let held_so = subst (λ (s : ℕ). P count s) same (subst (λ (k : ℕ). P k old.size) (count-is (length piece) count size one whole) held) in
    overlay-held (held_block old) (held_block new) size n bytes block count piece held_so (held-long old size same) long whole fits

-- they stay within a limit
pub within-given : (held other : ℕ → Option (List ℕ)) (block count size n : ℕ) (piece : List ℕ) → AreHeldFrom held other block count size piece → block + count ≤ n → ((b : ℕ) → IsSome (held b) → b < n) → (b : ℕ) → IsSome (other b) → b < n
within-given held other block count size n piece from fits inside b some = ⊎_elim (λ below. omega arith) (λ low. ⊎_elim (λ high. omega arith) (λ above. inside b (subst (λ (o : Option (List ℕ)). IsSome o) (from.behind b above) some)) (cases_lt b (block + count))) (cases_lt b block)
