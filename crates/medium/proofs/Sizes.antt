-- Block sizes, and whole blocks.
use Rattle.std.proofs.Common.{◌≡◌, ℕ, zero, suc, ◌*◌, ◌/◌, ◌%◌, ◌<◌, ap, ◌∙◌, arith}
use Rattle.std.proofs.Math.Nat.{mul-div_cancel}
use Rattle.medium.specs.Device.{IsBlockSize}

pub size-some : (size : ℕ) → IsBlockSize size → 0 < size
size-some zero is = absurd (cc)
size-some (suc n) is = omega arith

-- whole blocks divided by their size are their number
pub count-is : (bytes count size : ℕ) → IsBlockSize size → bytes ≡ count * size → bytes / size ≡ count
count-is bytes count size one whole = let some = size-some size one in ap (λ (x : ℕ). x / size) whole ∙ mul-div_cancel count some

-- bytes that are whole blocks
pub whole-is : (bytes size : ℕ) → IsBlockSize size → bytes % size ≡ 0 → bytes ≡ bytes / size * size
whole-is bytes size one whole = let some = size-some size one in omega arith
