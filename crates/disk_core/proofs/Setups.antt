-- The setup of a disk over its drive.
use Rattle.std.proofs.Common.{◌≡◌, ℕ, zero, suc, ◌%◌, ◌≤◌, ◌⊎◌, inl, inr, Bool, true, ◌||◌, List, slice_get, Option, None, Some, option_map, nat_eq, refl, ◌∙◌, ap, subst, arith, All}
use Rattle.std.specs.Prelude.{◌==◌}
use Rattle.std.proofs.lemmas.Bool.{or_cases, eqb-true}
use Rattle.std.proofs.lemmas.Option.{slice_get-map, slice_get_within, get_or_from_slice_get}
use Rattle.medium.specs.Device.{Device, is_block_size, IsBlockSize}
use Rattle.drive.specs.Drives.{DriveState, IsPer, FitTheDrive}
use Rattle.history.specs.Setup.{opening_of, opening_blocks, blocks_of, IsSetup}
use Rattle.disk_core.specs.State.{opening_from, setup_of}

-- the sizes of blocks
pub sizes-bounds : (size : ℕ) → is_block_size size ≡ true → (512 ≤ size) × (size ≤ 4096)
sizes-bounds size one = by (or_cases (nat_eq size 512) _ one)
  where
    last : (nat_eq size 2048 ≡ true) ⊎ (nat_eq size 4096 ≡ true) → (512 ≤ size) × (size ≤ 4096)
    last (inl e) = let is : size ≡ 2048 = eqb-true size 2048 e in (omega arith, omega arith)
    last (inr e) = let is : size ≡ 4096 = eqb-true size 4096 e in (omega arith, omega arith)

    third : (nat_eq size 1024 ≡ true) ⊎ ((nat_eq size 2048 || nat_eq size 4096) ≡ true) → (512 ≤ size) × (size ≤ 4096)
    third (inl e) = let is : size ≡ 1024 = eqb-true size 1024 e in (omega arith, omega arith)
    third (inr e) = last (or_cases (nat_eq size 2048) (nat_eq size 4096) e)

    by : (nat_eq size 512 ≡ true) ⊎ ((nat_eq size 1024 || (nat_eq size 2048 || nat_eq size 4096)) ≡ true) → (512 ≤ size) × (size ≤ 4096)
    by (inl e) = let is : size ≡ 512 = eqb-true size 512 e in (omega arith, omega arith)
    by (inr e) = third (or_cases (nat_eq size 1024) (nat_eq size 2048 || nat_eq size 4096) e)

-- a physical block has 1 to 8 blocks
pub per-bounds : (per : ℕ) → IsPer per → (1 ≤ per) × (per ≤ 8)
per-bounds per one = by (or_cases (per == 1) _ one)
  where
    third : (per == 4) ≡ true ⊎ (per == 8) ≡ true → (1 ≤ per) × (per ≤ 8)
    third (inl e) = let is : per ≡ 4 = eqb-true per 4 e in (omega arith, omega arith)
    third (inr e) = let is : per ≡ 8 = eqb-true per 8 e in (omega arith, omega arith)

    second : (per == 2) ≡ true ⊎ ((per == 4) || (per == 8)) ≡ true → (1 ≤ per) × (per ≤ 8)
    second (inl e) = let is : per ≡ 2 = eqb-true per 2 e in (omega arith, omega arith)
    second (inr e) = third (or_cases (per == 4) (per == 8) e)

    by : (per == 1) ≡ true ⊎ ((per == 2) || ((per == 4) || (per == 8))) ≡ true → (1 ≤ per) × (per ≤ 8)
    by (inl e) = let is : per ≡ 1 = eqb-true per 1 e in (omega arith, omega arith)
    by (inr e) = second (or_cases (per == 2) ((per == 4) || (per == 8)) e)

-- what holds of each element holds of the one at a place
pub all-at : {X : Type 0} (P : X → Type 0) (xs : List X) (i : ℕ) (x : X) → All P xs → slice_get xs i ≡ Some x → P x
all-at P xs i x all is = subst P (get_or_from_slice_get xs i x x is) (all i x (slice_get_within xs i x is))

module _ {M : Type 0} (device : M → Device) (drive : DriveState M) (protected : Bool) where
  -- the opening of a medium is that of its device
  pub opening-at : (i : ℕ) (m : M) → slice_get drive.media i ≡ Some m → opening_of (setup_of device drive protected) (suc i) ≡ Some (opening_from (device m))
  unfolding setup_of
  opening-at i m is = slice_get-map (λ n. opening_from (device n)) drive.media i ∙ ap (option_map (λ n. opening_from (device n))) is

  pub setup-is : IsBlockSize drive.size → IsPer drive.per → FitTheDrive device drive → IsSetup (setup_of device drive protected)
  unfolding setup_of
  setup-is sized per fit = record {
    geometry = record {
      size_some = (sizes-bounds drive.size sized).0;
      size_most = (sizes-bounds drive.size sized).1;
      per_some = (per-bounds drive.per per).0;
      per_most = (per-bounds drive.per per).1;
    };
    grouped = whole;
  }
    where
      of : (told : Option M) → ((m : M) → told ≡ Some m → (device m).blocks % drive.per ≡ 0) → opening_blocks (option_map (λ n. opening_from (device n)) told) % drive.per ≡ 0
      of None is = omega arith
      of (Some m) is = is m refl

      whole : (k : ℕ) → blocks_of (setup_of device drive protected) k % drive.per ≡ 0
      whole zero = omega arith
      whole (suc i) = ap (λ o. opening_blocks o % drive.per) (slice_get-map (λ n. opening_from (device n)) drive.media i) ∙ of (slice_get drive.media i) (λ m is. all-at (λ n. (device n).blocks % drive.per ≡ 0) drive.media i m fit.whole is)
