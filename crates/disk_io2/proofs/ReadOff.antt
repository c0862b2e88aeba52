-- What the setup that was read off a drive says of its media.
use Rattle.std.proofs.Common.{◌≡◌, ℕ, zero, suc, ◌-◌, ◌*◌, ◌^◌, ◌<◌, ◌≤◌, true, false, List, [], ◌∷◌, length, slice_get, Option, None, Some, option_map, All, refl, sym, ◌∙◌, ap, subst, arith}
use Rattle.std.proofs.lemmas.Bool.{ne_eqb}
use Rattle.std.proofs.lemmas.Option.{slice_get-map, slice_get_within, get_or_from_slice_get}
use Rattle.medium.specs.Device.{Device, IsTold, IsShaped}
use Rattle.drive.specs.Drives.{DriveState, medium_with, FitTheDrive}
use Rattle.history.specs.declared.entry.Entry.{Entry}
use Rattle.history.specs.Setup.{Setup, size_of, opening_of, opening_blocks, opening_bytes, blocks_of}
use Rattle.history.specs.Eras.{media_id_of, is_present}
use Rattle.history_laws.specs.Ranges.{AreToldWhole}
use Rattle.disk_core.specs.State.{opening_from, setup_of}
use Rattle.disk_io2.specs.Views.{whole_view_in}

-- what holds of each element holds of that of a place
all-at : {X : Type 0} (P : X → Type 0) (xs : List X) (i : ℕ) (x : X) → slice_get xs i ≡ Some x → All P xs → P x
all-at P xs i x is all = subst P (get_or_from_slice_get xs i x x is) (all i x (slice_get_within xs i x is))

module _ {M : Type 0} (device : M → Device) (shaped : (m : M) → IsShaped (device m)) (drive : DriveState M) (fit : FitTheDrive device drive) (S : Setup) (read_off : S ≡ setup_of device drive S.protected) where
  pub size-is : drive.size ≡ size_of S
  unfolding setup_of
  size-is = sym (ap (λ (s : Setup). s.geometry.size) read_off)

  opening-is : (j : ℕ) (o : Option M) → slice_get drive.media j ≡ o → opening_of S (suc j) ≡ option_map (λ m. opening_from (device m)) o
  unfolding setup_of
  opening-is j o there = ap (λ (s : Setup). slice_get s.media j) read_off ∙ (slice_get-map (λ m. opening_from (device m)) drive.media j ∙ ap (option_map (λ m. opening_from (device m))) there)

  medium-at : (j : ℕ) → medium_with drive (suc j) ≡ slice_get drive.media j
  medium-at j = let e : suc j - 1 ≡ j = omega arith in rw (ne_eqb (suc j) 0 (λ same. absurd (omega (arith, same))), e) refl

  device-size : (j : ℕ) (m : M) → slice_get drive.media j ≡ Some m → (device m).size ≡ size_of S
  device-size j m there = all-at (λ n. (device n).size ≡ drive.size) drive.media j m there fit.size ∙ size-is

  -- the blocks of the medium with an id, whose bytes fit
  pub blocks-are : (id n : ℕ) → Some n ≡ option_map (λ m. (device m).blocks) (medium_with drive id) → (n ≡ blocks_of S id) × (n * size_of S < 2 ^ 64)
  blocks-are zero n some = cc
  blocks-are (suc j) n some = by (slice_get drive.media j) refl (some ∙ ap (option_map (λ m. (device m).blocks)) (medium-at j))
    where
      by : (o : Option M) → slice_get drive.media j ≡ o → Some n ≡ option_map (λ m. (device m).blocks) o → (n ≡ blocks_of S (suc j)) × (n * size_of S < 2 ^ 64)
      by None there is = cc
      by (Some m) there is =
          let same : n ≡ (device m).blocks = cc in
          (same ∙ sym (ap opening_blocks (opening-is j (Some m) there)), rw (same, ← device-size j m there) ((shaped m).fits))

  -- there is one
  pub some-blocks : (id : ℕ) → 0 < id → id ≤ length drive.media → None ≡ option_map (λ m. (device m).blocks) (medium_with drive id) → ⊥
  some-blocks zero some within none = absurd (omega (arith, some))
  some-blocks (suc j) some within none = by drive.media j (omega (arith, within)) (none ∙ ap (option_map (λ m. (device m).blocks)) (medium-at j))
    where
      by : (ms : List M) (i : ℕ) → i < length ms → None ≡ option_map (λ m. (device m).blocks) (slice_get ms i) → ⊥
      by [] i less is = absurd (omega (arith, less))
      by (m ∷ ms) zero less is = cc
      by (m ∷ ms) (suc i) less is = by ms i (omega (arith, less)) is

  -- a medium that the drive does not have has none
  pub no-blocks : (id : ℕ) → None ≡ option_map (λ m. (device m).blocks) (medium_with drive id) → 0 ≡ blocks_of S id
  no-blocks zero none = refl
  no-blocks (suc j) none = by (slice_get drive.media j) refl (none ∙ ap (option_map (λ m. (device m).blocks)) (medium-at j))
    where
      by : (o : Option M) → slice_get drive.media j ≡ o → None ≡ option_map (λ m. (device m).blocks) o → 0 ≡ blocks_of S (suc j)
      by None there is = sym (ap opening_blocks (opening-is j None there))
      by (Some m) there is = cc

  -- the opening bytes that are told are those of all blocks
  pub told-whole : AreToldWhole S
  told-whole zero bytes told = cc
  told-whole (suc j) bytes told = by (slice_get drive.media j) refl
    where
      all : (d : Device) → IsTold d.first (d.blocks * d.size) → d.first ≡ Some bytes → length bytes ≡ d.blocks * d.size
      all d is first = subst (λ o. IsTold o (d.blocks * d.size)) first is

      by : (o : Option M) → slice_get drive.media j ≡ o → length bytes ≡ blocks_of S (suc j) * size_of S
      by None there = let none : None ≡ Some bytes = sym (ap opening_bytes (opening-is j None there)) ∙ told in cc
      by (Some m) there =
          let first : (device m).first ≡ Some bytes = sym (ap opening_bytes (opening-is j (Some m) there)) ∙ told in
          rw (ap opening_blocks (opening-is j (Some m) there), ← device-size j m there) (all (device m) (shaped m).told_first first)

-- the whole of the medium that is in
pub whole-is : (S : Setup) (H : List Entry) (blocks size id : ℕ) → true ≡ is_present H → id ≡ media_id_of H → blocks ≡ blocks_of S id → size ≡ size_of S
    → Some (record { start = 0; length = blocks * size; media_id = id; index = 0 }) ≡ whole_view_in S H
unfolding whole_view_in
whole-is S H blocks size id present named blocks_are size_is = rw (sym present, blocks_are, size_is, named) refl

pub none-whole : (S : Setup) (H : List Entry) → false ≡ is_present H → None ≡ whole_view_in S H
unfolding whole_view_in
none-whole S H present = rw (sym present) refl
