-- The numbers of the drive decide which request is refused.
use Rattle.std.proofs.Common.{◌≡◌, ◌≢◌, ℕ, suc, ◌+◌, ◌-◌, ◌*◌, ◌<◌, ◌⊎◌, inl, inr, Bool, true, false, not, ◌&&◌, ◌||◌, List, [], ◌∷◌, length, slice_get, get_or, Option, None, Some, refl, sym, ◌∙◌, ap, arith, nat_eq, nat_lt}
use Rattle.std.specs.Prelude.{if◌then◌else◌}
use Rattle.std.proofs.lemmas.Bool.{eq-eqb, ne_eqb}
use Rattle.std.proofs.lemmas.Option.{slice_get-get_or}
use Rattle.efi_status.specs.declared.Status.{Status}
use Rattle.efi_status.specs.declared.Status.TheVariants.{InvalidParameter, BadBufferSize, WriteProtected, NoMedia, MediaChanged}
use Rattle.medium.specs.Device.{Device}
use Rattle.drive.specs.Drives.{DriveState, medium_with}
use Rattle.history.specs.declared.entry.View.{View}
use Rattle.history.specs.declared.entry.Asked.{Asked}
use Rattle.history.specs.declared.entry.Entry.{Entry}
use Rattle.history.specs.Setup.{Setup, opening_of, opening_blocks, blocks_of}
use Rattle.history.specs.Eras.{media_id_of}
use Rattle.history.specs.Tokens.{in_bytes, is_flush, changes_bytes}
use Rattle.history.specs.Rules.{is_ragged, is_outside, range_refusal, refusal_of}
use Rattle.disk_core.specs.State.{setup_of}
use Rattle.disk_core.specs.Inside.{DriveFollows}
use Rattle.disk_core.specs.Moves.{range_refusal_by}
use Rattle.disk_core.proofs.Setups.{opening-at}

module _ {M : Type 0} (device : M → Device) (drive : DriveState M) (at_first : Bool) (H : List Entry) (follow : DriveFollows device (setup_of device drive at_first) H drive) (view : View) (asked : Asked) (media_id : ℕ) where
  abbrev S : Setup
  S = setup_of device drive at_first

  -- a medium has the id of the drive
  pub medium-there : (m : M) × (slice_get drive.media (drive.media_id - 1) ≡ Some m) × (medium_with drive drive.media_id ≡ Some m)
  medium-there = by drive.media refl
    where
      head_or : (ms : List M) → 0 < length ms → M
      head_or (m ∷ ms) some = m
      head_or [] some = absurd (omega arith)

      by : (ms : List M) → drive.media ≡ ms → (m : M) × (slice_get drive.media (drive.media_id - 1) ≡ Some m) × (medium_with drive drive.media_id ≡ Some m)
      by ms is =
          let low = follow.shape.first in
          let high = follow.shape.there in
          let d = head_or drive.media (omega arith) in
          let there = slice_get-get_or drive.media (drive.media_id - 1) d (omega arith) in
          (get_or drive.media (drive.media_id - 1) d, there, rw (ne_eqb drive.media_id 0 (λ e. absurd (omega (arith, e)))) there)

  pub blocks-of : (m : M) → slice_get drive.media (drive.media_id - 1) ≡ Some m → blocks_of S (media_id_of H) ≡ (device m).blocks
  blocks-of m there =
      let low = follow.shape.first in
      let id : media_id_of H ≡ suc (drive.media_id - 1) = (let is = follow.media_id in omega arith) in
      ap (λ k. opening_blocks (opening_of S k)) id ∙ ap opening_blocks (opening-at device drive at_first (drive.media_id - 1) m there)

  pub refused-absent : drive.present ≡ false → refusal_of S H view asked media_id ≡ Some NoMedia
  unfolding refusal_of
  refused-absent absent = ap (λ p. if not p then Some NoMedia else (if not (nat_eq media_id (media_id_of H) && nat_eq view.media_id (media_id_of H)) then Some MediaChanged else (if is_flush asked.kind then None else range_refusal S H view asked))) (sym follow.present ∙ absent)

  -- with the medium that is in the next rules decide
  refused-present : (b : Bool) → drive.present ≡ true → (nat_eq media_id drive.media_id && nat_eq view.media_id drive.media_id) ≡ b
      → refusal_of S H view asked media_id ≡ (if not b then Some MediaChanged else (if is_flush asked.kind then None else range_refusal S H view asked))
  unfolding refusal_of
  refused-present b present same =
      ap (λ p. if not p then Some NoMedia else (if not (nat_eq media_id (media_id_of H) && nat_eq view.media_id (media_id_of H)) then Some MediaChanged else (if is_flush asked.kind then None else range_refusal S H view asked))) (sym follow.present ∙ present)
      ∙ ap (λ k. if not (nat_eq media_id k && nat_eq view.media_id k) then Some MediaChanged else (if is_flush asked.kind then None else range_refusal S H view asked)) (sym follow.media_id)
      ∙ ap (λ s. if not s then Some MediaChanged else (if is_flush asked.kind then None else range_refusal S H view asked)) same

  pub refused-changed : drive.present ≡ true → (media_id ≢ drive.media_id) ⊎ (view.media_id ≢ drive.media_id) → refusal_of S H view asked media_id ≡ Some MediaChanged
  refused-changed present other = refused-present false present (by other)
    where
      fails : (a : Bool) → (a && false) ≡ false
      fails true = refl
      fails false = refl

      by : (media_id ≢ drive.media_id) ⊎ (view.media_id ≢ drive.media_id) → (nat_eq media_id drive.media_id && nat_eq view.media_id drive.media_id) ≡ false
      by (inl one) = ap (λ b. b && nat_eq view.media_id drive.media_id) (ne_eqb media_id drive.media_id one)
      by (inr two) = ap (λ b. nat_eq media_id drive.media_id && b) (ne_eqb view.media_id drive.media_id two) ∙ fails (nat_eq media_id drive.media_id)

  -- in the medium that is in a flush is not refused, and another request as its range is
  same-medium : drive.present ≡ true → media_id ≡ drive.media_id → view.media_id ≡ drive.media_id → refusal_of S H view asked media_id ≡ (if is_flush asked.kind then None else range_refusal S H view asked)
  same-medium present one two = refused-present true present (rw (eq-eqb media_id drive.media_id one, eq-eqb view.media_id drive.media_id two) refl)

  pub refused-flush : drive.present ≡ true → media_id ≡ drive.media_id → view.media_id ≡ drive.media_id → is_flush asked.kind ≡ true → None ≡ refusal_of S H view asked media_id
  refused-flush present one two flush = sym (same-medium present one two ∙ ap (λ b. if b then None else range_refusal S H view asked) flush)

  or-group : (a b c : Bool) → ((a || b) || c) ≡ (a || (b || c))
  or-group true b c = refl
  or-group false b c = refl

  outside-by : (m : M) → slice_get drive.media (drive.media_id - 1) ≡ Some m
      → is_outside S (blocks_of S (media_id_of H)) view asked ≡ (nat_lt ((device m).blocks * drive.size) (view.start + view.length) || (nat_lt view.length (in_bytes drive.size asked.unit asked.at) || nat_lt (view.length - in_bytes drive.size asked.unit asked.at) asked.length))
  unfolding setup_of
  outside-by m there =
      ap (λ n. is_outside S n view asked) (blocks-of m there)
      ∙ or-group (nat_lt ((device m).blocks * drive.size) (view.start + view.length)) (nat_lt view.length (in_bytes drive.size asked.unit asked.at)) (nat_lt (view.length - in_bytes drive.size asked.unit asked.at) asked.length)

  pub range-by : (m : M) → slice_get drive.media (drive.media_id - 1) ≡ Some m → range_refusal S H view asked ≡ range_refusal_by drive.protected drive.size ((device m).blocks * drive.size) view asked
  unfolding setup_of
  range-by m there =
      ap (λ locked. if changes_bytes asked.kind && locked then Some WriteProtected
      else (if is_ragged drive.size asked.unit asked.length then Some BadBufferSize
      else (if is_outside S (blocks_of S (media_id_of H)) view asked then Some InvalidParameter
      else None))) (sym follow.protected)
      ∙ ap (λ out. if changes_bytes asked.kind && drive.protected then Some WriteProtected
      else (if is_ragged drive.size asked.unit asked.length then Some BadBufferSize
      else (if out then Some InvalidParameter
      else None))) (outside-by m there)

  pub refused-range : (answer : Option Status) → drive.present ≡ true → media_id ≡ drive.media_id → view.media_id ≡ drive.media_id → is_flush asked.kind ≡ false
      → ((m : M) → medium_with drive drive.media_id ≡ Some m → answer ≡ range_refusal_by drive.protected drive.size ((device m).blocks * drive.size) view asked) → answer ≡ refusal_of S H view asked media_id
  refused-range answer present one two moving by_drive =
      let (m, there, with_id) = medium-there in
      by_drive m with_id ∙ sym (range-by m there) ∙ sym (same-medium present one two ∙ ap (λ b. if b then None else range_refusal S H view asked) moving)
