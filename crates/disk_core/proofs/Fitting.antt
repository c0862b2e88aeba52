-- A request that no rule refuses lies on the medium that is in.
use Rattle.std.proofs.Common.{◌≡◌, ℕ, ◌+◌, ◌-◌, ◌*◌, ◌%◌, ◌^◌, ◌<◌, ◌≤◌, inl, inr, true, false, slice_get, None, Some, refl, sym, ◌∙◌, ap, subst, arith, IsSome}
use Rattle.std.specs.Prelude.{if◌then◌else◌}
use Rattle.std.proofs.lemmas.Bool.{cases_Bool}
use Rattle.medium.specs.Device.{Device, IsShaped}
use Rattle.drive.specs.Drives.{DriveState, medium_in}
use Rattle.disk_split.specs.declared.geometry.Geometry.{Geometry}
use Rattle.history.specs.declared.entry.View.{View}
use Rattle.history.specs.declared.entry.Kind.{Kind}
use Rattle.history.specs.declared.entry.Kind.TheVariants.{Read, Write, Flush, Erase}
use Rattle.history.specs.declared.entry.Asked.{Asked}
use Rattle.history.specs.Setup.{Setup}
use Rattle.history.specs.Tokens.{in_bytes, is_flush, changes_bytes}
use Rattle.history.specs.Rules.{refusal_of, IsWellAsked}
use Rattle.history_laws.proofs.MediaLemmas.{IsAdmitted, admitted, range-inside}
use Rattle.disk_core.specs.declared.parts.Core.{Core}
use Rattle.disk_core.specs.State.{setup_of}
use Rattle.disk_core.specs.Moves.{IsDisk}
use Rattle.disk_core.proofs.Setups.{all-at}
use Rattle.disk_core.proofs.Prepared.{medium-place}
use Rattle.disk_core.proofs.Admitted.{medium-there, blocks-of}
use Rattle.history_laws.proofs.RequestLemmas.{flush-at}

module _ {M : Type 0} (device : M → Device) (prepared : M → ℕ → Type 0) (drive : DriveState M) (c : Core) (sound : IsDisk device prepared drive c) (shaped : (m : M) → IsShaped (device m)) (view : View) (asked : Asked) (media_id : ℕ)
    (unrefused : refusal_of (setup_of device drive c.protected_at_first) c.history.entries view asked media_id ≡ None) (well : IsWellAsked asked) where
  abbrev S : Setup
  S = setup_of device drive c.protected_at_first

  is : IsAdmitted S c.history.entries view asked media_id
  is = admitted S c.history.entries view asked media_id unrefused

  present : drive.present ≡ true
  present = sound.drive_follows.present ∙ is.present

  pub medium-is : (m : M) × (medium_in drive ≡ Some m)
  medium-is =
      let (m, there, with_id) = medium-there device drive c.protected_at_first c.history.entries sound.drive_follows view asked media_id in
      (m, ap (λ p. if p then slice_get drive.media (drive.media_id - 1) else None) present ∙ there)

  pub medium-some : IsSome (medium_in drive)
  medium-some = subst IsSome (sym medium-is.1) refl

  size-is : (m : M) → medium_in drive ≡ Some m → (device m).size ≡ drive.size
  size-is m there = all-at (λ n. (device n).size ≡ drive.size) drive.media (drive.media_id - 1) m sound.drive_follows.fit.size (medium-place drive m there).1

  pub groups-whole : (m : M) → medium_in drive ≡ Some m → (device m).blocks % c.blocks.per ≡ 0
  unfolding setup_of
  groups-whole m there =
      ap (λ (G : Geometry). (device m).blocks % G.per) sound.fitted.blocks
      ∙ all-at (λ n. (device n).blocks % drive.per ≡ 0) drive.media (drive.media_id - 1) m sound.drive_follows.fit.whole (medium-place drive m there).1

  -- its range lies on the medium
  pub range-inside-medium : (m : M) → medium_in drive ≡ Some m → is_flush asked.kind ≡ false → view.start + in_bytes c.blocks.size asked.unit asked.at + asked.length ≤ (device m).blocks * c.blocks.size
  unfolding setup_of
  range-inside-medium m there moving =
      let lies = range-inside S c.history.entries view asked (is.range moving) in
      let blocks = blocks-of device drive c.protected_at_first c.history.entries sound.drive_follows view asked media_id m (medium-place drive m there).1 in
      let on_it : view.start + view.length ≤ (device m).blocks * drive.size = subst (λ n. view.start + view.length ≤ n * drive.size) blocks lies.0 in
      let within : in_bytes drive.size asked.unit asked.at + asked.length ≤ view.length = lies.1 in
      subst (λ (G : Geometry). view.start + in_bytes G.size asked.unit asked.at + asked.length ≤ (device m).blocks * G.size) (sym sound.fitted.blocks) (let all : view.start + in_bytes drive.size asked.unit asked.at + asked.length ≤ (device m).blocks * drive.size = omega arith in all)

  changing : (kind : Kind) → changes_bytes kind ≡ true → is_flush kind ≡ false
  changing Read changes = refl
  changing Write changes = refl
  changing Flush changes = cc
  changing Erase changes = refl

  pub range-of-change : changes_bytes asked.kind ≡ true → (m : M) → medium_in drive ≡ Some m → view.start + in_bytes c.blocks.size asked.unit asked.at + asked.length ≤ (device m).blocks * c.blocks.size
  range-of-change changes m there = range-inside-medium m there (changing asked.kind changes)

  -- and its end is a number of 64 bits
  pub range-fits : view.start < 2 ^ 64 → view.start + in_bytes c.blocks.size asked.unit asked.at + asked.length < 2 ^ 64
  unfolding setup_of
  range-fits start = elim (cases_Bool (is_flush asked.kind)) [
    | inl flush ↦ (let at = flush-at asked.kind asked.unit asked.at asked.length c.blocks.size flush well in let one = at.0 in let two = at.1 in omega arith)
    | inr moving ↦
        let (m, there) = medium-is in
        let inside = range-inside-medium m there moving in
        let all : (device m).blocks * c.blocks.size < 2 ^ 64 = subst (λ (G : Geometry). (device m).blocks * G.size < 2 ^ 64) (sym sound.fitted.blocks) (subst (λ n. (device m).blocks * n < 2 ^ 64) (size-is m there) (shaped m).fits) in
        omega arith
  ]
