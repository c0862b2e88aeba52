-- A drive whose medium made blocks ready is the same to all that look at its devices.
use Rattle.std.proofs.Common.{◌≡◌, ℕ, ◌-◌, ◌%◌, Bool, true, false, List, map, slice_get, None, Some, refl, sym, ◌∙◌, ap, subst, arith}
use Rattle.std.specs.Prelude.{slice_set, if◌then◌else◌}
use Rattle.std.proofs.Math.Seq.{map-set_same}
use Rattle.std.proofs.lemmas.List.{get_or-set_same, length-set}
use Rattle.std.proofs.lemmas.Option.{slice_get_within, get_or_from_slice_get}
use Rattle.std.proofs.lemmas.List.Elements.{All-set}
use Rattle.medium.specs.Device.{Device}
use Rattle.drive.specs.Drives.{DriveState, FitTheDrive, medium_in, with_medium}
use Rattle.history.specs.declared.entry.Entry.{Entry}
use Rattle.history.specs.Setup.{Setup}
use Rattle.disk_core.specs.declared.parts.Core.{Core}
use Rattle.disk_core.specs.State.{opening_from, setup_of}
use Rattle.disk_core.specs.Parts.{kept_of, state_of}
use Rattle.disk_core.specs.Commands.{OnMedium}
use Rattle.disk_core.specs.Facts.{AreFacts}
use Rattle.disk_core.specs.Inside.{DriveFollows, IsSound}
use Rattle.disk_core.specs.Moves.{IsDisk}
use Rattle.disk_core.proofs.Setups.{all-at}

-- where a medium is in it stands at its place
pub medium-place : {M : Type 0} (drive : DriveState M) (m : M) → medium_in drive ≡ Some m → (drive.present ≡ true) × (slice_get drive.media (drive.media_id - 1) ≡ Some m)
medium-place drive m is = by drive.present refl is
  where
    by : (p : Bool) → drive.present ≡ p → (if p then slice_get drive.media (drive.media_id - 1) else None) ≡ Some m → (drive.present ≡ true) × (slice_get drive.media (drive.media_id - 1) ≡ Some m)
    by true p there = (p, there)
    by false p there = cc

module _ {M : Type 0} (device : M → Device) (drive : DriveState M) (before after : M) (there : medium_in drive ≡ Some before) (same : device after ≡ device before) where
  abbrev place : ℕ
  place = drive.media_id - 1

  found : slice_get drive.media place ≡ Some before
  found = (medium-place drive before there).1

  pub devices-same : map device (slice_set drive.media place after) ≡ map device drive.media
  devices-same = map-set_same device drive.media place after before (same ∙ sym (ap device (get_or_from_slice_get drive.media place before before found)))

  pub openings-same : map (λ m. opening_from (device m)) (slice_set drive.media place after) ≡ map (λ m. opening_from (device m)) drive.media
  openings-same = map-set_same (λ m. opening_from (device m)) drive.media place after before (ap opening_from (same ∙ sym (ap device (get_or_from_slice_get drive.media place before before found))))

  pub setup-same : (at_first : Bool) → setup_of device (with_medium drive after) at_first ≡ setup_of device drive at_first
  unfolding setup_of
  setup-same at_first = λ i. record {
    geometry = record { size = drive.size; per = drive.per };
    cached = drive.cached;
    protected = at_first;
    media = openings-same i;
  }

  pub fit-same : FitTheDrive device drive → FitTheDrive device (with_medium drive after)
  fit-same fit = record {
    size = All-set (λ m. (device m).size ≡ drive.size) drive.media place after (ap (λ d. d.size) same ∙ all-at (λ m. (device m).size ≡ drive.size) drive.media place before fit.size found) fit.size;
    cached = All-set (λ m. (device m).cached ≡ drive.cached) drive.media place after (ap (λ d. d.cached) same ∙ all-at (λ m. (device m).cached ≡ drive.cached) drive.media place before fit.cached found) fit.cached;
    whole = All-set (λ m. (device m).blocks % drive.per ≡ 0) drive.media place after (ap (λ d. d.blocks % drive.per) same ∙ all-at (λ m. (device m).blocks % drive.per ≡ 0) drive.media place before fit.whole found) fit.whole;
  }

  pub follows-same : (S : Setup) (H : List Entry) → DriveFollows device S H drive → DriveFollows device S H (with_medium drive after)
  follows-same S H follow = record {
    shape = record {
      first = follow.shape.first;
      there = (let many = length-set drive.media place after in let low = follow.shape.there in omega arith);
      few = (let many = length-set drive.media place after in let few = follow.shape.few in omega arith);
      size = follow.shape.size;
      per = follow.shape.per;
    };
    fit = fit-same follow.fit;
    media_id = follow.media_id;
    present = follow.present;
    protected = follow.protected;
  }

  -- the medium that is in afterwards
  pub medium-now : (m : M) → medium_in (with_medium drive after) ≡ Some m → m ≡ after
  medium-now m is =
      let p = (medium-place drive before there).0 in
      let found_now = (medium-place (with_medium drive after) m is).1 in
      let lt = slice_get_within drive.media place before found in
      sym (get_or_from_slice_get (slice_set drive.media place after) place m after found_now) ∙ get_or-set_same drive.media place after after lt

module _ {M : Type 0} (device : M → Device) (prepared : M → ℕ → Type 0) (drive drive' : DriveState M) (c : Core) (on : OnMedium device prepared drive drive' (λ d d'. d' ≡ d)) where
  state-with : state_of device (with_medium drive on.after) c ≡ state_of device drive c
  unfolding state_of
  state-with = λ i. record {
    setup = setup-same device drive on.before on.after on.was_in on.does c.protected_at_first i;
    entries = c.history.entries;
    kept = kept_of c.tokens;
    gates = c.gates;
    devices = devices-same device drive on.before on.after on.was_in on.does i;
  }

  pub state-prepared : state_of device drive' c ≡ state_of device drive c
  state-prepared = ap (λ d. state_of device d c) on.drive ∙ state-with

  pub setup-prepared : setup_of device drive' c.protected_at_first ≡ setup_of device drive c.protected_at_first
  setup-prepared = ap (λ d. setup_of device d c.protected_at_first) on.drive ∙ setup-same device drive on.before on.after on.was_in on.does c.protected_at_first

  sound-with : IsDisk device prepared drive c → IsDisk device prepared (with_medium drive on.after) c
  sound-with sound =
      let S = setup_of device drive c.protected_at_first in
      let setup = setup-same device drive on.before on.after on.was_in on.does c.protected_at_first in
      subst (λ s. IsSound device prepared s (with_medium drive on.after) c) (sym setup) (record {
        setup = setup;
        geometry = sound.geometry;
        facts = subst AreFacts (sym state-with) sound.facts;
        drive_follows = follows-same device drive on.before on.after on.was_in on.does S c.history.entries sound.drive_follows;
        records = sound.records;
        queue = sound.queue;
        holders = sound.holders;
        room = sound.room;
        ready = λ m is t b q open_now named changes low high.
            subst (λ n. prepared n b) (sym (medium-now device drive on.before on.after on.was_in on.does m is)) (on.stay b (sound.ready on.before on.was_in t b q open_now named changes low high));
        fitted = sound.fitted;
      })

  pub prepared-sound : IsDisk device prepared drive c → IsDisk device prepared drive' c
  prepared-sound sound = subst (λ d. IsDisk device prepared d c) (sym on.drive) (sound-with sound)
