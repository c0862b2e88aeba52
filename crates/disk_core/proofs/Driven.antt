-- The drive after a command on the medium that is in.
use Rattle.std.proofs.Common.{◌≡◌, ◌≢◌, ℕ, zero, suc, ◌-◌, ◌%◌, ◌≤◌, inl, inr, Bool, List, [], ◌∷◌, map, slice_get, Some, refl, sym, ◌∙◌, ap, subst, arith, Result, Ok, Err, OnErr}
use Rattle.std.specs.Prelude.{slice_set}
use Rattle.std.proofs.lemmas.Bool.{cases_eq}
use Rattle.std.proofs.lemmas.List.{length-set, map-set}
use Rattle.std.proofs.lemmas.List.Elements.{All-set}
use Rattle.std.proofs.lemmas.Option.{same_Some, none-some}
use Rattle.medium.specs.Device.{Device, IsSame, IsCommand, StayPrepared, failures}
use Rattle.medium.specs.Counts.{capped_sum, Rose}
use Rattle.medium.specs.declared.block_failed.BlockFailed.{BlockFailed}
use Rattle.drive.specs.Drives.{DriveState, medium_in, with_medium, devices_of}
use Rattle.history.specs.declared.entry.Entry.{Entry}
use Rattle.history.specs.Setup.{Setup}
use Rattle.history.specs.Eras.{inserts, media_id_of, is_command, is_fault}
use Rattle.history.specs.Next.{Failed}
use Rattle.history_laws.proofs.ContentLemmas.{contents-other, kept-other}
use Rattle.history_laws.proofs.CountLemmas.{accepted-same}
use Rattle.history_laws.proofs.EraLemmas.{protected-same, era_count-other}
use Rattle.history_laws.proofs.MediaLemmas.{media-id-same, present-same}
use Rattle.history_laws.proofs.PendingLemmas.{open-before}
use Rattle.history_laws.proofs.TokenLemmas.{request-same}
use Rattle.disk_core.specs.State.{State, opening_from, setup_of}
use Rattle.disk_core.specs.Facts.{MeetsEra}
use Rattle.disk_core.specs.Inside.{DriveFollows, AreReady}
use Rattle.disk_core.specs.Calls.{IsCommanded, failures_of}
use Rattle.disk_core.proofs.Commanded.{outcome_of}
use Rattle.disk_core.proofs.Setups.{all-at}
use Rattle.disk_core.proofs.Prepared.{medium-place}
use Rattle.history_laws.proofs.QuietLemmas.{IsMakingEntry}

-- another medium does not see the entry
era-other : (S : Setup) (H : List Entry) (e : Entry) (k : ℕ) (d : Device) → media_id_of H ≢ k → MeetsEra S H k d → MeetsEra S (e ∷ H) k d
era-other S H e k d other meets =
    let same = era_count-other is_fault k H e other in
    record {
      opening = meets.opening;
      size = meets.size;
      cached = meets.cached;
      now = meets.now ∙ sym (contents-other S k H e other);
      kept = meets.kept ∙ sym (kept-other S k H e other);
      calls = meets.calls ∙ sym (era_count-other is_command k H e other);
      failed = meets.failed ∙ sym same;
      faults = subst (λ n. n ≤ d.faults) (sym same) meets.faults;
    }

get-set : {X : Type 0} (xs : List X) (i : ℕ) (x y : X) → slice_get xs i ≡ Some x → slice_get (slice_set xs i y) i ≡ Some y
get-set [] i x y is = absurd (none-some x is)
get-set (z ∷ xs) zero x y is = refl
get-set (z ∷ xs) (suc i) x y is = get-set xs i x y is

get-other : {X : Type 0} (xs : List X) (i j : ℕ) (y : X) → i ≢ j → slice_get (slice_set xs i y) j ≡ slice_get xs j
get-other [] i j y other = refl
get-other (z ∷ xs) zero zero y other = absurd (other refl)
get-other (z ∷ xs) zero (suc j) y other = refl
get-other (z ∷ xs) (suc i) zero y other = refl
get-other (z ∷ xs) (suc i) (suc j) y other = get-other xs i j y (λ same. other (ap suc same))

map-replaced : {X Y : Type 0} (f : X → Y) (xs : List X) (i : ℕ) (x y : X) → slice_get xs i ≡ Some x → f y ≡ f x → map f (slice_set xs i y) ≡ map f xs
map-replaced f [] i x y is same = refl
map-replaced f (z ∷ xs) zero x y is same = ap (λ v. v ∷ map f xs) (same ∙ ap f (sym (same_Some z x is)))
map-replaced f (z ∷ xs) (suc i) x y is same = ap (λ vs. f z ∷ vs) (map-replaced f xs i x y is same)

-- the device of the medium that is in follows the entry
pub record Meets (S : Setup) (H : List Entry) (e : Entry) (old new : Device) : Type 0 where
  pub same : IsSame old new
  pub era : MeetsEra S (e ∷ H) (media_id_of H) new

failures-same : (result : Result (Unit {0}) BlockFailed) → failures result ≡ failures_of (outcome_of result)
failures-same (Ok done) = refl
failures-same (Err fault) = refl

rose-where : (d d' : Device) (result : Result (Unit {0}) BlockFailed) → OnErr result (Rose d.faults d'.faults) → (done : ℕ) → outcome_of result ≡ Failed done → Rose d.faults d'.faults
rose-where d d' (Ok x) cause done is = cc
rose-where d d' (Err fault) cause done is = cause

module _ {M : Type 0} (device : M → Device) (prepared : M → ℕ → Type 0) (S : Setup) (H : List Entry) (drive : DriveState M) (before after : M) (was_in : medium_in drive ≡ Some before) (follow : DriveFollows device S H drive) where
  place-is : drive.media_id - 1 ≡ inserts H
  place-is = let id = follow.media_id in omega arith

  there : slice_get drive.media (drive.media_id - 1) ≡ Some before
  there = (medium-place drive before was_in).1

  now-there : slice_get (with_medium drive after).media (drive.media_id - 1) ≡ Some after
  now-there = get-set drive.media (drive.media_id - 1) before after there

  pub device-in : slice_get (devices_of device drive) (inserts H) ≡ Some (device before)
  device-in = subst (λ i. slice_get (map device drive.media) i ≡ Some (device before)) place-is (at drive.media (drive.media_id - 1) there)
    where
      at : (xs : List M) (i : ℕ) → slice_get xs i ≡ Some before → slice_get (map device xs) i ≡ Some (device before)
      at [] i is = absurd (none-some before is)
      at (z ∷ xs) zero is = ap (λ v. Some (device v)) (same_Some z before is)
      at (z ∷ xs) (suc i) is = at xs i is

  pub devices-set : devices_of device (with_medium drive after) ≡ slice_set (devices_of device drive) (inserts H) (device after)
  devices-set = map-set device drive.media (drive.media_id - 1) after ∙ ap (λ i. slice_set (devices_of device drive) i (device after)) place-is

  pub setup-driven : (protected : Bool) → IsSame (device before) (device after) → setup_of device (with_medium drive after) protected ≡ setup_of device drive protected
  unfolding setup_of
  setup-driven protected same =
      let opening : opening_from (device after) ≡ opening_from (device before) = λ i. record { blocks = same.blocks i; first = same.first i } in
      let media = map-replaced (λ m. opening_from (device m)) drive.media (drive.media_id - 1) before after there opening in
      λ i. record { geometry = record { size = drive.size; per = drive.per }; cached = drive.cached; protected = protected; media = media i }

  pub media-driven : ((i : ℕ) (d : Device) → slice_get (devices_of device drive) i ≡ Some d → MeetsEra S H (suc i) d) → (e : Entry) → MeetsEra S (e ∷ H) (media_id_of H) (device after)
      → (i : ℕ) (d : Device) → slice_get (devices_of device (with_medium drive after)) i ≡ Some d → MeetsEra S (e ∷ H) (suc i) d
  media-driven all e era i d is = elim (cases_eq (inserts H) i) [
    | inl same ↦
        let now : slice_get (devices_of device (with_medium drive after)) (inserts H) ≡ Some (device after) =
        ap (λ xs. slice_get xs (inserts H)) devices-set ∙ get-set (devices_of device drive) (inserts H) (device before) (device after) device-in in
        let here : d ≡ device after = same_Some d (device after) (sym is ∙ (ap (λ j. slice_get (devices_of device (with_medium drive after)) j) (sym same) ∙ now)) in
        let id : media_id_of H ≡ suc i = omega arith in
        subst (λ k. MeetsEra S (e ∷ H) k d) id (subst (λ v. MeetsEra S (e ∷ H) (media_id_of H) v) (sym here) era)
    | inr other ↦
        let old : slice_get (devices_of device drive) i ≡ Some d = sym (ap (λ xs. slice_get xs i) devices-set ∙ get-other (devices_of device drive) (inserts H) i (device after) other) ∙ is in
        era-other S H e (suc i) d (λ id. other (omega arith)) (all i d old)
  ]

  pub follows-driven : (e : Entry) → IsMakingEntry e → IsSame (device before) (device after) → DriveFollows device S (e ∷ H) (with_medium drive after)
  follows-driven e is same =
      let fits = all-at (λ m. (device m).size ≡ drive.size) drive.media (drive.media_id - 1) before follow.fit.size there in
      let caches = all-at (λ m. (device m).cached ≡ drive.cached) drive.media (drive.media_id - 1) before follow.fit.cached there in
      let whole = all-at (λ m. (device m).blocks % drive.per ≡ 0) drive.media (drive.media_id - 1) before follow.fit.whole there in
      let long = length-set drive.media (drive.media_id - 1) after in
      let within = follow.shape.there in let few = follow.shape.few in
      record {
        shape = record { first = follow.shape.first; there = omega arith; few = omega arith; size = follow.shape.size; per = follow.shape.per };
        fit = record {
          size = All-set (λ m. (device m).size ≡ drive.size) drive.media (drive.media_id - 1) after (same.size ∙ fits) follow.fit.size;
          cached = All-set (λ m. (device m).cached ≡ drive.cached) drive.media (drive.media_id - 1) after (same.cached ∙ caches) follow.fit.cached;
          whole = All-set (λ m. (device m).blocks % drive.per ≡ 0) drive.media (drive.media_id - 1) after (ap (λ n. n % drive.per) same.blocks ∙ whole) follow.fit.whole;
        };
        media_id = follow.media_id ∙ sym (media-id-same H e is.puts_none);
        present = follow.present ∙ sym (present-same H e is.stays_in is.puts_none);
        protected = follow.protected ∙ sym (protected-same S H e is.keeps_protection);
      }

  pub ready-driven : (e : Entry) → IsMakingEntry e → StayPrepared (prepared before) (prepared after) → AreReady S H (prepared before) → (m : M) → medium_in (with_medium drive after) ≡ Some m → AreReady S (e ∷ H) (prepared m)
  ready-driven e is stay ready m is_in =
      let here : after ≡ m = same_Some after m (sym now-there ∙ (medium-place (with_medium drive after) m is_in).1) in
      subst (λ v. AreReady S (e ∷ H) (prepared v)) here
      (λ t b q open_now named changes low high.
      let lt = open_now.token in
      let old = open-before S H e t (λ new. absurd (let same = accepted-same H e is.adds_none in omega arith)) open_now in
      stay b (ready t b q old (sym (request-same H e t is.adds_none) ∙ named) changes low high))

  pub commanded-driven : (old new : State) (result : Result (Unit {0}) BlockFailed) → old.entries ≡ H → old.devices ≡ devices_of device drive → new.devices ≡ devices_of device (with_medium drive after) → IsCommand (device before) result (device after)
      → IsCommanded old (outcome_of result) new
  commanded-driven old new result entries was now is = record {
    before = device before;
    after = device after;
    was_in = rw (entries, was) device-in;
    devices = now ∙ (devices-set ∙ rw (entries, was) refl);
    calls = is.calls;
    failed = is.failed ∙ ap (capped_sum (device before).failed) (failures-same result);
    later = is.later;
    cause = rose-where (device before) (device after) result is.cause;
  }
