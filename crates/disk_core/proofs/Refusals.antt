-- A refused request leaves its entry alone.
use Rattle.std.proofs.Common.{◌≡◌, ℕ, suc, ◌+◌, ◌^◌, ◌<◌, ◌≤◌, List, ◌∷◌, length, map, Option, Some, refl, sym, ◌∙◌, ap, subst, arith}
use Rattle.std.specs.Prelude.{vec_capacity}
use Rattle.efi_status.specs.declared.Status.{Status}
use Rattle.medium.specs.Device.{Device}
use Rattle.drive.specs.Drives.{DriveState}
use Rattle.history.specs.declared.entry.View.{View}
use Rattle.history.specs.declared.entry.Asked.{Asked}
use Rattle.history.specs.declared.entry.Entry.TheVariants.{Refuse}
use Rattle.history.specs.Setup.{size_of}
use Rattle.history.specs.Marks.{ending}
use Rattle.history.specs.Rules.{refusal_of, IsWellAsked, MayFollow, IsLegal}
use Rattle.history_laws.proofs.TokenLemmas.{collected-same}
use Rattle.history_laws.proofs.PendingLemmas.{pending-refuse}
use Rattle.history_laws.proofs.SpareLemmas.{entries-refuse}
use Rattle.subtask_queue.specs.Subs.{sub_of}
use Rattle.disk_core.specs.declared.parts.Core.{Core}
use Rattle.disk_core.specs.State.{Kept, setup_of}
use Rattle.disk_core.specs.Facts.{KeptFollow}
use Rattle.disk_core.specs.Parts.{kept_of, state_of}
use Rattle.disk_core.specs.Calls.{Refuses}
use Rattle.disk_core.specs.Moves.{IsDisk, Reaches, with_entry, with_spare}
use Rattle.disk_core.proofs.Following.{era-still}
use Rattle.disk_core.proofs.Still.{gates-still, holders-still, drive-still, ready-still, tracks-still, buffer-still}
use Rattle.history_laws.proofs.StillLemmas.{accepted-still, fetches-still}
use Rattle.history_laws.proofs.QuietLemmas.{IsStill}

-- more places change nothing else
pub spare-sound : {M : Type 0} (device : M → Device) (prepared : M → ℕ → Type 0) (drive : DriveState M) (c : Core) (spare : ℕ) → IsDisk device prepared drive c → c.owed ≤ spare → length c.history.entries + spare < 2 ^ 63
    → IsDisk device prepared drive (with_spare c spare)
unfolding state_of with_spare
spare-sound device prepared drive c spare sound places few = record {
  setup = refl;
  geometry = sound.geometry;
  facts = record { legal = sound.facts.legal; media = sound.facts.media; tokens = sound.facts.tokens; gates = sound.facts.gates };
  drive_follows = sound.drive_follows;
  records = sound.records;
  queue = sound.queue;
  holders = sound.holders;
  room = record { owed = sound.room.owed; places = places; few = few };
  ready = sound.ready;
  fitted = record { blocks = sound.fitted.blocks; accepts = sound.fitted.accepts; fetches_are = sound.fitted.fetches_are; group = sound.fitted.group; zeros = sound.fitted.zeros };
}

module _ {M : Type 0} (device : M → Device) (prepared : M → ℕ → Type 0) (drive : DriveState M) (c : Core) (sound : IsDisk device prepared drive c) (tag : ℕ) (view : View) (asked : Asked) (media_id : ℕ) (status : Status)
    (refused : refusal_of (setup_of device drive c.protected_at_first) c.history.entries view asked media_id ≡ Some status) (well : IsWellAsked asked) where
  still-refuse : IsStill (setup_of device drive c.protected_at_first) c.history.entries (Refuse tag view asked media_id status)
  unfolding IsLegal MayFollow ending state_of
  still-refuse = record {
    setup = sound.geometry;
    legal = (sound.facts.legal, record { refusal = refused; well_asked = well });
    may = record { refusal = refused; well_asked = well };
    quiet = refl;
    adds_none = refl;
    stays_in = refl;
    puts_none = refl;
    keeps_protection = refl;
    unending = λ u. refl;
  }

  refuse-kept : (kept : List (Option Kept)) → KeptFollow (setup_of device drive c.protected_at_first) c.history.entries kept → KeptFollow (setup_of device drive c.protected_at_first) (Refuse tag view asked media_id status ∷ c.history.entries) kept
  refuse-kept kept follow =
      let S = setup_of device drive c.protected_at_first in
      let H = c.history.entries in
      let e = Refuse tag view asked media_id status in
      record {
        counted = follow.counted ∙ sym (accepted-still S H e still-refuse);
        there = λ t k is. (let old = follow.there t k is in (collected-same H e t refl ∙ old.0, (old.1.0, buffer-still S H e still-refuse t old.1.0 k.buffer old.1.1)));
        gone = λ t lt none. collected-same H e t refl ∙ follow.gone t (subst (λ n. t < n) (accepted-still S H e still-refuse) lt) none;
      }

  pub refuse-reaches : (buffer : List ℕ) → c.owed + 1 ≤ c.history.spare
      → Reaches device prepared drive c drive (with_entry c (Refuse tag view asked media_id status) 0) (λ s s'. Refuses s tag view media_id asked status buffer buffer s')
  unfolding state_of with_entry IsLegal MayFollow
  refuse-reaches buffer places =
      let S = setup_of device drive c.protected_at_first in
      let H = c.history.entries in
      let e = Refuse tag view asked media_id status in
      let still = still-refuse in
      let owed = sound.room.owed in let few = sound.room.few in
      let same = entries-refuse S H tag view asked media_id status in
      record {
        sound = record {
          setup = refl;
          geometry = sound.geometry;
          facts = record {
            legal = still.legal;
            media = λ i d is. era-still S H e (suc i) d refl (sound.facts.media i d is);
            tokens = refuse-kept (kept_of c.tokens) sound.facts.tokens;
            gates = gates-still S H e still c.gates sound.facts.gates;
          };
          drive_follows = drive-still S H e still device drive sound.drive_follows;
          records = record { each = λ t r is. (let old = sound.records.each t r is in (old.0, tracks-still S H e still t r old.0 old.1)); shown = sound.records.shown };
          queue = sound.queue ∙ ap (map (sub_of (size_of S))) (sym (pending-refuse S H tag view asked media_id status));
          holders = holders-still S H e still c.gates c.holders.items (vec_capacity c.holders) sound.holders;
          room = record { owed = omega arith; places = omega arith; few = omega arith };
          ready = λ m is. ready-still S H e still (prepared m) (sound.ready m is);
          fitted = record {
            blocks = sound.fitted.blocks;
            accepts = sound.fitted.accepts ∙ sym (accepted-still S H e still);
            fetches_are = sound.fitted.fetches_are ∙ sym (fetches-still S H e still);
            group = sound.fitted.group;
            zeros = sound.fitted.zeros;
          };
        };
        says = record { refused = refused; handed_back = refl; new_is = refl; legal = still.legal };
      }

pub refuse-done : {M : Type 0} (device : M → Device) (prepared : M → ℕ → Type 0) (drive : DriveState M) (c : Core) → IsDisk device prepared drive c → (tag : ℕ) (view : View) (asked : Asked) (media_id : ℕ) (status : Status)
    → refusal_of (setup_of device drive c.protected_at_first) c.history.entries view asked media_id ≡ Some status → IsWellAsked asked → (spare : ℕ) → c.owed + 1 ≤ spare → length c.history.entries + spare < 2 ^ 63 → (buffer : List ℕ) (mid new : Core)
    → mid ≡ with_spare c spare → new ≡ with_entry mid (Refuse tag view asked media_id status) 0 → Reaches device prepared drive c drive new (λ s s'. Refuses s tag view media_id asked status buffer buffer s')
unfolding state_of with_spare with_entry
refuse-done device prepared drive c sound tag view asked media_id status refused well spare places few buffer mid new mid_is new_is =
    let e = Refuse tag view asked media_id status in
    let reaches = refuse-reaches device prepared drive (with_spare c spare) (spare-sound device prepared drive c spare sound (omega arith) few) tag view asked media_id status refused well buffer places in
    subst (λ d. Reaches device prepared drive c drive d (λ s s'. Refuses s tag view media_id asked status buffer buffer s')) (sym (new_is ∙ ap (λ d. with_entry d e 0) mid_is)) (record { sound = reaches.sound; says = reaches.says })
