-- The protection is set or lifted.
use Rattle.std.proofs.Common.{◌≡◌, ℕ, ◌+◌, ◌^◌, ◌<◌, ◌≤◌, Bool, true, false, List, ◌∷◌, length, refl, sym, ◌∙◌, ap, subst, arith, Ok, Err}
use Rattle.efi_status.specs.declared.Status.TheVariants.{WriteProtected}
use Rattle.medium.specs.Device.{Device}
use Rattle.drive.specs.Drives.{DriveState}
use Rattle.history.specs.declared.entry.Entry.{Entry}
use Rattle.history.specs.declared.entry.Entry.TheVariants.{Protect}
use Rattle.history.specs.Setup.{Setup}
use Rattle.history.specs.Marks.{ending, mark_of}
use Rattle.history.specs.Rules.{MayFollow}
use Rattle.history.specs.Room.{owed_entries}
use Rattle.history.specs.Tasks.{units_left}
use Rattle.history_laws.specs.Ranges.{AreToldWhole}
use Rattle.history_laws.proofs.EraLemmas.{protected-now, mark-unprotect}
use Rattle.history_laws.proofs.MediaLemmas.{media-id-same, present-same}
use Rattle.history_laws.proofs.SpareLemmas.{media-same}
use Rattle.disk_core.specs.declared.parts.Core.{Core}
use Rattle.disk_core.specs.declared.ending.Meant.TheVariants.{Changes}
use Rattle.disk_core.specs.State.{setup_of}
use Rattle.disk_core.specs.Parts.{state_of}
use Rattle.disk_core.specs.Inside.{DriveFollows}
use Rattle.disk_core.specs.Moves.{IsDisk, Reaches, with_entry, with_spare}
use Rattle.disk_core.specs.Calls.{ProtectSays}
use Rattle.disk_core.specs.Closing.{IsClosing, HasToEnd, IsToEnd, HaveEnded, EndsChanges, RoomSoFar}
use Rattle.history_laws.proofs.OwedSoFarLemmas.{owed-before}
use Rattle.history_laws.proofs.QuietLemmas.{IsEnding}
use Rattle.disk_core.proofs.Endings.{IsOneMore, one-more, more-closing, more-to-end, all-ended}
use Rattle.history_laws.proofs.EndedLemmas.{ended-no}
use Rattle.disk_core.proofs.Walks.{beside-still, revokes-none}

module _ {M : Type 0} (device : M → Device) (prepared : M → ℕ → Type 0) (drive : DriveState M) (c : Core) (tag : ℕ) (on : Bool) (spare : ℕ) (sound : IsDisk device prepared drive c) (places : c.owed + 1 ≤ spare) (few : length c.history.entries + spare < 2 ^ 63) where
  abbrev Begin : Setup
  Begin = setup_of device drive c.protected_at_first

  abbrev Before : List Entry
  Before = c.history.entries

  abbrev Guarded : DriveState M
  Guarded = record drive { protected = on }

  abbrev Entered : Core
  Entered = with_entry (with_spare c spare) (Protect tag on) 0

  is_ending : IsEnding Begin Before (Protect tag on)
  unfolding MayFollow
  is_ending = record {
    may = tt;
    adds_none = refl;
    unmoving = refl;
    collects_none = λ t. refl;
    puts_none = refl;
    stores_ended = λ t b unmarked. refl;
  }

  protect-more : IsOneMore (Protect tag on) c Entered
  protect-more = one-more c (Protect tag on) spare 0

  protect-room : RoomSoFar Begin (Protect tag on ∷ Before) (mark_of Begin Before) 0 Entered
  unfolding with_entry with_spare state_of owed_entries
  protect-room =
      let owed = owed-before Begin Before (Protect tag on) is_ending in
      let media = media-same Begin Before (Protect tag on) refl refl in
      let room = sound.room.owed in
      record { owes = omega arith; places = omega arith; few = omega arith }

  protect-follows : DriveFollows device Begin (Protect tag on ∷ Before) Guarded
  protect-follows =
      let f = sound.drive_follows in
      record {
        shape = record { first = f.shape.first; there = f.shape.there; few = f.shape.few; size = f.shape.size; per = f.shape.per };
        fit = record { size = f.fit.size; cached = f.fit.cached; whole = f.fit.whole };
        media_id = f.media_id ∙ sym (media-id-same Before (Protect tag on) refl);
        present = f.present ∙ sym (present-same Before (Protect tag on) refl refl);
        protected = sym (protected-now Begin Before tag on);
      }

  guarded-setup : setup_of device Guarded c.protected_at_first ≡ Begin
  unfolding setup_of
  guarded-setup = refl

  protect-to-end : on ≡ true → AreToldWhole Begin → IsToEnd Changes WriteProtected Begin Before (Protect tag on) 0 Entered
  unfolding ending
  protect-to-end set whole =
      more-to-end device prepared drive Guarded c Entered (Protect tag on) sound protect-more refl is_ending guarded-setup refl protect-follows (λ m there. there) Changes WriteProtected 0 whole protect-room
      (λ t q open_now named. rw (set, named) refl)

  pub protect-has : AreToldWhole Begin → on ≡ true → HasToEnd Changes WriteProtected Entered
  protect-has whole set = (Begin, Before, Protect tag on, 0, protect-to-end set whole)

  -- a lifted protection ends nothing
  lifted : on ≡ false → AreToldWhole Begin → HaveEnded Begin Before (Protect tag on) 0 Entered Entered 0
  unfolding ending
  lifted off whole =
      let closing = more-closing device prepared drive Guarded c Entered (Protect tag on) sound protect-more refl is_ending guarded-setup refl protect-follows (λ m there. there) 0 whole protect-room in
      record {
        closing = subst (λ m. IsClosing Begin (Protect tag on ∷ Before) m (units_left Begin Before) 0 Entered) (λ i t. sym (same t) i) closing;
        counted = sym (ended-no Begin Before (Protect tag on) (λ t open_now. rw off refl));
        rest = beside-still Entered;
        kept = refl;
        revokes = revokes-none Entered.gates;
      }
    where
      same : (t : ℕ) → mark_of Begin (Protect tag on ∷ Before) t ≡ mark_of Begin Before t
      same t = ap (λ b. mark_of Begin (Protect tag b ∷ Before) t) off ∙ mark-unprotect Begin Before tag t

  ended-either : AreToldWhole Begin → (c' : Core) (count : ℕ) → EndsChanges on Entered c' count → HaveEnded Begin Before (Protect tag on) 0 Entered c' count
  ended-either whole c' count ends = by on refl ends
    where
      by : (b : Bool) → on ≡ b → EndsChanges b Entered c' count → HaveEnded Begin Before (Protect tag on) 0 Entered c' count
      by true set all = all Begin Before (Protect tag on) 0 (protect-to-end set whole)
      by false off (still, none) = subst (λ n. HaveEnded Begin Before (Protect tag on) 0 Entered c' n) (sym none) (subst (λ x. HaveEnded Begin Before (Protect tag on) 0 Entered x 0) (sym still) (lifted off whole))

  pub protect-done : (E : Type 0) → AreToldWhole Begin → (drive' : DriveState M) (d c' : Core) (count : ℕ) → drive' ≡ Guarded → d ≡ Entered → EndsChanges on d c' count → Reaches device prepared drive c drive' c' (λ s s'. ProtectSays {E = E} s tag on (Ok count) s')
  unfolding ProtectSays
  protect-done E whole drive' d c' count guarded is ends =
      let after = all-ended device prepared drive Guarded c Entered (Protect tag on) sound protect-more refl is_ending guarded-setup refl protect-follows (λ m there. there) 0 c' count (omega arith)
      (ended-either whole c' count (subst (λ x. EndsChanges on x c' count) is ends)) in
      subst (λ x. Reaches device prepared drive c x c' (λ s s'. ProtectSays {E = E} s tag on (Ok count) s')) (sym guarded) (record { sound = after.again; says = after.says })

-- want of memory changes nothing
pub protect-refused : {M : Type 0} (E : Type 0) (device : M → Device) (prepared : M → ℕ → Type 0) (drive : DriveState M) (c c' : Core) (tag : ℕ) (on : Bool) (e : E) → IsDisk device prepared drive c → c' ≡ c
    → Reaches device prepared drive c drive c' (λ s s'. ProtectSays {E = E} s tag on (Err e) s')
unfolding ProtectSays
protect-refused E device prepared drive c c' tag on e sound same =
    subst (λ x. Reaches device prepared drive c drive x (λ s s'. ProtectSays {E = E} s tag on (Err e) s')) (sym same) (record { sound = sound; says = refl })
