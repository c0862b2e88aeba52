-- The medium is taken out.
use Rattle.std.proofs.Common.{◌≡◌, ℕ, ◌+◌, ◌≤◌, Bool, true, false, List, ◌∷◌, length, None, Some, refl, sym, ◌∙◌, ap, subst, arith, Ok, Err}
use Rattle.std.specs.Prelude.{if◌then◌else◌}
use Rattle.std.proofs.lemmas.Bool.{ne_eqb, eqb-true, lt-ltb}
use Rattle.std.proofs.lemmas.List.{length-map}
use Rattle.efi_status.specs.declared.Status.TheVariants.{NoMedia}
use Rattle.medium.specs.Device.{Device}
use Rattle.drive.specs.Drives.{DriveState, medium_in}
use Rattle.history.specs.declared.entry.Entry.{Entry}
use Rattle.history.specs.declared.entry.Entry.TheVariants.{Eject}
use Rattle.history.specs.Setup.{Setup}
use Rattle.history.specs.Eras.{ejects, inserts, is_present}
use Rattle.history.specs.Tokens.{Request, token_count, request}
use Rattle.history.specs.Marks.{ending, status_if, mark_of, IsOutstanding}
use Rattle.history.specs.Rules.{MayFollow}
use Rattle.history.specs.Room.{media_owed, owed_entries}
use Rattle.history_laws.specs.Ranges.{AreToldWhole}
use Rattle.history_laws.proofs.CountLemmas.{ejects-more, inserts-same}
use Rattle.history_laws.proofs.EraLemmas.{protected-same}
use Rattle.history_laws.proofs.MediaLemmas.{media-id-same}
use Rattle.history_laws.proofs.SpareLemmas.{media-within}
use Rattle.disk_core.specs.declared.parts.Core.{Core}
use Rattle.disk_core.specs.declared.answers.EjectRefused.{EjectRefused}
use Rattle.disk_core.specs.declared.ending.Meant.TheVariants.{All}
use Rattle.disk_core.specs.State.{opening_from, setup_of}
use Rattle.disk_core.specs.Parts.{state_of}
use Rattle.disk_core.specs.Inside.{DriveFollows}
use Rattle.disk_core.specs.Moves.{IsDisk, Reaches, HasPlace, with_entry, with_spare}
use Rattle.disk_core.specs.Calls.{EjectSays}
use Rattle.disk_core.specs.Closing.{HasToEnd, IsToEnd, EndsMeant, RoomSoFar}
use Rattle.history_laws.proofs.OwedSoFarLemmas.{owed-before}
use Rattle.history_laws.proofs.QuietLemmas.{IsEnding}
use Rattle.disk_core.proofs.Endings.{IsOneMore, one-more, more-to-end, all-ended}

module _ {M : Type 0} (device : M → Device) (prepared : M → ℕ → Type 0) (drive : DriveState M) (c : Core) (tag : ℕ) (sound : IsDisk device prepared drive c) (in_ : drive.present ≡ true) where
  abbrev Begin : Setup
  Begin = setup_of device drive c.protected_at_first

  abbrev Before : List Entry
  Before = c.history.entries

  abbrev Out : DriveState M
  Out = record drive { present = false }

  abbrev Entered : Core
  Entered = with_entry c (Eject tag) 1

  present-now : is_present Before ≡ true
  present-now = sym sound.drive_follows.present ∙ in_

  level : ejects Before ≡ inserts Before
  level = eqb-true (ejects Before) (inserts Before) present-now

  is_ending : IsEnding Begin Before (Eject tag)
  unfolding MayFollow
  is_ending = record {
    may = present-now;
    adds_none = refl;
    unmoving = refl;
    collects_none = λ t. refl;
    puts_none = refl;
    stores_ended = λ t b unmarked. refl;
  }

  media-falls : media_owed Begin (Eject tag ∷ Before) + 1 ≤ media_owed Begin Before
  unfolding setup_of state_of
  media-falls =
      let many : length Begin.media ≡ length drive.media = length-map drive.media (λ m. opening_from (device m)) in
      let first = sound.drive_follows.shape.first in
      let there = sound.drive_follows.shape.there in
      let within = media-within Begin Before (omega arith) sound.facts.legal in
      let same = level in
      let more = ejects-more Before (Eject tag) refl in
      let stay = inserts-same Before (Eject tag) refl in
      omega arith

  pub eject-place : HasPlace c × (1 ≤ c.owed)
  unfolding state_of owed_entries
  eject-place = (let falls = media-falls in let owed = sound.room.owed in let places = sound.room.places in (omega arith, omega arith))

  eject-more : IsOneMore (Eject tag) c Entered
  unfolding with_spare
  eject-more = one-more c (Eject tag) c.history.spare 1

  eject-room : RoomSoFar Begin (Eject tag ∷ Before) (mark_of Begin Before) 0 Entered
  unfolding with_entry state_of owed_entries
  eject-room =
      let owed = owed-before Begin Before (Eject tag) is_ending in
      let falls = media-falls in
      let room = sound.room.owed in
      let few = sound.room.few in
      let places = sound.room.places in
      let place = eject-place.0 in
      record { owes = omega arith; places = omega arith; few = omega arith }

  out-now : is_present (Eject tag ∷ Before) ≡ false
  out-now = ne_eqb (ejects (Eject tag ∷ Before)) (inserts (Eject tag ∷ Before)) (λ same. (let here = level in let more = ejects-more Before (Eject tag) refl in let stay = inserts-same Before (Eject tag) refl in absurd (omega arith)))

  eject-follows : DriveFollows device Begin (Eject tag ∷ Before) Out
  eject-follows =
      let f = sound.drive_follows in
      record {
        shape = record { first = f.shape.first; there = f.shape.there; few = f.shape.few; size = f.shape.size; per = f.shape.per };
        fit = record { size = f.fit.size; cached = f.fit.cached; whole = f.fit.whole };
        media_id = f.media_id ∙ sym (media-id-same Before (Eject tag) refl);
        present = sym out-now;
        protected = f.protected ∙ sym (protected-same Begin Before (Eject tag) refl);
      }

  eject-means : (t : ℕ) (q : Request) → IsOutstanding Begin Before t → request Before t ≡ Some q → ending Begin Before (Eject tag) t ≡ status_if true NoMedia
  unfolding ending
  eject-means t q open_now named = ap (λ b. status_if b NoMedia) (lt-ltb t (token_count Before) open_now.token)

  none-in : (m : M) → medium_in Out ≡ Some m → medium_in drive ≡ Some m
  none-in m there = absurd (clash there)
    where
      clash : None ≡ Some m → ⊥
      clash e = cc

  out-setup : setup_of device Out c.protected_at_first ≡ Begin
  unfolding setup_of
  out-setup = refl

  eject-to-end : AreToldWhole Begin → IsToEnd All NoMedia Begin Before (Eject tag) 0 Entered
  eject-to-end whole = more-to-end device prepared drive Out c Entered (Eject tag) sound eject-more refl is_ending out-setup refl eject-follows none-in All NoMedia 0 whole eject-room eject-means

  pub eject-has : AreToldWhole Begin → HasToEnd All NoMedia Entered
  eject-has whole = (Begin, Before, Eject tag, 0, eject-to-end whole)

  pub eject-done : AreToldWhole Begin → (drive' : DriveState M) (d c' : Core) (count : ℕ) → drive' ≡ Out → d ≡ Entered → EndsMeant All NoMedia d c' count → Reaches device prepared drive c drive' c' (λ s s'. EjectSays s tag (Ok count) s')
  unfolding EjectSays state_of
  eject-done whole drive' d c' count out is ends =
      let ended = subst (λ x. EndsMeant All NoMedia x c' count) is ends Begin Before (Eject tag) 0 (eject-to-end whole) in
      let after = all-ended device prepared drive Out c Entered (Eject tag) sound eject-more refl is_ending out-setup refl eject-follows none-in 0 c' count (omega arith) ended in
      subst (λ x. Reaches device prepared drive c x c' (λ s s'. EjectSays s tag (Ok count) s')) (sym out) (record { sound = after.again; says = (present-now, after.says) })

-- none is in
pub eject-refused : {M : Type 0} (device : M → Device) (prepared : M → ℕ → Type 0) (drive drive' : DriveState M) (c : Core) (tag : ℕ) → IsDisk device prepared drive c → drive.present ≡ false → drive' ≡ record drive { present = false }
    → Reaches device prepared drive c drive' c (λ s s'. EjectSays s tag (Err EjectRefused.NoMedia) s')
unfolding EjectSays state_of
eject-refused device prepared drive drive' c tag sound out is =
    subst (λ x. Reaches device prepared drive c x c (λ s s'. EjectSays s tag (Err EjectRefused.NoMedia) s')) (same ∙ sym is)
    (record { sound = sound; says = (sym sound.drive_follows.present ∙ out, refl) })
  where
    same : drive ≡ record drive { present = false }
    same = λ i. record drive { present = out i }

-- what an ejection that was done says of the drive, and one that was not
pub was-in : {A B : Type 0} (b : Bool) (x y : A) (z : B) → Ok x ≡ (if b then Ok y else Err z) → b ≡ true
was-in true x y z is = refl
was-in false x y z is = cc

pub was-out : {A B : Type 0} (b : Bool) (y : A) (z w : B) → Err w ≡ (if b then Ok y else Err z) → b ≡ false
was-out true y z w is = cc
was-out false y z w is = refl
