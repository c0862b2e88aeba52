-- A cancel and a reset.
use Rattle.std.proofs.Common.{◌≡◌, ℕ, zero, suc, ◌≤◌, Bool, true, false, List, ◌∷◌, None, Some, refl, sym, ◌∙◌, ap, subst, arith}
use Rattle.std.specs.Option.{option_map}
use Rattle.std.proofs.lemmas.Bool.{and_from, and_parts, lt-ltb}
use Rattle.efi_status.specs.declared.Status.TheVariants.{Aborted}
use Rattle.medium.specs.Device.{Device}
use Rattle.drive.specs.Drives.{DriveState}
use Rattle.history.specs.declared.entry.View.{View}
use Rattle.history.specs.declared.entry.Entry.{Entry}
use Rattle.history.specs.declared.entry.Entry.TheVariants.{Cancel, Reset}
use Rattle.history.specs.Setup.{Setup}
use Rattle.history.specs.Eras.{is_command, is_eject, is_insert}
use Rattle.history.specs.Tokens.{Request, is_accept, token_count, request, is_collect_of}
use Rattle.history.specs.Marks.{ending, status_if, mark_of, IsOutstanding}
use Rattle.history.specs.Rules.{MayFollow}
use Rattle.history.specs.Room.{owed_entries}
use Rattle.history_laws.specs.TokenFacts.{is_done}
use Rattle.history_laws.specs.Gates.{is_store_of}
use Rattle.history_laws.specs.Ranges.{AreToldWhole}
use Rattle.history_laws.proofs.EraLemmas.{is_protect, protected-same}
use Rattle.history_laws.proofs.MediaLemmas.{media-id-same, present-same}
use Rattle.history_laws.proofs.SpareLemmas.{media-same}
use Rattle.token_table.specs.Records.{request_at}
use Rattle.disk_core.specs.declared.parts.Core.{Core}
use Rattle.disk_core.specs.declared.ending.Meant.{Meant}
use Rattle.disk_core.specs.declared.ending.Meant.TheVariants.{OfView, Changes, All}
use Rattle.disk_core.specs.State.{State, setup_of}
use Rattle.disk_core.specs.Parts.{state_of}
use Rattle.disk_core.specs.Inside.{DriveFollows}
use Rattle.disk_core.specs.Moves.{IsDisk, Reaches, HasPlace, with_entry, with_spare}
use Rattle.disk_core.specs.Calls.{EndsBy, EndSays}
use Rattle.disk_core.specs.Closing.{is_meant_in, is_some_meant, is_queued, IsNextMeant, IsAbort, AreSorted, HasToEnd, IsToEnd, EndsMeant, NoneMeantBefore, RoomSoFar}
use Rattle.subtask_queue.specs.Subs.{AreBelow}
use Rattle.disk_core.proofs.Links.{AreClosed, disk-closed}
use Rattle.history_laws.proofs.OwedSoFarLemmas.{owed-before}
use Rattle.history_laws.proofs.QuietLemmas.{IsEnding}
use Rattle.disk_core.proofs.Failed.{open-place}
use Rattle.disk_core.proofs.Endings.{IsOneMore, one-more, more-to-end, all-ended}
use Rattle.history_laws.proofs.EndedLemmas.{ended-some, ended-no}
use Rattle.disk_core.proofs.Walked.{TellsParts, closed-tells, queue-sorted, queue-below, queued-open, open-queued, open-record, open-answers}
use Rattle.history_laws.proofs.RequestLemmas.{view-same}

-- an entry that ends the meant tokens with Aborted, which it may where there is one
record IsAborting (S : Setup) (H : List Entry) (meant : Meant) (e : Entry) : Type 0 where
  means : (t : ℕ) (q : Request) → IsOutstanding S H t → request H t ≡ Some q → ending S H e t ≡ status_if (is_meant_in meant q.view q.asked.kind) Aborted
  may : (t : ℕ) (q : Request) → IsOutstanding S H t → request H t ≡ Some q → is_meant_in meant q.view q.asked.kind ≡ true → MayFollow S H e
  adds_none : is_accept e ≡ false
  unmoving : is_done e ≡ false
  quiet : is_command e ≡ false
  collects_none : (t : ℕ) → is_collect_of t e ≡ false
  puts_none : is_insert e ≡ false
  stays_in : is_eject e ≡ false
  keeps_protection : is_protect e ≡ false
  stores_none : (t b : ℕ) → is_store_of t b e ≡ false

aborting-cancel : (S : Setup) (H : List Entry) (tag : ℕ) (view : View) → IsAborting S H (OfView view) (Cancel tag view)
unfolding ending MayFollow
aborting-cancel S H tag view = record {
  means = λ t q open_now named. rw named refl;
  may = λ t q open_now named meant. (t, q, open_now, named, view-same q.view view meant);
  adds_none = refl;
  unmoving = refl;
  quiet = refl;
  collects_none = λ t. refl;
  puts_none = refl;
  stays_in = refl;
  keeps_protection = refl;
  stores_none = λ t b. refl;
}

aborting-reset : (S : Setup) (H : List Entry) (tag : ℕ) → IsAborting S H All (Reset tag)
unfolding ending MayFollow
aborting-reset S H tag = record {
  means = λ t q open_now named. ap (λ b. status_if b Aborted) (lt-ltb t (token_count H) open_now.token);
  may = λ t q open_now named meant. (t, open_now);
  adds_none = refl;
  unmoving = refl;
  quiet = refl;
  collects_none = λ t. refl;
  puts_none = refl;
  stays_in = refl;
  keeps_protection = refl;
  stores_none = λ t b. refl;
}

is-aborting : (S : Setup) (H : List Entry) (meant : Meant) (e : Entry) → IsAbort meant e → IsAborting S H meant e
is-aborting S H (OfView view) e (tag, is) = subst (IsAborting S H (OfView view)) (sym is) (aborting-cancel S H tag view)
is-aborting S H All e (tag, is) = subst (IsAborting S H All) (sym is) (aborting-reset S H tag)
is-aborting S H Changes e never = absurd never

end-says : (old : State) (e : Entry) (count : ℕ) (new : State) → 1 ≤ count → EndsBy old e count new → EndSays old e count new
unfolding EndSays
end-says old e zero new some ends = absurd (omega arith)
end-says old e (suc n) new some ends = ends

module _ {M : Type 0} (device : M → Device) (prepared : M → ℕ → Type 0) (drive : DriveState M) (c : Core) (meant : Meant) (e : Entry) (sound : IsDisk device prepared drive c) (abort : IsAbort meant e) where
  abbrev Begin : Setup
  Begin = setup_of device drive c.protected_at_first

  abbrev Before : List Entry
  Before = c.history.entries

  aborting : IsAborting Begin Before meant e
  aborting = is-aborting Begin Before meant e abort

  closed : AreClosed Begin Before c
  closed = disk-closed device prepared drive c sound

  tells : TellsParts Begin Before Before (mark_of Begin Before) c
  tells = closed-tells Begin Before c closed

  pub abort-sorted : AreSorted c.queue
  abort-sorted = queue-sorted Begin Before Before (mark_of Begin Before) c tells

  pub abort-below : AreBelow c.accepted c.queue
  unfolding state_of
  abort-below = subst (λ n. AreBelow n c.queue) (sym sound.fitted.accepts) (queue-below Begin Before Before (mark_of Begin Before) c tells)

  -- without a meant token there is no entry
  pub abort-nothing : IsNextMeant c meant 0 None → Reaches device prepared drive c drive c (λ s s'. EndSays s e 0 s')
  unfolding EndSays state_of
  abort-nothing none = record {
    sound = sound;
    says = (
      ended-no Begin Before e (λ t open_now.
          open-answers Begin Before Before (mark_of Begin Before) c tells meant Aborted e aborting.means t open_now open_now.unmarked
          ∙ ap (λ b. status_if b Aborted) (unmeant t open_now (is_some_meant meant (request_at c.tokens t)) refl)),
      refl,
    );
  }
    where
      clash : true ≡ false → ⊥
      clash x = cc

      unmeant : (t : ℕ) → IsOutstanding Begin Before t → (b : Bool) → is_some_meant meant (request_at c.tokens t) ≡ b → is_some_meant meant (request_at c.tokens t) ≡ false
      unmeant t open_now true is = absurd (clash (sym (and_from (is_queued c t) (is_some_meant meant (request_at c.tokens t)) (open-queued Begin Before Before (mark_of Begin Before) c tells t open_now open_now.unmarked) is) ∙ none t (omega arith)))
      unmeant t open_now false is = is

  module _ (t : ℕ) (next : IsNextMeant c meant 0 (Some t)) where
    both : (is_queued c t ≡ true) × (is_some_meant meant (request_at c.tokens t) ≡ true)
    both = and_parts (is_queued c t) (is_some_meant meant (request_at c.tokens t)) next.1

    abort-open : IsOutstanding Begin Before t
    abort-open = (queued-open Begin Before Before (mark_of Begin Before) c tells t both.0).0

    abort-may : MayFollow Begin Before e
    unfolding request_at
    abort-may =
        let of = open-record Begin Before Before (mark_of Begin Before) c tells t abort-open.token abort-open.unmarked in
        let r = of.0 in let q = of.1 in let is = of.2 in
        aborting.may t q abort-open is.named
        (ap (λ v. is_meant_in meant v q.asked.kind) (sym is.viewed) ∙ (ap (λ a. is_meant_in meant r.request.view a.kind) (sym is.asked) ∙ (sym (ap (λ m. is_some_meant meant (option_map (λ x. x.request) m)) is.there) ∙ both.1)))

    is_ending : IsEnding Begin Before e
    is_ending = record {
      may = abort-may;
      adds_none = aborting.adds_none;
      unmoving = aborting.unmoving;
      collects_none = aborting.collects_none;
      puts_none = aborting.puts_none;
      stores_ended = λ u b unmarked. aborting.stores_none u b;
    }

    pub abort-place : HasPlace c
    abort-place = open-place Begin Before c t closed abort-open

    -- no token before it is meant, and it is one of the disk
    pub abort-first : NoneMeantBefore (with_entry c e 0) meant t
    unfolding with_entry
    abort-first u below = next.2 u (omega arith) below

    pub abort-within : t ≤ (with_entry c e 0).accepted
    unfolding with_entry state_of
    abort-within = (let token = abort-open.token in let accepts = sound.fitted.accepts in omega arith)

    abort-more : IsOneMore e c (with_entry c e 0)
    unfolding with_spare
    abort-more = one-more c e c.history.spare 0

    abort-room : RoomSoFar Begin (e ∷ Before) (mark_of Begin Before) 1 (with_entry c e 0)
    unfolding with_entry owed_entries
    abort-room =
        let owed = owed-before Begin Before e is_ending in
        let media = media-same Begin Before e aborting.stays_in aborting.puts_none in
        let place = abort-place in
        let room = closed.room.owed in
        let few = closed.room.few in
        let places = closed.room.places in
        record { owes = omega arith; places = omega arith; few = omega arith }

    abort-follows : DriveFollows device Begin (e ∷ Before) drive
    abort-follows = record {
      shape = sound.drive_follows.shape;
      fit = sound.drive_follows.fit;
      media_id = sound.drive_follows.media_id ∙ sym (media-id-same Before e aborting.puts_none);
      present = sound.drive_follows.present ∙ sym (present-same Before e aborting.stays_in aborting.puts_none);
      protected = sound.drive_follows.protected ∙ sym (protected-same Begin Before e aborting.keeps_protection);
    }

    abort-to-end : AreToldWhole Begin → IsToEnd meant Aborted Begin Before e 1 (with_entry c e 0)
    abort-to-end whole = more-to-end device prepared drive drive c (with_entry c e 0) e sound abort-more aborting.quiet is_ending refl refl abort-follows (λ m there. there) meant Aborted 1 whole abort-room aborting.means

    pub abort-has : AreToldWhole Begin → HasToEnd meant Aborted (with_entry c e 0)
    abort-has whole = (Begin, Before, e, 1, abort-to-end whole)

    -- all meant tokens have ended
    pub abort-done : AreToldWhole Begin → (c' : Core) (count : ℕ) → EndsMeant meant Aborted (with_entry c e 0) c' count → Reaches device prepared drive c drive c' (λ s s'. EndSays s e count s')
    abort-done whole c' count ends =
        let ended = ends Begin Before e 1 (abort-to-end whole) in
        let of = open-answers Begin Before Before (mark_of Begin Before) c tells meant Aborted e aborting.means t abort-open abort-open.unmarked ∙ ap (λ b. status_if b Aborted) both.1 in
        let some = ended-some Begin Before e t Aborted abort-open of in
        let many : 1 ≤ count = (let counted = ended.counted in omega arith) in
        let after = all-ended device prepared drive drive c (with_entry c e 0) e sound abort-more aborting.quiet is_ending refl refl abort-follows (λ m there. there) 1 c' count many ended in
        record { sound = after.again; says = end-says (state_of device drive c) e count (state_of device drive c') many after.says }
