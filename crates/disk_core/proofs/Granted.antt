-- A request that is accepted with all that it needs.
use Rattle.std.proofs.Common.{◌≡◌, ℕ, zero, suc, ◌+◌, ◌-◌, ◌*◌, ◌/◌, ◌<◌, ◌≤◌, Bool, true, false, List, [], ◌∷◌, ◌++◌, length, None, Some, refl, sym, ◌∙◌, ap, subst, arith, nat_eq}
use Rattle.std.specs.Prelude.{if◌then◌else◌}
use Rattle.efi_status.specs.declared.Status.TheVariants.{Success}
use Rattle.medium.specs.Device.{Device}
use Rattle.drive.specs.Drives.{DriveState, medium_in, devices_of}
use Rattle.disk_split.specs.declared.geometry.Geometry.{Geometry}
use Rattle.history.specs.declared.entry.View.{View}
use Rattle.history.specs.declared.entry.Kind.{Kind}
use Rattle.history.specs.declared.entry.Kind.TheVariants.{Read, Write, Flush, Erase}
use Rattle.history.specs.declared.entry.Asked.{Asked}
use Rattle.history.specs.declared.entry.Entry.{Entry}
use Rattle.history.specs.declared.entry.Entry.TheVariants.{Accept}
use Rattle.history.specs.Setup.{Setup}
use Rattle.history.specs.Tokens.{Request, token_count, in_bytes, changes_bytes, from_of, until_of}
use Rattle.history.specs.Marks.{mark_of, status_if}
use Rattle.history.specs.Rules.{refusal_of, IsPayload, IsWellAsked, MayAccept, IsLegal}
use Rattle.history.specs.Room.{owed_entries}
use Rattle.history_laws.proofs.MediaLemmas.{admitted}
use Rattle.token_table.specs.declared.record.Record.{Record}
use Rattle.token_table.specs.Records.{new_record, ended_record, with_record, word_for, IsShown}
use Rattle.subtask_queue.specs.Subs.{subs_of_request, AreParts}
use Rattle.disk_core.specs.declared.accepting.Room.{Room}
use Rattle.disk_core.specs.declared.answers.Token.{Token}
use Rattle.disk_core.specs.declared.parts.Core.{Core}
use Rattle.disk_core.specs.State.{State, setup_of}
use Rattle.disk_core.specs.Facts.{buffer_length}
use Rattle.disk_core.specs.Parts.{kept_from, kept_of, state_of}
use Rattle.disk_core.specs.Inside.{group_low, group_high}
use Rattle.disk_core.specs.Calls.{Accepts}
use Rattle.history_laws.specs.Costs.{left_at_first, cost_by, cost_of}
use Rattle.disk_core.specs.Admission.{IsRoom, IsTouched, after_accept, accepted_request, after_empty_end, after_keep, start_at, payload_of, parts_count}
use Rattle.disk_core.specs.Moves.{IsDisk, Reaches}
use Rattle.history_laws.proofs.AcceptLemmas.{mark-new, owed-new}
use Rattle.disk_core.proofs.Keeping.{changed-last}
use Rattle.disk_core.proofs.Accepted.{IsNew, accept-sound, kept-added, length-kept}
use Rattle.history_laws.proofs.AcceptedLemmas.{legal-accept}

payload-is : (kind : Kind) (n : ℕ) (buffer : List ℕ) → length buffer ≡ buffer_length kind n → IsPayload kind n (payload_of kind buffer)
payload-is Read n buffer long = refl
payload-is Write n buffer long = long
payload-is Flush n buffer long = refl
payload-is Erase n buffer long = refl

payload-write : (kind : Kind) (buffer : List ℕ) → kind ≡ Write → buffer ≡ payload_of kind buffer
payload-write kind buffer is = sym (ap (λ k. payload_of k buffer) is)

some-left : (kind : Kind) (n : ℕ) → changes_bytes kind ≡ true → nat_eq (left_at_first kind n) 0 ≡ false → 0 < n
some-left Read n changes left = cc
some-left Write zero changes left = cc
some-left Write (suc n) changes left = omega arith
some-left Flush n changes left = cc
some-left Erase zero changes left = cc
some-left Erase (suc n) changes left = omega arith

module _ {M : Type 0} (device : M → Device) (prepared : M → ℕ → Type 0) (drive : DriveState M) (c : Core) (sound : IsDisk device prepared drive c) (tag : ℕ) (view : View) (asked : Asked) (media_id : ℕ) (buffer : List ℕ) (room : Room)
    (unrefused : refusal_of (setup_of device drive c.protected_at_first) c.history.entries view asked media_id ≡ None) (well : IsWellAsked asked) (long : length buffer ≡ buffer_length asked.kind asked.length)
    (fits : IsRoom c.blocks (start_at c.blocks.size view asked) asked buffer room) (places : c.owed + room.owed + 1 ≤ c.history.spare)
    (ready : changes_bytes asked.kind ≡ true → 0 < asked.length → (m : M) → medium_in drive ≡ Some m → (b : ℕ) → IsTouched c.blocks room.from (room.from + asked.length) b → prepared m b) where
  abbrev S : Setup
  S = setup_of device drive c.protected_at_first

  abbrev asks : Request
  asks = record { tag = tag; view = view; asked = asked; bytes = room.bytes }

  abbrev entry : Entry
  entry = Accept tag view asked room.bytes

  abbrev fresh : Record
  fresh = new_record (accepted_request tag view asked room.from buffer) room.signaller

  may : MayAccept S c.history.entries view asked room.bytes
  may =
      let is = admitted S c.history.entries view asked media_id unrefused in
      record {
        unrefused = subst (λ k. refusal_of S c.history.entries view asked k ≡ None) (is.named ∙ sym is.viewed) unrefused;
        payload = subst (IsPayload asked.kind asked.length) (sym fits.bytes) (payload-is asked.kind asked.length buffer long);
        well_asked = well;
      }

  lawful : IsLegal S c.history.entries
  unfolding state_of
  lawful = sound.facts.legal

  begins : room.from ≡ from_of S asks
  begins = fits.begins ∙ ap (λ (G : Geometry). view.start + in_bytes G.size asked.unit asked.at) sound.fitted.blocks

  parts-are : AreParts S.geometry (from_of S asks) (until_of S asks) room.parts
  parts-are = subst (λ n. AreParts S.geometry n (n + asked.length) room.parts) begins (subst (λ G. AreParts G room.from (room.from + asked.length) room.parts) sound.fitted.blocks fits.parts)

  written : asked.kind ≡ Write → buffer ≡ room.bytes
  written writes = payload-write asked.kind buffer writes ∙ sym fits.bytes

  touched : (b : ℕ) → group_low S asks ≤ b → b < group_high S asks → IsTouched c.blocks room.from (room.from + asked.length) b
  touched b low high = subst (λ n. IsTouched c.blocks n (n + asked.length) b) (sym begins) (subst (λ G. IsTouched G (from_of S asks) (until_of S asks) b) (sym sound.fitted.blocks) (record { low = low; high = high }))

  -- the record, where something is left of the request and where not
  record-open : mark_of S (entry ∷ c.history.entries) (token_count c.history.entries) ≡ None → IsNew S c.history.entries tag view asked room.bytes sound.geometry lawful may fresh buffer
  unfolding accepted_request new_record IsShown word_for
  record-open open_ = record { same = refl; viewed = refl; begins = begins; mark = open_; left = λ unended. refl; kept = refl; shown = fits.told }

  record-ended : mark_of S (entry ∷ c.history.entries) (token_count c.history.entries) ≡ Some Success
      → IsNew S c.history.entries tag view asked room.bytes sound.geometry lawful may (ended_record Success fresh) buffer
  unfolding accepted_request new_record ended_record IsShown word_for
  record-ended ended = record { same = refl; viewed = refl; begins = begins; mark = ended; left = λ unended. refl; kept = refl; shown = refl }

  counted : c.accepted ≡ length c.tokens
  unfolding state_of
  counted = sound.fitted.accepts ∙ sym sound.facts.tokens.counted ∙ length-kept c.tokens

  -- what is kept with it, where something is left and where not
  kept-open : nat_eq (left_at_first asked.kind asked.length) 0 ≡ false
      → after_keep c tag view asked room buffer ≡ after_accept c entry room.owed (c.tokens ++ Some fresh ∷ []) (c.queue ++ subs_of_request c.blocks c.accepted asked.kind room.parts)
  unfolding after_keep after_empty_end with_record
  kept-open left = rw left refl

  kept-ended : nat_eq (left_at_first asked.kind asked.length) 0 ≡ true
      → after_keep c tag view asked room buffer ≡ after_accept c entry (room.owed - 1) (c.tokens ++ Some (ended_record Success fresh) ∷ []) (c.queue ++ subs_of_request c.blocks c.accepted asked.kind room.parts)
  unfolding after_keep after_empty_end with_record after_accept
  kept-ended left =
      let one : c.owed + room.owed - 1 ≡ c.owed + (room.owed - 1) = (let some = fits.owed in omega arith) in
      rw left (λ i. record c {
        history = record { entries = entry ∷ c.history.entries; spare = c.history.spare - 1 };
        owed = one i;
        accepted = c.accepted + 1;
        tokens = changed-last (ended_record Success) c.tokens fresh c.accepted counted i;
        queue = c.queue ++ subs_of_request c.blocks c.accepted asked.kind room.parts;
      })

  abbrev Says : (token : Token) → State → State → Type 0
  Says token s s' = Accepts s tag view media_id asked (payload_of asked.kind buffer) buffer token s'

  -- so the request is accepted, whatever its record is
  granted : (r : Record) (owed : ℕ) (token : Token) → IsNew S c.history.entries tag view asked room.bytes sound.geometry lawful may r buffer → r.signaller.word ≡ room.signaller.word
      → owed_entries S (entry ∷ c.history.entries) ≤ owed_entries S c.history.entries + owed → c.owed + owed + 1 ≤ c.history.spare
      → (changes_bytes asked.kind ≡ true → mark_of S (entry ∷ c.history.entries) (token_count c.history.entries) ≡ None → 0 < asked.length)
      → token.number ≡ c.accepted → token.event ≡ room.event
      → Reaches device prepared drive c drive (after_accept c entry owed (c.tokens ++ Some r ∷ []) (c.queue ++ subs_of_request c.blocks c.accepted asked.kind room.parts)) (Says token)
  unfolding state_of after_accept
  granted r owed token is same_word more enough some number event = record {
    sound = accept-sound device prepared drive c sound tag view asked room.bytes lawful may r buffer owed room.parts is parts-are long written more enough (λ changes open_ m there b low high. ready changes (some changes open_) m there b (touched b low high));
    says = record {
      unrefused = unrefused;
      numbered = number ∙ sound.fitted.accepts;
      unseen = ap (λ e. e.seen) event ∙ fits.seen;
      new_is = λ i. record {
        setup = S;
        entries = Accept tag view asked (fits.bytes i) ∷ c.history.entries;
        kept = (kept-added c.tokens r ∙ ap (λ k. kept_of c.tokens ++ Some k ∷ []) kept-is) i;
        gates = c.gates;
        devices = devices_of device drive;
      };
      legal = legal-accept S c.history.entries tag view asked room.bytes sound.geometry lawful may;
    };
  }
    where
      kept-is : kept_from r ≡ record { buffer = buffer; word = token.event.word }
      kept-is = λ i. record { buffer = is.kept i; word = (same_word ∙ sym fits.word ∙ sym (ap (λ e. e.word) event)) i }

  pub accept-reaches : (token : Token) → token.number ≡ c.accepted → token.event ≡ room.event → Reaches device prepared drive c drive (after_keep c tag view asked room buffer) (Says token)
  unfolding new_record ended_record
  accept-reaches token number event = by (nat_eq (left_at_first asked.kind asked.length) 0) refl
    where
      marked : (b : Bool) → nat_eq (left_at_first asked.kind asked.length) 0 ≡ b → mark_of S (entry ∷ c.history.entries) (token_count c.history.entries) ≡ status_if b Success
      marked b left = mark-new S c.history.entries tag view asked room.bytes sound.geometry lawful ∙ ap (λ x. status_if x Success) left

      asking : Request
      asking = record { tag = tag; view = view; asked = asked; bytes = room.bytes }

      owed-is : room.owed ≡ cost_of S asking + 2
      owed-is =
          fits.owed ∙ ap (λ (G : Geometry). cost_by asked.kind (parts_count room.parts) ((room.parts.whole * G.per + 63) / 64) + 2) sound.fitted.blocks
          ∙ rw (parts-are.under, parts-are.over, parts-are.count) refl

      clash : Some Success ≡ None → ⊥
      clash e = cc

      more : (b : Bool) → nat_eq (left_at_first asked.kind asked.length) 0 ≡ b → owed_entries S (entry ∷ c.history.entries) ≤ owed_entries S c.history.entries + (if b then 1 else room.owed)
      more b left =
          subst (λ x. owed_entries S (entry ∷ c.history.entries) ≤ owed_entries S c.history.entries + (if x then 1 else room.owed)) left
          (subst (λ n. owed_entries S (entry ∷ c.history.entries) ≤ owed_entries S c.history.entries + (if nat_eq (left_at_first asked.kind asked.length) 0 then 1 else n)) (sym owed-is)
          (owed-new S c.history.entries tag view asked room.bytes sound.geometry lawful))

      by : (b : Bool) → nat_eq (left_at_first asked.kind asked.length) 0 ≡ b → Reaches device prepared drive c drive (after_keep c tag view asked room buffer) (Says token)
      by true left =
          subst (λ d. Reaches device prepared drive c drive d (Says token)) (sym (kept-ended left))
          (granted (ended_record Success fresh) (room.owed - 1) token (record-ended (marked true left)) refl (let most = more true left in let some = fits.owed in omega arith) (let some = fits.owed in omega arith) (λ changes open_. absurd (clash (sym (marked true left) ∙ open_))) number event)
      by false left =
          subst (λ d. Reaches device prepared drive c drive d (Says token)) (sym (kept-open left))
          (granted fresh room.owed token (record-open (marked false left)) refl (more false left) places (λ changes open_. some-left asked.kind asked.length changes left) number event)
