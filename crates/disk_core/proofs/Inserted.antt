-- The next medium is put in.
use Rattle.std.proofs.Common.{◌≡◌, ℕ, suc, ◌+◌, ◌<◌, ◌≤◌, Bool, true, false, List, ◌∷◌, length, map, Option, refl, sym, ◌∙◌, ap, subst, arith, Result, Ok, Err}
use Rattle.std.specs.Prelude.{vec_capacity, nat_lt, if◌then◌else◌}
use Rattle.std.proofs.lemmas.Bool.{ltb-true, ltb-false, true≢false}
use Rattle.drive.specs.declared.answers.InsertFault.{InsertFault}
use Rattle.drive.specs.declared.answers.InsertFault.TheVariants.{Occupied, NoSpare}
use Rattle.std.proofs.lemmas.List.{length-map}
use Rattle.medium.specs.Device.{Device}
use Rattle.drive.specs.Drives.{DriveState, insertion}
use Rattle.block_gate.specs.Gates.{Gates}
use Rattle.history.specs.declared.entry.Entry.{Entry}
use Rattle.history.specs.declared.entry.Entry.TheVariants.{Insert}
use Rattle.history.specs.Setup.{Setup, IsSetup, size_of}
use Rattle.history.specs.Eras.{is_present}
use Rattle.history.specs.Tokens.{Request}
use Rattle.history.specs.Marks.{mark_of}
use Rattle.history.specs.Rules.{MayFollow, IsLegal}
use Rattle.history_laws.proofs.CountLemmas.{accepted-same, fetches-same, inserts-more}
use Rattle.history_laws.proofs.EraLemmas.{protected-same}
use Rattle.history_laws.proofs.PendingLemmas.{pending-insert}
use Rattle.history_laws.proofs.SpareLemmas.{entries-insert}
use Rattle.subtask_queue.specs.Subs.{sub_of}
use Rattle.disk_core.specs.declared.parts.Core.{Core}
use Rattle.disk_core.specs.declared.parts.Holder.{Holder}
use Rattle.disk_core.specs.State.{setup_of, opening_from}
use Rattle.disk_core.specs.Facts.{GatesFollow, KeptFollow}
use Rattle.disk_core.specs.Parts.{state_of, kept_of}
use Rattle.disk_core.specs.Inside.{DriveFollows, HoldersFollow, HasRoom}
use Rattle.disk_core.specs.Calls.{InsertSays}
use Rattle.disk_core.specs.Moves.{IsDisk, Reaches, HasPlace, with_entry}
use Rattle.disk_core.specs.State.{Kept}
use Rattle.disk_core.specs.Inside.{Tracks}
use Rattle.token_table.specs.declared.record.Record.{Record}
use Rattle.history.specs.Room.{owed_entries}
use Rattle.history_laws.proofs.TokenLemmas.{collected-same}
use Rattle.disk_core.proofs.Following.{era-still}
use Rattle.disk_core.proofs.Over.{holders-over, tracks-over, kept-over}
use Rattle.history_laws.proofs.QuietLemmas.{read-same}
use Rattle.history_laws.proofs.LeftLemmas.{left-done}
use Rattle.history_laws.proofs.EndedLemmas.{absent-open, mark-insert, open-insert, present-again, unheld, unheld-now}

module _ (S : Setup) (H : List Entry) (tag k : ℕ) (setup : IsSetup S) (legal : IsLegal S H) (out : is_present H ≡ false) where
  gates-insert : (gates : Gates) → GatesFollow S H gates → GatesFollow S (Insert tag k ∷ H) gates
  gates-insert gates follow = record {
    sized = follow.sized;
    each = λ j g there. absurd (let h = follow.each j g there in (unheld S H tag k setup legal out) h.0 g.block j h.1.holds);
    all = λ t b j holds. absurd ((unheld-now S H tag k setup legal out) t b j holds);
    below = λ j is. subst (λ n. j < n) (sym (fetches-same H (Insert tag k) refl)) (follow.below j is);
  }

  holders-insert : (gates : Gates) (holders : List Holder) (places : ℕ) → HoldersFollow S H gates holders places → HoldersFollow S (Insert tag k ∷ H) gates holders places
  holders-insert gates holders places = holders-over S H (Insert tag k ∷ H) gates holders places (λ t b j holds. absurd (unheld-now S H tag k setup legal out t b j holds)) (λ t b j holds. absurd (unheld S H tag k setup legal out t b j holds))

  tracks-insert : (t : ℕ) (r : Record) (q : Request) → Tracks S H t r q → Tracks S (Insert tag k ∷ H) t r q
  tracks-insert t r q = tracks-over S H (Insert tag k) t r q (mark_of S H) (mark_of S (Insert tag k ∷ H)) (mark-insert S H tag k t) (left-done S H (Insert tag k) t q refl)

  kept-insert : (kept : List (Option Kept)) → KeptFollow S H kept → KeptFollow S (Insert tag k ∷ H) kept
  kept-insert kept = kept-over S H (Insert tag k) kept (accepted-same H (Insert tag k) refl) (λ t. collected-same H (Insert tag k) t refl) (λ t x. read-same S H (Insert tag k) t x refl)

  room-insert : (c : Core) → c.history.entries ≡ H → MayFollow S H (Insert tag k) → HasRoom S c → HasRoom S (with_entry c (Insert tag k) 1)
  unfolding with_entry
  room-insert c is may room =
      let less : owed_entries S (Insert tag k ∷ c.history.entries) + 1 ≤ owed_entries S c.history.entries = subst (λ h. owed_entries S (Insert tag k ∷ h) + 1 ≤ owed_entries S h) (sym is) (entries-insert S H tag k may) in
      let owed = room.owed in let places = room.places in let few = room.few in
      record { owed = omega arith; places = omega arith; few = omega arith }

drive-insert : {M : Type 0} (device : M → Device) (S : Setup) (H : List Entry) (drive : DriveState M) (tag k : ℕ) → IsLegal S H → is_present H ≡ false → k ≡ drive.media_id + 1 → drive.media_id < length drive.media
    → DriveFollows device S H drive → DriveFollows device S (Insert tag k ∷ H) (record drive { present = true; media_id = k })
drive-insert device S H drive tag k legal out next below follow = record {
  shape = record { first = rw next (omega arith); there = rw next (omega arith); few = follow.shape.few; size = follow.shape.size; per = follow.shape.per };
  fit = record { size = follow.fit.size; cached = follow.fit.cached; whole = follow.fit.whole };
  media_id = next ∙ ap (λ n. n + 1) (follow.media_id ∙ sym (inserts-more H (Insert tag k) refl));
  present = sym (present-again S H tag k legal out);
  protected = follow.protected ∙ sym (protected-same S H (Insert tag k) refl);
}

module _ {M : Type 0} (device : M → Device) (prepared : M → ℕ → Type 0) (drive : DriveState M) (c : Core) (tag k : ℕ) (sound : IsDisk device prepared drive c) (out : drive.present ≡ false) (next : k ≡ drive.media_id + 1) (below : drive.media_id < length drive.media) where
  absent : is_present c.history.entries ≡ false
  absent = sym sound.drive_follows.present ∙ out

  pub insert-may : MayFollow (setup_of device drive c.protected_at_first) c.history.entries (Insert tag k)
  unfolding MayFollow setup_of
  insert-may = (absent, next ∙ ap (λ n. n + 1) sound.drive_follows.media_id, (let many = length-map drive.media (λ m. opening_from (device m)) in omega arith))

  pub insert-sound : IsDisk device prepared (record drive { present = true; media_id = k }) (with_entry c (Insert tag k) 1)
  unfolding state_of setup_of with_entry IsLegal
  insert-sound =
      let S = setup_of device drive c.protected_at_first in
      let H = c.history.entries in
      let e = Insert tag k in
      let legal = sound.facts.legal in
      let room = room-insert S H tag k sound.geometry legal absent c refl insert-may sound.room in
      record {
        setup = refl;
        geometry = sound.geometry;
        facts = record {
          legal = (legal, insert-may);
          media = λ i d is. era-still S H e (suc i) d refl (sound.facts.media i d is);
          tokens = kept-insert S H tag k sound.geometry legal absent (kept_of c.tokens) sound.facts.tokens;
          gates = gates-insert S H tag k sound.geometry legal absent c.gates sound.facts.gates;
        };
        drive_follows = drive-insert device S H drive tag k legal absent next below sound.drive_follows;
        records = record { each = λ t r is. (let old = sound.records.each t r is in (old.0, tracks-insert S H tag k sound.geometry legal absent t r old.0 old.1)); shown = sound.records.shown };
        queue = sound.queue ∙ ap (map (sub_of (size_of S))) (sym (pending-insert S H tag k));
        holders = holders-insert S H tag k sound.geometry legal absent c.gates c.holders.items (vec_capacity c.holders) sound.holders;
        room = room;
        ready = λ m is t b q open_now named changes low high. absurd (absent-open S H t legal absent (open-insert S H tag k t open_now));
        fitted = record {
          blocks = sound.fitted.blocks;
          accepts = sound.fitted.accepts ∙ sym (accepted-same H e refl);
          fetches_are = sound.fitted.fetches_are ∙ sym (fetches-same H e refl);
          group = sound.fitted.group;
          zeros = sound.fitted.zeros;
        };
      }

  pub insert-place : HasPlace c × (0 < c.owed)
  unfolding state_of
  insert-place =
      let less = entries-insert (setup_of device drive c.protected_at_first) c.history.entries tag k insert-may in
      let owed = sound.room.owed in let places = sound.room.places in
      (omega arith, omega arith)

  pub insert-reaches : Reaches device prepared drive c (record drive { present = true; media_id = k }) (with_entry c (Insert tag k) 1) (λ s s'. InsertSays s tag (Ok k) s')
  unfolding state_of setup_of with_entry IsLegal InsertSays MayFollow
  insert-reaches = record {
    sound = insert-sound;
    says = record {
      was_out = absent;
      next = insert-may.1;
      exists = insert-may.2;
      new_is = refl;
      legal = (sound.facts.legal, insert-may);
    };
  }

-- what an insertion that was done says of the drive
pub record HasNext {M : Type 0} (drive : DriveState M) (k : ℕ) : Type 0 where
  pub was_out : drive.present ≡ false
  pub below : drive.media_id < length drive.media
  pub is_next : k ≡ drive.media_id + 1

pub insertion-next : {M : Type 0} (drive : DriveState M) (k : ℕ) → Ok k ≡ insertion drive → HasNext drive k
insertion-next drive k is = by drive.present (nat_lt drive.media_id (length drive.media)) refl refl is
  where
    id_in : Result ℕ InsertFault → ℕ
    id_in (Ok n) = n
    id_in (Err fault) = k

    is_ok : Result ℕ InsertFault → Bool
    is_ok (Ok n) = true
    is_ok (Err fault) = false

    by : (p b : Bool) → drive.present ≡ p → nat_lt drive.media_id (length drive.media) ≡ b → Ok k ≡ (if p then Err Occupied else if b then Ok (drive.media_id + 1) else Err NoSpare) → HasNext drive k
    by true b out lt is = absurd (true≢false (ap is_ok is))
    by false false out lt is = absurd (true≢false (ap is_ok is))
    by false true out lt is = record { was_out = out; below = ltb-true drive.media_id (length drive.media) lt; is_next = ap id_in is }

-- and what one that was refused says
pub record RefusesInsert {M : Type 0} (drive : DriveState M) (fault : InsertFault) : Type 0 where
  pub occupied : fault ≡ Occupied → drive.present ≡ true
  pub no_spare : fault ≡ NoSpare → (drive.present ≡ false) × (length drive.media ≤ drive.media_id)

pub insertion-refused : {M : Type 0} (drive : DriveState M) (fault : InsertFault) → Err fault ≡ insertion drive → RefusesInsert drive fault
insertion-refused drive fault is = by drive.present (nat_lt drive.media_id (length drive.media)) refl refl is
  where
    is_ok : Result ℕ InsertFault → Bool
    is_ok (Ok n) = true
    is_ok (Err f) = false

    fault_in : Result ℕ InsertFault → InsertFault
    fault_in (Ok n) = fault
    fault_in (Err f) = f

    is_occupied : InsertFault → Bool
    is_occupied Occupied = true
    is_occupied NoSpare = false

    by : (p b : Bool) → drive.present ≡ p → nat_lt drive.media_id (length drive.media) ≡ b → Err fault ≡ (if p then Err Occupied else if b then Ok (drive.media_id + 1) else Err NoSpare) → RefusesInsert drive fault
    by true b out lt is = record { occupied = λ e. out; no_spare = λ e. absurd (true≢false (sym (ap is_occupied (ap fault_in is)) ∙ ap is_occupied e)) }
    by false true out lt is = absurd (true≢false (sym (ap is_ok is)))
    by false false out lt is = record { occupied = λ e. absurd (true≢false (sym (ap is_occupied e) ∙ ap is_occupied (ap fault_in is))); no_spare = λ e. (out, ltb-false drive.media_id (length drive.media) lt) }

pub insert-refuses : {M : Type 0} (device : M → Device) (prepared : M → ℕ → Type 0) (drive : DriveState M) (c : Core) (tag : ℕ) (fault : InsertFault) → IsDisk device prepared drive c → Err fault ≡ insertion drive
    → Reaches device prepared drive c drive c (λ s s'. InsertSays s tag (Err fault) s')
unfolding InsertSays state_of setup_of
insert-refuses device prepared drive c tag Occupied sound is = record { sound = sound; says = (sym sound.drive_follows.present ∙ (insertion-refused drive Occupied is).occupied refl, refl) }
insert-refuses device prepared drive c tag NoSpare sound is =
    let none = (insertion-refused drive NoSpare is).no_spare refl in
    let many = length-map drive.media (λ m. opening_from (device m)) in
    let id = sound.drive_follows.media_id in
    record { sound = sound; says = (sym sound.drive_follows.present ∙ none.0, (let few = none.1 in omega arith), refl) }

pub insert-ok : {M : Type 0} (device : M → Device) (prepared : M → ℕ → Type 0) (drive : DriveState M) (c : Core) (tag k : ℕ) (drive' : DriveState M) (c' : Core) → IsDisk device prepared drive c → Ok k ≡ insertion drive
    → drive' ≡ record drive { present = true; media_id = k } → c' ≡ with_entry c (Insert tag k) 1 → Reaches device prepared drive c drive' c' (λ s s'. InsertSays s tag (Ok k) s')
insert-ok device prepared drive c tag k drive' c' sound is drive_is core_is =
    let next = insertion-next drive k is in
    subst (λ d. Reaches device prepared drive c d c' (λ s s'. InsertSays s tag (Ok k) s')) (sym drive_is)
    (subst (λ b. Reaches device prepared drive c (record drive { present = true; media_id = k }) b (λ s s'. InsertSays s tag (Ok k) s')) (sym core_is)
    (insert-reaches device prepared drive c tag k sound next.was_out next.is_next next.below))

pub insert-err : {M : Type 0} (device : M → Device) (prepared : M → ℕ → Type 0) (drive : DriveState M) (c : Core) (tag : ℕ) (fault : InsertFault) (drive' : DriveState M) → IsDisk device prepared drive c → Err fault ≡ insertion drive
    → drive' ≡ drive → Reaches device prepared drive c drive' c (λ s s'. InsertSays s tag (Err fault) s')
insert-err device prepared drive c tag fault drive' sound is same =
    subst (λ d. Reaches device prepared drive c d c (λ s s'. InsertSays s tag (Err fault) s')) (sym same) (insert-refuses device prepared drive c tag fault sound is)

pub insert-fits : {M : Type 0} (device : M → Device) (prepared : M → ℕ → Type 0) (drive : DriveState M) (c : Core) (tag k : ℕ) → IsDisk device prepared drive c → Ok k ≡ insertion drive → HasPlace c × (0 < c.owed)
insert-fits device prepared drive c tag k sound is =
    let next = insertion-next drive k is in insert-place device prepared drive c tag k sound next.was_out next.is_next next.below
