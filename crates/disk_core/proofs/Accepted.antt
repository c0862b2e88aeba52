-- A request is accepted.
use Rattle.std.proofs.Common.{◌≡◌, ℕ, suc, ◌+◌, ◌<◌, ◌≤◌, inl, inr, true, false, List, [], ◌∷◌, ◌++◌, length, map, Option, None, Some, refl, sym, ◌∙◌, ap, subst, arith, nat_eq}
use Rattle.std.specs.Prelude.{vec_capacity, if◌then◌else◌}
use Rattle.std.specs.Option.{option_map}
use Rattle.std.proofs.lemmas.Bool.{cases_eq, cases_lt, eq-eqb, ne_eqb}
use Rattle.std.proofs.lemmas.List.{get_or_past, get_or_append_left, get_or_push, length-append, length-map, map-append}
use Rattle.std.proofs.lemmas.Option.{same_Some}
use Rattle.medium.specs.Device.{Device}
use Rattle.drive.specs.Drives.{DriveState, medium_in}
use Rattle.disk_split.specs.declared.parts.Parts.{Parts}
use Rattle.block_gate.specs.Gates.{Gates}
use Rattle.history.specs.declared.entry.View.{View}
use Rattle.history.specs.declared.entry.Kind.TheVariants.{Write}
use Rattle.history.specs.declared.entry.Asked.{Asked}
use Rattle.history.specs.declared.entry.Entry.{Entry}
use Rattle.history.specs.declared.entry.Entry.TheVariants.{Accept}
use Rattle.history.specs.Setup.{Setup, IsSetup, size_of}
use Rattle.history.specs.Tokens.{Request, token_count, request, was_collected, changes_bytes, from_of, until_of}
use Rattle.history.specs.Contents.{bytes_read}
use Rattle.history.specs.Marks.{mark_of}
use Rattle.history.specs.Rules.{MayAccept, IsLegal}
use Rattle.history.specs.Tasks.{units_left}
use Rattle.history.specs.Room.{owed_entries}
use Rattle.history_laws.specs.Pending.{todos_of}
use Rattle.history_laws.proofs.CountLemmas.{accepted-more, fetches-same}
use Rattle.history_laws.proofs.TokenLemmas.{request-accept, request-accepted, request-kept, collected-same}
use Rattle.history_laws.proofs.EndLemmas.{unaccepted}
use Rattle.history_laws.proofs.EraLemmas.{protected-same}
use Rattle.history_laws.proofs.MediaLemmas.{media-id-same, present-same}
use Rattle.history_laws.proofs.PendingLemmas.{open-before}
use Rattle.history_laws.proofs.FinishLemmas.{pending-accept}
use Rattle.token_table.specs.declared.record.Record.{Record}
use Rattle.token_table.specs.Records.{Records, IsShown}
use Rattle.token_table.proofs.RecordsLemmas.{at-push}
use Rattle.subtask_queue.specs.declared.sub.Sub.{Sub}
use Rattle.subtask_queue.specs.Subs.{sub_of, subs_of_request, AreParts}
use Rattle.subtask_queue.proofs.SubsLemmas.{subs-of-tasks}
use Rattle.disk_core.specs.declared.parts.Core.{Core}
use Rattle.disk_core.specs.declared.parts.Holder.{Holder}
use Rattle.disk_core.specs.State.{Kept, kept_at, setup_of}
use Rattle.disk_core.specs.Facts.{IsBuffer, KeptFollow, GatesFollow, buffer_length}
use Rattle.disk_core.specs.Parts.{kept_from, kept_of, state_of}
use Rattle.disk_core.specs.Inside.{DriveFollows, Tracks, RecordsFollow, HoldersFollow, AreReady, group_low, group_high}
use Rattle.history_laws.specs.Costs.{left_at_first}
use Rattle.disk_core.specs.Admission.{after_accept}
use Rattle.disk_core.specs.Moves.{IsDisk}
use Rattle.disk_core.proofs.Following.{era-still}
use Rattle.disk_core.proofs.Over.{gates-over, drive-over, holders-over, tracks-over, buffer-same}
use Rattle.history_laws.proofs.QuietLemmas.{read-same}
use Rattle.history_laws.proofs.LeftLemmas.{left-done}
use Rattle.history_laws.proofs.AcceptLemmas.{left-new}
use Rattle.history_laws.proofs.AcceptLemmas.{uncollected-new}
use Rattle.disk_core.proofs.Plain.{some-none}
use Rattle.history_laws.proofs.AcceptedLemmas.{contents-accept, holds-accept, holds-was, legal-accept, mark-old, more, older}

-- what is kept of the last token and of those before
pub kept-last : (kept : List (Option Kept)) (u : ℕ) (k : Option Kept) → kept_at (kept ++ k ∷ []) u ≡ (if nat_eq u (length kept) then k else kept_at kept u)
unfolding kept_at
kept-last kept u k = elim (cases_eq u (length kept)) [
  | inl same ↦ rw (eq-eqb u (length kept) same) (get_or_push kept k None u (sym same))
  | inr other ↦ rw (ne_eqb u (length kept) other) (elim (cases_lt u (length kept)) [
    | inl within ↦ get_or_append_left kept (k ∷ []) None u within
    | inr past ↦ get_or_past (kept ++ k ∷ []) u None (omega (arith, length-append kept (k ∷ []))) ∙ sym (get_or_past kept u None past)
  ])
]

pub kept-added : (records : Records) (r : Record) → kept_of (records ++ Some r ∷ []) ≡ kept_of records ++ Some (kept_from r) ∷ []
unfolding kept_of
kept-added records r = map-append (option_map kept_from) records (Some r ∷ [])

pub length-kept : (records : Records) → length (kept_of records) ≡ length records
unfolding kept_of
length-kept records = length-map records (option_map kept_from)

module _ (S : Setup) (H : List Entry) (tag : ℕ) (view : View) (asked : Asked) (bytes : List ℕ) (setup : IsSetup S) (legal : IsLegal S H) (may : MayAccept S H view asked bytes) where
  abbrev e : Entry
  e = Accept tag view asked bytes

  abbrev q : Request
  q = record { tag = tag; view = view; asked = asked; bytes = bytes }

  pub gates-accept : (gates : Gates) → GatesFollow S H gates → GatesFollow S (e ∷ H) gates
  gates-accept gates =
      gates-over S H (e ∷ H) gates (holds-was S H tag view asked bytes setup legal may) (holds-accept S H tag view asked bytes setup legal may) (contents-accept S H tag view asked bytes setup legal may) (fetches-same H e refl)

  pub holders-accept : (gates : Gates) (holders : List Holder) (places : ℕ) → HoldersFollow S H gates holders places → HoldersFollow S (e ∷ H) gates holders places
  holders-accept gates holders places = holders-over S H (e ∷ H) gates holders places (holds-was S H tag view asked bytes setup legal may) (holds-accept S H tag view asked bytes setup legal may)

  pub drive-accept : {M : Type 0} (device : M → Device) (drive : DriveState M) → DriveFollows device S H drive → DriveFollows device S (e ∷ H) drive
  drive-accept device drive = drive-over device S H (e ∷ H) drive (media-id-same H e refl) (present-same H e refl refl) (protected-same S H e refl)

  tracks-old : (t : ℕ) (r : Record) (was : Request) → Tracks S H t r was → Tracks S (e ∷ H) t r was
  tracks-old t r was is =
      tracks-over S H e t r was (mark_of S H) (mark_of S (e ∷ H)) (mark-old S H tag view asked bytes setup legal may t (older S H tag view asked bytes setup legal may t (request-accepted H t was is.named)))
      (left-done S H e t was refl) is

  -- the record of the new token
  pub record IsNew (r : Record) (buffer : List ℕ) : Type 0 where
    pub same : r.request.asked ≡ asked
    pub viewed : r.request.view ≡ view
    pub begins : r.request.at ≡ from_of S q
    pub mark : mark_of S (e ∷ H) (token_count H) ≡ r.ended
    pub left : r.ended ≡ None → r.request.left ≡ left_at_first asked.kind asked.length
    pub kept : r.request.buffer ≡ buffer
    pub shown : IsShown r

  tracks-new : (r : Record) (buffer : List ℕ) → IsNew r buffer → Tracks S (e ∷ H) (token_count H) r q
  tracks-new r buffer is = record {
    named = request-accept H tag view asked bytes;
    asked = is.same;
    viewed = is.viewed;
    begins = is.begins;
    mark = is.mark;
    left = λ unended. is.left unended ∙ sym (left-new S H tag view asked bytes setup legal);
  }

  pub records-accept : (records : Records) (r : Record) (buffer : List ℕ) → token_count H ≡ length records → IsNew r buffer → RecordsFollow S H records → RecordsFollow S (e ∷ H) (records ++ Some r ∷ [])
  records-accept records r buffer counted is follow = record {
    each = λ t found there. elim (cases_eq t (length records)) [
      | inl same ↦
          let here : r ≡ found = same_Some r found (sym (at-push records t (Some r) ∙ rw (eq-eqb t (length records) same) refl) ∙ there) in
          (q, subst (λ u. Tracks S (e ∷ H) u found q) (counted ∙ sym same) (subst (λ x. Tracks S (e ∷ H) (token_count H) x q) here (tracks-new r buffer is)))
      | inr other ↦
          let before = follow.each t found (sym (at-push records t (Some r) ∙ rw (ne_eqb t (length records) other) refl) ∙ there) in
          (before.0, tracks-old t found before.0 before.1)
    ];
    shown = record {
      each = λ t found there. elim (cases_eq t (length records)) [
        | inl same ↦ subst IsShown (same_Some r found (sym (at-push records t (Some r) ∙ rw (eq-eqb t (length records) same) refl) ∙ there)) is.shown
        | inr other ↦ follow.shown.each t found (sym (at-push records t (Some r) ∙ rw (ne_eqb t (length records) other) refl) ∙ there)
      ];
    };
  }

  buffer-new : (buffer : List ℕ) → length buffer ≡ buffer_length asked.kind asked.length → (asked.kind ≡ Write → buffer ≡ bytes) → IsBuffer S (e ∷ H) (token_count H) q buffer
  unfolding bytes_read
  buffer-new buffer long written = record {
    named = request-accept H tag view asked bytes;
    long = long;
    bytes = written;
    given = λ reads x v from until read. absurd (some-none (bytes_read S (e ∷ H) (token_count H) x) v (unread x) read);
  }
    where
      unread : (x : ℕ) → bytes_read S (e ∷ H) (token_count H) x ≡ None
      unread x = (unaccepted S H (token_count H) legal (omega arith)).unread x

  pub kept-accept : (kept : List (Option Kept)) (k : Kept) → length k.buffer ≡ buffer_length asked.kind asked.length → (asked.kind ≡ Write → k.buffer ≡ bytes) → KeptFollow S H kept → KeptFollow S (e ∷ H) (kept ++ Some k ∷ [])
  kept-accept kept k long written follow = record {
    counted = (let one = length-append kept (Some k ∷ []) in let many = follow.counted in let plus = (more S H tag view asked bytes setup legal may) in omega arith);
    there = λ t found is. elim (cases_eq t (length kept)) [
      | inl same ↦
          let here : k ≡ found = same_Some k found (sym (kept-last kept t (Some k) ∙ rw (eq-eqb t (length kept) same) refl) ∙ is) in
          subst (λ u. (was_collected (e ∷ H) u ≡ false) × ((was : Request) × IsBuffer S (e ∷ H) u was found.buffer)) (sym (same ∙ follow.counted))
          (subst (λ x. (was_collected (e ∷ H) (token_count H) ≡ false) × ((was : Request) × IsBuffer S (e ∷ H) (token_count H) was x.buffer)) here (uncollected-new S H tag view asked bytes setup legal, (q, buffer-new k.buffer long written)))
      | inr other ↦
          let old = follow.there t found (sym (kept-last kept t (Some k) ∙ rw (ne_eqb t (length kept) other) refl) ∙ is) in
          (collected-same H e t refl ∙ old.0, (old.1.0, buffer-same S H e t old.1.0 found.buffer (λ x. read-same S H e t x refl) old.1.1))
    ];
    gone = λ t lt none. elim (cases_eq t (length kept)) [
      | inl same ↦ absurd (some-none (kept_at (kept ++ Some k ∷ []) t) k none (kept-last kept t (Some k) ∙ rw (eq-eqb t (length kept) same) refl))
      | inr other ↦
          let many = follow.counted in
          let plus = (more S H tag view asked bytes setup legal may) in
          collected-same H e t refl ∙ follow.gone t (omega (arith, other)) (sym (kept-last kept t (Some k) ∙ rw (ne_eqb t (length kept) other) refl) ∙ none)
    ];
  }

  pub queue-accept : (queue : List Sub) (parts : Parts) → AreParts S.geometry (from_of S q) (until_of S q) parts → queue ≡ map (sub_of (size_of S)) (units_left S H)
      → queue ++ subs_of_request S.geometry (token_count H) asked.kind parts ≡ map (sub_of (size_of S)) (units_left S (e ∷ H))
  queue-accept queue parts are is =
      ap (λ old. old ++ subs_of_request S.geometry (token_count H) asked.kind parts) is
      ∙ ap (λ own. map (sub_of (size_of S)) (units_left S H) ++ own) (subs-of-tasks S q (token_count H) parts are)
      ∙ sym (map-append (sub_of (size_of S)) (units_left S H) (todos_of S (token_count H) q))
      ∙ sym (ap (map (sub_of (size_of S))) (pending-accept S H tag view asked bytes setup (legal-accept S H tag view asked bytes setup legal may)))

  pub ready-accept : (ready : ℕ → Type 0) → AreReady S H ready → (changes_bytes asked.kind ≡ true → mark_of S (e ∷ H) (token_count H) ≡ None → (b : ℕ) → group_low S q ≤ b → b < group_high S q → ready b) → AreReady S (e ∷ H) ready
  ready-accept ready are now t b was open_now named changes low high = elim (cases_eq t (token_count H)) [
    | inl same ↦
        let here : q ≡ was = same_Some q was (sym (subst (λ u. request (e ∷ H) u ≡ Some q) (sym same) (request-accept H tag view asked bytes)) ∙ named) in
        now (ap (λ x. changes_bytes x.asked.kind) here ∙ changes) (subst (λ u. mark_of S (e ∷ H) u ≡ None) same open_now.unmarked) b
        (subst (λ x. group_low S x ≤ b) (sym here) low) (subst (λ x. b < group_high S x) (sym here) high)
    | inr other ↦ are t b was (open-before S H e t other open_now) (sym (request-kept H e t other) ∙ named) changes low high
  ]

module _ {M : Type 0} (device : M → Device) (prepared : M → ℕ → Type 0) (drive : DriveState M) (c : Core) (sound : IsDisk device prepared drive c) (tag : ℕ) (view : View) (asked : Asked) (bytes : List ℕ)
    (legal : IsLegal (setup_of device drive c.protected_at_first) c.history.entries) (may : MayAccept (setup_of device drive c.protected_at_first) c.history.entries view asked bytes) where
  abbrev S : Setup
  S = setup_of device drive c.protected_at_first

  abbrev asks : Request
  asks = record { tag = tag; view = view; asked = asked; bytes = bytes }

  abbrev entry : Entry
  entry = Accept tag view asked bytes

  pub accept-sound : (r : Record) (buffer : List ℕ) (owed : ℕ) (parts : Parts) → IsNew S c.history.entries tag view asked bytes sound.geometry legal may r buffer
      → AreParts S.geometry (from_of S asks) (until_of S asks) parts → length buffer ≡ buffer_length asked.kind asked.length → (asked.kind ≡ Write → buffer ≡ bytes)
      → owed_entries S (entry ∷ c.history.entries) ≤ owed_entries S c.history.entries + owed → c.owed + owed + 1 ≤ c.history.spare
      → (changes_bytes asked.kind ≡ true → mark_of S (entry ∷ c.history.entries) (token_count c.history.entries) ≡ None → (m : M) → medium_in drive ≡ Some m → (b : ℕ) → group_low S asks ≤ b → b < group_high S asks → prepared m b)
      → IsDisk device prepared drive (after_accept c entry owed (c.tokens ++ Some r ∷ []) (c.queue ++ subs_of_request c.blocks c.accepted asked.kind parts))
  unfolding state_of after_accept
  accept-sound r buffer owed parts is are long written more_owed places now =
      let H = c.history.entries in
      let many : token_count H ≡ length c.tokens = sym sound.facts.tokens.counted ∙ length-kept c.tokens in
      record {
        setup = refl;
        geometry = sound.geometry;
        facts = record {
          legal = legal-accept S H tag view asked bytes sound.geometry legal may;
          media = λ i d there. era-still S H entry (suc i) d refl (sound.facts.media i d there);
          tokens = subst (KeptFollow S (entry ∷ H)) (sym (kept-added c.tokens r))
              (kept-accept S H tag view asked bytes sound.geometry legal may (kept_of c.tokens) (kept_from r) (ap length is.kept ∙ long) (λ writes. is.kept ∙ written writes) sound.facts.tokens);
          gates = gates-accept S H tag view asked bytes sound.geometry legal may c.gates sound.facts.gates;
        };
        drive_follows = drive-accept S H tag view asked bytes sound.geometry legal may device drive sound.drive_follows;
        records = records-accept S H tag view asked bytes sound.geometry legal may c.tokens r buffer many is sound.records;
        queue = ap (λ G. c.queue ++ subs_of_request G c.accepted asked.kind parts) sound.fitted.blocks ∙ ap (λ n. c.queue ++ subs_of_request S.geometry n asked.kind parts) sound.fitted.accepts
            ∙ queue-accept S H tag view asked bytes sound.geometry legal may c.queue parts are sound.queue;
        holders = holders-accept S H tag view asked bytes sound.geometry legal may c.gates c.holders.items (vec_capacity c.holders) sound.holders;
        room = (let before = sound.room.owed in let few = sound.room.few in record { owed = omega arith; places = omega arith; few = omega arith });
        ready = λ m there. ready-accept S H tag view asked bytes sound.geometry legal may (prepared m) (sound.ready m there) (λ changes open_. now changes open_ m there);
        fitted = record {
          blocks = sound.fitted.blocks;
          accepts = ap (λ n. n + 1) sound.fitted.accepts ∙ sym (accepted-more H entry refl);
          fetches_are = sound.fitted.fetches_are ∙ sym (fetches-same H entry refl);
          group = sound.fitted.group;
          zeros = sound.fitted.zeros;
        };
      }
