-- An ended request is handed back.
use Rattle.std.proofs.Common.{◌≡◌, ◌≢◌, ℕ, suc, ◌<◌, inl, inr, true, false, List, ◌∷◌, map, Option, None, Some, refl, sym, ◌∙◌, ap, subst, arith, IsSome, Result, Ok, Err, OnOk, OnErr}
use Rattle.std.specs.Prelude.{slice_set, vec_capacity}
use Rattle.std.specs.Option.{option_map}
use Rattle.std.proofs.lemmas.Bool.{cases_eq, cases_lt}
use Rattle.std.proofs.lemmas.List.{length-set}
use Rattle.efi_status.specs.declared.Status.{Status}
use Rattle.medium.specs.Device.{Device}
use Rattle.drive.specs.Drives.{DriveState, devices_of}
use Rattle.history.specs.declared.entry.Entry.{Entry}
use Rattle.history.specs.declared.entry.Entry.TheVariants.{Collect}
use Rattle.history.specs.Setup.{Setup, size_of}
use Rattle.history.specs.Tokens.{Request, token_count, was_collected}
use Rattle.history.specs.Rules.{MayFollow, IsLegal}
use Rattle.history_laws.proofs.TokenLemmas.{collected-collect, request-accepted}
use Rattle.history_laws.proofs.PendingLemmas.{pending-collect}
use Rattle.history_laws.proofs.SpareLemmas.{entries-collect}
use Rattle.token_table.specs.declared.record.Record.{Record}
use Rattle.token_table.specs.declared.record.Done.{Done}
use Rattle.token_table.specs.declared.record.NotThere.{NotThere}
use Rattle.token_table.specs.Records.{Records, record_at, without_record, done_at, done_or_fault, done_by, mark_at, mark_of_record, mark_of_end}
use Rattle.subtask_queue.specs.Subs.{sub_of}
use Rattle.disk_core.specs.declared.parts.Core.{Core}
use Rattle.disk_core.specs.State.{Kept, kept_at, setup_of}
use Rattle.disk_core.specs.Facts.{IsBuffer, KeptFollow}
use Rattle.disk_core.specs.Parts.{kept_from, kept_of, state_of}
use Rattle.disk_core.specs.Inside.{RecordsFollow, HasRoom}
use Rattle.disk_core.specs.Calls.{CollectSays, IsUnknown, MarkSays}
use Rattle.disk_core.specs.Moves.{IsDisk, Reaches, HasPlace, with_entry, after_collect}
use Rattle.disk_core.proofs.Following.{era-still}
use Rattle.disk_core.proofs.Kept.{kept-record, kept-without, kept-cleared, kept-others, records-cleared, records-others}
use Rattle.disk_core.proofs.Still.{gates-still, holders-still, drive-still, ready-still, tracks-still, buffer-still}
use Rattle.history_laws.proofs.StillLemmas.{accepted-still, fetches-still}
use Rattle.history_laws.proofs.QuietLemmas.{IsStill}
use Rattle.disk_core.proofs.Plain.{some-none}
use Rattle.history_laws.proofs.QuietLemmas.{other-collect, still-collect}

collect-kept : (S : Setup) (H : List Entry) (tag t : ℕ) (kept : List (Option Kept)) → IsStill S H (Collect tag t) → KeptFollow S H kept → KeptFollow S (Collect tag t ∷ H) (slice_set kept t None)
collect-kept S H tag t kept still follow = record {
  counted = length-set kept t None ∙ follow.counted ∙ sym (accepted-still S H (Collect tag t) still);
  there = there;
  gone = gone;
}
  where
    apart : (u : ℕ) (k : Kept) → kept_at (slice_set kept t None) u ≡ Some k → t ≢ u
    apart u k is same = some-none (kept_at (slice_set kept t None) u) k (subst (λ v. kept_at (slice_set kept t None) v ≡ None) same (kept-cleared kept t)) is

    there : (u : ℕ) (k : Kept) → kept_at (slice_set kept t None) u ≡ Some k → (was_collected (Collect tag t ∷ H) u ≡ false) × ((q : Request) × IsBuffer S (Collect tag t ∷ H) u q k.buffer)
    there u k is =
        let other = apart u k is in
        let old = follow.there u k (sym (kept-others kept t u other) ∙ is) in
        (other-collect H tag t u other ∙ old.0, (old.1.0, buffer-still S H (Collect tag t) still u old.1.0 k.buffer old.1.1))

    gone : (u : ℕ) → u < token_count (Collect tag t ∷ H) → kept_at (slice_set kept t None) u ≡ None → was_collected (Collect tag t ∷ H) u ≡ true
    gone u lt none = elim (cases_eq t u) [
      | inl same ↦ subst (λ v. was_collected (Collect tag t ∷ H) v ≡ true) same (collected-collect H tag t)
      | inr other ↦ other-collect H tag t u other ∙ follow.gone u (subst (λ n. u < n) (accepted-still S H (Collect tag t) still) lt) (sym (kept-others kept t u other) ∙ none)
    ]

collect-records : (S : Setup) (H : List Entry) (tag t : ℕ) (records : Records) → IsStill S H (Collect tag t) → RecordsFollow S H records → RecordsFollow S (Collect tag t ∷ H) (without_record records t)
collect-records S H tag t records still follow = record {
  each = λ u r is. (let old = follow.each u r (before u r is) in (old.0, tracks-still S H (Collect tag t) still u r old.0 old.1));
  shown = record { each = λ u r is. follow.shown.each u r (before u r is) };
}
  where
    before : (u : ℕ) (r : Record) → record_at (without_record records t) u ≡ Some r → record_at records u ≡ Some r
    before u r is = elim (cases_eq t u) [
      | inl same ↦ absurd (some-none (record_at (without_record records t) u) r (subst (λ v. record_at (without_record records t) v ≡ None) same (records-cleared records t)) is)
      | inr other ↦ sym (records-others records t u other) ∙ is
    ]

collect-room : (S : Setup) (c : Core) (tag t : ℕ) → IsLegal S c.history.entries → MayFollow S c.history.entries (Collect tag t) → HasRoom S c → HasRoom S (after_collect c tag t)
unfolding after_collect with_entry
collect-room S c tag t legal may room =
    let less = entries-collect S c.history.entries tag t legal may in
    let owed = room.owed in let places = room.places in let few = room.few in
    record { owed = omega arith; places = omega arith; few = omega arith }

pub collect-sound : {M : Type 0} (device : M → Device) (prepared : M → ℕ → Type 0) (drive : DriveState M) (c : Core) (tag t : ℕ) → IsDisk device prepared drive c
    → MayFollow (setup_of device drive c.protected_at_first) c.history.entries (Collect tag t) → IsDisk device prepared drive (after_collect c tag t)
unfolding state_of after_collect with_entry
collect-sound device prepared drive c tag t sound may =
    let S = setup_of device drive c.protected_at_first in
    let H = c.history.entries in
    let e = Collect tag t in
    let still = still-collect S H tag t sound.geometry sound.facts.legal may in
    record {
      setup = refl;
      geometry = sound.geometry;
      facts = record {
        legal = still.legal;
        media = λ i d is. era-still S H e (suc i) d refl (sound.facts.media i d is);
        tokens = subst (KeptFollow S (e ∷ H)) (sym (kept-without c.tokens t)) (collect-kept S H tag t (kept_of c.tokens) still sound.facts.tokens);
        gates = gates-still S H e still c.gates sound.facts.gates;
      };
      drive_follows = drive-still S H e still device drive sound.drive_follows;
      records = collect-records S H tag t c.tokens still sound.records;
      queue = sound.queue ∙ ap (map (sub_of (size_of S))) (sym (pending-collect S H tag t));
      holders = holders-still S H e still c.gates c.holders.items (vec_capacity c.holders) sound.holders;
      room = collect-room S c tag t sound.facts.legal may sound.room;
      ready = λ m is. ready-still S H e still (prepared m) (sound.ready m is);
      fitted = record {
        blocks = sound.fitted.blocks;
        accepts = sound.fitted.accepts ∙ sym (accepted-still S H e still);
        fetches_are = sound.fitted.fetches_are ∙ sym (fetches-still S H e still);
        group = sound.fitted.group;
        zeros = sound.fitted.zeros;
      };
    }

module _ {M : Type 0} (device : M → Device) (prepared : M → ℕ → Type 0) (drive : DriveState M) (c : Core) (tag n : ℕ) (sound : IsDisk device prepared drive c) where
  record-may : (r : Record) (status : Status) → record_at c.tokens n ≡ Some r → r.ended ≡ Some status → MayFollow (setup_of device drive c.protected_at_first) c.history.entries (Collect tag n)
  unfolding state_of MayFollow
  record-may r status is ended =
      let tracks = (sound.records.each n r is).1 in
      (subst IsSome (sym (tracks.mark ∙ ended)) refl, (sound.facts.tokens.there n (kept_from r) (kept-record c.tokens n ∙ ap (option_map kept_from) is)).0)

  may-place : MayFollow (setup_of device drive c.protected_at_first) c.history.entries (Collect tag n) → HasPlace c × (0 < c.owed)
  unfolding state_of
  may-place may =
      let less = entries-collect (setup_of device drive c.protected_at_first) c.history.entries tag n sound.facts.legal may in
      let owed = sound.room.owed in let places = sound.room.places in
      (omega arith, omega arith)

  pub collect-place : OnOk (done_at c.tokens n) (HasPlace c × (0 < c.owed))
  unfolding done_at
  collect-place = by (record_at c.tokens n) refl
    where
      ends : (r : Record) (s : Option Status) → record_at c.tokens n ≡ Some r → r.ended ≡ s → OnOk (done_by s r.request.buffer) (HasPlace c × (0 < c.owed))
      ends r None is ended = tt
      ends r (Some status) is ended = may-place (record-may r status is ended)

      by : (m : Option Record) → record_at c.tokens n ≡ m → OnOk (done_or_fault m) (HasPlace c × (0 < c.owed))
      by None is = tt
      by (Some r) is = ends r r.ended is refl

  pub unknown-from : record_at c.tokens n ≡ None → IsUnknown (state_of device drive c) n
  unfolding state_of
  unknown-from is = elim (cases_lt n (token_count c.history.entries)) [
    | inl lt ↦ inr (sound.facts.tokens.gone n lt (kept-record c.tokens n ∙ ap (option_map kept_from) is))
    | inr le ↦ inl le
  ]

  mark-ended : (r : Record) (s : Option Status) → record_at c.tokens n ≡ Some r → r.ended ≡ s → MarkSays (state_of device drive c) n (mark_of_end s)
  unfolding state_of MarkSays
  mark-ended r None is ended = (let tracks = (sound.records.each n r is).1 in (request-accepted c.history.entries n (sound.records.each n r is).0 tracks.named, tracks.mark ∙ ended))
  mark-ended r (Some status) is ended =
      (let tracks = (sound.records.each n r is).1 in (tracks.mark ∙ ended, (sound.facts.tokens.there n (kept_from r) (kept-record c.tokens n ∙ ap (option_map kept_from) is)).0))

  pub mark-says : MarkSays (state_of device drive c) n (mark_at c.tokens n)
  unfolding MarkSays mark_at
  mark-says = by (record_at c.tokens n) refl
    where
      by : (m : Option Record) → record_at c.tokens n ≡ m → MarkSays (state_of device drive c) n (mark_of_record m)
      by None is = unknown-from is
      by (Some r) is = mark-ended r r.ended is refl

  collects : (r : Record) (status : Status) → record_at c.tokens n ≡ Some r → r.ended ≡ Some status
      → CollectSays (state_of device drive c) tag n (Ok (record { status = status; buffer = r.request.buffer })) (state_of device drive (after_collect c tag n))
  unfolding state_of CollectSays after_collect with_entry MayFollow IsLegal
  collects r status is ended =
      let tracks = (sound.records.each n r is).1 in
      let there = kept-record c.tokens n ∙ ap (option_map kept_from) is in
      let kept = sound.facts.tokens.there n (kept_from r) there in
      let q = kept.1.0 in
      let buffer = kept.1.1 in (
        q,
        kept_from r,
        record {
          named = buffer.named;
          marked = tracks.mark ∙ ended;
          uncollected = kept.0;
          there = there;
          handed_back = refl;
          written = buffer.bytes;
          read = buffer.given;
          long = buffer.long;
          new_is = ap (λ k. record {
            setup = setup_of device drive c.protected_at_first;
            entries = Collect tag n ∷ c.history.entries;
            kept = k;
            gates = c.gates;
            devices = devices_of device drive;
          }) (kept-without c.tokens n);
          legal = (sound.facts.legal, record-may r status is ended);
        },
      )

  abbrev pub Goal : Result Done NotThere → Type 0
  Goal result = (c' : Core) → OnOk result (c' ≡ after_collect c tag n) → OnErr result (c' ≡ c) → Reaches device prepared drive c drive c' (λ s s'. CollectSays s tag n result s')

  ends-reaches : (r : Record) (s : Option Status) → record_at c.tokens n ≡ Some r → r.ended ≡ s → Goal (done_by s r.request.buffer)
  unfolding state_of CollectSays
  ends-reaches r None is ended c' ok err =
      let tracks = (sound.records.each n r is).1 in
      subst (λ d. Reaches device prepared drive c drive d (λ s s'. CollectSays s tag n (Err NotThere.Outstanding) s')) (sym err) (record {
        sound = sound;
        says = (request-accepted c.history.entries n (sound.records.each n r is).0 tracks.named, tracks.mark ∙ ended, refl);
      })
  ends-reaches r (Some status) is ended c' ok err =
      subst (λ d. Reaches device prepared drive c drive d (λ s s'. CollectSays s tag n (Ok (record { status = status; buffer = r.request.buffer })) s')) (sym ok) (record {
        sound = collect-sound device prepared drive c tag n sound (record-may r status is ended);
        says = collects r status is ended;
      })

  record-reaches : (m : Option Record) → record_at c.tokens n ≡ m → Goal (done_or_fault m)
  unfolding CollectSays
  record-reaches None is c' ok err =
      subst (λ d. Reaches device prepared drive c drive d (λ s s'. CollectSays s tag n (Err NotThere.Unknown) s')) (sym err) (record { sound = sound; says = (unknown-from is, refl) })
  record-reaches (Some r) is c' ok err = ends-reaches r r.ended is refl c' ok err

  pub collect-reaches : (result : Result Done NotThere) → result ≡ done_at c.tokens n → Goal result
  unfolding done_at
  collect-reaches result is = subst Goal (sym is) (record-reaches (record_at c.tokens n) refl)
