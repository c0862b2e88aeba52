-- Records, buffers and holders through an entry or an end, by what it leaves of the history.
use Rattle.std.proofs.Common.{◌≡◌, ◌≢◌, ℕ, ◌*◌, ◌<◌, List, ◌∷◌, Option, None, Some, refl, sym, ◌∙◌, subst}
use Rattle.efi_status.specs.declared.Status.{Status}
use Rattle.history.specs.declared.entry.Entry.{Entry}
use Rattle.medium.specs.Device.{Device, AreToldAt}
use Rattle.drive.specs.Drives.{DriveState}
use Rattle.history.specs.Setup.{Setup, size_of}
use Rattle.history.specs.Eras.{media_id_of, is_present, is_protected}
use Rattle.history.specs.Tokens.{Request, token_count, was_collected}
use Rattle.history.specs.Contents.{contents, bytes_read}
use Rattle.history.specs.Marks.{fetches, HoldsBy}
use Rattle.history_laws.specs.Left.{left_of}
use Rattle.history_laws.proofs.TokenLemmas.{request-stays}
use Rattle.block_gate.specs.Gates.{Gates}
use Rattle.token_table.specs.declared.record.Record.{Record}
use Rattle.token_table.specs.Records.{Records, with_change, ended_record, word_for, IsShown}
use Rattle.disk_core.specs.declared.parts.Holder.{Holder}
use Rattle.disk_core.specs.State.{Kept}
use Rattle.disk_core.specs.Facts.{IsBuffer, KeptFollow, GatesFollow}
use Rattle.disk_core.specs.Inside.{TracksBy, RecordsBy, HoldersFollow, DriveFollows}
use Rattle.disk_core.proofs.Kept.{each-changed}

-- gates through what changes no holder, no fetch and no byte of the medium that is in
pub gates-over : (S : Setup) (H H' : List Entry) (gates : Gates) → ((t b k : ℕ) → HoldsBy S H' t b k → HoldsBy S H t b k) → ((t b k : ℕ) → HoldsBy S H t b k → HoldsBy S H' t b k) → contents S (media_id_of H') H' ≡ contents S (media_id_of H) H
    → fetches H' ≡ fetches H → GatesFollow S H gates → GatesFollow S H' gates
gates-over S H H' gates was now same count follow = record {
  sized = follow.sized;
  each = λ k g there. (let t = (follow.each k g there).0 in let is = (follow.each k g there).1 in
      (t, record { holds = now t g.block k is.holds; lent = is.lent; copied = subst (λ told. AreToldAt told (g.block * size_of S) g.copy) (sym same) is.copied }));
  all = λ t b k holds. follow.all t b k (was t b k holds);
  below = λ k out. subst (λ n. k < n) (sym count) (follow.below k out);
}

-- the drive through what changes neither the medium that is in nor its protection
pub drive-over : {M : Type 0} (device : M → Device) (S : Setup) (H H' : List Entry) (drive : DriveState M) → media_id_of H' ≡ media_id_of H → is_present H' ≡ is_present H → is_protected S H' ≡ is_protected S H → DriveFollows device S H drive → DriveFollows device S H' drive
drive-over device S H H' drive id stays_in locked follow = record { shape = follow.shape; fit = follow.fit; media_id = follow.media_id ∙ sym id; present = follow.present ∙ sym stays_in; protected = follow.protected ∙ sym locked }

-- holders through what changes no holder
pub holders-over : (S : Setup) (H H' : List Entry) (gates : Gates) (holders : List Holder) (places : ℕ) → ((t b k : ℕ) → HoldsBy S H' t b k → HoldsBy S H t b k) → ((t b k : ℕ) → HoldsBy S H t b k → HoldsBy S H' t b k)
    → HoldersFollow S H gates holders places → HoldersFollow S H' gates holders places
holders-over S H H' gates holders places was now follow = record {
  each = λ k t b holds. follow.each k t b (was t b k holds);
  only = λ k t there. (let h = follow.only k t there in (h.0, now t h.0 k h.1));
  apart = follow.apart;
  paired = follow.paired;
  rising = follow.rising;
  fits = follow.fits;
}

-- the record of a token through an entry that leaves its mark and what is left of it
pub tracks-over : (S : Setup) (H : List Entry) (e : Entry) (t : ℕ) (r : Record) (q : Request) (marks marks' : ℕ → Option Status) → marks' t ≡ marks t → left_of S (e ∷ H) t q ≡ left_of S H t q → TracksBy S H marks t r q → TracksBy S (e ∷ H) marks' t r q
tracks-over S H e t r q marks marks' mark left is = record {
  named = request-stays H e t q is.named;
  viewed = is.viewed;
  asked = is.asked;
  begins = is.begins;
  mark = mark ∙ is.mark;
  left = λ unended. is.left unended ∙ sym left;
}

pub buffer-same : (S : Setup) (H : List Entry) (e : Entry) (t : ℕ) (q : Request) (buffer : List ℕ) → ((x : ℕ) → bytes_read S (e ∷ H) t x ≡ bytes_read S H t x) → IsBuffer S H t q buffer → IsBuffer S (e ∷ H) t q buffer
buffer-same S H e t q buffer same is = record {
  named = request-stays H e t q is.named;
  long = is.long;
  bytes = is.bytes;
  given = λ reads x v from until read. is.given reads x v from until (sym (same x) ∙ read);
}

-- the buffers, where an entry accepts and collects none and changes nothing that was read
pub kept-over : (S : Setup) (H : List Entry) (e : Entry) (kept : List (Option Kept)) → token_count (e ∷ H) ≡ token_count H → ((u : ℕ) → was_collected (e ∷ H) u ≡ was_collected H u) → ((u x : ℕ) → bytes_read S (e ∷ H) u x ≡ bytes_read S H u x)
    → KeptFollow S H kept → KeptFollow S (e ∷ H) kept
kept-over S H e kept count collected same follow = record {
  counted = follow.counted ∙ sym count;
  there = λ u k is. (let old = follow.there u k is in (collected u ∙ old.0, (old.1.0, buffer-same S H e u old.1.0 k.buffer (same u) old.1.1)));
  gone = λ u lt none. collected u ∙ follow.gone u (subst (λ n. u < n) count lt) none;
}

-- the records after one more end
pub records-step : (S : Setup) (H : List Entry) (marks marks' : ℕ → Option Status) (records : Records) (t : ℕ) (status : Status) → marks' t ≡ Some status → ((u : ℕ) → u ≢ t → marks' u ≡ marks u)
    → RecordsBy S H marks records → RecordsBy S H marks' (with_change (ended_record status) records t)
unfolding ended_record IsShown word_for
records-step S H marks marks' records t status here away follow = record {
  each = each-changed (ended_record status) records t (λ u r. (q : Request) × TracksBy S H marks u r q) (λ u r. (q : Request) × TracksBy S H marks' u r q) follow.each
      (λ u r other was. (
        was.0,
        record { named = was.1.named; viewed = was.1.viewed; asked = was.1.asked; begins = was.1.begins; mark = away u (λ same. other (sym same)) ∙ was.1.mark; left = was.1.left },
      ))
      (λ r was. (was.0, record { named = was.1.named; viewed = was.1.viewed; asked = was.1.asked; begins = was.1.begins; mark = here; left = λ never. absurd (some-none never) }));
  shown = record { each = each-changed (ended_record status) records t (λ u r. IsShown r) (λ u r. IsShown r) follow.shown.each (λ u r other shown. shown) (λ r shown. refl) };
}
  where
    some-none : Some status ≡ None → ⊥
    some-none e = cc

-- the records by other marks that say the same
pub records-follow : (S : Setup) (H : List Entry) (marks marks' : ℕ → Option Status) (records : Records) → ((u : ℕ) → marks u ≡ marks' u) → RecordsBy S H marks records → RecordsBy S H marks' records
records-follow S H marks marks' records same far = record {
  each = λ u r there. (let old = far.each u r there in (old.0, record { named = old.1.named; viewed = old.1.viewed; asked = old.1.asked; begins = old.1.begins; mark = sym (same u) ∙ old.1.mark; left = old.1.left }));
  shown = far.shown;
}
