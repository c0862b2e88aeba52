-- The buffer of a read once a get has put its bytes there.
use Rattle.std.proofs.Common.{◌≡◌, ◌≢◌, ℕ, zero, suc, ◌+◌, ◌-◌, ◌<◌, ◌≤◌, inl, inr, true, false, List, [], ◌∷◌, length, map, slice_get, Option, None, Some, refl, sym, ◌∙◌, ap, subst, arith}
use Rattle.std.specs.Prelude.{slice_set}
use Rattle.std.specs.Option.{option_map}
use Rattle.std.proofs.lemmas.Bool.{cases_Bool, cases_eq, cases_lt}
use Rattle.std.proofs.lemmas.List.{length-set, map-set}
use Rattle.std.proofs.lemmas.Option.{same_Some, none-some}
use Rattle.byte_lists.specs.Patching.{patch}
use Rattle.byte_lists.proofs.Patched.{length-patch}
use Rattle.byte_lists.proofs.Patches.{patch-in, patch-before, patch-behind, part-byte}
use Rattle.medium.specs.Device.{AreToldAt}
use Rattle.disk_split.specs.declared.span.Span.{Span}
use Rattle.disk_split.specs.Units.{IsUnit}
use Rattle.history.specs.declared.entry.Kind.TheVariants.{Read, Write}
use Rattle.history.specs.declared.entry.Command.TheVariants.{Get}
use Rattle.history.specs.declared.entry.Entry.{Entry}
use Rattle.history.specs.declared.entry.Entry.TheVariants.{Done}
use Rattle.history.specs.Setup.{Setup}
use Rattle.history.specs.Eras.{media_id_of}
use Rattle.history.specs.Tokens.{Request, token_count, request, was_collected, from_of, until_of}
use Rattle.history.specs.Contents.{contents, byte_at}
use Rattle.history_laws.proofs.CountLemmas.{accepted-same}
use Rattle.history_laws.proofs.TokenLemmas.{request-stays, collected-same, bytes_read-other, bytes_read-get, bytes_read-kept, done-concerns}
use Rattle.history_laws.proofs.UnitLemmas.{is_within, within-from, within-parts, lies-in-unit}
use Rattle.token_table.specs.declared.record.Record.{Record}
use Rattle.token_table.specs.Records.{Records, record_at, with_change, IsShown}
use Rattle.disk_core.specs.State.{Kept, kept_at}
use Rattle.disk_core.specs.Facts.{IsBuffer, KeptFollow, HasBytesRead}
use Rattle.disk_core.specs.Parts.{kept_from, kept_of}
use Rattle.disk_core.specs.Inside.{Tracks, RecordsFollow}
use Rattle.disk_core.specs.Moves.{with_bytes_in}
use Rattle.disk_core.proofs.Over.{buffer-same}
use Rattle.disk_core.proofs.Kept.{each-changed}

-- records do not see the bytes of a buffer
tracks-put : (S : Setup) (H : List Entry) (t place : ℕ) (piece : List ℕ) (r : Record) (q : Request) → Tracks S H t r q → Tracks S H t (with_bytes_in place piece r) q
unfolding with_bytes_in
tracks-put S H t place piece r q is = record { named = is.named; viewed = is.viewed; asked = is.asked; begins = is.begins; mark = is.mark; left = is.left }

shown-put : (place : ℕ) (piece : List ℕ) (r : Record) → IsShown r → IsShown (with_bytes_in place piece r)
unfolding IsShown with_bytes_in
shown-put place piece r is = is

pub records-put : (S : Setup) (H : List Entry) (t place : ℕ) (piece : List ℕ) (records : Records) → RecordsFollow S H records → RecordsFollow S H (with_change (with_bytes_in place piece) records t)
records-put S H t place piece records follow = record {
  each = each-changed (with_bytes_in place piece) records t (λ u r. (q : Request) × Tracks S H u r q) (λ u r. (q : Request) × Tracks S H u r q) follow.each (λ u r other old. old)
      (λ r old. (old.0, tracks-put S H t place piece r old.0 old.1));
  shown = record {
    each = each-changed (with_bytes_in place piece) records t (λ u r. IsShown r) (λ u r. IsShown r) follow.shown.each (λ u r other shown. shown) (λ r shown. shown-put place piece r shown);
  };
}

put-from : (place : ℕ) (piece : List ℕ) (r : Record) → kept_from (with_bytes_in place piece r) ≡ record (kept_from r) { buffer = patch r.request.buffer place piece }
unfolding with_bytes_in
put-from place piece r = refl

-- what callers see of it
pub kept-put : (t place : ℕ) (piece : List ℕ) (records : Records) (own : Record) → record_at records t ≡ Some own
    → kept_of (with_change (with_bytes_in place piece) records t) ≡ slice_set (kept_of records) t (Some (record (kept_from own) { buffer = patch own.request.buffer place piece }))
unfolding kept_of with_change
kept-put t place piece records own there =
    map-set (option_map kept_from) records t (option_map (with_bytes_in place piece) (record_at records t))
    ∙ ap (λ o. slice_set (map (option_map kept_from) records) t (option_map kept_from (option_map (with_bytes_in place piece) o))) there
    ∙ ap (λ k. slice_set (map (option_map kept_from) records) t (Some k)) (put-from place piece own)

pub at-set : (kept : List (Option Kept)) (t : ℕ) (old new : Kept) → kept_at kept t ≡ Some old → kept_at (slice_set kept t (Some new)) t ≡ Some new
unfolding kept_at
at-set [] t old new there = absurd (none-some old there)
at-set (k ∷ kept) zero old new there = refl
at-set (k ∷ kept) (suc t) old new there = at-set kept t old new there

pub at-other : (kept : List (Option Kept)) (t u : ℕ) (new : Kept) → t ≢ u → kept_at (slice_set kept t (Some new)) u ≡ kept_at kept u
unfolding kept_at
at-other [] t u new other = refl
at-other (k ∷ kept) zero zero new other = absurd (other refl)
at-other (k ∷ kept) zero (suc u) new other = refl
at-other (k ∷ kept) (suc t) zero new other = refl
at-other (k ∷ kept) (suc t) (suc u) new other = at-other kept t u new (λ same. other (ap suc same))

told-byte : (told : Option (List ℕ)) (low x v : ℕ) (piece : List ℕ) → AreToldAt told low piece → low ≤ x → x < low + length piece → byte_at told x ≡ Some v → slice_get piece (x - low) ≡ Some v
told-byte None low x v piece are from until read = absurd (none-some v read)
told-byte (Some bytes) low x v piece are from until read =
    ap (λ p. slice_get p (x - low)) are ∙ (part-byte bytes low (length piece) (x - low) (omega arith) ∙ (ap (slice_get bytes) (omega arith) ∙ read))

-- the get of a unit
module _ (S : Setup) (H : List Entry) (t : ℕ) (q : Request) (u : Span) (unit : IsUnit S.geometry (from_of S q) (until_of S q) u) (piece : List ℕ) (counted : length piece ≡ u.high - u.low) (told : AreToldAt (contents S (media_id_of H) H) u.low piece) where
  abbrev Now : List Entry
  Now = Done t (Get u.block u.count) ∷ H

  abbrev place : ℕ
  place = u.low - from_of S q

  -- it is where the bytes of the read are
  put-read : (buffer : List ℕ) → length buffer ≡ q.asked.length → HasBytesRead S H t q buffer → HasBytesRead S Now t q (patch buffer place piece)
  put-read buffer long had x v from until read =
      let low = unit.low in let high = unit.high in let some = unit.some in
      let fits : place + length piece ≤ length buffer = omega arith in
      elim (cases_Bool (is_within u x)) [
        | inl within ↦
            let parts = within-parts u x within in
            let lies = lies-in-unit S (from_of S q) (until_of S q) x u unit from until ∙ within in
            let got = sym (bytes_read-get S H t x (Get u.block u.count) refl lies) ∙ read in
            patch-in buffer place piece (x - from_of S q) fits (let lo = parts.0 in omega arith) (let lo = parts.0 in let hi = parts.1 in omega arith)
            ∙ (ap (slice_get piece) (let lo = parts.0 in omega arith) ∙ told-byte (contents S (media_id_of H) H) u.low x v piece told parts.0 (let hi = parts.1 in omega arith) got)
        | inr outside ↦
            let lies = lies-in-unit S (from_of S q) (until_of S q) x u unit from until ∙ outside in
            let old = had x v from until (sym (bytes_read-kept S H t x (Get u.block u.count) lies) ∙ read) in
            elim (cases_lt x u.low) [
              | inl below ↦ patch-before buffer place piece (x - from_of S q) fits (omega arith) ∙ old
              | inr above ↦
                  elim (cases_lt x u.high) [
                    | inl inside ↦ absurd (no-way (sym outside ∙ within-from u x above inside))
                    | inr behind ↦ patch-behind buffer place piece (x - from_of S q) fits (omega arith) ∙ old
                  ]
            ]
      ]
    where
      no-way : false ≡ true → ⊥
      no-way e = cc

  put-buffer : (buffer : List ℕ) → q.asked.kind ≡ Read → IsBuffer S H t q buffer → IsBuffer S Now t q (patch buffer place piece)
  put-buffer buffer reads is =
      let low = unit.low in let high = unit.high in let some = unit.some in
      let long : length buffer ≡ q.asked.length = is.long ∙ rw reads refl in
      record {
        named = request-stays H (Done t (Get u.block u.count)) t q is.named;
        long = length-patch buffer place piece (omega arith) ∙ is.long;
        bytes = λ writes. absurd (no-way (sym reads ∙ writes));
        given = λ same. put-read buffer long (is.given same);
      }
    where
      no-way : Read ≡ Write → ⊥
      no-way e = cc

  -- the kept buffers with the bytes of the get
  pub kept-got : (kept : List (Option Kept)) (was : Kept) → q.asked.kind ≡ Read → request H t ≡ Some q → kept_at kept t ≡ Some was → KeptFollow S H kept → KeptFollow S Now (slice_set kept t (Some (record was { buffer = patch was.buffer place piece })))
  kept-got kept was reads named here follow = record {
    counted = length-set kept t (Some new) ∙ follow.counted ∙ sym (accepted-same H (Done t (Get u.block u.count)) refl);
    there = there;
    gone = gone;
  }
    where
      new : Kept
      new = record was { buffer = patch was.buffer place piece }

      there : (v : ℕ) (k : Kept) → kept_at (slice_set kept t (Some new)) v ≡ Some k → (was_collected Now v ≡ false) × ((p : Request) × IsBuffer S Now v p k.buffer)
      there v k is = elim (cases_eq t v) [
        | inr other ↦
            (let old = follow.there v k (sym (at-other kept t v new other) ∙ is) in
            (collected-same H (Done t (Get u.block u.count)) v refl ∙ old.0, (old.1.0, buffer-same S H (Done t (Get u.block u.count)) v old.1.0 k.buffer (λ x. bytes_read-other S H (Done t (Get u.block u.count)) v x (done-concerns H t v (Get u.block u.count) other)) old.1.1)))
        | inl same ↦
            (let old = follow.there t was here in
            let mine : new ≡ k = same_Some new k (sym (at-set kept t was new here) ∙ (ap (kept_at (slice_set kept t (Some new))) same ∙ is)) in
            let one : old.1.0 ≡ q = same_Some old.1.0 q (sym old.1.1.named ∙ named) in
            let buffer : IsBuffer S H t q was.buffer = subst (λ p. IsBuffer S H t p was.buffer) one old.1.1 in (
              collected-same H (Done t (Get u.block u.count)) v refl ∙ subst (λ w. was_collected H w ≡ false) same old.0,
              (q, subst (λ w. IsBuffer S Now w q k.buffer) same (subst (λ (n : Kept). IsBuffer S Now t q n.buffer) mine (put-buffer was.buffer reads buffer))),
            ))
      ]

      gone : (v : ℕ) → v < token_count Now → kept_at (slice_set kept t (Some new)) v ≡ None → was_collected Now v ≡ true
      gone v lt none = elim (cases_eq t v) [
        | inl same ↦ absurd (none-some new (sym (ap (kept_at (slice_set kept t (Some new))) same ∙ none) ∙ at-set kept t was new here))
        | inr other ↦ collected-same H (Done t (Get u.block u.count)) v refl ∙ follow.gone v (subst (λ n. v < n) (accepted-same H (Done t (Get u.block u.count)) refl) lt) (sym (at-other kept t v new other) ∙ none)
      ]
