-- What an accept asks of the medium, and which medium an open token is of.
use Rattle.std.proofs.Common.{◌≡◌, ℕ, ◌+◌, ◌-◌, ◌*◌, ◌<◌, ◌≤◌, inl, inr, Bool, true, false, not, ◌&&◌, ◌||◌, if◌then◌else◌, List, [], ◌∷◌, length, Option, None, Some, refl, sym, subst, ◌∙◌, ap, arith, nat_eq, nat_lt}
use Rattle.std.proofs.lemmas.Bool.{cases_eq, and_parts, or_parts, eqb-true, eq-eqb, ne_eqb, both_ways, lt-ltb, ltb-false}
use Rattle.std.proofs.lemmas.List.{length-replicate}
use Rattle.std.proofs.lemmas.Option.{same_Some}
use Rattle.efi_status.specs.declared.Status.{Status}
use Rattle.efi_status.specs.declared.Status.TheVariants.{InvalidParameter, BadBufferSize, WriteProtected, NoMedia, MediaChanged}
use Rattle.history.specs.declared.entry.View.{View}
use Rattle.history.specs.declared.entry.Kind.{Kind}
use Rattle.history.specs.declared.entry.Kind.TheVariants.{Read, Write, Flush, Erase}
use Rattle.history.specs.declared.entry.Asked.{Asked}
use Rattle.history.specs.declared.entry.Entry.{Entry}
use Rattle.history.specs.declared.entry.Entry.TheVariants.{Accept, Eject, Insert}
use Rattle.history.specs.Setup.{Setup, size_of, blocks_of}
use Rattle.history.specs.Eras.{is_eject, is_insert, media_id_of, is_present, is_protected}
use Rattle.history.specs.Tokens.{Request, token_count, request, request_bytes, bytes_to_put, is_flush, changes_bytes, offset}
use Rattle.history.specs.Marks.{mark_of, ending, IsOutstanding}
use Rattle.history.specs.Rules.{is_ragged, is_outside, range_refusal, refusal_of, IsPayload, MayAccept, MayFollow, IsLegal}
use Rattle.history_laws.specs.Ranges.{IsInView}
use Rattle.history_laws.proofs.CountLemmas.{accepted-more, accepted-same, ejects-same, inserts-same}
use Rattle.history_laws.proofs.EndLemmas.{mark-before, mark-next}

-- a request that is not refused is for the medium that is in, and its range is not refused
pub record IsAdmitted (S : Setup) (H : List Entry) (view : View) (asked : Asked) (media_id : ℕ) : Type 0 where
  pub present : is_present H ≡ true
  pub named : media_id ≡ media_id_of H
  pub viewed : view.media_id ≡ media_id_of H
  pub range : is_flush asked.kind ≡ false → range_refusal S H view asked ≡ None

pub admitted : (S : Setup) (H : List Entry) (view : View) (asked : Asked) (media_id : ℕ) → refusal_of S H view asked media_id ≡ None → IsAdmitted S H view asked media_id
unfolding refusal_of
admitted S H view asked media_id unrefused =
    let (present, same, range) = by (is_present H) (nat_eq media_id (media_id_of H) && nat_eq view.media_id (media_id_of H)) (is_flush asked.kind) (range_refusal S H view asked) unrefused in
    let both : (nat_eq media_id (media_id_of H) ≡ true) × (nat_eq view.media_id (media_id_of H) ≡ true) = and_parts (nat_eq media_id (media_id_of H)) (nat_eq view.media_id (media_id_of H)) same in
    record { present = present; named = eqb-true media_id (media_id_of H) both.0; viewed = eqb-true view.media_id (media_id_of H) both.1; range = range }
  where
    by : (p q f : Bool) (rest : Option Status) → (if not p then Some NoMedia else (if not q then Some MediaChanged else (if f then None else rest))) ≡ None → (p ≡ true) × (q ≡ true) × (f ≡ false → rest ≡ None)
    by false q f rest e = cc
    by true false f rest e = cc
    by true true true rest e = (refl, refl, λ moving. cc)
    by true true false rest e = (refl, refl, λ moving. e)

-- the range of a request that is not refused lies in its view, and that on the medium
pub range-inside : (S : Setup) (H : List Entry) (view : View) (asked : Asked) → range_refusal S H view asked ≡ None
    → (view.start + view.length ≤ blocks_of S (media_id_of H) * size_of S) × (offset S asked + asked.length ≤ view.length)
range-inside S H view asked unrefused =
    let inside : is_outside S (blocks_of S (media_id_of H)) view asked ≡ false = by (changes_bytes asked.kind && is_protected S H) (is_ragged (size_of S) asked.unit asked.length) (is_outside S (blocks_of S (media_id_of H)) view asked) unrefused in
    let (front, ends) = or_parts (nat_lt (blocks_of S (media_id_of H) * size_of S) (view.start + view.length) || nat_lt view.length (offset S asked)) (nat_lt (view.length - offset S asked) asked.length) inside in
    let (view_in, begins) = or_parts (nat_lt (blocks_of S (media_id_of H) * size_of S) (view.start + view.length)) (nat_lt view.length (offset S asked)) front in
    let first : view.start + view.length ≤ blocks_of S (media_id_of H) * size_of S = ltb-false _ _ view_in in
    let low : offset S asked ≤ view.length = ltb-false _ _ begins in
    let high : asked.length ≤ view.length - offset S asked = ltb-false _ _ ends in
    (first, omega arith)
  where
    by : (p q o : Bool) → (if p then Some WriteProtected else (if q then Some BadBufferSize else (if o then Some InvalidParameter else None))) ≡ None → o ≡ false
    by true q o e = cc
    by false true o e = cc
    by false false true e = cc
    by false false false e = refl

-- each request was accepted by a history before
pub accepted-at : (S : Setup) (H : List Entry) (t : ℕ) (r : Request) → IsLegal S H → request H t ≡ Some r → (before : List Entry) × IsLegal S before × MayAccept S before r.view r.asked r.bytes
unfolding IsLegal MayFollow request
accepted-at S [] t r legal named = cc
accepted-at S (Accept tag view asked bytes ∷ H) t r (legal, may) named = elim (cases_eq t (token_count H)) [
  | inl new ↦
      let same : record { tag = tag; view = view; asked = asked; bytes = bytes } ≡ r = same_Some _ r (rw (new, eq-eqb (token_count H) (token_count H) refl) at named) in
      (H, legal, subst (λ (s : Request). MayAccept S H s.view s.asked s.bytes) same may)
  | inr old ↦ accepted-at S H t r legal (rw (ne_eqb t (token_count H) old) at named)
]
accepted-at S (e ∷ H) t r (legal, may) named = accepted-at S H t r legal named

-- the range of a token that moves bytes lies in its view, and that on its medium
pub range-in-view : (S : Setup) (H : List Entry) (t : ℕ) (r : Request) → IsLegal S H → request H t ≡ Some r → is_flush r.asked.kind ≡ false → IsInView S r
range-in-view S H t r legal named moving =
    let (before, was, may) = accepted-at S H t r legal named in
    let is : IsAdmitted S before r.view r.asked r.view.media_id = admitted S before r.view r.asked r.view.media_id may.unrefused in
    let (lies, inside) = range-inside S before r.view r.asked (is.range moving) in
    record { begins = omega arith; ends = omega arith; lies = rw is.viewed lies }

payload-long : (kind : Kind) (n : ℕ) (bytes : List ℕ) → changes_bytes kind ≡ true → IsPayload kind n bytes → length (bytes_to_put kind n bytes) ≡ n
payload-long Write n bytes changes payload = payload
payload-long Erase n bytes changes payload = length-replicate n 0
payload-long Read n bytes changes payload = cc
payload-long Flush n bytes changes payload = cc

-- a token that changes bytes has as many as it asked for
pub bytes-long : (S : Setup) (H : List Entry) (t : ℕ) (r : Request) → IsLegal S H → request H t ≡ Some r → changes_bytes r.asked.kind ≡ true → length (request_bytes r) ≡ r.asked.length
bytes-long S H t r legal named changes =
    let (before, was, may) = accepted-at S H t r legal named in
    payload-long r.asked.kind r.asked.length r.bytes changes may.payload

-- ejections and insertions alone change which medium is in
pub present-same : (H : List Entry) (e : Entry) → is_eject e ≡ false → is_insert e ≡ false → is_present (e ∷ H) ≡ is_present H
present-same H e stays same = rw (ejects-same H e stays, inserts-same H e same)

pub media-id-same : (H : List Entry) (e : Entry) → is_insert e ≡ false → media_id_of (e ∷ H) ≡ media_id_of H
media-id-same H e same = rw (inserts-same H e same)

-- an ejection ends each open token
pub eject-ends : (S : Setup) (H : List Entry) (tag t : ℕ) → t < token_count H → mark_of S H t ≡ None → mark_of S (Eject tag ∷ H) t ≡ None → ⊥
unfolding ending
eject-ends S H tag t token unmarked still = clash (sym (mark-next S H (Eject tag) t unmarked ∙ rw (lt-ltb t (token_count H) token)) ∙ still)
  where
    clash : Some NoMedia ≡ None → ⊥
    clash e = cc

-- an open token is of the medium that is in
pub open-media : (S : Setup) (H : List Entry) (t : ℕ) (r : Request) → IsLegal S H → IsOutstanding S H t → request H t ≡ Some r → (is_present H ≡ true) × (r.view.media_id ≡ media_id_of H)
unfolding IsLegal MayFollow request
open-media S [] t r legal open_ named = cc
open-media S (Accept tag view asked bytes ∷ H) t r (legal, may) open_ named =
    rw (present-same H (Accept tag view asked bytes) refl refl, media-id-same H (Accept tag view asked bytes) refl)
    (elim (cases_eq t (token_count H)) [
      | inl new ↦
          let same : record { tag = tag; view = view; asked = asked; bytes = bytes } ≡ r = same_Some _ r (rw (new, eq-eqb (token_count H) (token_count H) refl) at named) in
          let is : IsAdmitted S H view asked view.media_id = admitted S H view asked view.media_id may.unrefused in
          (is.present, ap (λ (s : Request). s.view.media_id) (sym same) ∙ is.viewed)
      | inr old ↦
          open-media S H t r legal (record { token = omega (arith, old, open_.token, accepted-more H (Accept tag view asked bytes) refl); unmarked = mark-before S H (Accept tag view asked bytes) t open_.unmarked })
          (rw (ne_eqb t (token_count H) old) at named)
    ])
open-media S (Eject tag ∷ H) t r (legal, may) open_ named =
    let token : t < token_count H = omega (arith, open_.token, accepted-same H (Eject tag) refl) in
    absurd (eject-ends S H tag t token (mark-before S H (Eject tag) t open_.unmarked) open_.unmarked)
open-media S (Insert tag k ∷ H) t r (legal, may) open_ named =
    let before : IsOutstanding S H t = record { token = omega (arith, open_.token, accepted-same H (Insert tag k) refl); unmarked = mark-before S H (Insert tag k) t open_.unmarked } in
    absurd (both_ways (is_present H) may.0 (open-media S H t r legal before named).0)
open-media S (e ∷ H) t r (legal, may) open_ named =
    let before : IsOutstanding S H t = record { token = omega (arith, open_.token, accepted-same H e refl); unmarked = mark-before S H e t open_.unmarked } in
    rw (present-same H e refl refl, media-id-same H e refl) (open-media S H t r legal before named)
