-- What the disk does for a line, and what the books know of it.
use Rattle.std.proofs.Common.{◌≡◌, ◌∙◌, ℕ, zero, suc, ◌+◌, false, List, [], ◌∷◌, ◌++◌, length, map, None, Some, refl, sym, ap, subst}
use Rattle.std.specs.Global.{Vec}
use Rattle.efi_status.specs.declared.Status.{Status}
use Rattle.history.specs.declared.entry.View.{View}
use Rattle.history.specs.declared.entry.Asked.{Asked}
use Rattle.history.specs.declared.entry.Entry.{Entry}
use Rattle.history.specs.declared.entry.Entry.TheVariants.{Accept, Refuse}
use Rattle.history.specs.Setup.{Setup}
use Rattle.history.specs.Tokens.{is_accept, token_count, is_collect_of}
use Rattle.history.specs.Rules.{refusal_of, IsLegal}
use Rattle.block_gate.specs.Gates.{Gates}
use Rattle.disk_core.specs.declared.answers.Token.{Token}
use Rattle.disk_core.specs.State.{State}
use Rattle.disk_core.specs.Calls.{Accepts, Refuses, Revokes}
use Rattle.disk_core.specs.GoingOn.{GoesOn}
use Rattle.shared_disk.specs.declared.books.Books.{Books}
use Rattle.shared_disk.specs.declared.books.Buffer.TheVariants as buffer
use Rattle.shared_disk.specs.declared.books.Slot.{Slot}
use Rattle.shared_disk.specs.Lines.{answer_of}
use Rattle.shared_disk.specs.Desk.{is_accept_of, given_at}
use Rattle.shared_disk.specs.Inside.{buffer_in, places_in, AreBooksSound, AreBooksOf, AreSame, IsRoomy, HasToken, ChangesCourse, AddsToken, DoesOn}
use Rattle.shared_disk.proofs.CourseLemmas.{same-places, are-same}
use Rattle.shared_disk.proofs.SoundLemmas.{sound-entry, sound-changes, sound-token}
use Rattle.history_laws.proofs.ClosedLemmas.{legal-last, legal-before}
use Rattle.shared_disk.proofs.WaitLemmas.{course-roomy}

pub revokes-same : (s s' : Gates) → s' ≡ s → Revokes s s'
revokes-same s s' same = record {
  size = ap (λ (x : Gates). x.size) same;
  kept = λ k g is. rw same at is;
  works = λ k. rw same refl;
  count = rw same refl;
  free = ap (λ (x : Gates). x.free) same;
}

-- books with more room
pub roomy-sound : (S : Setup) (H : List Entry) (b b' : Books) (place : ℕ) → AreBooksSound S H b → ChangesCourse b place IsRoomy b' → AreBooksSound S H b'
roomy-sound S H b b' place sound change = sound-changes S H b place IsRoomy b' sound change (λ client at course. course-roomy S H (place + 1) (length client.orders.items) change.was change.now change.changes course)

pub roomy-same : (b b' : Books) (place : ℕ) → ChangesCourse b place IsRoomy b' → AreSame b b'
roomy-same b b' place change = are-same b b' place IsRoomy change (ap (λ (v : Vec ℕ). v.items) change.changes.places)

given-push : (slots : List Slot) (s : Slot) (t : ℕ) → buffer_in s.buffer ≡ None → given_at (map (λ (x : Slot). buffer_in x.buffer) (slots ++ s ∷ [])) t ≡ given_at (map (λ (x : Slot). buffer_in x.buffer) slots) t
given-push [] s zero none = none
given-push [] s (suc t) none = refl
given-push (x ∷ slots) s zero none = refl
given-push (x ∷ slots) s (suc t) none = given-push slots s t none

token-places : (b b' : Books) (place tag number : ℕ) → AddsToken b place tag number b' → places_in b' ≡ places_in b
token-places b b' place tag number adds = same-places (record b { slots = b'.slots }) b' place (HasToken number) (record {
  opened = adds.opened;
  clients = adds.clients;
  slots = refl;
  ended = adds.ended;
  collected = adds.collected;
  count = adds.count;
  was = adds.was;
  there = adds.there;
  now = adds.now;
  here = adds.here;
  changes = adds.changes;
  others = adds.others;
}) (ap (λ (v : Vec ℕ). v.items) adds.changes.places)

-- a request of a client was accepted
pub does-accept : (old new : State) (b roomy b' : Books) (place tag : ℕ) (view : View) (media_id : ℕ) (asked : Asked) (bytes brought : List ℕ) (token : Token) → tag ≡ place + 1 → AreBooksOf old b → ChangesCourse b place IsRoomy roomy
    → Accepts old tag view media_id asked bytes brought token new → GoesOn old new → AddsToken roomy place tag token.number b' → DoesOn old b new b' (Some (answer_of tag view asked bytes media_id (refusal_of old.setup old.entries view asked media_id))) (Some token)
does-accept old new b roomy b' place tag view media_id asked bytes brought token tagged sound change accepts goes adds =
    let legal : IsLegal old.setup (Accept tag view asked bytes ∷ old.entries) = subst (λ (s : State). IsLegal s.setup s.entries) accepts.new_is accepts.legal in
    let adds_next : AddsToken roomy place tag (token_count old.entries) b' = subst (λ n. AddsToken roomy place tag n b') accepts.numbered adds in
    let next : AreBooksSound old.setup (Accept tag view asked bytes ∷ old.entries) b' = sound-token old.setup old.entries place tag view asked bytes roomy b' (legal-before old.setup old.entries (Accept tag view asked bytes) legal) (legal-last old.setup old.entries (Accept tag view asked bytes) legal) tagged (roomy-sound old.setup old.entries b roomy place sound change) adds_next in
    let same : AreSame b roomy = roomy-same b roomy place change in
    record {
      entries = rw accepts.unrefused (ap (λ (s : State). s.entries) accepts.new_is);
      accepts = rw accepts.unrefused refl;
      numbered = record { numbered = accepts.numbered; unseen = accepts.unseen; buffer = brought; kept = ap (λ (s : State). s.kept) accepts.new_is };
      goes_on = goes;
      devices = ap (λ (s : State). s.devices) accepts.new_is;
      gates = revokes-same old.gates new.gates (ap (λ (s : State). s.gates) accepts.new_is);
      opened = adds.opened ∙ change.opened;
      clients = adds.clients ∙ change.clients;
      places = token-places roomy b' place tag token.number adds ∙ same.places;
      given = λ t. rw (adds.slots, change.slots) (given-push b.slots.items (record { tag = tag; buffer = buffer.Awaited }) t refl);
      sound = subst (λ (s : State). AreBooksSound s.setup s.entries b') (sym accepts.new_is) next;
    }

-- it was refused
pub does-refuse : (old new : State) (b roomy : Books) (place tag : ℕ) (view : View) (media_id : ℕ) (asked : Asked) (bytes brought handed : List ℕ) (status : Status) → AreBooksOf old b → ChangesCourse b place IsRoomy roomy
    → Refuses old tag view media_id asked status brought handed new → GoesOn old new → DoesOn old b new roomy (Some (answer_of tag view asked bytes media_id (refusal_of old.setup old.entries view asked media_id))) None
does-refuse old new b roomy place tag view media_id asked bytes brought handed status sound change refuses goes =
    let legal : IsLegal old.setup (Refuse tag view asked media_id status ∷ old.entries) = subst (λ (s : State). IsLegal s.setup s.entries) refuses.new_is refuses.legal in
    let next : AreBooksSound old.setup (Refuse tag view asked media_id status ∷ old.entries) roomy = sound-entry old.setup old.entries (Refuse tag view asked media_id status) roomy (legal-last old.setup old.entries (Refuse tag view asked media_id status) legal) refl (λ t. refl) (roomy-sound old.setup old.entries b roomy place sound change) in
    let same : AreSame b roomy = roomy-same b roomy place change in
    record {
      entries = rw refuses.refused (ap (λ (s : State). s.entries) refuses.new_is);
      accepts = rw refuses.refused refl;
      numbered = tt;
      goes_on = goes;
      devices = ap (λ (s : State). s.devices) refuses.new_is;
      gates = revokes-same old.gates new.gates (ap (λ (s : State). s.gates) refuses.new_is);
      opened = change.opened;
      clients = change.clients;
      places = same.places;
      given = λ t. rw same.given refl;
      sound = subst (λ (s : State). AreBooksSound s.setup s.entries roomy) (sym refuses.new_is) next;
    }

-- nothing was done
pub does-nothing : (old new : State) (b : Books) → AreBooksOf old b → new ≡ old → GoesOn old new → DoesOn old b new b None None
does-nothing old new b sound same goes = record {
  entries = ap (λ (s : State). s.entries) same;
  accepts = refl;
  numbered = tt;
  goes_on = goes;
  devices = ap (λ (s : State). s.devices) same;
  gates = revokes-same old.gates new.gates (ap (λ (s : State). s.gates) same);
  opened = refl;
  clients = refl;
  places = refl;
  given = λ t. refl;
  sound = subst (λ (s : State). AreBooksSound s.setup s.entries b) (sym same) sound;
}

-- one entry came that is no accept and no collect
pub does-entry : (old new : State) (b : Books) (e : Entry) → AreBooksOf old b → is_accept e ≡ false → ((t : ℕ) → is_collect_of t e ≡ false) → is_accept_of (Some e) ≡ false → new.setup ≡ old.setup → new.entries ≡ e ∷ old.entries → IsLegal new.setup new.entries
    → new.devices ≡ old.devices → Revokes old.gates new.gates → GoesOn old new → DoesOn old b new b (Some e) None
does-entry old new b e sound other none no_accept setup entries legal devices gates goes =
    let legal_now : IsLegal old.setup (e ∷ old.entries) = subst (λ S. IsLegal S (e ∷ old.entries)) setup (subst (λ H. IsLegal new.setup H) entries legal) in
    let next : AreBooksSound old.setup (e ∷ old.entries) b = sound-entry old.setup old.entries e b (legal-last old.setup old.entries e legal_now) other none sound in
    record {
      entries = entries;
      accepts = sym no_accept;
      numbered = tt;
      goes_on = goes;
      devices = devices;
      gates = gates;
      opened = refl;
      clients = refl;
      places = refl;
      given = λ t. refl;
      sound = subst (λ S. AreBooksSound S new.entries b) (sym setup) (subst (λ H. AreBooksSound old.setup H b) (sym entries) next);
    }
