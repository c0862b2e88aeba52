-- A token is handed back, and the books keep its buffer.
use Rattle.std.proofs.Common.{◌≡◌, ◌∙◌, ℕ, zero, suc, ◌<◌, inl, inr, true, false, List, [], ◌∷◌, map, slice_get, Option, None, Some, Err, refl, sym, ap, subst, arith}
use Rattle.efi_status.specs.declared.Status.{Status}
use Rattle.history.specs.declared.entry.Kind.{Kind}
use Rattle.history.specs.declared.entry.Kind.TheVariants.{Read, Write, Flush, Erase}
use Rattle.history.specs.declared.entry.Entry.TheVariants.{Collect}
use Rattle.history.specs.Tokens.{Request, token_count, was_collected, is_flush}
use Rattle.history.specs.Commands.{moves}
use Rattle.history.specs.Rules.{MayFollow, IsLegal}
use Rattle.history_laws.proofs.ClosedLemmas.{legal-last, legal-before}
use Rattle.history_laws.proofs.EndLemmas.{mark-stays, ended-read}
use Rattle.history_laws.proofs.TokenLemmas.{request-stays, collected-collect, has_done-stays}
use Rattle.disk_core.specs.State.{State, Kept}
use Rattle.disk_core.specs.Calls.{Collects, CollectSays}
use Rattle.token_table.specs.declared.record.NotThere.{NotThere}
use Rattle.history.specs.Marks.{is_outstanding}
use Rattle.history_laws.proofs.NextLemmas.{outstanding-test}
use Rattle.shared_disk.specs.declared.books.Books.{Books}
use Rattle.shared_disk.specs.declared.books.Slot.{Slot}
use Rattle.shared_disk.specs.declared.books.Buffer.{Buffer}
use Rattle.shared_disk.specs.Seats.{BesideLines}
use Rattle.std.proofs.lemmas.Bool.{cases_eq}
use Rattle.shared_disk.specs.declared.books.Buffer.TheVariants as slot
use Rattle.shared_disk.specs.Desk.{IsHandedBack, TakesBack, given_at}
use Rattle.shared_disk.specs.Inside.{buffer_in, desk_state, AreBooksSound, IsBufferOf, PutsBuffer, KeepsBuffer, AreBooksOf}
use Rattle.shared_disk.proofs.SoundLemmas.{first-entries-more, sound-keep}
use Rattle.history_laws.proofs.SuccessLemmas.{success-moved}

pub given-at : (slots : List Slot) (t : ℕ) (s : Slot) → slice_get slots t ≡ Some s → given_at (map (λ (s : Slot). buffer_in s.buffer) slots) t ≡ buffer_in s.buffer
given-at [] t s at = cc
given-at (x ∷ slots) zero s at = let is : x ≡ s = cc in rw is refl
given-at (x ∷ slots) (suc t) s at = given-at slots t s at

pub given-past : (slots : List Slot) (t : ℕ) → slice_get slots t ≡ None → given_at (map (λ (s : Slot). buffer_in s.buffer) slots) t ≡ None
given-past [] t past = refl
given-past (x ∷ slots) zero past = cc
given-past (x ∷ slots) (suc t) past = given-past slots t past

pub given-same : (slots slots' : List Slot) (t : ℕ) → slice_get slots t ≡ slice_get slots' t → given_at (map (λ (s : Slot). buffer_in s.buffer) slots) t ≡ given_at (map (λ (s : Slot). buffer_in s.buffer) slots') t
given-same slots slots' t same = by (slice_get slots t) refl
  where
    by : (o : Option Slot) → slice_get slots t ≡ o → given_at (map (λ (s : Slot). buffer_in s.buffer) slots) t ≡ given_at (map (λ (s : Slot). buffer_in s.buffer) slots') t
    by None is = given-past slots t is ∙ sym (given-past slots' t (sym same ∙ is))
    by (Some s) is = given-at slots t s is ∙ sym (given-at slots' t s (sym same ∙ is))

unflushed : (kind : Kind) → kind ≡ Read → is_flush kind ≡ false
unflushed Read is = refl
unflushed Write is = refl
unflushed Erase is = refl
unflushed Flush is = cc

module _ (old new : State) (tag t : ℕ) (status : Status) (buffer : List ℕ) (q : Request) (was : Kept) (collects : Collects old tag t status buffer new q was) where
  legal : IsLegal old.setup (Collect tag t ∷ old.entries)
  legal = subst (λ (s : State). IsLegal s.setup s.entries) collects.new_is collects.legal

  may : MayFollow old.setup old.entries (Collect tag t)
  may = legal-last old.setup old.entries (Collect tag t) legal

  given : IsHandedBack old.setup (Collect tag t ∷ old.entries) t buffer q status
  given = record {
    named = request-stays old.entries (Collect tag t) t q collects.named;
    marked = mark-stays old.setup old.entries (Collect tag t) t status collects.marked;
    collected = collected-collect old.entries tag t;
    written = collects.written;
    read = λ reads x v from until is. collects.read reads x v from until (sym (ended-read old.setup old.entries (Collect tag t) t status x may collects.marked) ∙ is);
    long = collects.long;
    whole = λ well reads x from until.
        has_done-stays (moves old.setup x) old.entries (Collect tag t) t (success-moved old.setup old.entries t q x (legal-before old.setup old.entries (Collect tag t) legal) (collects.marked ∙ ap Some well) collects.named (unflushed q.asked.kind reads) from until);
  }

  pub takes-sound : (b b' : Books) → AreBooksOf old b → KeepsBuffer b t (record { status = status; buffer = buffer }) b' → AreBooksOf new b'
  takes-sound b b' sound keeps = subst (λ (s : State). AreBooksSound s.setup s.entries b') (sym collects.new_is) (sound-keep old.setup old.entries tag t (slot.Kept (record { status = status; buffer = buffer })) b b' may sound keeps (q, given))

  entries-is : new.entries ≡ Collect tag t ∷ old.entries
  entries-is = ap (λ (s : State). s.entries) collects.new_is

  pub takes-token : (b b' : Books) → AreBooksOf old b → KeepsBuffer b t (record { status = status; buffer = buffer }) b' → TakesBack (desk_state old b) tag t (desk_state new b')
  unfolding desk_state
  takes-token b b' sound keeps = record {
    status = status;
    buffer = buffer;
    asked = q;
    was = was;
    collects = collects;
    script = rw (entries-is, keeps.opened, keeps.clients, first-entries-more b.opened old.entries (Collect tag t) sound.opened) refl;
    places = rw keeps.courses refl;
    kept = given-at b'.slots.items t (record keeps.was { buffer = slot.Kept (record { status = status; buffer = buffer }) }) keeps.here;
    others = λ u other. given-same b'.slots.items b.slots.items u (keeps.others u other);
  }

  -- where another caller has its buffer
  pub lets-sound : (b b' : Books) → AreBooksOf old b → PutsBuffer b t slot.Gone b' → AreBooksOf new b'
  lets-sound b b' sound puts = subst (λ (s : State). AreBooksSound s.setup s.entries b') (sym collects.new_is) (sound-keep old.setup old.entries tag t slot.Gone b b' may sound puts (collected-collect old.entries tag t))

  -- the desk gave no buffer of it before, since it was not collected
  ungiven : (b : Books) (s : Slot) → AreBooksOf old b → slice_get b.slots.items t ≡ Some s → buffer_in s.buffer ≡ None
  ungiven b s sound at = by s.buffer (sound.slots t s at).buffer
    where
      by : (x : Buffer) → IsBufferOf old.setup old.entries t x → buffer_in x ≡ None
      by slot.Awaited is = refl
      by (slot.Kept done) is = let bad : true ≡ false = sym is.1.collected ∙ collects.uncollected in cc
      by slot.Gone is = refl

  pub lets-token : (b b' : Books) → AreBooksOf old b → PutsBuffer b t slot.Gone b' → (Says : State → State → Type 0) → Says old new → BesideLines (desk_state old b) (desk_state new b') Says
  unfolding desk_state
  lets-token b b' sound puts Says says = record {
    says = says;
    script = rw (entries-is, puts.opened, puts.clients, first-entries-more b.opened old.entries (Collect tag t) sound.opened) refl;
    places = rw puts.courses refl;
    given = λ u. elim (cases_eq u t) [
      | inl same ↦ rw same (given-at b'.slots.items t (record puts.was { buffer = slot.Gone }) puts.here ∙ sym (given-at b.slots.items t puts.was puts.there ∙ ungiven b puts.was sound puts.there))
      | inr other ↦ given-same b'.slots.items b.slots.items u (puts.others u other)
    ];
  }

-- a token that has ended and was not collected can be
pub is-there : (old new : State) (tag t : ℕ) (fault : NotThere) → t < token_count old.entries → was_collected old.entries t ≡ false → is_outstanding old.setup old.entries t ≡ false → CollectSays old tag t (Err fault) new → ⊥
unfolding CollectSays
is-there old new tag t NotThere.Outstanding lt not closed says =
    let open_now : is_outstanding old.setup old.entries t ≡ true = outstanding-test old.setup old.entries t (record { token = says.0; unmarked = says.1 }) in
    cc
is-there old new tag t NotThere.Unknown lt not closed (says, same) = elim says [ inl past ↦ absurd (omega (arith, lt, past)) | inr was ↦ cc ]
