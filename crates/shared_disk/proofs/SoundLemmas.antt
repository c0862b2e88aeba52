-- The books are sound after each entry.
use Rattle.std.proofs.Common.{◌≡◌, ◌≢◌, ℕ, suc, ◌+◌, ◌-◌, ◌<◌, ◌≤◌, ◌⊎◌, inl, inr, true, false, List, [], ◌∷◌, ◌++◌, length, slice_get, Some, refl, sym, ◌∙◌, ap, arith}
use Rattle.std.proofs.lemmas.Bool.{eq-eqb, ne_eqb, cases_eq}
use Rattle.std.proofs.lemmas.List.{length-append}
use Rattle.std.proofs.lemmas.Option.{slice_get_within}
use Rattle.std.specs.Global.{Vec}
use Rattle.history.specs.declared.entry.Entry.{Entry}
use Rattle.history.specs.declared.entry.Entry.TheVariants.{Accept, Collect}
use Rattle.history.specs.declared.entry.View.{View}
use Rattle.history.specs.declared.entry.Asked.{Asked}
use Rattle.history.specs.Setup.{Setup}
use Rattle.history.specs.Tokens.{is_accept, token_count, request, is_collect_of}
use Rattle.history.specs.Rules.{MayFollow, IsLegal}
use Rattle.history_laws.proofs.CountLemmas.{accepted-same, accepted-more}
use Rattle.history_laws.proofs.TokenLemmas.{request-same, request-kept, request-accept, collected-same}
use Rattle.history_laws.proofs.EndLemmas.{unaccepted, untold-collected}
use Rattle.shared_disk.specs.declared.clients.Client.{Client}
use Rattle.shared_disk.specs.declared.books.Books.{Books}
use Rattle.shared_disk.specs.declared.books.Buffer.{Buffer}
use Rattle.shared_disk.specs.declared.books.Buffer.TheVariants.{Awaited, Kept, Gone}
use Rattle.shared_disk.specs.declared.books.Course.{Course}
use Rattle.shared_disk.specs.declared.books.Slot.{Slot}
use Rattle.shared_disk.specs.Lines.{has_tag, own_before}
use Rattle.shared_disk.specs.Inside.{first_entries, IsCourse, IsBufferOf, IsSlot, AreBooksSound, HasToken, ChangesCourse, AddsToken, PutsBuffer}
use Rattle.shared_disk.proofs.OwnLemmas.{get-push, own-more, own-same, IsOwnAt, own-at, own-before-same}
use Rattle.history_laws.proofs.ClosedLemmas.{closed-stays}
use Rattle.history_laws.proofs.TokenLemmas.{collected-stays}
use Rattle.shared_disk.proofs.GivenLemmas.{given-stays}

-- the oldest entries stay
pub first-entries-more : (n : ℕ) (H : List Entry) (e : Entry) → n ≤ length H → first_entries n (e ∷ H) ≡ first_entries n H
unfolding first_entries
first-entries-more n H e le = let k : length (e ∷ H) - n ≡ suc (length H - n) = omega arith in rw k refl

-- a course after an entry that is no accept
pub course-entry : (S : Setup) (H : List Entry) (e : Entry) (tag lines : ℕ) (c : Course) → is_accept e ≡ false → IsCourse S H tag lines c → IsCourse S (e ∷ H) tag lines c
course-entry S H e tag lines c other course = record {
  few = course.few;
  room = course.room;
  own = course.own ∙ sym (rw (accepted-same H e other) (own-before-same H (e ∷ H) tag (token_count H) (λ t lt. request-same H e t other)));
  ended_few = course.ended_few;
  collected_few = course.collected_few;
  ended = λ j t lt at. let there : IsOwnAt H tag (token_count H) j t = own-at H tag (token_count H) j t (rw course.own at at) in closed-stays S H e t there.within (course.ended j t lt at);
  collected = λ j t lt at. collected-stays H e t (course.collected j t lt at);
}

-- a buffer after an entry that does not hand its token back
pub buffer-entry : (S : Setup) (H : List Entry) (e : Entry) (t : ℕ) (buffer : Buffer) → MayFollow S H e → is_collect_of t e ≡ false → IsBufferOf S H t buffer → IsBufferOf S (e ∷ H) t buffer
buffer-entry S H e t Awaited may other is = collected-same H e t other ∙ is
buffer-entry S H e t (Kept done) may other is = (is.0, given-stays S H e t done.buffer is.0 done.status may is.1)
buffer-entry S H e t Gone may other is = collected-same H e t other ∙ is

-- the books after an entry that is no accept and no collect
pub sound-entry : (S : Setup) (H : List Entry) (e : Entry) (b : Books) → MayFollow S H e → is_accept e ≡ false → ((t : ℕ) → is_collect_of t e ≡ false) → AreBooksSound S H b → AreBooksSound S (e ∷ H) b
sound-entry S H e b may other none sound = record {
  opened = omega (arith, sound.opened);
  opening = rw (first-entries-more b.opened H e sound.opened) (sound.opening);
  few = sound.few;
  orders = sound.orders;
  lines = sound.lines;
  paired = sound.paired;
  courses = λ i client c at there. course-entry S H e (i + 1) (length client.orders.items) c other (sound.courses i client c at there);
  counted = sound.counted ∙ sym (accepted-same H e other);
  slots = λ t s at. let slot : IsSlot S H t s = sound.slots t s at in record { tagged = rw (request-same H e t other) (slot.tagged); buffer = buffer-entry S H e t s.buffer may (none t) slot.buffer };
  ended_few = rw (accepted-same H e other) (sound.ended_few);
  collected_few = rw (accepted-same H e other) (sound.collected_few);
  ended = λ t lt. closed-stays S H e t (omega (arith, sound.ended_few, lt)) (sound.ended t lt);
  collected = λ t lt. collected-stays H e t (sound.collected t lt);
}

some-same : {X : Type 0} (x y : X) → Some x ≡ Some y → x ≡ y
some-same x y e = cc

-- the books where one course has changed
pub sound-changes : (S : Setup) (H : List Entry) (b : Books) (place : ℕ) (Changes : Course → Course → Type 0) (b' : Books) → AreBooksSound S H b → (change : ChangesCourse b place Changes b')
    → ((client : Client) → slice_get b.clients.items place ≡ Some client → IsCourse S H (place + 1) (length client.orders.items) change.was → IsCourse S H (place + 1) (length client.orders.items) change.now) → AreBooksSound S H b'
sound-changes S H b place Changes b' sound change next = record {
  opened = rw change.opened (sound.opened);
  opening = rw change.opened (sound.opening);
  few = rw change.clients (sound.few);
  orders = rw change.clients (sound.orders);
  lines = rw change.clients (sound.lines);
  paired = change.count ∙ (sound.paired ∙ ap (λ (v : Vec Client). length v.items) (sym change.clients));
  courses = λ i client c at there. by i client c (rw change.clients at at) there (cases_eq i place);
  counted = rw change.slots (sound.counted);
  slots = λ t s at. sound.slots t s (rw change.slots at at);
  ended_few = rw change.ended (sound.ended_few);
  collected_few = rw change.collected (sound.collected_few);
  ended = λ t lt. sound.ended t (rw change.ended at lt);
  collected = λ t lt. sound.collected t (rw change.collected at lt);
}
  where
    by : (i : ℕ) (client : Client) (c : Course) → slice_get b.clients.items i ≡ Some client → slice_get b'.courses.items i ≡ Some c → (i ≡ place) ⊎ (i ≢ place) → IsCourse S H (i + 1) (length client.orders.items) c
    by i client c at there (inl same) =
        let is : change.now ≡ c = some-same change.now c (sym change.here ∙ rw same at there) in
        rw same (rw is at (next client (rw same at at) (sound.courses place client change.was (rw same at at) change.there)))
    by i client c at there (inr other) = sound.courses i client c at (sym (change.others i other) ∙ there)

new-own : (H : List Entry) (tag : ℕ) (view : View) (asked : Asked) (bytes : List ℕ) → own_before (Accept tag view asked bytes ∷ H) tag (token_count (Accept tag view asked bytes ∷ H)) ≡ own_before H tag (token_count H) ++ token_count H ∷ []
new-own H tag view asked bytes =
    let n : token_count (Accept tag view asked bytes ∷ H) ≡ suc (token_count H) = omega (arith, accepted-more H (Accept tag view asked bytes) refl) in
    let own : has_tag tag (request (Accept tag view asked bytes ∷ H) (token_count H)) ≡ true = rw (request-accept H tag view asked bytes) (eq-eqb tag tag refl) in
    rw n (own-more (Accept tag view asked bytes ∷ H) tag (token_count H) own
    ∙ ap (λ xs. xs ++ token_count H ∷ []) (own-before-same H (Accept tag view asked bytes ∷ H) tag (token_count H) (λ t lt. request-kept H (Accept tag view asked bytes) t (λ same. absurd (omega (arith, lt, same))))))

other-own : (H : List Entry) (tag other : ℕ) (view : View) (asked : Asked) (bytes : List ℕ) → tag ≢ other → own_before (Accept tag view asked bytes ∷ H) other (token_count (Accept tag view asked bytes ∷ H)) ≡ own_before H other (token_count H)
other-own H tag other view asked bytes differs =
    let n : token_count (Accept tag view asked bytes ∷ H) ≡ suc (token_count H) = omega (arith, accepted-more H (Accept tag view asked bytes) refl) in
    let own : has_tag other (request (Accept tag view asked bytes ∷ H) (token_count H)) ≡ false = rw (request-accept H tag view asked bytes) (ne_eqb tag other differs) in
    rw n (own-same (Accept tag view asked bytes ∷ H) other (token_count H) own
    ∙ own-before-same H (Accept tag view asked bytes ∷ H) other (token_count H) (λ t lt. request-kept H (Accept tag view asked bytes) t (λ same. absurd (omega (arith, lt, same)))))

-- the course of a client that was given a new token
course-token : (S : Setup) (H : List Entry) (tag lines : ℕ) (view : View) (asked : Asked) (bytes : List ℕ) (c c' : Course) → HasToken (token_count H) c c' → IsCourse S H tag lines c → IsCourse S (Accept tag view asked bytes ∷ H) tag lines c'
course-token S H tag lines view asked bytes c c' has course = record {
  few = rw has.places (course.few);
  room = rw has.places (course.room);
  own = has.tokens ∙ (ap (λ xs. xs ++ token_count H ∷ []) course.own ∙ sym (new-own H tag view asked bytes));
  ended_few = omega (arith, has.ended, course.ended_few, ap length has.tokens, length-append c.tokens.items (token_count H ∷ []));
  collected_few = omega (arith, has.collected, course.collected_few, ap length has.tokens, length-append c.tokens.items (token_count H ∷ []));
  ended = λ j t lt at.
      let was : slice_get c.tokens.items j ≡ Some t = before j t (omega (arith, lt, has.ended, course.ended_few)) (rw has.tokens at at) in
      let there : IsOwnAt H tag (token_count H) j t = own-at H tag (token_count H) j t (rw course.own at was) in
      closed-stays S H (Accept tag view asked bytes) t there.within (course.ended j t (omega (arith, lt, has.ended)) was);
  collected = λ j t lt at.
      let was : slice_get c.tokens.items j ≡ Some t = before j t (omega (arith, lt, has.collected, course.collected_few)) (rw has.tokens at at) in
      collected-stays H (Accept tag view asked bytes) t (course.collected j t (omega (arith, lt, has.collected)) was);
}
  where
    before : (j t : ℕ) → j < length c.tokens.items → slice_get (c.tokens.items ++ token_count H ∷ []) j ≡ Some t → slice_get c.tokens.items j ≡ Some t
    before j t lt at = elim (get-push c.tokens.items (token_count H) t j at) [ inl was ↦ was | inr last ↦ absurd (omega (arith, lt, last.0)) ]

-- the course of another client
course-other : (S : Setup) (H : List Entry) (tag other lines : ℕ) (view : View) (asked : Asked) (bytes : List ℕ) (c : Course) → tag ≢ other → IsCourse S H other lines c → IsCourse S (Accept tag view asked bytes ∷ H) other lines c
course-other S H tag other lines view asked bytes c differs course = record {
  few = course.few;
  room = course.room;
  own = course.own ∙ sym (other-own H tag other view asked bytes differs);
  ended_few = course.ended_few;
  collected_few = course.collected_few;
  ended = λ j t lt at. let there : IsOwnAt H other (token_count H) j t = own-at H other (token_count H) j t (rw course.own at at) in closed-stays S H (Accept tag view asked bytes) t there.within (course.ended j t lt at);
  collected = λ j t lt at. collected-stays H (Accept tag view asked bytes) t (course.collected j t lt at);
}

-- the books after a request of a client was accepted
pub sound-token : (S : Setup) (H : List Entry) (place tag : ℕ) (view : View) (asked : Asked) (bytes : List ℕ) (b b' : Books) → IsLegal S H → MayFollow S H (Accept tag view asked bytes) → tag ≡ place + 1 → AreBooksSound S H b → AddsToken b place tag (token_count H) b'
    → AreBooksSound S (Accept tag view asked bytes ∷ H) b'
sound-token S H place tag view asked bytes b b' legal may tagged sound adds = record {
  opened = omega (arith, adds.opened, sound.opened);
  opening = rw (adds.opened, first-entries-more b.opened H (Accept tag view asked bytes) sound.opened) (sound.opening);
  few = rw adds.clients (sound.few);
  orders = rw adds.clients (sound.orders);
  lines = rw adds.clients (sound.lines);
  paired = adds.count ∙ (sound.paired ∙ ap (λ (v : Vec Client). length v.items) (sym adds.clients));
  courses = λ i client c at there. course i client c (rw adds.clients at at) there (cases_eq i place);
  counted = omega (arith, ap length adds.slots, length-append b.slots.items (record { tag = tag; buffer = Awaited } ∷ []), sound.counted, accepted-more H (Accept tag view asked bytes) refl);
  slots = λ t s at. slot t s (get-push b.slots.items (record { tag = tag; buffer = Awaited }) s t (rw adds.slots at at));
  ended_few = omega (arith, adds.ended, sound.ended_few, accepted-more H (Accept tag view asked bytes) refl);
  collected_few = omega (arith, adds.collected, sound.collected_few, accepted-more H (Accept tag view asked bytes) refl);
  ended = λ t lt. closed-stays S H (Accept tag view asked bytes) t (omega (arith, lt, adds.ended, sound.ended_few)) (sound.ended t (omega (arith, lt, adds.ended)));
  collected = λ t lt. collected-stays H (Accept tag view asked bytes) t (sound.collected t (omega (arith, lt, adds.collected)));
}
  where
    course : (i : ℕ) (client : Client) (c : Course) → slice_get b.clients.items i ≡ Some client → slice_get b'.courses.items i ≡ Some c → (i ≡ place) ⊎ (i ≢ place) → IsCourse S (Accept tag view asked bytes ∷ H) (i + 1) (length client.orders.items) c
    course i client c at there (inl same) =
        let is : adds.now ≡ c = some-same adds.now c (sym adds.here ∙ rw same at there) in
        let was : IsCourse S H tag (length client.orders.items) adds.was = rw tagged (sound.courses place client adds.was (rw same at at) adds.there) in
        rw (same, ← tagged, ← is) (course-token S H tag (length client.orders.items) view asked bytes adds.was adds.now adds.changes was)
    course i client c at there (inr other) = course-other S H tag (i + 1) (length client.orders.items) view asked bytes c (λ same. other (omega (arith, same, tagged))) (sound.courses i client c at (sym (adds.others i other) ∙ there))

    slot : (t : ℕ) (s : Slot) → (slice_get b.slots.items t ≡ Some s) ⊎ ((t ≡ length b.slots.items) × (record { tag = tag; buffer = Awaited } ≡ s)) → IsSlot S (Accept tag view asked bytes ∷ H) t s
    slot t s (inl was) =
        let old : IsSlot S H t s = sound.slots t s was in
        let lt : t < token_count H = omega (arith, slice_get_within b.slots.items t s was, sound.counted) in
        record { tagged = rw (request-kept H (Accept tag view asked bytes) t (λ same. absurd (omega (arith, lt, same)))) (old.tagged); buffer = buffer-entry S H (Accept tag view asked bytes) t s.buffer may refl old.buffer }
    slot t s (inr last) =
        let is : t ≡ token_count H = last.0 ∙ sound.counted in
        rw (← last.1, is) (record {
          tagged = rw (request-accept H tag view asked bytes) (eq-eqb tag tag refl);
          buffer = collected-same H (Accept tag view asked bytes) (token_count H) refl ∙ untold-collected S H (token_count H) (unaccepted S H (token_count H) legal (omega arith));
        })

-- the books after a token was handed back
pub sound-keep : (S : Setup) (H : List Entry) (tag t : ℕ) (buffer : Buffer) (b b' : Books) → MayFollow S H (Collect tag t) → AreBooksSound S H b → PutsBuffer b t buffer b' → IsBufferOf S (Collect tag t ∷ H) t buffer
    → AreBooksSound S (Collect tag t ∷ H) b'
sound-keep S H tag t buffer b b' may sound keeps given = record {
  opened = omega (arith, keeps.opened, sound.opened);
  opening = rw (keeps.opened, first-entries-more b.opened H (Collect tag t) sound.opened) (sound.opening);
  few = rw keeps.clients (sound.few);
  orders = rw keeps.clients (sound.orders);
  lines = rw keeps.clients (sound.lines);
  paired = rw (keeps.clients, keeps.courses) (sound.paired);
  courses = λ i client c at there. course-entry S H (Collect tag t) (i + 1) (length client.orders.items) c refl (sound.courses i client c (rw keeps.clients at at) (rw keeps.courses at there));
  counted = keeps.count ∙ (sound.counted ∙ sym (accepted-same H (Collect tag t) refl));
  slots = λ u s at. slot u s at (cases_eq u t);
  ended_few = rw (keeps.ended, accepted-same H (Collect tag t) refl) (sound.ended_few);
  collected_few = rw (keeps.collected, accepted-same H (Collect tag t) refl) (sound.collected_few);
  ended = λ u lt. closed-stays S H (Collect tag t) u (omega (arith, lt, keeps.ended, sound.ended_few)) (sound.ended u (omega (arith, lt, keeps.ended)));
  collected = λ u lt. collected-stays H (Collect tag t) u (sound.collected u (omega (arith, lt, keeps.collected)));
}
  where
    slot : (u : ℕ) (s : Slot) → slice_get b'.slots.items u ≡ Some s → (u ≡ t) ⊎ (u ≢ t) → IsSlot S (Collect tag t ∷ H) u s
    slot u s at (inl same) =
        let is : record keeps.was { buffer = buffer } ≡ s = some-same (record keeps.was { buffer = buffer }) s (sym keeps.here ∙ rw same at at) in
        let was : IsSlot S H t keeps.was = sound.slots t keeps.was keeps.there in
        rw (← is, same) (record { tagged = rw (request-same H (Collect tag t) t refl) (was.tagged); buffer = given })
    slot u s at (inr other) =
        let was : IsSlot S H u s = sound.slots u s (sym (keeps.others u other) ∙ at) in
        record { tagged = rw (request-same H (Collect tag t) u refl) (was.tagged); buffer = buffer-entry S H (Collect tag t) u s.buffer may (ne_eqb t u (λ e. other (sym e))) was.buffer }
