-- The marks of a client's tokens, and what they tell of its outstanding and uncollected ones.
use Rattle.std.proofs.Common.{◌≡◌, ◌∙◌, ℕ, zero, suc, ◌+◌, ◌<◌, ◌≤◌, inl, inr, true, false, not, nat_lt, List, [], ◌∷◌, length, slice_get, get_or, Some, is_some, refl, sym, ap, arith}
use Rattle.std.proofs.lemmas.Bool.{cases_lt, lt-ltb, le-ltb}
use Rattle.std.proofs.lemmas.Option.{slice_get_within, slice_get_past}
use Rattle.history.specs.declared.entry.Entry.{Entry}
use Rattle.history.specs.Setup.{Setup}
use Rattle.history.specs.Tokens.{token_count, was_collected}
use Rattle.history.specs.Marks.{is_outstanding}
use Rattle.shared_disk.specs.declared.clients.Client.{Client}
use Rattle.shared_disk.specs.declared.books.Books.{Books}
use Rattle.shared_disk.specs.declared.books.Buffer.{Buffer}
use Rattle.shared_disk.specs.declared.books.Buffer.TheVariants.{Awaited, Kept, Gone}
use Rattle.shared_disk.specs.declared.books.Course.{Course}
use Rattle.shared_disk.specs.declared.books.Slot.{Slot}
use Rattle.shared_disk.specs.Lines.{own_before, first_own_open, first_own_left}
use Rattle.shared_disk.specs.Inside.{is_awaited, IsCourse, IsBufferOf, IsSlot, AreBooksSound, IsRoomy}
use Rattle.shared_disk.proofs.OwnLemmas.{IsOwnAt, own-at, own-least, own-none}
use Rattle.shared_disk.proofs.CourseLemmas.{item-at}

-- an item with its place
pub there-is : {X : Type 0} (xs : List X) (i : ℕ) → i < length xs → (x : X) × (slice_get xs i ≡ Some x)
there-is [] i lt = absurd (omega (arith, lt))
there-is (x ∷ xs) zero lt = (x, refl)
there-is (x ∷ xs) (suc i) lt = there-is xs i (omega (arith, lt))

-- a slot tells whether its token was collected
pub awaited-no : (S : Setup) (H : List Entry) (t : ℕ) (buffer : Buffer) → IsBufferOf S H t buffer → is_awaited buffer ≡ true → was_collected H t ≡ false
awaited-no S H t Awaited is awaited = is
awaited-no S H t (Kept done) is awaited = cc
awaited-no S H t Gone is awaited = cc

pub awaited-yes : (S : Setup) (H : List Entry) (t : ℕ) (buffer : Buffer) → IsBufferOf S H t buffer → is_awaited buffer ≡ false → was_collected H t ≡ true
awaited-yes S H t Awaited is other = cc
awaited-yes S H t (Kept done) is other = is.1.collected
awaited-yes S H t Gone is other = is

-- a course after its room was made, and after one place more
pub course-roomy : (S : Setup) (H : List Entry) (tag lines : ℕ) (c c' : Course) → IsRoomy c c' → IsCourse S H tag lines c → IsCourse S H tag lines c'
course-roomy S H tag lines c c' same course = record {
  few = rw same.places (course.few);
  room = rw same.places (course.room);
  own = same.tokens ∙ course.own;
  ended_few = rw (same.tokens, same.ended) (course.ended_few);
  collected_few = rw (same.tokens, same.collected) (course.collected_few);
  ended = λ j t lt at. course.ended j t (rw same.ended at lt) (rw same.tokens at at);
  collected = λ j t lt at. course.collected j t (rw same.collected at lt) (rw same.tokens at at);
}

module _ (S : Setup) (H : List Entry) (b : Books) (place : ℕ) (was : Course) (sound : AreBooksSound S H b) (lt : place < length b.courses.items) (is : was ≡ get_or b.courses.items place was) where
  client-there : (client : Client) × (slice_get b.clients.items place ≡ Some client)
  client-there = there-is b.clients.items place (omega (arith, lt, sound.paired))

  course : IsCourse S H (place + 1) (length client-there.0.orders.items) was
  course = sound.courses place client-there.0 was client-there.1 (item-at b.courses.items place was lt is)

  pub ended-from : was.ended ≤ length was.tokens.items
  ended-from = course.ended_few

  pub collected-from : was.collected ≤ length was.tokens.items
  collected-from = course.collected_few

  pub own-accepted : (j t : ℕ) → slice_get was.tokens.items j ≡ Some t → t < token_count H
  own-accepted j t at = let there : IsOwnAt H (place + 1) (token_count H) j t = own-at H (place + 1) (token_count H) j t (rw course.own at at) in there.within

  own-get : (j : ℕ) → slice_get (own_before H (place + 1) (token_count H)) j ≡ slice_get was.tokens.items j
  own-get j = rw course.own refl

  module _ (n : ℕ) (within : was.ended ≤ n) (most : n ≤ length was.tokens.items) (before : (j t : ℕ) → was.ended ≤ j → j < n → slice_get was.tokens.items j ≡ Some t → is_outstanding S H t ≡ false)
      (here : (t : ℕ) → slice_get was.tokens.items n ≡ Some t → is_outstanding S H t ≡ true) where
    all-before : (j t : ℕ) → j < n → slice_get was.tokens.items j ≡ Some t → is_outstanding S H t ≡ false
    all-before j t less at = elim (cases_lt j was.ended) [ inl early ↦ course.ended j t early at | inr late ↦ before j t late less at ]

    pub ended-course : (lines : ℕ) → IsCourse S H (place + 1) lines was → IsCourse S H (place + 1) lines (record { places = was.places; tokens = was.tokens; ended = n; collected = was.collected })
    ended-course lines c = record { few = c.few; room = c.room; own = c.own; ended_few = most; collected_few = c.collected_few; ended = all-before; collected = c.collected }

    pub ended-value : nat_lt n (length was.tokens.items) ≡ is_some (first_own_open S H (place + 1))
    unfolding first_own_open
    ended-value = elim (cases_lt n (length was.tokens.items)) [
      | inl less ↦
          (let t : (t : ℕ) × (slice_get was.tokens.items n ≡ Some t) = there-is was.tokens.items n less in
          lt-ltb n (length was.tokens.items) less ∙ sym (ap is_some (own-least H (place + 1) n t.0 (is_outstanding S H) (λ j u less at. all-before j u less (sym (own-get j) ∙ at)) (own-get n ∙ t.1) (here t.0 t.1))))
      | inr past ↦
          le-ltb n (length was.tokens.items) past ∙ sym (ap is_some (own-none H (place + 1) (is_outstanding S H)
          (λ j u at. let there : slice_get was.tokens.items j ≡ Some u = sym (own-get j) ∙ at in all-before j u (omega (arith, past, slice_get_within was.tokens.items j u there)) there)))
    ]

  module _ (n : ℕ) (within : was.collected ≤ n) (most : n ≤ length was.tokens.items)
      (before : (j t : ℕ) (s : Slot) → was.collected ≤ j → j < n → slice_get was.tokens.items j ≡ Some t → slice_get b.slots.items t ≡ Some s → is_awaited s.buffer ≡ false)
      (here : (t : ℕ) (s : Slot) → slice_get was.tokens.items n ≡ Some t → slice_get b.slots.items t ≡ Some s → is_awaited s.buffer ≡ true) where
    slot-there : (j t : ℕ) → slice_get was.tokens.items j ≡ Some t → (s : Slot) × (slice_get b.slots.items t ≡ Some s)
    slot-there j t at = there-is b.slots.items t (omega (arith, own-accepted j t at, sound.counted))

    all-collected : (j t : ℕ) → j < n → slice_get was.tokens.items j ≡ Some t → was_collected H t ≡ true
    all-collected j t less at = elim (cases_lt j was.collected) [
      | inl early ↦ course.collected j t early at
      | inr late ↦
          (let s : (s : Slot) × (slice_get b.slots.items t ≡ Some s) = slot-there j t at in
          let slot : IsSlot S H t s.0 = sound.slots t s.0 s.1 in
          awaited-yes S H t s.0.buffer slot.buffer (before j t s.0 late less at s.1))
    ]

    pub collected-course : (lines : ℕ) → IsCourse S H (place + 1) lines was → IsCourse S H (place + 1) lines (record { places = was.places; tokens = was.tokens; ended = was.ended; collected = n })
    collected-course lines c = record { few = c.few; room = c.room; own = c.own; ended_few = c.ended_few; collected_few = most; ended = c.ended; collected = all-collected }

    pub left-value : slice_get was.tokens.items n ≡ first_own_left H (place + 1)
    unfolding first_own_left
    left-value = elim (cases_lt n (length was.tokens.items)) [
      | inl less ↦
          (let t : (t : ℕ) × (slice_get was.tokens.items n ≡ Some t) = there-is was.tokens.items n less in
          let s : (s : Slot) × (slice_get b.slots.items t.0 ≡ Some s) = slot-there n t.0 t.1 in
          let slot : IsSlot S H t.0 s.0 = sound.slots t.0 s.0 s.1 in
          let left : was_collected H t.0 ≡ false = awaited-no S H t.0 s.0.buffer slot.buffer (here t.0 s.0 t.1 s.1) in
          t.1 ∙ sym (own-least H (place + 1) n t.0 (λ u. not (was_collected H u)) (λ j u less at. ap not (all-collected j u less (sym (own-get j) ∙ at))) (own-get n ∙ t.1) (ap not left)))
      | inr past ↦
          slice_get_past was.tokens.items n past ∙ sym (own-none H (place + 1) (λ u. not (was_collected H u))
          (λ j u at. let there : slice_get was.tokens.items j ≡ Some u = sym (own-get j) ∙ at in ap not (all-collected j u (omega (arith, past, slice_get_within was.tokens.items j u there)) there)))
    ]
