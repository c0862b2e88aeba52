-- The last collects: the least uncollected token of all.
use Rattle.std.proofs.Common.{◌≡◌, ℕ, ◌<◌, ◌≤◌, inl, inr, true, false, not, List, length, slice_get, get_or, None, Some, IsSome, ap, subst, arith}
use Rattle.std.proofs.lemmas.Bool.{cases_lt}
use Rattle.history.specs.declared.entry.Entry.{Entry}
use Rattle.history.specs.Setup.{Setup}
use Rattle.history.specs.Tokens.{token_count, request, was_collected}
use Rattle.history.specs.Marks.{is_outstanding}
use Rattle.history.specs.Next.{first_open}
use Rattle.history_laws.proofs.ScanLemmas.{first_from-none}
use Rattle.disk_core.specs.State.{State}
use Rattle.shared_disk.specs.declared.books.Books.{Books}
use Rattle.shared_disk.specs.declared.books.Slot.{Slot}
use Rattle.shared_disk.specs.Lines.{first_left, has_tag}
use Rattle.shared_disk.specs.Script.{AreOver}
use Rattle.shared_disk.specs.Desk.{LastSays, TakesBack}
use Rattle.shared_disk.specs.Inside.{is_awaited, roles_in, done_in, order_in, desk_state, IsSlot, AreBooksSound, AreBooksOf, AreSame}
use Rattle.shared_disk.proofs.OwnLemmas.{first_from-least}
use Rattle.shared_disk.proofs.CourseLemmas.{item-at}
use Rattle.shared_disk.proofs.LineLemmas.{state-same}
use Rattle.shared_disk.proofs.WaitLemmas.{there-is, awaited-no, awaited-yes}

-- the books with other marks
pub sound-marks : (S : Setup) (H : List Entry) (b : Books) (n m : ℕ) → AreBooksSound S H b → n ≤ token_count H → m ≤ token_count H → ((t : ℕ) → t < n → is_outstanding S H t ≡ false) → ((t : ℕ) → t < m → was_collected H t ≡ true)
    → AreBooksSound S H (record { opened = b.opened; clients = b.clients; courses = b.courses; slots = b.slots; ended = n; collected = m })
sound-marks S H b n m sound n_few m_few closed collected = record {
  opened = sound.opened;
  opening = sound.opening;
  few = sound.few;
  orders = sound.orders;
  lines = sound.lines;
  paired = sound.paired;
  courses = sound.courses;
  counted = sound.counted;
  slots = sound.slots;
  ended_few = n_few;
  collected_few = m_few;
  ended = closed;
  collected = collected;
}

pub closed-before : (disk : State) (b : Books) → AreBooksOf disk b → (n : ℕ) → ((t : ℕ) → b.ended ≤ t → t < n → is_outstanding disk.setup disk.entries t ≡ false) → (t : ℕ) → t < n → is_outstanding disk.setup disk.entries t ≡ false
closed-before disk b sound n before t lt = elim (cases_lt t b.ended) [ inl early ↦ sound.ended t early | inr late ↦ before t late lt ]

pub own-tag : (S : Setup) (H : List Entry) (b : Books) (t : ℕ) (s : Slot) → AreBooksSound S H b → t < length b.slots.items → s ≡ get_or b.slots.items t s → has_tag s.tag (request H t) ≡ true
own-tag S H b t s sound lt is = let slot : IsSlot S H t s = sound.slots t s (item-at b.slots.items t s lt is) in slot.tagged

module _ (S : Setup) (H : List Entry) (b : Books) (sound : AreBooksSound S H b) (m : ℕ) (before : (t : ℕ) (s : Slot) → b.collected ≤ t → t < m → slice_get b.slots.items t ≡ Some s → is_awaited s.buffer ≡ false) (most : m ≤ length b.slots.items) where
  pub collected-before : (t : ℕ) → t < m → was_collected H t ≡ true
  collected-before t lt = elim (cases_lt t b.collected) [
    | inl early ↦ sound.collected t early
    | inr late ↦
        (let s : (s : Slot) × (slice_get b.slots.items t ≡ Some s) = there-is b.slots.items t (omega (arith, lt, most)) in
        let slot : IsSlot S H t s.0 = sound.slots t s.0 s.1 in
        awaited-yes S H t s.0.buffer slot.buffer (before t s.0 late lt s.1))
  ]

  pub none-left : token_count H ≤ m → first_left H ≡ None
  unfolding first_left
  none-left all = first_from-none (λ t. not (was_collected H t)) 0 (token_count H) (λ t le lt. ap not (collected-before t (omega (arith, lt, all))))

  pub least-left : m < token_count H → ((s : Slot) → slice_get b.slots.items m ≡ Some s → is_awaited s.buffer ≡ true) → (first_left H ≡ Some m) × (was_collected H m ≡ false)
  unfolding first_left
  least-left lt here =
      let s : (s : Slot) × (slice_get b.slots.items m ≡ Some s) = there-is b.slots.items m (omega (arith, lt, sound.counted)) in
      let slot : IsSlot S H m s.0 = sound.slots m s.0 s.1 in
      let left : was_collected H m ≡ false = awaited-no S H m s.0.buffer slot.buffer (here s.0 s.1) in
      (first_from-least (λ t. not (was_collected H t)) (token_count H) m lt (ap not left) (λ u less. ap not (collected-before u less)), left)

-- nothing may be collected: a line is left, a token is outstanding, or none is left
pub last-line : (disk : State) (b b' : Books) (i : ℕ) → AreSame b b' → IsSome (order_in b i) → LastSays (desk_state disk b) None (desk_state disk b')
unfolding LastSays desk_state
last-line disk b b' i same left = (inl (i, left), state-same disk b b' same)

pub last-open : (disk : State) (b b' : Books) → AreSame b b' → IsSome (first_open disk.setup disk.entries) → LastSays (desk_state disk b) None (desk_state disk b')
unfolding LastSays desk_state
last-open disk b b' same there = (inr (inl there), state-same disk b b' same)

pub last-none : (disk : State) (b b' : Books) → AreSame b b' → first_left disk.entries ≡ None → LastSays (desk_state disk b) None (desk_state disk b')
unfolding LastSays desk_state
last-none disk b b' same none = (inr (inr none), state-same disk b b' same)

pub last-some : (old new : State) (b b1 b' : Books) (tag t : ℕ) → AreSame b b1 → AreOver (roles_in b) (done_in b) → first_open old.setup old.entries ≡ None → first_left old.entries ≡ Some t → has_tag tag (request old.entries t) ≡ true
    → TakesBack (desk_state old b1) tag t (desk_state new b') → LastSays (desk_state old b) (Some t) (desk_state new b')
unfolding LastSays desk_state
last-some old new b b1 b' tag t same over none least own takes = (tag, record { over = over; ended = none; least = least; own = own }, subst (λ s. TakesBack s tag t (desk_state new b')) (state-same old b b1 same) takes)
