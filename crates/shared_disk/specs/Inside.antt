-- What a desk keeps beside its disk, and what holds of it whenever no call of the desk runs (own profile).
use Rattle.std.specs.Prelude.{◌≡◌, ℕ, ◌+◌, ◌-◌, ◌^◌, ◌<◌, ◌≤◌, ◌≢◌, ◌∷◌, ◌++◌, [], true, false, Bool, List, length, map, sum_by, drop, slice_get, Option, None, Some, is_some, IfSome, All, vec_capacity, vec_len}
use Rattle.efi_status.specs.declared.Status.{Status}
use Rattle.history.specs.declared.entry.Entry.{Entry}
use Rattle.history.specs.declared.order.Order.{Order}
use Rattle.history.specs.Setup.{Setup}
use Rattle.history.specs.Tokens.{token_count, was_collected}
use Rattle.history.specs.Marks.{is_outstanding}
use Rattle.token_table.specs.declared.record.Done.{Done}
use Rattle.disk_core.specs.declared.answers.Token.{Token}
use Rattle.disk_core.specs.State.{State}
use Rattle.disk_core.specs.Calls.{Revokes}
use Rattle.disk_core.specs.GoingOn.{GoesOn}
use Rattle.shared_disk.specs.declared.clients.Client.{Client}
use Rattle.shared_disk.specs.declared.books.Books.{Books}
use Rattle.shared_disk.specs.declared.books.Buffer.{Buffer}
use Rattle.shared_disk.specs.declared.books.Buffer.TheVariants.{Awaited, Kept, Gone}
use Rattle.shared_disk.specs.declared.books.Course.{Course}
use Rattle.shared_disk.specs.declared.books.Slot.{Slot}
use Rattle.shared_disk.specs.Lines.{Role, roles_of, with_line_entry, own_before}
use Rattle.shared_disk.specs.Script.{IsOpening, next_order, places_at, DoesNext}
pub use Rattle.shared_disk.specs.Slots.{buffer_in, IsBufferOf, IsSlot}
use Rattle.shared_disk.specs.Desk.{DeskState, IsDeskOrder, given_at, is_accept_of, IsNewToken, wants_memory}

-- the oldest n entries
unfoldable pub first_entries : ℕ → List Entry → List Entry
first_entries n H = drop (length H - n) H

-- how its token ended, where the buffer is here
abbrev pub end_in : Buffer → Option Status
end_in Awaited = None
end_in (Kept done) = Some done.status
end_in Gone = None

abbrev pub is_awaited : Buffer → Bool
is_awaited Awaited = true
is_awaited (Kept done) = false
is_awaited Gone = false

abbrev pub roles_in : Books → List Role
roles_in b = roles_of b.clients.items

abbrev pub places_in : Books → List (List ℕ)
places_in b = map (λ course. course.places.items) b.courses.items

abbrev pub given_in : Books → List (Option (List ℕ))
given_in b = map (λ slot. buffer_in slot.buffer) b.slots.items

abbrev pub slot_end : Option Slot → Option Status
slot_end None = None
slot_end (Some slot) = end_in slot.buffer

-- how a token ended whose buffer is here
abbrev pub end_at : Books → ℕ → Option Status
end_at b t = slot_end (slice_get b.slots.items t)

-- how many lines client i has done, and its next one
abbrev pub done_in : Books → ℕ → ℕ
done_in b i = length (places_at (places_in b) i)

abbrev pub order_in : Books → ℕ → Option Order
order_in b i = next_order (roles_in b) i (done_in b i)

-- the desk as its callers see it
unfoldable pub desk_state : State → Books → DeskState
desk_state disk b = record {
  disk = disk;
  script = record { opening = first_entries b.opened disk.entries; roles = roles_in b };
  places = places_in b;
  given = given_in b;
}

-- the places and tokens of the client with this tag, who has so many lines; the marks stand among the tokens
pub record IsCourse (S : Setup) (H : List Entry) (tag lines : ℕ) (c : Course) : Type 0 where
  pub few : length c.places.items ≤ lines
  pub room : lines ≤ vec_capacity c.places
  pub own : c.tokens.items ≡ own_before H tag (token_count H)
  pub ended_few : c.ended ≤ length c.tokens.items
  pub collected_few : c.collected ≤ length c.tokens.items
  pub ended : (j t : ℕ) → j < c.ended → slice_get c.tokens.items j ≡ Some t → is_outstanding S H t ≡ false
  pub collected : (j t : ℕ) → j < c.collected → slice_get c.tokens.items j ≡ Some t → was_collected H t ≡ true

-- the opening history is the oldest entries; each client has its course, each token its slot; and the marks
pub record AreBooksSound (S : Setup) (H : List Entry) (b : Books) : Type 0 where
  pub opened : b.opened ≤ length H
  pub opening : IsOpening (first_entries b.opened H)
  pub few : length b.clients.items ≤ 64
  pub orders : All (λ client. All IsDeskOrder client.orders.items) b.clients.items
  pub lines : sum_by (λ client. length client.orders.items) b.clients.items ≤ 2 ^ 32
  pub paired : length b.courses.items ≡ length b.clients.items
  pub courses : (i : ℕ) (client : Client) (c : Course) → slice_get b.clients.items i ≡ Some client → slice_get b.courses.items i ≡ Some c → IsCourse S H (i + 1) (length client.orders.items) c
  pub counted : length b.slots.items ≡ token_count H
  pub slots : (t : ℕ) (s : Slot) → slice_get b.slots.items t ≡ Some s → IsSlot S H t s
  pub ended_few : b.ended ≤ token_count H
  pub collected_few : b.collected ≤ token_count H
  pub ended : (t : ℕ) → t < b.ended → is_outstanding S H t ≡ false
  pub collected : (t : ℕ) → t < b.collected → was_collected H t ≡ true

-- the books of a disk are sound
abbrev pub AreBooksOf : State → Books → Type 0
AreBooksOf disk b = AreBooksSound disk.setup disk.entries b

-- what callers see of the books stays
pub record AreSame (b b' : Books) : Type 0 where
  pub opened : b'.opened ≡ b.opened
  pub clients : b'.clients ≡ b.clients
  pub places : places_in b' ≡ places_in b
  pub given : given_in b' ≡ given_in b

-- the disk has done what a line asks, with its entry or none, and the books know the token; the line is not yet noted
pub record DoesOn (old : State) (b : Books) (new : State) (b' : Books) (e : Option Entry) (token : Option Token) : Type 0 where
  pub entries : new.entries ≡ with_line_entry e old.entries
  pub accepts : is_some token ≡ is_accept_of e
  pub numbered : IfSome token (IsNewToken old new)
  pub goes_on : GoesOn old new
  pub devices : new.devices ≡ old.devices
  pub gates : Revokes old.gates new.gates
  pub opened : b'.opened ≡ b.opened
  pub clients : b'.clients ≡ b.clients
  pub places : places_in b' ≡ places_in b
  pub given : (t : ℕ) → given_at (given_in b') t ≡ given_at (given_in b) t
  pub sound : AreBooksOf new b'

-- no line of the client is done, and there is a place for each
pub record IsNewCourse (client : Client) (c : Course) : Type 0 where
  pub places : c.places.items ≡ []
  pub tokens : c.tokens.items ≡ []
  pub ended : c.ended ≡ 0
  pub collected : c.collected ≡ 0
  pub room : length client.orders.items ≤ vec_capacity c.places

-- so each of these
pub record AreNew (clients : List Client) (courses : List Course) : Type 0 where
  pub count : length courses ≡ length clients
  pub each : (i : ℕ) (client : Client) (c : Course) → slice_get clients i ≡ Some client → slice_get courses i ≡ Some c → IsNewCourse client c

-- there is room for one more token of a client
pub record HasTokenRoom (b : Books) (place : ℕ) : Type 0 where
  pub slots : vec_len b.slots < vec_capacity b.slots
  pub tokens : (c : Course) → slice_get b.courses.items place ≡ Some c → vec_len c.tokens < vec_capacity c.tokens

-- one course has changed, and nothing else that is seen
pub record ChangesCourse (b : Books) (place : ℕ) (Changes : Course → Course → Type 0) (b' : Books) : Type 0 where
  pub opened : b'.opened ≡ b.opened
  pub clients : b'.clients ≡ b.clients
  pub slots : b'.slots.items ≡ b.slots.items
  pub ended : b'.ended ≡ b.ended
  pub collected : b'.collected ≡ b.collected
  pub count : length b'.courses.items ≡ length b.courses.items
  pub was : Course
  pub there : slice_get b.courses.items place ≡ Some was
  pub now : Course
  pub here : slice_get b'.courses.items place ≡ Some now
  pub changes : Changes was now
  pub others : (i : ℕ) → i ≢ place → slice_get b'.courses.items i ≡ slice_get b.courses.items i

-- no place and no token has changed
pub record IsRoomy (c c' : Course) : Type 0 where
  pub places : c'.places ≡ c.places
  pub tokens : c'.tokens.items ≡ c.tokens.items
  pub ended : c'.ended ≡ c.ended
  pub collected : c'.collected ≡ c.collected

-- one token more
pub record HasToken (number : ℕ) (c c' : Course) : Type 0 where
  pub places : c'.places ≡ c.places
  pub tokens : c'.tokens.items ≡ c.tokens.items ++ number ∷ []
  pub ended : c'.ended ≡ c.ended
  pub collected : c'.collected ≡ c.collected

-- one line more is done
pub record HasLineMore (before : ℕ) (c c' : Course) : Type 0 where
  pub places : c'.places.items ≡ c.places.items ++ before ∷ []
  pub room : vec_capacity c'.places ≡ vec_capacity c.places
  pub tokens : c'.tokens ≡ c.tokens
  pub ended : c'.ended ≡ c.ended
  pub collected : c'.collected ≡ c.collected

-- one token more, of a client; its buffer is awaited
pub record AddsToken (b : Books) (place tag number : ℕ) (b' : Books) : Type 0 where
  pub opened : b'.opened ≡ b.opened
  pub clients : b'.clients ≡ b.clients
  pub slots : b'.slots.items ≡ b.slots.items ++ record { tag = tag; buffer = Awaited } ∷ []
  pub ended : b'.ended ≡ b.ended
  pub collected : b'.collected ≡ b.collected
  pub count : length b'.courses.items ≡ length b.courses.items
  pub was : Course
  pub there : slice_get b.courses.items place ≡ Some was
  pub now : Course
  pub here : slice_get b'.courses.items place ≡ Some now
  pub changes : HasToken number was now
  pub others : (i : ℕ) → i ≢ place → slice_get b'.courses.items i ≡ slice_get b.courses.items i

-- where the buffer of a token is has changed
pub record PutsBuffer (b : Books) (number : ℕ) (buffer : Buffer) (b' : Books) : Type 0 where
  pub opened : b'.opened ≡ b.opened
  pub clients : b'.clients ≡ b.clients
  pub courses : b'.courses ≡ b.courses
  pub ended : b'.ended ≡ b.ended
  pub collected : b'.collected ≡ b.collected
  pub count : length b'.slots.items ≡ length b.slots.items
  pub was : Slot
  pub there : slice_get b.slots.items number ≡ Some was
  pub here : slice_get b'.slots.items number ≡ Some (record was { buffer = buffer })
  pub others : (t : ℕ) → t ≢ number → slice_get b'.slots.items t ≡ slice_get b.slots.items t

-- the buffer of a token is here
abbrev pub KeepsBuffer : Books → ℕ → Done → Books → Type 0
KeepsBuffer b number done b' = PutsBuffer b number (Kept done) b'

-- a line may want memory
abbrev pub MayWantMemory : Option Order → Type 0
MayWantMemory None = ⊥
MayWantMemory (Some order) = wants_memory order ≡ true

-- the disk has done what the next line of client i asks
pub record DoesOrder (old : State) (b : Books) (i : ℕ) (new : State) (b' : Books) (token : Option Token) : Type 0 where
  pub entry : Option Entry
  pub next : DoesNext old.setup (roles_in b) old.entries i (done_in b i) entry
  pub does : DoesOn old b new b' entry token
