-- A desk as its callers see it, and what each of its calls does (own profile). Client i counts from 0 and has the tag i + 1.
use Rattle.std.specs.Prelude.{◌≡◌, ◌≢◌, ℕ, ◌+◌, ◌^◌, ◌<◌, ◌≤◌, ◌⊎◌, Bool, true, false, List, [], ◌∷◌, ◌++◌, length, map, sum_by, slice_set, slice_index_or, replicate, Option, None, Some, IsSome, is_some, IfSome, All}
use Rattle.efi_status.specs.declared.Status.{Status}
use Rattle.efi_status.specs.declared.Status.TheVariants.{Success}
use Rattle.history.specs.declared.entry.Asked.{Asked}
use Rattle.history.specs.declared.entry.Kind.{Kind}
use Rattle.history.specs.declared.entry.Kind.TheVariants.{Read, Write, Flush, Erase}
use Rattle.history.specs.declared.entry.Entry.{Entry}
use Rattle.history.specs.declared.entry.Entry.TheVariants.{Accept, Refuse, Done, Fault, Collect, Cancel, Reset, Eject, Insert, Protect}
use Rattle.history.specs.declared.order.Order.{Order}
use Rattle.history.specs.declared.order.Order.TheVariants as order
use Rattle.history.specs.declared.order.Payload.{Payload}
use Rattle.history.specs.declared.order.Payload.TheVariants.{Given, Fill, Nothing}
use Rattle.history.specs.Setup.{Setup}
use Rattle.history.specs.Tokens.{Request, token_count, request, was_collected, from_of, until_of}
use Rattle.history.specs.Commands.{is_moved}
use Rattle.history.specs.Marks.{mark_of}
use Rattle.history.specs.Rules.{IsWellAsked}
use Rattle.history.specs.Next.{first_open}
use Rattle.disk_core.specs.declared.answers.Token.{Token}
use Rattle.disk_core.specs.State.{State, Kept}
use Rattle.disk_core.specs.Facts.{HasBytesRead, buffer_length}
use Rattle.disk_core.specs.Calls.{Revokes, Collects}
use Rattle.disk_core.specs.GoingOn.{GoesOn}
use Rattle.shared_disk.specs.declared.clients.Client.{Client}
use Rattle.shared_disk.specs.declared.answers.Line.{Line}
use Rattle.shared_disk.specs.declared.answers.Line.TheVariants as line
use Rattle.shared_disk.specs.Lines.{payload_bytes, Role, with_line_entry, first_own_open, first_left}
use Rattle.shared_disk.specs.Script.{Script, next_order, places_at, AreOver, DoesNext, CollectsAtWait, CollectsAtEnd, KeepsScript}

-- the disk; the history at the beginning with the clients, which never change; for each client the places of the lines that it has done;
-- and for each token its buffer, where the desk has collected it
pub record DeskState : Type 0 where
  pub disk : State
  pub script : Script
  pub places : List (List ℕ)
  pub given : List (Option (List ℕ))

-- how many lines client i has done
abbrev pub done_of : DeskState → ℕ → ℕ
done_of s i = length (places_at s.places i)

-- its next line
abbrev pub next_of : DeskState → ℕ → Option Order
next_of s i = next_order s.script.roles i (done_of s i)

-- no client has a line left
abbrev pub HasNoLine : DeskState → Type 0
HasNoLine s = AreOver s.script.roles (done_of s)

-- the buffer of a token, where the desk has collected it
abbrev pub given_at : List (Option (List ℕ)) → ℕ → Option (List ℕ)
given_at given t = slice_index_or given t None

-- the bytes that a line brings for its request
abbrev pub BringsFor : Kind → Payload → ℕ → Type 0
BringsFor Read Nothing n = Unit {0}
BringsFor Write (Given bytes) n = length bytes ≡ n
BringsFor Write (Fill b) n = Unit {0}
BringsFor Flush Nothing n = Unit {0}
BringsFor Erase Nothing n = Unit {0}
BringsFor kind payload n = ⊥

-- a request as a line may ask for it: at most 16 MiB
pub record IsAskedFor (asked : Asked) (payload : Payload) : Type 0 where
  pub most : asked.length ≤ 2 ^ 24
  pub well_asked : IsWellAsked asked
  pub brings : BringsFor asked.kind payload asked.length

-- the buffer that a read or a write of a line brings: the bytes of the write, or zeros
pub record IsBufferFor (asked : Asked) (payload : Payload) (buffer : List ℕ) : Type 0 where
  pub long : length buffer ≡ asked.length
  pub bytes : asked.kind ≡ Write → buffer ≡ payload_bytes asked.length payload

abbrev pub IsDeskOrder : Order → Type 0
IsDeskOrder (order.Request asked payload k) = IsAskedFor asked payload
IsDeskOrder order.Wait = Unit {0}
IsDeskOrder (order.Cancel k) = Unit {0}
IsDeskOrder order.Reset = Unit {0}
IsDeskOrder order.Eject = Unit {0}
IsDeskOrder order.Insert = Unit {0}
IsDeskOrder (order.Protect on) = Unit {0}

-- at most 64 clients with at most 2^32 lines together
pub record AreDeskClients (clients : List Client) : Type 0 where
  pub few : length clients ≤ 64
  pub lines : sum_by (λ client. length client.orders.items) clients ≤ 2 ^ 32
  pub orders : All (λ client. All IsDeskOrder client.orders.items) clients

-- the desk gives this buffer for a token that was collected: a write's bytes as they came, and a read's each byte that was read; where the
-- read succeeded that is each byte of its range
pub record IsHandedBack (S : Setup) (H : List Entry) (t : ℕ) (buffer : List ℕ) (q : Request) (status : Status) : Type 0 where
  pub named : request H t ≡ Some q
  pub marked : mark_of S H t ≡ Some status
  pub collected : was_collected H t ≡ true
  pub written : q.asked.kind ≡ Write → buffer ≡ q.bytes
  pub read : q.asked.kind ≡ Read → HasBytesRead S H t q buffer
  pub long : length buffer ≡ buffer_length q.asked.kind q.asked.length
  pub whole : status ≡ Success → q.asked.kind ≡ Read → (x : ℕ) → from_of S q ≤ x → x < until_of S q → is_moved S H t x ≡ true

-- so each buffer that the desk gives
abbrev pub AreGivenBack : DeskState → Type 0
AreGivenBack s = (t : ℕ) (buffer : List ℕ) → given_at s.given t ≡ Some buffer → (q : Request) × (status : Status) × IsHandedBack s.disk.setup s.disk.entries t buffer q status

-- the desk has the buffer of each token that its clients have collected
abbrev pub HasBuffers : DeskState → Type 0
HasBuffers s = (t : ℕ) → token_count s.script.opening ≤ t → was_collected s.disk.entries t ≡ true → IsSome (given_at s.given t)

-- the desk keeps its script, and the buffers of all tokens that its clients have collected
pub record Keeps (s : DeskState) : Type 0 where
  pub script : KeepsScript s.disk.setup s.script s.places s.disk.entries
  pub buffers : HasBuffers s

-- a new desk over a disk
abbrev pub desk_over : State → List Role → DeskState
desk_over disk roles = record {
  disk = disk;
  script = record { opening = disk.entries; roles = roles };
  places = map (λ role. []) roles;
  given = replicate (token_count disk.entries) None;
}

-- the disk alone was called, which kept its setup
pub record OnDisk (old new : DeskState) (Says : State → State → Type 0) : Type 0 where
  pub says : Says old.disk new.disk
  pub script : new.script ≡ old.script
  pub places : new.places ≡ old.places
  pub given : new.given ≡ old.given

abbrev pub is_accept_of : Option Entry → Bool
is_accept_of None = false
is_accept_of (Some (Accept tag view asked bytes)) = true
is_accept_of (Some (Refuse tag view asked media_id status)) = false
is_accept_of (Some (Done t c)) = false
is_accept_of (Some (Fault t c done)) = false
is_accept_of (Some (Collect tag t)) = false
is_accept_of (Some (Cancel tag view)) = false
is_accept_of (Some (Reset tag)) = false
is_accept_of (Some (Eject tag)) = false
is_accept_of (Some (Insert tag media_id)) = false
is_accept_of (Some (Protect tag on)) = false

-- the next token: its number, and its event, which has seen nothing and is that of what the disk keeps of it
pub record IsNewToken (old new : State) (token : Token) : Type 0 where
  pub numbered : token.number ≡ token_count old.entries
  pub unseen : token.event.seen ≡ 0
  pub buffer : List ℕ
  pub kept : new.kept ≡ old.kept ++ Some (record { buffer = buffer; word = token.event.word }) ∷ []

-- client i has done its next line, with the entry that the line gives
pub record DoesLine (old : DeskState) (i : ℕ) (token : Option Token) (new : DeskState) (e : Option Entry) : Type 0 where
  pub does : DoesNext old.disk.setup old.script.roles old.disk.entries i (done_of old i) e
  pub entries : new.disk.entries ≡ with_line_entry e old.disk.entries
  pub accepts : is_some token ≡ is_accept_of e
  pub numbered : IfSome token (IsNewToken old.disk new.disk)
  pub goes_on : GoesOn old.disk new.disk
  pub devices : new.disk.devices ≡ old.disk.devices
  pub gates : Revokes old.disk.gates new.disk.gates
  pub script : new.script ≡ old.script
  pub places : new.places ≡ slice_set old.places i (places_at old.places i ++ length old.disk.entries ∷ [])
  pub given : (t : ℕ) → given_at new.given t ≡ given_at old.given t

-- a token was handed back with this tag, and the desk keeps its buffer
pub record TakesBack (old : DeskState) (tag t : ℕ) (new : DeskState) : Type 0 where
  pub status : Status
  pub buffer : List ℕ
  pub asked : Request
  pub was : Kept
  pub collects : Collects old.disk tag t status buffer new.disk asked was
  pub script : new.script ≡ old.script
  pub places : new.places ≡ old.places
  pub kept : given_at new.given t ≡ Some buffer
  pub others : (u : ℕ) → u ≢ t → given_at new.given u ≡ given_at old.given u

-- a line that may want memory
abbrev pub wants_memory : Order → Bool
wants_memory (order.Request asked payload k) = true
wants_memory (order.Protect on) = true
wants_memory order.Wait = false
wants_memory (order.Cancel k) = false
wants_memory order.Reset = false
wants_memory order.Eject = false
wants_memory order.Insert = false

-- the next line of client i: done, at a wait with a token handed back or with one outstanding, none left, or want of memory
unfoldable pub LineSays : DeskState → ℕ → Line → DeskState → Type 0
LineSays old i (line.Did token) new = (e : Option Entry) × DoesLine old i token new e
LineSays old i (line.Collected t) new = CollectsAtWait old.disk.setup old.script.roles old.disk.entries i (done_of old i) t × TakesBack old (i + 1) t new
LineSays old i line.NotYet new = (next_of old i ≡ Some order.Wait) × IsSome (first_own_open old.disk.setup old.disk.entries (i + 1)) × (new ≡ old)
LineSays old i line.Ended new = (next_of old i ≡ None) × (new ≡ old)
LineSays old i line.Memory new = (order : Order) × (next_of old i ≡ Some order) × (wants_memory order ≡ true) × (new ≡ old)

-- a client has a line left
abbrev pub HasLine : DeskState → Type 0
HasLine s = (i : ℕ) × IsSome (next_of s i)

-- a line is left, a token is outstanding, or every token was collected
abbrev pub HasNoLast : DeskState → Type 0
HasNoLast s = HasLine s ⊎ (IsSome (first_open s.disk.setup s.disk.entries) ⊎ (first_left s.disk.entries ≡ None))

-- after the last line: the least uncollected token is handed back with its own tag, and none exactly where that may not be
unfoldable pub LastSays : DeskState → Option ℕ → DeskState → Type 0
LastSays old (Some t) new = (tag : ℕ) × CollectsAtEnd old.disk.setup old.script.roles old.disk.entries (done_of old) tag t × TakesBack old tag t new
LastSays old None new = HasNoLast old × (new ≡ old)
