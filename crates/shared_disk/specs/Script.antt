-- Which history and which places of lines keep the script of a disk's clients (own profile). Histories and logs stand newest first, places
-- oldest first. Client i counts from 0 and has the tag i + 1.
use Rattle.std.specs.Prelude.{◌≡◌, ℕ, ◌+◌, ◌<◌, ◌≤◌, ◌⊎◌, Bool, true, false, nat_eq, List, [], ◌∷◌, ◌++◌, length, slice_get, slice_index_or, Option, None, Some, All}
use Rattle.history.specs.declared.entry.Entry.{Entry}
use Rattle.history.specs.declared.entry.Entry.TheVariants.{Accept, Refuse, Done, Fault, Collect, Cancel, Reset, Eject, Insert, Protect}
use Rattle.history.specs.declared.order.Order.{Order}
use Rattle.history.specs.declared.order.Order.TheVariants as order
use Rattle.history.specs.Setup.{Setup}
use Rattle.history.specs.Tokens.{token_count, request, was_collected}
use Rattle.history.specs.Next.{first_open}
use Rattle.shared_disk.specs.Lines.{Role, line_entry, with_line_entry, has_tag, first_own_open, first_own_left, first_left}

-- the tag of an entry, and 0 for a command
abbrev pub tag_of : Entry → ℕ
tag_of (Accept tag view asked bytes) = tag
tag_of (Refuse tag view asked media_id status) = tag
tag_of (Done t c) = 0
tag_of (Fault t c done) = 0
tag_of (Collect tag t) = tag
tag_of (Cancel tag view) = tag
tag_of (Reset tag) = tag
tag_of (Eject tag) = tag
tag_of (Insert tag media_id) = tag
tag_of (Protect tag on) = tag

-- a history that clients may begin at: no entry has the tag of a client, and each token was collected
pub record IsOpening (H : List Entry) : Type 0 where
  pub tags : All (λ e. tag_of e ≡ 0) H
  pub collected : (t : ℕ) → t < token_count H → was_collected H t ≡ true

-- the history at the beginning, and the clients
pub record Script : Type 0 where
  pub opening : List Entry
  pub roles : List Role

-- an entry came that is no line's, or a client has done a line with its entry or none
pub data Deed : Type 0 where
  Enters : (entry : Entry) → Deed
  Does : (client : ℕ) → (entry : Option Entry) → Deed

-- the history of a log
unfoldable pub entries_by : List Entry → List Deed → List Entry
entries_by opening [] = opening
entries_by opening (Enters e ∷ log) = e ∷ entries_by opening log
entries_by opening (Does i e ∷ log) = with_line_entry e (entries_by opening log)

abbrev pub with_place : Bool → ℕ → List ℕ → List ℕ
with_place true place places = places ++ place ∷ []
with_place false place places = places

-- for each line that client i has done, how many entries stood before it
unfoldable pub places_by : List Entry → List Deed → ℕ → List ℕ
places_by opening [] i = []
places_by opening (Enters e ∷ log) i = places_by opening log i
places_by opening (Does j e ∷ log) i = with_place (nat_eq j i) (length (entries_by opening log)) (places_by opening log i)

-- how many lines it has done
abbrev pub line_count_by : List Entry → List Deed → ℕ → ℕ
line_count_by opening log i = length (places_by opening log i)

abbrev pub order_at : Option Role → ℕ → Option Order
order_at None n = None
order_at (Some role) n = slice_get role.orders n

-- the next line of client i, which has done n of them; none where no line is left, or no such client is there
abbrev pub next_order : List Role → ℕ → ℕ → Option Order
next_order roles i n = order_at (slice_get roles i) n

-- each token of this tag has ended and was collected
pub record AreOwnOver (S : Setup) (H : List Entry) (tag : ℕ) : Type 0 where
  pub ended : first_own_open S H tag ≡ None
  pub collected : first_own_left H tag ≡ None

-- a wait may be done where each token of its client is over, and every other line at any time
abbrev pub MayDoLine : Setup → List Entry → ℕ → Order → Type 0
MayDoLine S H tag order.Wait = AreOwnOver S H tag
MayDoLine S H tag (order.Request asked payload k) = Unit {0}
MayDoLine S H tag (order.Cancel k) = Unit {0}
MayDoLine S H tag order.Reset = Unit {0}
MayDoLine S H tag order.Eject = Unit {0}
MayDoLine S H tag order.Insert = Unit {0}
MayDoLine S H tag (order.Protect on) = Unit {0}

-- client i, which has done n lines, does its next one, with the entry that the line gives here
pub record DoesNext (S : Setup) (roles : List Role) (H : List Entry) (i n : ℕ) (e : Option Entry) : Type 0 where
  pub role : Role
  pub client : slice_get roles i ≡ Some role
  pub order : Order
  pub next : slice_get role.orders n ≡ Some order
  pub may : MayDoLine S H (i + 1) order
  pub entry : e ≡ line_entry S H (i + 1) role.stand order

-- client i, which has done n lines, waits: none of its tokens is outstanding, and its least uncollected one is handed back
pub record CollectsAtWait (S : Setup) (roles : List Role) (H : List Entry) (i n t : ℕ) : Type 0 where
  pub next : next_order roles i n ≡ Some order.Wait
  pub ended : first_own_open S H (i + 1) ≡ None
  pub least : first_own_left H (i + 1) ≡ Some t

-- no client has a line left
abbrev pub AreOver : List Role → (ℕ → ℕ) → Type 0
AreOver roles done = (i : ℕ) → next_order roles i (done i) ≡ None

-- no client has a line left and no token is outstanding: the least uncollected token of all is handed back, with its own tag
pub record CollectsAtEnd (S : Setup) (roles : List Role) (H : List Entry) (done : ℕ → ℕ) (tag t : ℕ) : Type 0 where
  pub over : AreOver roles done
  pub ended : first_open S H ≡ None
  pub least : first_left H ≡ Some t
  pub own : has_tag tag (request H t) ≡ true

-- a command is of no token of the opening, and a collect is at a wait or at the end; every other entry is a line's
abbrev pub MayComeNext : Setup → Script → List Entry → (ℕ → ℕ) → Entry → Type 0
MayComeNext S d H done (Done t c) = token_count d.opening ≤ t
MayComeNext S d H done (Fault t c n) = token_count d.opening ≤ t
MayComeNext S d H done (Collect tag t) = ((i : ℕ) × (tag ≡ i + 1) × CollectsAtWait S d.roles H i (done i) t) ⊎ CollectsAtEnd S d.roles H done tag t
MayComeNext S d H done (Accept tag view asked bytes) = ⊥
MayComeNext S d H done (Refuse tag view asked media_id status) = ⊥
MayComeNext S d H done (Cancel tag view) = ⊥
MayComeNext S d H done (Reset tag) = ⊥
MayComeNext S d H done (Eject tag) = ⊥
MayComeNext S d H done (Insert tag media_id) = ⊥
MayComeNext S d H done (Protect tag on) = ⊥

abbrev pub MayDo : Setup → Script → List Deed → Deed → Type 0
MayDo S d log (Enters e) = MayComeNext S d (entries_by d.opening log) (line_count_by d.opening log) e
MayDo S d log (Does i e) = DoesNext S d.roles (entries_by d.opening log) i (line_count_by d.opening log i) e

-- each deed may be done after those before it
unfoldable pub Follows : Setup → Script → List Deed → Type 0
Follows S d [] = IsOpening d.opening
Follows S d (x ∷ log) = Follows S d log × MayDo S d log x

-- the places of client i
abbrev pub places_at : List (List ℕ) → ℕ → List ℕ
places_at places i = slice_index_or places i []

-- each line done stands at its place in the history with its entry or none, in order for each client; every collect is one that the rules
-- allow; every other entry is a command's; and the opening history comes first
pub record KeepsScript (S : Setup) (d : Script) (places : List (List ℕ)) (H : List Entry) : Type 0 where
  pub log : List Deed
  pub follows : Follows S d log
  pub history : entries_by d.opening log ≡ H
  pub count : length places ≡ length d.roles
  pub at : (i : ℕ) → places_at places i ≡ places_by d.opening log i

-- besides, every line is done and every token collected
pub record RunsWholeScript (S : Setup) (d : Script) (H : List Entry) : Type 0 where
  pub places : List (List ℕ)
  pub keeps : KeepsScript S d places H
  pub over : AreOver d.roles (λ i. length (places_at places i))
  pub collected : (t : ℕ) → t < token_count H → was_collected H t ≡ true
