-- The parts of a disk whose history has an entry more, while the requests that it ends are ended one after the other (own profile).
use Rattle.std.specs.Prelude.{◌≡◌, ℕ, ◌+◌, ◌-◌, ◌*◌, ◌^◌, ◌<◌, ◌≤◌, Bool, true, false, nat_eq, nat_lt, ◌&&◌, if◌then◌else◌, List, ◌∷◌, length, map, filter, count_by, Option, None, Some, is_none, vec_capacity}
use Rattle.std.specs.List.{list_any}
use Rattle.efi_status.specs.declared.Status.{Status}
use Rattle.efi_status.specs.declared.Status.TheVariants.{WriteProtected}
use Rattle.disk_split.specs.Units.{group_size}
use Rattle.medium.specs.Device.{AreToldAt}
use Rattle.history.specs.declared.entry.View.{View}
use Rattle.history.specs.declared.entry.Kind.{Kind}
use Rattle.history.specs.declared.entry.Entry.{Entry}
use Rattle.history.specs.declared.entry.Entry.TheVariants.{Cancel, Reset}
use Rattle.history.specs.Setup.{Setup, IsSetup, size_of}
use Rattle.history.specs.Eras.{media_id_of}
use Rattle.history.specs.Tokens.{Request, is_accept, token_count, request, was_collected, changes_bytes}
use Rattle.history.specs.Contents.{contents}
use Rattle.history.specs.Marks.{is_same_view, status_if, ending, mark_of, was_fetched, was_stored, fetches, ticket_of, IsOutstanding, HoldsBy}
use Rattle.history.specs.Rules.{IsLegal}
use Rattle.history.specs.Tasks.{Todo, units_left}
use Rattle.history.specs.Room.{commands_owed}
use Rattle.history_laws.specs.OwedSoFar.{owed_so_far}
use Rattle.history_laws.specs.Left.{end_count}
use Rattle.history_laws.specs.Pending.{Ordered}
use Rattle.token_table.specs.declared.record.Request.{Request as RequestOf}
use Rattle.token_table.specs.Records.{request_at}
use Rattle.subtask_queue.specs.declared.sub.Sub.{Sub}
use Rattle.subtask_queue.specs.Subs.{token_of, is_of, sub_of}
use Rattle.block_gate.specs.Gates.{Gate, Gates, gate_of, is_out, AreSound}
use Rattle.disk_core.specs.declared.ending.Meant.{Meant}
use Rattle.disk_core.specs.declared.ending.Meant.TheVariants.{OfView, Changes, All}
use Rattle.disk_core.specs.declared.parts.Core.{Core}
use Rattle.disk_core.specs.declared.parts.Holder.{Holder}
use Rattle.disk_core.specs.Facts.{KeptFollow}
use Rattle.disk_core.specs.Parts.{kept_of, holder_of}
use Rattle.disk_core.specs.Calls.{Revokes}
use Rattle.disk_core.specs.Inside.{IsEarlier, RecordsBy}
use Rattle.disk_core.specs.Moves.{StaysBeside}

-- In all of these `marks` says how each token stands in the parts so far, where the history says it by `mark_of`.

-- the token holds the group by this ticket, so far
pub record HoldsSoFar (H : List Entry) (marks : ℕ → Option Status) (t b k : ℕ) : Type 0 where
  pub token : t < token_count H
  pub unmarked : marks t ≡ None
  pub fetched : was_fetched H t b ≡ true
  pub unstored : was_stored H t b ≡ false
  pub ticket_is : ticket_of H t b ≡ Some k

-- a gate is that of its holder; where the history leaves that one open, its work is out and its copy is the group
pub record IsGateSoFar (S : Setup) (H : List Entry) (marks : ℕ → Option Status) (holders : List Holder) (k : ℕ) (g : Gate) (t : ℕ) : Type 0 where
  pub holder : holder_of holders k ≡ Some t
  pub holds : HoldsSoFar H marks t g.block k
  pub lent : mark_of S H t ≡ None → g.out ≡ true
  pub copied : mark_of S H t ≡ None → AreToldAt (contents S (media_id_of H) H) (g.block * size_of S) g.copy

-- gates and holders so far; those of tokens that the history leaves open are all there
pub record GatesSoFar (S : Setup) (H : List Entry) (marks : ℕ → Option Status) (gates : Gates) (holders : List Holder) (places : ℕ) : Type 0 where
  pub sized : gates.size ≡ group_size S.geometry
  pub each : (k : ℕ) (g : Gate) → gate_of gates.held k ≡ Some g → (t : ℕ) × IsGateSoFar S H marks holders k g t
  pub all : (t b k : ℕ) → HoldsBy S H t b k → (g : Gate) × (gate_of gates.held k ≡ Some g) × (g.block ≡ b)
  pub below : (k : ℕ) → is_out gates k ≡ true → k < fetches H
  pub apart : AreSound gates
  pub paired : map (λ h. h.ticket) holders ≡ map (λ g. g.ticket) gates.held
  pub rising : Ordered IsEarlier holders
  pub fits : length gates.held + (length gates.gone + gates.free) ≤ places

-- room suffices but for `late` places, which the first end brings
pub record RoomSoFar (S : Setup) (H : List Entry) (marks : ℕ → Option Status) (late : ℕ) (c : Core) : Type 0 where
  pub owes : owed_so_far S H marks ≤ c.owed
  pub places : c.owed ≤ c.history.spare + late
  pub few : length H + c.history.spare < 2 ^ 63

-- the parts follow a history whose last entry has not yet ended each token that it ends; of these units those of tokens that
-- are open so far stand in the queue
pub record IsClosing (S : Setup) (H : List Entry) (marks : ℕ → Option Status) (units : List Todo) (late : ℕ) (c : Core) : Type 0 where
  pub entries : c.history.entries ≡ H
  pub setup : IsSetup S
  pub legal : IsLegal S H
  pub tokens : KeptFollow S H (kept_of c.tokens)
  pub uncollected : (t : ℕ) → marks t ≡ None → was_collected H t ≡ false
  pub records : RecordsBy S H marks c.tokens
  pub queue : c.queue ≡ map (sub_of (size_of S)) (filter (λ todo. is_none (marks todo.token)) units)
  pub costs : (t : ℕ) (q : Request) → request H t ≡ Some q → count_by (λ todo. nat_eq t todo.token) units ≤ commands_owed S H t q
  pub gates : GatesSoFar S H marks c.gates c.holders.items (vec_capacity c.holders)
  pub room : RoomSoFar S H marks late c

-- whether a request with this view and kind is meant
abbrev pub is_meant_in : Meant → View → Kind → Bool
is_meant_in (OfView other) view kind = is_same_view view other
is_meant_in Changes view kind = changes_bytes kind
is_meant_in All view kind = true

abbrev pub is_some_meant : Meant → Option RequestOf → Bool
is_some_meant meant None = false
is_some_meant meant (Some r) = is_meant_in meant r.view r.asked.kind

-- a token has a unit in the queue, and is meant
abbrev pub is_queued : Core → ℕ → Bool
is_queued c t = list_any (is_of t) c.queue

abbrev pub is_queued_meant : Core → Meant → ℕ → Bool
is_queued_meant c meant t = is_queued c t && is_some_meant meant (request_at c.tokens t)

-- the least such token from this one on
abbrev pub IsNextMeant : Core → Meant → ℕ → Option ℕ → Type 0
IsNextMeant c meant from None = (u : ℕ) → from ≤ u → is_queued_meant c meant u ≡ false
IsNextMeant c meant from (Some t) = (from ≤ t) × (is_queued_meant c meant t ≡ true) × ((u : ℕ) → from ≤ u → u < t → is_queued_meant c meant u ≡ false)

-- no such token stands before this one
abbrev pub NoneMeantBefore : Core → Meant → ℕ → Type 0
NoneMeantBefore c meant first = (u : ℕ) → u < first → is_queued_meant c meant u ≡ false

-- units stand in the order of their tokens
abbrev pub AreSorted : List Sub → Type 0
AreSorted queue = Ordered (λ one other. token_of one ≤ token_of other) queue

-- the entry `e` was added to `H`; it ends the meant tokens with this status, and none of them has ended in the parts
pub record IsToEnd (meant : Meant) (status : Status) (S : Setup) (H : List Entry) (e : Entry) (late : ℕ) (c : Core) : Type 0 where
  pub closing : IsClosing S (e ∷ H) (mark_of S H) (units_left S H) late c
  pub means : (t : ℕ) (q : Request) → IsOutstanding S H t → request H t ≡ Some q → ending S H e t ≡ status_if (is_meant_in meant q.view q.asked.kind) status
  pub adds_none : is_accept e ≡ false
  pub accepts : c.accepted ≡ token_count H
  pub lent : (k : ℕ) (g : Gate) → gate_of c.gates.held k ≡ Some g → g.out ≡ true

-- for some history
abbrev pub HasToEnd : Meant → Status → Core → Type 0
HasToEnd meant status c = (S : Setup) × (H : List Entry) × (e : Entry) × (late : ℕ) × IsToEnd meant status S H e late c

-- all of them have ended, so many
pub record HaveEnded (S : Setup) (H : List Entry) (e : Entry) (late : ℕ) (c c' : Core) (count : ℕ) : Type 0 where
  pub closing : IsClosing S (e ∷ H) (mark_of S (e ∷ H)) (units_left S H) (late - count) c'
  pub counted : count ≡ end_count S H e
  pub rest : StaysBeside c c'
  pub kept : kept_of c'.tokens ≡ kept_of c.tokens
  pub revokes : Revokes c.gates c'.gates

-- for whatever history
abbrev pub EndsMeant : Meant → Status → Core → Core → ℕ → Type 0
EndsMeant meant status c c' count = (S : Setup) (H : List Entry) (e : Entry) (late : ℕ) → IsToEnd meant status S H e late c → HaveEnded S H e late c c' count

-- how each token stands where the ends of those before n have come to the parts
abbrev pub marks_below : Setup → List Entry → Entry → ℕ → ℕ → Option Status
marks_below S H e n u = if nat_lt u n then mark_of S (e ∷ H) u else mark_of S H u

-- the entry of a cancel ends the tokens of its view, that of a reset all
abbrev pub IsAbort : Meant → Entry → Type 0
IsAbort (OfView view) e = (tag : ℕ) × (e ≡ Cancel tag view)
IsAbort Changes e = ⊥
IsAbort All e = (tag : ℕ) × (e ≡ Reset tag)

-- a protection that is set ends the writes and erases, and one that is lifted nothing
abbrev pub EndsChanges : Bool → Core → Core → ℕ → Type 0
EndsChanges true c c' count = EndsMeant Changes WriteProtected c c' count
EndsChanges false c c' count = (c' ≡ c) × (count ≡ 0)
