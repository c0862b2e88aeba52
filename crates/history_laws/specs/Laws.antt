-- The laws of a history (own profile).
use Rattle.std.specs.Prelude.{◌≡◌, ℕ, ◌+◌, ◌*◌, ◌<◌, ◌≤◌, Bool, true, false, not, ◌&&◌, List, ◌∷◌, length, None, Some, is_none, option_map, ◌++◌, ◌⊎◌, filter}
use Rattle.std.specs.List.{list_all}
use Rattle.efi_status.specs.declared.Status.{Status}
use Rattle.disk_split.specs.declared.span.Span.{Span}
use Rattle.disk_split.specs.Units.{IsUnit, group_start}
use Rattle.history.specs.declared.entry.View.{View}
use Rattle.history.specs.declared.entry.Asked.{Asked}
use Rattle.history.specs.declared.entry.Command.{Command}
use Rattle.history.specs.declared.entry.Command.TheVariants.{Fetch}
use Rattle.history.specs.declared.entry.Entry.{Entry}
use Rattle.history.specs.declared.entry.Entry.TheVariants.{Accept, Refuse, Done, Fault, Cancel, Reset, Eject, Protect}
use Rattle.history.specs.Setup.{Setup, IsSetup, size_of, per_of, first_of}
use Rattle.history.specs.Eras.{ejects, inserts, media_id_of, era_commands, era_faults}
use Rattle.history.specs.Tokens.{Request, is_accept, token_count, request, from_of, until_of}
use Rattle.history.specs.Commands.{is_transfer, done_commands, is_moved}
use Rattle.history.specs.Contents.{pieces_of, contents, kept_contents, byte_at, bytes_read}
use Rattle.history.specs.Marks.{ending, mark_of, has_view, is_some_change, is_outstanding, is_complete, is_held, fetches, Holds, HoldsBy}
use Rattle.history.specs.Rules.{MayCommand, MayFollow, IsLegal}
use Rattle.history.specs.Tasks.{Moves, tasks_of, is_finished, Todo, units_left, first_runnable, task_command}
use Rattle.history.specs.Next.{next_turn}
use Rattle.history.specs.Room.{commands, AreFewCommands, owed_entries}
use Rattle.history_laws.specs.TokenFacts.{is_done, facts_of, IsUntold, concerns}
use Rattle.history_laws.specs.Units.{IsUnitCommand, AreTaskCommands}
use Rattle.history_laws.specs.Pending.{is_todo, todos_of, is_todo_of, IsBefore, Ordered}
use Rattle.history_laws.specs.Ranges.{AreInViews, AreToldWhole}
use Rattle.history_laws.specs.Gates.{is_store_of}
use Rattle.history_laws.specs.Eras.{IsOut}
use Rattle.history_laws.specs.Turns.{turn_of_todo}

-- an entry that does not concern a token changes nothing that is told of it
abbrev pub TellsNothingElse : Type 0
TellsNothingElse = (S : Setup) (H : List Entry) (e : Entry) (t : ℕ) → concerns H e t ≡ false → facts_of S (e ∷ H) t ≡ facts_of S H t

-- nor what it read
abbrev pub ReadsNothingElse : Type 0
ReadsNothingElse = (S : Setup) (H : List Entry) (e : Entry) (t x : ℕ) → concerns H e t ≡ false → bytes_read S (e ∷ H) t x ≡ bytes_read S H t x

-- nothing is told of a token that is not yet accepted
abbrev pub BeginsUntold : Type 0
BeginsUntold = (S : Setup) (H : List Entry) (t : ℕ) → IsLegal S H → token_count H ≤ t → IsUntold S H t

-- a token ends once
abbrev pub EndsOnce : Type 0
EndsOnce = (S : Setup) (H : List Entry) (e : Entry) (t : ℕ) (status : Status) → mark_of S H t ≡ Some status → mark_of S (e ∷ H) t ≡ Some status

-- an ended token keeps its done commands
abbrev pub KeepsCommands : Type 0
KeepsCommands = (S : Setup) (H : List Entry) (e : Entry) (t : ℕ) (status : Status) → MayFollow S H e → mark_of S H t ≡ Some status → done_commands (e ∷ H) t ≡ done_commands H t

-- and what it read
abbrev pub KeepsReading : Type 0
KeepsReading = (S : Setup) (H : List Entry) (e : Entry) (t : ℕ) (status : Status) (x : ℕ) → MayFollow S H e → mark_of S H t ≡ Some status → bytes_read S (e ∷ H) t x ≡ bytes_read S H t x

-- each done command of a token is of one of its units
abbrev pub AreOfUnits : Type 0
AreOfUnits = (S : Setup) (H : List Entry) (t : ℕ) (r : Request) → IsSetup S → IsLegal S H → request H t ≡ Some r → AreTaskCommands S r (done_commands H t)

-- the bytes of a unit are moved together
abbrev pub MoveTogether : Type 0
MoveTogether =
    (S : Setup) (H : List Entry) (t : ℕ) (r : Request) (u : Span) (x : ℕ) → IsSetup S → IsLegal S H → request H t ≡ Some r → IsUnit S.geometry (from_of S r) (until_of S r) u
    → u.low ≤ x → x < u.high → is_moved S H t x ≡ is_moved S H t u.low

-- a done transfer finishes its unit
abbrev pub FinishesUnit : Type 0
FinishesUnit = (S : Setup) (H : List Entry) (t : ℕ) (r : Request) (c : Command) (u : Span) → IsUnitCommand S r c u → is_transfer c ≡ true → is_finished S (Done t c ∷ H) t (Moves u) ≡ true

-- and no other
abbrev pub FinishesNoOther : Type 0
FinishesNoOther =
    (S : Setup) (H : List Entry) (t : ℕ) (r : Request) (c : Command) (u v : Span) → IsSetup S → IsUnitCommand S r c u → is_transfer c ≡ true → IsUnit S.geometry (from_of S r) (until_of S r) v → (v ≡ u → ⊥)
    → is_finished S (Done t c ∷ H) t (Moves v) ≡ is_finished S H t (Moves v)

-- a token is complete exactly where all its units are finished
abbrev pub CompletesWhereFinished : Type 0
CompletesWhereFinished = (S : Setup) (H : List Entry) (t : ℕ) (r : Request) → IsSetup S → IsLegal S H → request H t ≡ Some r → is_complete S H t ≡ list_all (is_finished S H t) (tasks_of S r)

-- and no complete token is open
abbrev pub OpenIsIncomplete : Type 0
OpenIsIncomplete = (S : Setup) (H : List Entry) (t : ℕ) → IsLegal S H → t < token_count H → mark_of S H t ≡ None → is_complete S H t ≡ false

-- at most one token holds a group
abbrev pub HasOneHolder : Type 0
HasOneHolder = (S : Setup) (H : List Entry) (t u b : ℕ) → IsSetup S → IsLegal S H → Holds S H t b → Holds S H u b → t ≡ u

-- a held block has a token that holds its group, and the group of a holder is held
abbrev pub HeldHasHolder : Type 0
HeldHasHolder = (S : Setup) (H : List Entry) (b : ℕ) → is_held S H b ≡ true → (t : ℕ) × Holds S H t (group_start S.geometry b)

abbrev pub HolderHolds : Type 0
HolderHolds = (S : Setup) (H : List Entry) (t b : ℕ) → Holds S H t (group_start S.geometry b) → is_held S H b ≡ true

-- a byte of a held group changes by its holder's store alone, done or failed
abbrev pub HeldByteStays : Type 0
HeldByteStays =
    (S : Setup) (k : ℕ) (H : List Entry) (e : Entry) (t b x : ℕ) → IsSetup S → AreToldWhole S → IsLegal S H → MayFollow S H e → Holds S H t b
    → b * size_of S ≤ x → x < (b + per_of S) * size_of S → is_store_of t b e ≡ false → byte_at (contents S k (e ∷ H)) x ≡ byte_at (contents S k H) x

-- each piece of an era lies inside the range of an accepted request, and that inside its view on the era's medium
abbrev pub PiecesInViews : Type 0
PiecesInViews = (S : Setup) (k : ℕ) (H : List Entry) → IsSetup S → IsLegal S H → AreInViews S k H (pieces_of S k H)

-- what a cancel ends, what a protection ends, and that a reset and an ejection end every open token
abbrev pub CancelEndsView : Type 0
CancelEndsView = (S : Setup) (H : List Entry) (tag : ℕ) (view : View) (t : ℕ) → is_outstanding S (Cancel tag view ∷ H) t ≡ (is_outstanding S H t && not (has_view view (request H t)))

abbrev pub ProtectEndsChanges : Type 0
ProtectEndsChanges = (S : Setup) (H : List Entry) (tag : ℕ) (t : ℕ) → is_outstanding S (Protect tag true ∷ H) t ≡ (is_outstanding S H t && not (is_some_change (request H t)))

abbrev pub ResetEndsAll : Type 0
ResetEndsAll = (S : Setup) (H : List Entry) (tag t : ℕ) → is_outstanding S (Reset tag ∷ H) t ≡ false

abbrev pub EjectEndsAll : Type 0
EjectEndsAll = (S : Setup) (H : List Entry) (tag t : ℕ) → is_outstanding S (Eject tag ∷ H) t ≡ false

-- a medium that is out keeps what it holds and what is kept of it, and its counts stay
abbrev pub OutStays : Type 0
OutStays =
    (S : Setup) (k : ℕ) (H : List Entry) (e : Entry) → IsLegal S H → MayFollow S H e → IsOut H k
    → (contents S k (e ∷ H) ≡ contents S k H) × (kept_contents S k (e ∷ H) ≡ kept_contents S k H) × (era_commands k (e ∷ H) ≡ era_commands k H) × (era_faults k (e ∷ H) ≡ era_faults k H)

-- a medium that was not yet in holds its opening bytes
abbrev pub LaterIsFirst : Type 0
LaterIsFirst = (S : Setup) (k : ℕ) (H : List Entry) → media_id_of H < k → (contents S k H ≡ first_of S k) × (kept_contents S k H ≡ first_of S k)

-- a failed command lowers the entries that are owed by two
abbrev pub FaultLowers : Type 0
FaultLowers = (S : Setup) (H : List Entry) (t : ℕ) (c : Command) (done : ℕ) → IsSetup S → IsLegal S H → MayCommand S H t c → owed_entries S (Fault t c done ∷ H) + 2 ≤ owed_entries S H

-- an accept, a refusal and a change of protection need a place beside the owed ones
abbrev pub is_owed : Entry → Bool
is_owed (Accept tag view asked bytes) = false
is_owed (Refuse tag view asked media_id status) = false
is_owed (Protect tag on) = false
is_owed e = true

-- every other entry lowers them: a command, a collect, a cancel, a reset, an ejection and an insertion
abbrev pub OwedLowers : Type 0
OwedLowers = (S : Setup) (H : List Entry) (e : Entry) → IsSetup S → 1 ≤ length S.media → IsLegal S H → MayFollow S H e → is_owed e ≡ true → owed_entries S (e ∷ H) + 1 ≤ owed_entries S H

-- no entry but an accept raises them
abbrev pub OthersRaiseNothing : Type 0
OthersRaiseNothing = (S : Setup) (H : List Entry) (e : Entry) → is_accept e ≡ false → owed_entries S (e ∷ H) ≤ owed_entries S H

-- a token costs at most four commands beside one for each of its runs
abbrev pub CostsFew : Type 0
CostsFew = (S : Setup) (H : List Entry) → IsSetup S → IsLegal S H → AreFewCommands S H

-- accepts, commands, ejections and insertions are no more than the entries together
abbrev pub CountsAreWithin : Type 0
CountsAreWithin = (H : List Entry) → token_count H + (commands H + (ejects H + inserts H)) ≤ length H

-- a legal history that has begun has fewer commands and fewer insertions than entries
abbrev pub CommandsAreFewer : Type 0
CommandsAreFewer = (S : Setup) (H : List Entry) → IsLegal S H → 0 < length H → (commands H < length H) × (inserts H < length H)

-- the command that comes next is that of the first runnable unit, where no block is held and a buffer set is free
abbrev pub NextIsRunnable : Type 0
NextIsRunnable = (S : Setup) (H : List Entry) (held : ℕ → Bool) → IsSetup S → IsLegal S H → ((b : ℕ) → held b ≡ false) → next_turn S H ≡ option_map (turn_of_todo H) (first_runnable held true S H)

-- an entry that is no accept leaves those units that are still to do
abbrev pub KeepsTodo : Type 0
KeepsTodo = (S : Setup) (H : List Entry) (e : Entry) → is_accept e ≡ false → units_left S (e ∷ H) ≡ filter (is_todo S (e ∷ H)) (units_left S H)

-- an accept adds the units of its request at the end
abbrev pub AddsUnits : Type 0
AddsUnits =
    (S : Setup) (H : List Entry) (tag : ℕ) (view : View) (asked : Asked) (bytes : List ℕ) → IsSetup S → IsLegal S (Accept tag view asked bytes ∷ H)
    → units_left S (Accept tag view asked bytes ∷ H) ≡ units_left S H ++ todos_of S (token_count H) (record { tag = tag; view = view; asked = asked; bytes = bytes })

-- a done command that finishes a unit takes that unit away, and no other
abbrev pub TakesUnit : Type 0
TakesUnit =
    (S : Setup) (H : List Entry) (t : ℕ) (c : Command) (r : Request) (u : Span) → IsSetup S → IsLegal S (Done t c ∷ H) → request H t ≡ Some r → IsUnitCommand S r c u → is_transfer c ≡ true
    → units_left S (Done t c ∷ H) ≡ filter (λ todo. not (is_todo_of t u todo)) (units_left S H)

-- an entry that is no accept and no done command takes away the units of the tokens that it ends, and no other
abbrev pub EndTakes : Type 0
EndTakes = (S : Setup) (H : List Entry) (e : Entry) → is_accept e ≡ false → is_done e ≡ false → units_left S (e ∷ H) ≡ filter (λ todo. is_none (ending S H e todo.token)) (units_left S H)

-- the units that are left stand in the order of their tokens, and those of one token in the order of their bytes
abbrev pub StandInOrder : Type 0
StandInOrder = (S : Setup) (H : List Entry) → IsSetup S → Ordered IsBefore (units_left S H)

-- the command of the first runnable unit may be made
abbrev pub RunnableMay : Type 0
RunnableMay = (S : Setup) (H : List Entry) (free : Bool) (todo : Todo) → IsSetup S → IsLegal S H → first_runnable (is_held S H) free S H ≡ Some todo → MayCommand S H todo.token (task_command H todo.token todo.kind todo.task)

-- one fetch has one ticket
abbrev pub HasOneTicket : Type 0
HasOneTicket = (S : Setup) (H : List Entry) (t u b c k : ℕ) → HoldsBy S H t b k → HoldsBy S H u c k → (t ≡ u) × (b ≡ c)

-- a holder held before by the same ticket, or has just fetched the group
abbrev pub HeldBefore : Type 0
HeldBefore = (S : Setup) (H : List Entry) (e : Entry) (t b k : ℕ) → IsSetup S → IsLegal S (e ∷ H) → HoldsBy S (e ∷ H) t b k → HoldsBy S H t b k ⊎ ((e ≡ Done t (Fetch b)) × (k ≡ fetches H))
