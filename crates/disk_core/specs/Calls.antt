-- What each call of a disk does: its answer and its own entry, over the disk before it (UEFI 2.10, 13.7 to 13.10; steps, works, ends and
-- erase: own profile).
use Rattle.std.specs.Prelude.{◌≡◌, ◌≢◌, ℕ, zero, suc, ◌+◌, ◌-◌, ◌*◌, ◌<◌, ◌≤◌, ◌⊎◌, Bool, true, false, nat_lt, List, [], ◌∷◌, ◌++◌, length, take, slice_get, slice_set, Option, None, Some, IsSome, Result, Ok, Err}
use Rattle.byte_lists.specs.Patching.{patch}
use Rattle.medium.specs.Device.{Device, AreToldAt}
use Rattle.medium.specs.Counts.{capped_sum, Rose}
use Rattle.efi_status.specs.declared.Status.{Status}
use Rattle.history.specs.declared.entry.View.{View}
use Rattle.history.specs.declared.entry.Kind.TheVariants.{Read, Write, Flush, Erase}
use Rattle.history.specs.declared.entry.UnitKind.TheVariants.{Bytes, Blocks}
use Rattle.history.specs.declared.entry.Asked.{Asked}
use Rattle.history.specs.declared.entry.Command.{Command}
use Rattle.history.specs.declared.entry.Command.TheVariants.{Fetch, Store, Put, Get, Wipe, Sync}
use Rattle.history.specs.declared.entry.Entry.{Entry}
use Rattle.history.specs.declared.entry.Entry.TheVariants.{Accept, Refuse, Collect, Insert, Protect, Eject}
use Rattle.history.specs.Setup.{Setup, size_of, per_of}
use Rattle.history.specs.Eras.{inserts, media_id_of, is_present}
use Rattle.history.specs.Tokens.{Request, token_count, request, was_collected, from_of}
use Rattle.history.specs.Contents.{contents, bytes_between}
use Rattle.history.specs.Marks.{mark_of, is_held, fetches, HoldsBy}
use Rattle.history.specs.Rules.{refusal_of, IsLegal}
use Rattle.history.specs.Tasks.{Todo, first_runnable, task_command}
use Rattle.history.specs.Next.{first_open, Outcome, Made, Failed, entry_of}
use Rattle.history_laws.specs.Left.{end_count}
use Rattle.history_laws.specs.Ranges.{low_in, high_in}
use Rattle.token_table.specs.declared.record.Done.{Done}
use Rattle.token_table.specs.declared.record.Mark.{Mark}
use Rattle.token_table.specs.declared.record.NotThere.{NotThere}
use Rattle.token_table.specs.declared.record.NotThere.TheVariants as not_there
use Rattle.block_gate.specs.Works.{Lent}
use Rattle.block_gate.specs.Gates.{Gate, Gates, gate_of, is_out, is_ours, outs, with_gate, with_work_out, without_hold, with_work_back, with_new_sets}
use Rattle.drive.specs.declared.answers.InsertFault.{InsertFault}
use Rattle.drive.specs.declared.answers.InsertFault.TheVariants.{Occupied, NoSpare}
use Rattle.disk_core.specs.declared.answers.Ask.{Ask}
use Rattle.disk_core.specs.declared.answers.Ask.TheVariants as ask
use Rattle.disk_core.specs.declared.answers.Refused.{Refused}
use Rattle.disk_core.specs.declared.answers.Why.{Why}
use Rattle.disk_core.specs.declared.answers.Why.TheVariants as why
use Rattle.disk_core.specs.declared.answers.Token.{Token}
use Rattle.disk_core.specs.declared.answers.Step.{Step}
use Rattle.disk_core.specs.declared.answers.Step.TheVariants as step
use Rattle.disk_core.specs.declared.answers.Stored.{Stored}
use Rattle.disk_core.specs.declared.answers.Stored.TheVariants as stored
use Rattle.disk_core.specs.declared.answers.HeldStored.{HeldStored}
use Rattle.disk_core.specs.declared.answers.HeldStored.TheVariants as held_stored
use Rattle.disk_core.specs.declared.answers.EjectRefused.{EjectRefused}
use Rattle.disk_core.specs.declared.answers.EjectRefused.TheVariants as eject_refused
use Rattle.disk_core.specs.Facts.{HasBytesRead, buffer_length}
use Rattle.disk_core.specs.State.{State, Kept, kept_at}

-- the buffer that a caller hands in
abbrev pub buffer_of : Ask → List ℕ
buffer_of (ask.Read at buffer) = buffer.items
buffer_of (ask.Write at buffer) = buffer.items
buffer_of (ask.ReadBlocks lba buffer) = buffer.items
buffer_of (ask.WriteBlocks lba buffer) = buffer.items
buffer_of ask.Flush = []
buffer_of (ask.EraseBlocks lba n) = []

-- what a caller asks for, in the words of a history
abbrev pub asked_of : Ask → Asked
asked_of (ask.Read at buffer) = record { kind = Read; unit = Bytes; at = at; length = length buffer.items }
asked_of (ask.Write at buffer) = record { kind = Write; unit = Bytes; at = at; length = length buffer.items }
asked_of (ask.ReadBlocks lba buffer) = record { kind = Read; unit = Blocks; at = lba; length = length buffer.items }
asked_of (ask.WriteBlocks lba buffer) = record { kind = Write; unit = Blocks; at = lba; length = length buffer.items }
asked_of ask.Flush = record { kind = Flush; unit = Bytes; at = 0; length = 0 }
asked_of (ask.EraseBlocks lba n) = record { kind = Erase; unit = Blocks; at = lba; length = n }

-- the bytes that the entry of an accepted request has: a write's
abbrev pub bytes_of : Ask → List ℕ
bytes_of (ask.Read at buffer) = []
bytes_of (ask.Write at buffer) = buffer.items
bytes_of (ask.ReadBlocks lba buffer) = []
bytes_of (ask.WriteBlocks lba buffer) = buffer.items
bytes_of ask.Flush = []
bytes_of (ask.EraseBlocks lba n) = []

-- a request is accepted where no rule refuses it, with the next number and an event that has seen nothing
pub record Accepts (old : State) (tag : ℕ) (view : View) (media_id : ℕ) (asked : Asked) (bytes buffer : List ℕ) (token : Token) (new : State) : Type 0 where
  pub unrefused : refusal_of old.setup old.entries view asked media_id ≡ None
  pub numbered : token.number ≡ token_count old.entries
  pub unseen : token.event.seen ≡ 0
  pub new_is : new ≡ record old {
    entries = Accept tag view asked bytes ∷ old.entries;
    kept = old.kept ++ Some (record { buffer = buffer; word = token.event.word }) ∷ [];
  }
  pub legal : IsLegal new.setup new.entries

-- or refused with the status that the rules give
pub record Refuses (old : State) (tag : ℕ) (view : View) (media_id : ℕ) (asked : Asked) (status : Status) (buffer handed : List ℕ) (new : State) : Type 0 where
  pub refused : refusal_of old.setup old.entries view asked media_id ≡ Some status
  pub handed_back : handed ≡ buffer
  pub new_is : new ≡ record old { entries = Refuse tag view asked media_id status ∷ old.entries }
  pub legal : IsLegal new.setup new.entries

-- want of memory changes nothing
pub record Forgets (old : State) (buffer handed : List ℕ) (new : State) : Type 0 where
  pub same : new ≡ old
  pub handed_back : handed ≡ buffer

abbrev pub RefusesFor : State → ℕ → View → ℕ → Asked → List ℕ → Why → List ℕ → State → Type 0
RefusesFor old tag view media_id asked buffer (why.Status status) handed new = Refuses old tag view media_id asked status buffer handed new
RefusesFor old tag view media_id asked buffer why.Memory handed new = Forgets old buffer handed new

abbrev pub SubmitsAsked : State → ℕ → View → ℕ → Asked → List ℕ → List ℕ → Result Token Refused → State → Type 0
SubmitsAsked old tag view media_id asked bytes buffer (Ok token) new = Accepts old tag view media_id asked bytes buffer token new
SubmitsAsked old tag view media_id asked bytes buffer (Err refused) new = RefusesFor old tag view media_id asked buffer refused.why refused.buffer.items new

-- a request is accepted, refused, or forgotten for want of memory
unfoldable pub SubmitSays : State → ℕ → View → ℕ → Ask → Result Token Refused → State → Type 0
SubmitSays old tag view media_id ask result new = SubmitsAsked old tag view media_id (asked_of ask) (bytes_of ask) (buffer_of ask) result new

-- a get puts what the medium holds into its token's buffer, and nothing else of what is kept changes
pub record Gets (S : Setup) (H : List Entry) (t b n : ℕ) (old new : List (Option Kept)) (q : Request) : Type 0 where
  pub named : request H t ≡ Some q
  pub was : Kept
  pub there : kept_at old t ≡ Some was
  pub piece : List ℕ
  pub counted : length piece ≡ high_in S q b n - low_in S q b
  pub same : AreToldAt (contents S (media_id_of H) H) (low_in S q b) piece
  pub fits : low_in S q b - from_of S q + length piece ≤ length was.buffer
  pub filled : new ≡ slice_set old t (Some (record was { buffer = patch was.buffer (low_in S q b - from_of S q) piece }))

-- what a command does to what is kept
abbrev pub Fills : Setup → List Entry → ℕ → Command → Outcome → List (Option Kept) → List (Option Kept) → Type 0
Fills S H t (Get b n) Made old new = (q : Request) × Gets S H t b n old new q
Fills S H t (Get b n) (Failed done) old new = new ≡ old
Fills S H t (Fetch b) outcome old new = new ≡ old
Fills S H t (Store b) outcome old new = new ≡ old
Fills S H t (Put b n) outcome old new = new ≡ old
Fills S H t (Wipe b n) outcome old new = new ≡ old
Fills S H t Sync outcome old new = new ≡ old

abbrev pub failures_of : Outcome → ℕ
failures_of Made = 0
failures_of (Failed done) = 1

-- the medium that is in made one command, which failed or not, and failed only where its faults rose; the others stay
pub record IsCommanded (old : State) (outcome : Outcome) (new : State) : Type 0 where
  pub before : Device
  pub after : Device
  pub was_in : slice_get old.devices (inserts old.entries) ≡ Some before
  pub devices : new.devices ≡ slice_set old.devices (inserts old.entries) after
  pub calls : after.calls ≡ capped_sum before.calls 1
  pub failed : after.failed ≡ capped_sum before.failed (failures_of outcome)
  pub later : before.faults ≤ after.faults
  pub cause : (done : ℕ) → outcome ≡ Failed done → Rose before.faults after.faults

-- a command was made for a token, with one entry
pub record Makes (old : State) (t : ℕ) (command : Command) (outcome : Outcome) (new : State) : Type 0 where
  pub setup : new.setup ≡ old.setup
  pub entries : new.entries ≡ entry_of (record { token = t; command = command }) outcome ∷ old.entries
  pub legal : IsLegal new.setup new.entries
  pub fills : Fills old.setup old.entries t command outcome old.kept new.kept
  pub device : IsCommanded old outcome new

-- gates of tokens that ended are held no longer: their works are still out, and their sets are not free
pub record Revokes (old new : Gates) : Type 0 where
  pub size : new.size ≡ old.size
  pub kept : (k : ℕ) (g : Gate) → gate_of new.held k ≡ Some g → gate_of old.held k ≡ Some g
  pub works : (k : ℕ) → is_out new k ≡ is_out old k
  pub count : outs new ≡ outs old
  pub free : new.free ≡ old.free

-- the first unit that may run now
abbrev pub first_todo : State → Option Todo
first_todo s = first_runnable (is_held s.setup s.entries) (nat_lt 0 s.gates.free) s.setup s.entries

abbrev pub command_of : State → Todo → Command
command_of s todo = task_command s.entries todo.token todo.kind todo.task

-- the command of the first runnable unit was made
pub record MakesFirst (old : State) (todo : Todo) (outcome : Outcome) (new : State) : Type 0 where
  pub first : first_todo old ≡ Some todo
  pub makes : Makes old todo.token (command_of old todo) outcome new

-- the work of a done fetch: its bytes are the group, and its patch those of the token there
pub record IsWork (old : State) (t : ℕ) (q : Request) (w : Lent) : Type 0 where
  pub ticket : w.ticket ≡ fetches old.entries
  pub named : request old.entries t ≡ Some q
  pub long : length w.bytes ≡ old.gates.size
  pub bytes : AreToldAt (contents old.setup (media_id_of old.entries) old.entries) (w.block * size_of old.setup) w.bytes
  pub begins : w.block * size_of old.setup + w.from ≡ low_in old.setup q w.block
  pub patch : w.patch ≡ bytes_between old.setup q (low_in old.setup q w.block) (high_in old.setup q w.block (per_of old.setup))

-- a fetch was done, and its work lent
pub record LendsFirst (old : State) (todo : Todo) (q : Request) (w : Lent) (new : State) : Type 0 where
  pub makes : MakesFirst old todo Made new
  pub fetch : command_of old todo ≡ Fetch w.block
  pub work : IsWork old todo.token q w
  pub gates : new.gates ≡ with_work_out (with_gate old.gates w.block w.ticket w.bytes) w.ticket

-- a fetch was done
abbrev pub is_fetched : Command → Outcome → Bool
is_fetched (Fetch b) Made = true
is_fetched (Fetch b) (Failed done) = false
is_fetched (Store b) outcome = false
is_fetched (Put b n) outcome = false
is_fetched (Get b n) outcome = false
is_fetched (Wipe b n) outcome = false
is_fetched Sync outcome = false

-- another command was made, or a fetch failed
pub record DoesFirst (old : State) (todo : Todo) (outcome : Outcome) (new : State) : Type 0 where
  pub makes : MakesFirst old todo outcome new
  pub unfetched : is_fetched (command_of old todo) outcome ≡ false
  pub gates : Revokes old.gates new.gates

-- a step makes the command of the first unit that may run; none may where it is idle, and none is left where it is drained
unfoldable pub StepSays : State → Step → State → Type 0
StepSays old (step.Lent w) new = (todo : Todo) × (q : Request) × LendsFirst old todo q w new
StepSays old step.Did new = (todo : Todo) × (outcome : Outcome) × DoesFirst old todo outcome new
StepSays old step.Idle new = (new ≡ old) × (first_todo old ≡ None) × IsSome (first_open old.setup old.entries)
StepSays old step.Drained new = (new ≡ old) × (first_open old.setup old.entries ≡ None)

-- a ticket's gate with the token that holds it
pub record IsHeldBy (old : State) (k : ℕ) (g : Gate) (t : ℕ) (q : Request) : Type 0 where
  pub gate : gate_of old.gates.held k ≡ Some g
  pub holds : HoldsBy old.setup old.entries t g.block k
  pub named : request old.entries t ≡ Some q

-- the copy with the token's bytes put in
abbrev pub expected_copy : Setup → Request → Gate → List ℕ
expected_copy S q g = patch g.copy (low_in S q g.block - g.block * size_of S) (bytes_between S q (low_in S q g.block) (high_in S q g.block (per_of S)))

-- the gates after a store from these: the ticket's set is free again or its work is still out, and where it failed the token's other
-- gate is revoked
abbrev pub GatesStored : Outcome → Gates → ℕ → Gates → Type 0
GatesStored Made lent k new = new ≡ without_hold lent k
GatesStored (Failed done) lent k new = Revokes (without_hold lent k) new

-- the ticket's group was written with the token's bytes put in
pub record Stores (old : State) (lent : Gates) (k : ℕ) (g : Gate) (t : ℕ) (q : Request) (outcome : Outcome) (new : State) : Type 0 where
  pub held : IsHeldBy old k g t q
  pub makes : Makes old t (Store g.block) outcome new
  pub gates : GatesStored outcome lent k new.gates

-- the work differs from its copy with the token's bytes put in, at this place first
pub record Differs (old : State) (w : Lent) (g : Gate) (t : ℕ) (q : Request) (place expected found : ℕ) : Type 0 where
  pub held : IsHeldBy old w.ticket g t q
  pub before : take place w.bytes ≡ take place (expected_copy old.setup q g)
  pub wanted : slice_get (expected_copy old.setup q g) place ≡ Some expected
  pub has : slice_get w.bytes place ≡ Some found
  pub differs : expected ≢ found

-- a work of this disk, the same as its copy with the token's bytes put in, was written
pub record StoresWork (old : State) (w : Lent) (g : Gate) (t : ℕ) (q : Request) (outcome : Outcome) (new : State) : Type 0 where
  pub same : w.bytes ≡ expected_copy old.setup q g
  pub stores : Stores old (with_work_back old.gates w.ticket) w.ticket g t q outcome new

-- a store: of another disk's work, of a late one, of a changed one, or of one that is written
unfoldable pub StoreSays : State → Lent → Stored → State → Type 0
StoreSays old w (stored.Foreign back) new = (is_ours old.gates w ≡ false) × (back ≡ w) × (new ≡ old)
StoreSays old w stored.Stale new = (is_ours old.gates w ≡ true) × (gate_of old.gates.held w.ticket ≡ None) × (new ≡ record old { gates = with_work_back old.gates w.ticket })
StoreSays old w (stored.Strange back place expected found) new =
    (is_ours old.gates w ≡ true) × (back ≡ w) × (new ≡ old) × ((g : Gate) × (t : ℕ) × (q : Request) × Differs old w g t q place expected found)
StoreSays old w stored.Did new = (is_ours old.gates w ≡ true) × ((g : Gate) × (t : ℕ) × (q : Request) × (outcome : Outcome) × StoresWork old w g t q outcome new)

-- a store from the kept copy, whose work stays out
unfoldable pub HeldStoreSays : State → ℕ → HeldStored → State → Type 0
HeldStoreSays old k held_stored.Stale new = (gate_of old.gates.held k ≡ None) × (new ≡ old)
HeldStoreSays old k held_stored.Did new = (g : Gate) × (t : ℕ) × (q : Request) × (outcome : Outcome) × Stores old old.gates k g t q outcome new

-- new buffers for all sets that are out under a revoked ticket, so that one is free where no gate is held; or for some of them,
-- where memory ran out
unfoldable pub RefitSays : {E : Type 0} → State → Result ℕ E → State → Type 0
RefitSays old (Ok count) new =
    (count ≡ length old.gates.gone) × (new ≡ record old { gates = with_new_sets old.gates count }) × (new.gates.held ≡ [] → 0 < new.gates.free)
RefitSays old (Err e) new =
    (new ≡ record old { gates = with_new_sets old.gates (length old.gates.gone - length new.gates.gone) }) × (0 < length new.gates.gone)

-- the ended token is handed back: a write's bytes as they came, a read's with the bytes that it got
pub record Collects (old : State) (tag number : ℕ) (status : Status) (buffer : List ℕ) (new : State) (q : Request) (was : Kept) : Type 0 where
  pub named : request old.entries number ≡ Some q
  pub marked : mark_of old.setup old.entries number ≡ Some status
  pub uncollected : was_collected old.entries number ≡ false
  pub there : kept_at old.kept number ≡ Some was
  pub handed_back : buffer ≡ was.buffer
  pub written : q.asked.kind ≡ Write → buffer ≡ q.bytes
  pub read : q.asked.kind ≡ Read → HasBytesRead old.setup old.entries number q buffer
  pub long : length buffer ≡ buffer_length q.asked.kind q.asked.length
  pub new_is : new ≡ record old { entries = Collect tag number ∷ old.entries; kept = slice_set old.kept number None }
  pub legal : IsLegal new.setup new.entries

-- no token has the number, or it was handed back
abbrev pub IsUnknown : State → ℕ → Type 0
IsUnknown s number = (token_count s.entries ≤ number) ⊎ (was_collected s.entries number ≡ true)

unfoldable pub CollectSays : State → ℕ → ℕ → Result Done NotThere → State → Type 0
CollectSays old tag number (Ok done) new = (q : Request) × (was : Kept) × Collects old tag number done.status done.buffer new q was
CollectSays old tag number (Err not_there.Outstanding) new = (number < token_count old.entries) × (mark_of old.setup old.entries number ≡ None) × (new ≡ old)
CollectSays old tag number (Err not_there.Unknown) new = IsUnknown old number × (new ≡ old)

-- an entry ends so many tokens
pub record EndsBy (old : State) (e : Entry) (count : ℕ) (new : State) : Type 0 where
  pub counted : count ≡ end_count old.setup old.entries e
  pub setup : new.setup ≡ old.setup
  pub entries : new.entries ≡ e ∷ old.entries
  pub legal : IsLegal new.setup new.entries
  pub kept : new.kept ≡ old.kept
  pub devices : new.devices ≡ old.devices
  pub gates : Revokes old.gates new.gates

-- a cancel or a reset: without a token to end it has no entry
unfoldable pub EndSays : State → Entry → ℕ → State → Type 0
EndSays old e zero new = (end_count old.setup old.entries e ≡ 0) × (new ≡ old)
EndSays old e (suc n) new = EndsBy old e (suc n) new

unfoldable pub EjectSays : State → ℕ → Result ℕ EjectRefused → State → Type 0
EjectSays old tag (Ok count) new = (is_present old.entries ≡ true) × EndsBy old (Eject tag) count new
EjectSays old tag (Err eject_refused.NoMedia) new = (is_present old.entries ≡ false) × (new ≡ old)

-- the next medium is in
pub record Inserts (old : State) (tag media_id : ℕ) (new : State) : Type 0 where
  pub was_out : is_present old.entries ≡ false
  pub next : media_id ≡ media_id_of old.entries + 1
  pub exists : media_id ≤ length old.setup.media
  pub new_is : new ≡ record old { entries = Insert tag media_id ∷ old.entries }
  pub legal : IsLegal new.setup new.entries

unfoldable pub InsertSays : State → ℕ → Result ℕ InsertFault → State → Type 0
InsertSays old tag (Ok media_id) new = Inserts old tag media_id new
InsertSays old tag (Err Occupied) new = (is_present old.entries ≡ true) × (new ≡ old)
InsertSays old tag (Err NoSpare) new = (is_present old.entries ≡ false) × (length old.setup.media ≤ media_id_of old.entries) × (new ≡ old)

unfoldable pub ProtectSays : {E : Type 0} → State → ℕ → Bool → Result ℕ E → State → Type 0
ProtectSays old tag on (Ok count) new = EndsBy old (Protect tag on) count new
ProtectSays old tag on (Err e) new = new ≡ old

-- how the token with this number stands
unfoldable pub MarkSays : State → ℕ → Mark → Type 0
MarkSays s number Mark.Outstanding = (number < token_count s.entries) × (mark_of s.setup s.entries number ≡ None)
MarkSays s number (Mark.Ended status) = (mark_of s.setup s.entries number ≡ Some status) × (was_collected s.entries number ≡ false)
MarkSays s number Mark.Unknown = IsUnknown s number
