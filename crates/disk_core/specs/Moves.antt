-- What the functions over the parts of a disk leave (own profile).
use Rattle.std.specs.Prelude.{◌≡◌, ℕ, ◌+◌, ◌-◌, ◌*◌, ◌^◌, ◌<◌, ◌≤◌, min, max, Bool, true, false, not, nat_eq, nat_lt, ◌&&◌, ◌||◌, if◌then◌else◌, List, [], ◌∷◌, ◌++◌, take, drop, position, length, replicate, filter, count_by, Option, None, Some, is_some, vec_capacity, Result, OnOk, OnErr, IfErr, Ok, Err, IfSome, IsSome}
use Rattle.byte_lists.specs.Patching.{patch}
use Rattle.efi_status.specs.declared.Status.{Status}
use Rattle.efi_status.specs.declared.Status.TheVariants.{Success, DeviceError, WriteProtected, BadBufferSize, InvalidParameter}
use Rattle.history.specs.declared.entry.View.{View}
use Rattle.history.specs.declared.entry.Asked.{Asked}
use Rattle.history.specs.declared.entry.Kind.{Kind}
use Rattle.history.specs.declared.entry.Kind.TheVariants.{Read, Write, Flush, Erase}
use Rattle.history.specs.Tokens.{in_bytes, changes_bytes}
use Rattle.history.specs.Rules.{is_ragged}
use Rattle.history.specs.declared.entry.Command.{Command}
use Rattle.history.specs.declared.entry.Command.TheVariants.{Put, Wipe}
use Rattle.history.specs.declared.entry.Entry.{Entry}
use Rattle.history.specs.declared.entry.Entry.TheVariants.{Done, Fault, Collect}
use Rattle.history.specs.Tasks.{Todo}
use Rattle.block_gate.specs.Gates.{Gate, Gates, gate_of, is_block_held, is_lent, without_hold, idle_gates, AreSound}
use Rattle.block_gate.specs.Works.{Lent}
use Rattle.index_links.specs.Lists.{is_among}
use Rattle.medium.specs.Device.{Device, IsBlockSize, IsCommand, IsTransfer, AreToldAt}
use Rattle.medium.specs.declared.block_failed.BlockFailed.{BlockFailed}
use Rattle.disk_split.specs.declared.geometry.Geometry.{Geometry}
use Rattle.drive.specs.Drives.{DriveState, IsPer, most_media, medium_in}
use Rattle.token_table.specs.declared.record.Mark.{Mark}
use Rattle.token_table.specs.declared.record.Record.{Record}
use Rattle.token_table.specs.declared.record.Request.{Request}
use Rattle.token_table.specs.Records.{request_at, mark_at, with_change, lower_record, ended_record, without_record}
use Rattle.subtask_queue.specs.declared.sub.Sub.{Sub}
use Rattle.subtask_queue.specs.Subs.{token_of, block_of, is_of, is_unit, sub_of, without_first, without_token}
use Rattle.disk_core.specs.declared.answers.Step.{Step}
use Rattle.disk_core.specs.declared.answers.Step.TheVariants as step
use Rattle.disk_core.specs.declared.parts.Core.{Core}
use Rattle.disk_core.specs.declared.reading.Target.{Target}
use Rattle.disk_core.specs.declared.parts.Holder.{Holder}
use Rattle.disk_core.specs.State.{State, setup_of}
use Rattle.disk_core.specs.Parts.{state_of}
use Rattle.disk_core.specs.Commands.{OnMedium, OfMedium}
use Rattle.disk_core.specs.Pieces.{bytes_in}
use Rattle.disk_core.specs.Inside.{IsSound}
use Rattle.disk_core.specs.Calls.{first_todo}

-- the parts are those of a disk
abbrev pub IsDisk : {M : Type 0} → (M → Device) → (M → ℕ → Type 0) → DriveState M → Core → Type 0
IsDisk device prepared drive c = IsSound device prepared (setup_of device drive c.protected_at_first) drive c

-- they are so again, and the disk of before became this one as the word says
pub record Reaches {M : Type 0} (device : M → Device) (prepared : M → ℕ → Type 0) (drive : DriveState M) (c : Core) (drive' : DriveState M) (c' : Core) (Says : State → State → Type 0) : Type 0 where
  pub sound : IsDisk device prepared drive' c'
  pub says : Says (state_of device drive c) (state_of device drive' c')

-- an entry was added in a free place, and so many entries are owed no more
unfoldable pub with_entry : Core → Entry → ℕ → Core
with_entry c e paid = record c { history = record { entries = e ∷ c.history.entries; spare = c.history.spare - 1 }; owed = c.owed - paid }

-- there are so many spare places
unfoldable pub with_spare : Core → ℕ → Core
with_spare c spare = record c { history = record { entries = c.history.entries; spare = spare } }

-- an ended token was handed back
unfoldable pub after_collect : Core → ℕ → ℕ → Core
after_collect c tag t = record (with_entry c (Collect tag t) 1) { tokens = without_record c.tokens t }

-- there is a place for an entry
abbrev pub HasPlace : Core → Type 0
HasPlace c = 0 < c.history.spare

-- what no end of a request changes
pub record StaysBeside (c c' : Core) : Type 0 where
  pub protected_at_first : c'.protected_at_first ≡ c.protected_at_first
  pub blocks : c'.blocks ≡ c.blocks
  pub history : c'.history ≡ c.history
  pub accepted : c'.accepted ≡ c.accepted
  pub fetched : c'.fetched ≡ c.fetched
  pub group : c'.group ≡ c.group
  pub zeros : c'.zeros ≡ c.zeros
  pub places : vec_capacity c'.holders ≡ vec_capacity c.holders

-- the gates without that of a ticket, where it holds one
abbrev pub without_gate : Gates → ℕ → Gates
without_gate s ticket = if is_some (gate_of s.held ticket) then without_hold s ticket else s

-- the gates without that of a holder, where it is one of this token
unfoldable pub without_gate_of : ℕ → Holder → Gates → Gates
without_gate_of token h s = if nat_eq token h.token then without_gate s h.ticket else s

-- the gates without those of a token
unfoldable pub without_gates_of : ℕ → List Holder → Gates → Gates
without_gates_of token [] s = s
without_gates_of token (h ∷ holders) s = without_gates_of token holders (without_gate_of token h s)

-- the holders but those of a token
abbrev pub others : ℕ → List Holder → List Holder
others token holders = filter (λ h. not (nat_eq token h.token)) holders

-- the holders before a place, and from there on those that are not of this token
abbrev pub after_pass : ℕ → ℕ → List Holder → List Holder
after_pass token at holders = take at holders ++ others token (drop at holders)

-- the holders without the one at a place, where there is one
abbrev pub without_at : Option ℕ → List Holder → List Holder
without_at None holders = holders
without_at (Some place) holders = take place holders ++ drop (place + 1) holders

-- the holders but the first of a ticket
unfoldable pub without_ticket_of : ℕ → List Holder → List Holder
without_ticket_of ticket holders = without_at (position (λ h. nat_eq ticket h.ticket) holders) holders

-- an outstanding token ended with this status
pub record Ends (c c' : Core) (t : ℕ) (status : Status) : Type 0 where
  pub tokens : c'.tokens ≡ with_change (ended_record status) c.tokens t
  pub queue : c'.queue ≡ without_token t c.queue
  pub owed : c'.owed + (count_by (is_of t) c.queue + 1) ≡ c.owed
  pub gates : c'.gates ≡ without_gates_of t c.holders.items c.gates
  pub holders : c'.holders.items ≡ others t c.holders.items
  pub rest : StaysBeside c c'

-- what is left of a request
abbrev pub left_in : Option Request → ℕ
left_in None = 0
left_in (Some q) = q.left

-- a unit of so many bytes was finished by a done command
unfoldable pub after_finish : Core → Sub → Command → ℕ → Core
after_finish c unit command bytes = record (with_entry c (Done (token_of unit) command) 1) {
  queue = without_first (is_unit (token_of unit) (block_of unit)) c.queue;
  tokens = with_change (lower_record bytes) c.tokens (token_of unit);
}

-- the last one ended its token with success
abbrev pub EndsIf : Bool → Core → Core → ℕ → Type 0
EndsIf true c c' t = Ends c c' t Success
EndsIf false c c' t = c' ≡ c

abbrev pub EntersDone : Core → Core → Sub → Command → ℕ → Type 0
EntersDone c c' unit command bytes = EndsIf (nat_eq (left_in (request_at c.tokens (token_of unit))) bytes) (after_finish c unit command bytes) c' (token_of unit)

-- a failed command ended its token
abbrev pub EntersFault : Core → Core → ℕ → Command → ℕ → Type 0
EntersFault c c' t command done = Ends (with_entry c (Fault t command done) 0) c' t DeviceError

-- what a step answers where no unit may run
abbrev pub rest_of : List Sub → Step
rest_of [] = step.Drained
rest_of (s ∷ subs) = step.Idle

-- the first unit that may run
pub record IsFirst {M : Type 0} (device : M → Device) (drive : DriveState M) (c : Core) (unit : Sub) (todo : Todo) : Type 0 where
  pub first : first_todo (state_of device drive c) ≡ Some todo
  pub kept_so : sub_of drive.size todo ≡ unit

-- the parts of a new disk over so many media
pub record IsNewCore (c : Core) (at_first : Bool) (size per media sets : ℕ) : Type 0 where
  pub protected_at_first : c.protected_at_first ≡ at_first
  pub blocks : c.blocks ≡ record { size = size; per = per }
  pub entries : c.history.entries ≡ []
  pub spare : c.history.spare ≡ 2 * media - 1
  pub owed : c.owed ≡ 2 * media - 1
  pub accepted : c.accepted ≡ 0
  pub fetched : c.fetched ≡ 0
  pub tokens : c.tokens ≡ []
  pub queue : c.queue ≡ []
  pub gates : c.gates ≡ idle_gates sets (size * per)
  pub sound : AreSound c.gates
  pub holders : c.holders.items ≡ []
  pub places : sets ≤ vec_capacity c.holders
  pub group : length c.group.items ≡ size * per
  pub zeros : c.zeros.items ≡ replicate (64 * size) 0
  pub sized : IsBlockSize size
  pub grouped : IsPer per
  pub some : 0 < media
  pub most : media ≤ most_media

-- the refusals of a read, write or erase that need the medium, read off a drive: protected or not, the size of a block, the bytes of the medium
abbrev pub range_refusal_by : Bool → ℕ → ℕ → View → Asked → Option Status
range_refusal_by locked size total view asked =
    if changes_bytes asked.kind && locked then Some WriteProtected
    else if is_ragged size asked.unit asked.length then Some BadBufferSize
    else if nat_lt total (view.start + view.length) || (nat_lt view.length (in_bytes size asked.unit asked.at) || nat_lt (view.length - in_bytes size asked.unit asked.at) asked.length) then Some InvalidParameter
    else None

-- a request has some bytes in these blocks, and all of them fit 64 bits
pub record HasBytesIn (q : Request) (block n size : ℕ) : Type 0 where
  pub ends : q.at + q.asked.length < 2 ^ 64
  pub sized : 0 < size
  pub fits : (block + n) * size < 2 ^ 64
  pub some : max q.at (block * size) < min (q.at + q.asked.length) ((block + n) * size)

-- the bytes of a read's unit, and where they go in its buffer
pub record IsTarget (q : Request) (block n size : ℕ) (target : Target) : Type 0 where
  pub low : target.range.low ≡ max q.at (block * size)
  pub high : target.range.high ≡ min (q.at + q.asked.length) ((block + n) * size)
  pub place : target.place ≡ target.range.low - q.at
  pub count : target.count ≡ target.range.high - target.range.low

-- the medium was read: it told these bytes from this byte on, or failed and told none
pub record IsGot (old : Device) (result : Result (Unit {0}) BlockFailed) (new : Device) (low : ℕ) (piece : List ℕ) : Type 0 where
  pub command : IsCommand old result new
  pub now : new.now ≡ old.now
  pub kept : new.kept ≡ old.kept
  pub given : OnOk result (AreToldAt old.now low piece)
  pub done : IfErr result (λ fault. fault.done ≡ 0)

-- a record with these bytes in its buffer from this place on
unfoldable pub with_bytes_in : ℕ → List ℕ → Record → Record
with_bytes_in place piece r = record r { request = record r.request { buffer = patch r.request.buffer place piece } }

-- so many bytes of the medium, from this byte on, were read into the buffer of a token; a failed read leaves it
pub record GetsInto {M : Type 0} (device : M → Device) (prepared : M → ℕ → Type 0) (drive drive' : DriveState M) (c c' : Core) (token low place count : ℕ) (result : Result (Unit {0}) BlockFailed) : Type 0 where
  pub piece : List ℕ
  pub long : length piece ≡ count
  pub on : OnMedium device prepared drive drive' (λ d d'. IsGot d result d' low piece)
  pub tokens : OnOk result (c'.tokens ≡ with_change (with_bytes_in place piece) c.tokens token)
  pub left : OnErr result (c'.tokens ≡ c.tokens)
  pub group : length c'.group.items ≡ length c.group.items
  pub core : c' ≡ record c { tokens = c'.tokens; group = c'.group }

-- a command may be entered for the token of this unit, as done with so many bytes or as failed
pub record MayEnter (c : Core) (unit : Sub) (bytes : ℕ) (result : Result (Unit {0}) BlockFailed) : Type 0 where
  pub outstanding : mark_at c.tokens (token_of unit) ≡ Mark.Outstanding
  pub left : OnOk result (IfSome (request_at c.tokens (token_of unit)) (λ q. bytes ≤ q.left))
  pub place : HasPlace c
  pub owed : count_by (is_of (token_of unit)) c.queue + 2 ≤ c.owed

-- it was entered
abbrev pub Settles : Core → Core → Sub → Command → ℕ → Result (Unit {0}) BlockFailed → Type 0
Settles c c' unit command bytes (Ok x) = EntersDone c c' unit command bytes
Settles c c' unit command bytes (Err fault) = EntersFault c c' (token_of unit) command fault.done

-- the bytes of the medium in n blocks that a request of the table is for: from the first one and before the last
abbrev pub low_of : Request → ℕ → ℕ → ℕ
low_of q block size = max q.at (block * size)

abbrev pub high_of : Request → ℕ → ℕ → ℕ → ℕ
high_of q block n size = min (q.at + q.asked.length) ((block + n) * size)

-- the bytes that it puts there
abbrev pub blocks_bytes : Request → ℕ → ℕ → ℕ → List ℕ
blocks_bytes q block n size = bytes_in q (low_of q block size) (high_of q block n size)

-- the bytes of a write or an erase in these blocks may be named
pub record MayName (c : Core) (token block n : ℕ) (q : Request) : Type 0 where
  pub named : request_at c.tokens token ≡ Some q
  pub has : HasBytesIn q block n c.blocks.size
  pub changes : changes_bytes q.asked.kind ≡ true
  pub buffer : q.asked.kind ≡ Write → length q.buffer ≡ q.asked.length
  pub count : ℕ
  pub zeros : c.zeros.items ≡ replicate count 0
  pub enough : high_of q block n c.blocks.size - low_of q block c.blocks.size ≤ count

-- they may be written there
pub record MayPut {M : Type 0} (device : M → Device) (prepared : M → ℕ → Type 0) (drive : DriveState M) (c : Core) (token block n : ℕ) (q : Request) : Type 0 where
  pub may_name : MayName c token block n q
  pub present : IsSome (medium_in drive)
  pub transfer : OfMedium drive (λ m. IsTransfer (device m) block (length (blocks_bytes q block n c.blocks.size)))
  pub ready : OfMedium drive (λ m. (b : ℕ) → block ≤ b → b * (device m).size < block * (device m).size + length (blocks_bytes q block n c.blocks.size) → prepared m b)

-- the command that writes whole blocks of a write or an erase
abbrev pub cover_by : Kind → ℕ → ℕ → Command
cover_by Read block n = Put block n
cover_by Write block n = Put block n
cover_by Flush block n = Put block n
cover_by Erase block n = Wipe block n

-- the work of a gate, with the bytes of its token there
abbrev pub lent_of : Request → Gate → ℕ → Geometry → ℕ → Lent
lent_of q g block G ticket = record {
  ticket = ticket;
  block = g.block;
  from = low_of q block G.size - block * G.size;
  bytes = g.copy;
  patch = blocks_bytes q block G.per G.size;
}

-- the work of a ticket may be lent
pub record MayLend (c : Core) (token block ticket : ℕ) (q : Request) : Type 0 where
  pub may_name : MayName c token block c.blocks.per q
  pub held : is_some (gate_of c.gates.held ticket) ≡ true
  pub inside : is_lent (gate_of c.gates.held ticket) ≡ false
  pub small : low_of q block c.blocks.size - block * c.blocks.size < 2 ^ 32
  pub fits : low_of q block c.blocks.size - block * c.blocks.size + length (blocks_bytes q block c.blocks.per c.blocks.size) ≤ c.gates.size

-- a group may be held by a new ticket
pub record MayHold (c : Core) (block ticket : ℕ) : Type 0 where
  pub unheld : is_block_held c.gates.held block ≡ false
  pub free : 0 < c.gates.free
  pub fresh : gate_of c.gates.held ticket ≡ None
  pub unknown : is_among c.gates.gone ticket ≡ false
  pub long : length c.group.items ≡ c.gates.size
  pub room : length c.holders.items < vec_capacity c.holders
