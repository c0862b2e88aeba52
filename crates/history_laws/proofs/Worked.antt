-- Worked histories: what the words say of them, as the rows of the model do. Each closes by computation.
use Rattle.std.proofs.Common.{◌≡◌, ℕ, Bool, true, false, List, [], ◌∷◌, Option, None, Some, option_map, replicate, refl}
use Rattle.efi_status.specs.declared.Status.TheVariants.{Success, DeviceError, WriteProtected, NoMedia, MediaChanged, Aborted, InvalidParameter, BadBufferSize}
use Rattle.disk_split.specs.Units.{units_of, runs_from}
use Rattle.history.specs.declared.entry.View.{View}
use Rattle.history.specs.declared.entry.Kind.{Kind}
use Rattle.history.specs.declared.entry.Kind.TheVariants.{Read, Write, Flush, Erase}
use Rattle.history.specs.declared.entry.UnitKind.TheVariants.{Bytes, Blocks}
use Rattle.history.specs.declared.entry.Asked.{Asked}
use Rattle.history.specs.declared.entry.Command.{Command}
use Rattle.history.specs.declared.entry.Command.TheVariants.{Fetch, Store, Put, Get, Wipe, Sync}
use Rattle.history.specs.declared.entry.Entry.{Entry}
use Rattle.history.specs.declared.entry.Entry.TheVariants.{Accept, Done, Fault, Collect, Cancel, Reset, Eject, Insert, Protect}
use Rattle.history.specs.Setup.{Setup}
use Rattle.history.specs.Eras.{ejects, inserts, media_id_of, is_present, is_protected}
use Rattle.history.specs.Tokens.{token_count, request, was_collected}
use Rattle.history.specs.Commands.{done_commands, has_done}
use Rattle.history.specs.Contents.{Piece, piece_in, piece_of, pieces_of, patch_all, contents, flushed_contents, kept_contents, byte_at, bytes_read}
use Rattle.history.specs.Marks.{all_from, first_from, is_complete, ending, mark_of, is_held, fetches, ticket_of}
use Rattle.history.specs.Rules.{refusal_of}
use Rattle.history.specs.Tasks.{todo_of, todo_before, first_runnable}
use Rattle.history.specs.Next.{first_open, next_task, Turn, next_turn}
use Rattle.history.specs.Room.{commands_owed, token_owed, tokens_owed, owed_entries}
use Rattle.history_laws.specs.Turns.{turn_of_todo}

-- a disk with one medium of so many blocks, which has such bytes at the beginning
abbrev disk : ℕ → Bool → ℕ → Option (List ℕ) → Setup
disk per cached blocks first = record { geometry = record { size = 512; per = per }; cached = cached; protected = false; media = record { blocks = blocks; first = first } ∷ [] }

-- the whole medium
abbrev view : ℕ → View
view length = record { start = 0; length = length; media_id = 1; index = 0 }

abbrev bytes_at : Kind → ℕ → ℕ → Asked
bytes_at kind at length = record { kind = kind; unit = Bytes; at = at; length = length }

abbrev blocks_at : Kind → ℕ → ℕ → Asked
blocks_at kind lba length = record { kind = kind; unit = Blocks; at = lba; length = length }

abbrev turn : ℕ → Command → Option Turn
turn t c = Some (record { token = t; command = c })

abbrev piece : ℕ → ℕ → List ℕ → Piece
piece t at bytes = record { token = t; at = at; bytes = bytes }

abbrev aabbccdd : List ℕ
aabbccdd = 170 ∷ (187 ∷ (204 ∷ (221 ∷ [])))

-- what comes next after a history
abbrev next : Setup → List Entry → Option Turn
next S H = next_turn S H

-- what comes next of several tokens, where the history says which blocks are held, and a buffer set is free or not
abbrev runnable : Bool → Setup → List Entry → Option Turn
runnable free S H = option_map (turn_of_todo H) (first_runnable (is_held S H) free S H)

abbrev across : List Entry
across = Accept 1 (view 1024) (bytes_at Write 510 4) aabbccdd ∷ []

abbrev across_done : List Entry
across_done = Done 0 (Store 1) ∷ (Done 0 (Fetch 1) ∷ (Done 0 (Store 0) ∷ (Done 0 (Fetch 0) ∷ across)))

-- a write across two blocks fetches and stores each of them
pub across-turns :
    (next (disk 1 false 2 None) across ≡ turn 0 (Fetch 0))
    × (next (disk 1 false 2 None) (Done 0 (Fetch 0) ∷ across) ≡ turn 0 (Store 0))
    × (next (disk 1 false 2 None) (Done 0 (Store 0) ∷ (Done 0 (Fetch 0) ∷ across)) ≡ turn 0 (Fetch 1))
    × (next (disk 1 false 2 None) (Done 0 (Fetch 1) ∷ (Done 0 (Store 0) ∷ (Done 0 (Fetch 0) ∷ across))) ≡ turn 0 (Store 1))
    × (next (disk 1 false 2 None) across_done ≡ None)
unfolding next_turn next_task first_open first_from token_count mark_of ending is_complete all_from request done_commands has_done units_of runs_from
across-turns = (refl, refl, refl, refl, refl)

-- it ends with success with its last store, and its pieces are two, the newest first
pub across-ends :
    (mark_of (disk 1 false 2 None) (Done 0 (Fetch 1) ∷ (Done 0 (Store 0) ∷ (Done 0 (Fetch 0) ∷ across))) 0 ≡ None)
    × (mark_of (disk 1 false 2 None) across_done 0 ≡ Some Success)
    × (pieces_of (disk 1 false 2 None) 1 across_done ≡ piece 0 512 (204 ∷ (221 ∷ [])) ∷ (piece 0 510 (170 ∷ (187 ∷ [])) ∷ []))
unfolding next_turn next_task first_open first_from token_count mark_of ending is_complete all_from request done_commands has_done units_of runs_from pieces_of piece_of piece_in inserts
across-ends = (refl, refl, refl)

-- it owes four commands, its end and its collect, beside one ejection
pub across-owes :
    (owed_entries (disk 1 false 2 None) across ≡ 7)
    × (owed_entries (disk 1 false 2 None) (Done 0 (Fetch 0) ∷ across) ≡ 6)
    × (owed_entries (disk 1 false 2 None) (Done 0 (Store 0) ∷ (Done 0 (Fetch 0) ∷ across)) ≡ 5)
    × (owed_entries (disk 1 false 2 None) (Fault 0 (Fetch 1) 0 ∷ (Done 0 (Store 0) ∷ (Done 0 (Fetch 0) ∷ across))) ≡ 2)
    × (owed_entries (disk 1 false 2 None) across_done ≡ 2)
    × (owed_entries (disk 1 false 2 None) (Collect 1 0 ∷ across_done) ≡ 1)
unfolding next_turn next_task first_open first_from token_count mark_of ending is_complete all_from request done_commands has_done units_of runs_from ejects inserts was_collected commands_owed token_owed tokens_owed owed_entries
across-owes = (refl, refl, refl, refl, refl, refl)

abbrev around : List Entry
around = Accept 1 (view 1024) (bytes_at Read 508 8) [] ∷ (Collect 1 0 ∷ across_done)

abbrev around_done : List Entry
around_done = Done 1 (Get 1 1) ∷ (Done 1 (Get 0 1) ∷ around)

-- a read around it gets each of the two blocks, and what they hold
pub around-read :
    (next (disk 1 false 2 None) around ≡ turn 1 (Get 0 1))
    × (next (disk 1 false 2 None) (Done 1 (Get 0 1) ∷ around) ≡ turn 1 (Get 1 1))
    × (mark_of (disk 1 false 2 None) around_done 1 ≡ Some Success)
    × (bytes_read (disk 1 false 2 (Some (replicate 1024 0))) around_done 1 509 ≡ Some 0)
    × (bytes_read (disk 1 false 2 (Some (replicate 1024 0))) around_done 1 510 ≡ Some 170)
    × (bytes_read (disk 1 false 2 (Some (replicate 1024 0))) around_done 1 513 ≡ Some 221)
    × (bytes_read (disk 1 false 2 (Some (replicate 1024 0))) (Done 1 (Get 0 1) ∷ around) 1 513 ≡ None)
unfolding next_turn next_task first_open first_from token_count mark_of ending is_complete all_from request done_commands has_done units_of runs_from pieces_of piece_of piece_in inserts bytes_read contents patch_all
around-read = (refl, refl, refl, refl, refl, refl, refl)

-- a range that leaves the medium, a length that is no number of blocks, and a block behind the last
pub refusals :
    (refusal_of (disk 1 false 2 None) [] (view 1024) (bytes_at Write 1023 2) 1 ≡ Some InvalidParameter)
    × (refusal_of (disk 1 false 2 None) [] (view 1024) (bytes_at Read 1024 0) 1 ≡ None)
    × (refusal_of (disk 1 false 2 None) [] (view 1024) (bytes_at Read 1025 0) 1 ≡ Some InvalidParameter)
    × (refusal_of (disk 1 false 2 None) [] (view 1024) (bytes_at Read 18446744073709551615 2) 1 ≡ Some InvalidParameter)
    × (refusal_of (disk 1 false 2 None) [] (view 1024) (blocks_at Read 0 700) 1 ≡ Some BadBufferSize)
    × (refusal_of (disk 1 false 2 None) [] (view 1024) (blocks_at Read 2 512) 1 ≡ Some InvalidParameter)
    × (refusal_of (disk 1 false 2 None) [] (view 1024) (blocks_at Read 1 512) 1 ≡ None)
    × (refusal_of (disk 1 false 4 None) [] (view 2048) (blocks_at Erase 0 700) 1 ≡ Some BadBufferSize)
unfolding refusal_of is_protected ejects inserts
refusals = (refl, refl, refl, refl, refl, refl, refl, refl)

-- a read of no bytes ends with success as it is accepted
pub empty-ends :
    (mark_of (disk 1 false 2 None) (Accept 1 (view 1024) (bytes_at Read 1024 0) [] ∷ []) 0 ≡ Some Success)
    × (next (disk 1 false 2 None) (Accept 1 (view 1024) (bytes_at Read 1024 0) [] ∷ []) ≡ None)
unfolding next_turn next_task first_open first_from token_count mark_of ending is_complete all_from request done_commands has_done units_of runs_from
empty-ends = (refl, refl)

abbrev filled : List Entry
filled = Accept 1 (view 2048) (bytes_at Write 0 1536) (replicate 1536 255) ∷ []

-- a put of three blocks that failed after one gives that one
pub partly-put :
    (next (disk 1 false 4 None) filled ≡ turn 0 (Put 0 3))
    × (mark_of (disk 1 false 4 None) (Fault 0 (Put 0 3) 1 ∷ filled) 0 ≡ Some DeviceError)
    × (pieces_of (disk 1 false 4 None) 1 (Fault 0 (Put 0 3) 1 ∷ filled) ≡ piece 0 0 (replicate 512 255) ∷ [])
    × (pieces_of (disk 1 false 4 None) 1 (Fault 0 (Put 0 3) 0 ∷ filled) ≡ [])
unfolding next_turn next_task first_open first_from token_count mark_of ending is_complete all_from request done_commands has_done units_of runs_from pieces_of piece_of piece_in inserts
partly-put = (refl, refl, refl, refl)

abbrev sharing : List Entry
sharing = Accept 2 (view 512) (bytes_at Write 10 10) (replicate 10 2) ∷ (Accept 1 (view 512) (bytes_at Write 0 10) (replicate 10 1) ∷ [])

abbrev sharing_turned : List Entry
sharing_turned = Done 1 (Fetch 0) ∷ (Done 0 (Store 0) ∷ (Done 0 (Fetch 0) ∷ sharing))

-- a second token waits for a group that is held, and a ticket counts the fetches before it, failed ones too
pub gates :
    (runnable true (disk 1 false 1 None) sharing ≡ turn 0 (Fetch 0))
    × (is_held (disk 1 false 1 None) (Done 0 (Fetch 0) ∷ sharing) 0 ≡ true)
    × (runnable true (disk 1 false 1 None) (Done 0 (Fetch 0) ∷ sharing) ≡ None)
    × (runnable true (disk 1 false 1 None) (Done 0 (Store 0) ∷ (Done 0 (Fetch 0) ∷ sharing)) ≡ turn 1 (Fetch 0))
    × (ticket_of sharing_turned 0 0 ≡ Some 0)
    × (ticket_of sharing_turned 1 0 ≡ Some 1)
    × (ticket_of (Done 1 (Fetch 0) ∷ (Fault 0 (Fetch 0) 0 ∷ sharing)) 1 0 ≡ Some 1)
unfolding next_turn next_task first_open first_from token_count mark_of ending is_complete all_from request done_commands has_done units_of runs_from is_held first_runnable todo_before todo_of ticket_of fetches
gates = (refl, refl, refl, refl, refl, refl, refl)

abbrev covering : List Entry
covering = Accept 2 (view 1024) (bytes_at Write 0 512) (replicate 512 2) ∷ (Accept 1 (view 1024) (bytes_at Write 0 10) (replicate 10 1) ∷ [])

abbrev apart : List Entry
apart = Accept 2 (view 1024) (bytes_at Write 512 1) (2 ∷ []) ∷ (Accept 1 (view 1024) (bytes_at Write 0 1) (1 ∷ []) ∷ [])

-- so does a run with a held block; a part of another block waits for a buffer set alone
pub barred-run :
    (runnable true (disk 1 false 2 None) (Done 0 (Fetch 0) ∷ covering) ≡ None)
    × (runnable true (disk 1 false 2 None) (Done 0 (Store 0) ∷ (Done 0 (Fetch 0) ∷ covering)) ≡ turn 1 (Put 0 1))
    × (runnable false (disk 1 false 2 None) (Done 0 (Fetch 0) ∷ apart) ≡ None)
    × (runnable true (disk 1 false 2 None) (Done 0 (Fetch 0) ∷ apart) ≡ turn 1 (Fetch 1))
unfolding next_turn next_task first_open first_from token_count mark_of ending is_complete all_from request done_commands has_done units_of runs_from is_held first_runnable todo_before todo_of
barred-run = (refl, refl, refl, refl)

abbrev elsewhere : View
elsewhere = record { start = 512; length = 512; media_id = 1; index = 1 }

abbrev viewed : List Entry
viewed = Accept 2 elsewhere (bytes_at Write 0 1) (2 ∷ []) ∷ (Done 0 (Fetch 0) ∷ (Accept 1 (view 1024) (bytes_at Write 4 4) (replicate 4 1) ∷ []))

-- a cancel ends the tokens of its view alone, and frees what they held
pub cancelled :
    (is_held (disk 1 false 2 None) viewed 0 ≡ true)
    × (mark_of (disk 1 false 2 None) (Cancel 1 (view 1024) ∷ viewed) 0 ≡ Some Aborted)
    × (mark_of (disk 1 false 2 None) (Cancel 1 (view 1024) ∷ viewed) 1 ≡ None)
    × (is_held (disk 1 false 2 None) (Cancel 1 (view 1024) ∷ viewed) 0 ≡ false)
    × (mark_of (disk 1 false 2 None) (Reset 1 ∷ viewed) 1 ≡ Some Aborted)
unfolding next_turn next_task first_open first_from token_count mark_of ending is_complete all_from request done_commands has_done units_of runs_from is_held
cancelled = (refl, refl, refl, refl, refl)

abbrev unflushed : List Entry
unflushed = Collect 1 0 ∷ (Done 0 (Store 0) ∷ (Done 0 (Fetch 0) ∷ (Accept 1 (view 512) (bytes_at Write 0 1) (17 ∷ []) ∷ [])))

abbrev flushing : List Entry
flushing = Accept 1 (view 512) (bytes_at Flush 0 0) [] ∷ unflushed

-- with a cache what is not flushed is lost, and what is flushed stays
pub flushed :
    (byte_at (contents (disk 1 true 1 (Some (replicate 512 0))) 1 unflushed) 0 ≡ Some 17)
    × (byte_at (kept_contents (disk 1 true 1 (Some (replicate 512 0))) 1 (Eject 1 ∷ unflushed)) 0 ≡ Some 0)
    × (next (disk 1 true 1 None) flushing ≡ turn 1 Sync)
    × (mark_of (disk 1 true 1 None) (Done 1 Sync ∷ flushing) 1 ≡ Some Success)
    × (byte_at (kept_contents (disk 1 true 1 (Some (replicate 512 0))) 1 (Eject 1 ∷ (Done 1 Sync ∷ flushing))) 0 ≡ Some 17)
unfolding next_turn next_task first_open first_from token_count mark_of ending is_complete all_from request done_commands has_done units_of runs_from pieces_of piece_of piece_in inserts contents flushed_contents kept_contents patch_all
flushed = (refl, refl, refl, refl, refl)

abbrev two_media : Setup
two_media = record { geometry = record { size = 512; per = 1 }; cached = false; protected = false; media = record { blocks = 2; first = None } ∷ (record { blocks = 1; first = None } ∷ []) }

abbrev ejected_open : List Entry
ejected_open = Eject 2 ∷ (Accept 1 (view 1024) (bytes_at Read 0 512) [] ∷ [])

-- an ejection ends what is open, and the next medium is another era
pub ejected :
    (mark_of two_media ejected_open 0 ≡ Some NoMedia)
    × (is_present ejected_open ≡ false)
    × (refusal_of two_media ejected_open (view 1024) (bytes_at Read 0 512) 1 ≡ Some NoMedia)
    × (media_id_of (Insert 2 2 ∷ (Collect 1 0 ∷ ejected_open)) ≡ 2)
    × (is_present (Insert 2 2 ∷ (Collect 1 0 ∷ ejected_open)) ≡ true)
    × (refusal_of two_media (Insert 2 2 ∷ (Collect 1 0 ∷ ejected_open)) (view 1024) (bytes_at Read 0 512) 1 ≡ Some MediaChanged)
unfolding next_turn next_task first_open first_from token_count mark_of ending is_complete all_from request done_commands has_done units_of runs_from refusal_of is_protected ejects inserts
ejected = (refl, refl, refl, refl, refl, refl)

abbrev mixed : List Entry
mixed = Protect 3 true ∷ (Accept 2 (view 1024) (bytes_at Read 1 1) [] ∷ (Accept 1 (view 1024) (bytes_at Write 0 1) (17 ∷ []) ∷ []))

-- a protection ends a write and leaves a read
pub protected :
    (mark_of (disk 1 false 2 None) mixed 0 ≡ Some WriteProtected)
    × (mark_of (disk 1 false 2 None) mixed 1 ≡ None)
    × (next (disk 1 false 2 None) mixed ≡ turn 1 (Get 0 1))
    × (mark_of (disk 1 false 2 None) (Done 1 (Get 0 1) ∷ mixed) 1 ≡ Some Success)
    × (bytes_read (disk 1 false 2 (Some (replicate 1024 0))) (Done 1 (Get 0 1) ∷ mixed) 1 1 ≡ Some 0)
    × (refusal_of (disk 1 false 2 None) mixed (view 1024) (bytes_at Write 0 1) 1 ≡ Some WriteProtected)
unfolding next_turn next_task first_open first_from token_count mark_of ending is_complete all_from request done_commands has_done units_of runs_from pieces_of piece_of piece_in inserts refusal_of is_protected ejects bytes_read contents patch_all
protected = (refl, refl, refl, refl, refl, refl)

abbrev grouped : List Entry
grouped = Accept 1 (view 8192) (bytes_at Write 510 4) aabbccdd ∷ []

-- with groups of eight blocks a write across two blocks of one group fetches and stores that group
pub one-group :
    (next (disk 8 false 16 None) grouped ≡ turn 0 (Fetch 0))
    × (is_held (disk 8 false 16 None) (Done 0 (Fetch 0) ∷ grouped) 7 ≡ true)
    × (is_held (disk 8 false 16 None) (Done 0 (Fetch 0) ∷ grouped) 8 ≡ false)
    × (next (disk 8 false 16 None) (Done 0 (Fetch 0) ∷ grouped) ≡ turn 0 (Store 0))
    × (mark_of (disk 8 false 16 None) (Done 0 (Store 0) ∷ (Done 0 (Fetch 0) ∷ grouped)) 0 ≡ Some Success)
    × (pieces_of (disk 8 false 16 None) 1 (Done 0 (Store 0) ∷ (Done 0 (Fetch 0) ∷ grouped)) ≡ piece 0 510 aabbccdd ∷ [])
unfolding next_turn next_task first_open first_from token_count mark_of ending is_complete all_from request done_commands has_done units_of runs_from pieces_of piece_of piece_in inserts is_held
one-group = (refl, refl, refl, refl, refl, refl)

-- a store that failed after one block gives the bytes of that block
pub partly-stored :
    (mark_of (disk 8 false 16 None) (Fault 0 (Store 0) 1 ∷ (Done 0 (Fetch 0) ∷ grouped)) 0 ≡ Some DeviceError)
    × (pieces_of (disk 8 false 16 None) 1 (Fault 0 (Store 0) 1 ∷ (Done 0 (Fetch 0) ∷ grouped)) ≡ piece 0 510 (170 ∷ (187 ∷ [])) ∷ [])
    × (pieces_of (disk 8 false 16 None) 1 (Fault 0 (Store 0) 0 ∷ (Done 0 (Fetch 0) ∷ grouped)) ≡ [])
unfolding next_turn next_task first_open first_from token_count mark_of ending is_complete all_from request done_commands has_done units_of runs_from pieces_of piece_of piece_in inserts
partly-stored = (refl, refl, refl)

abbrev cutting : List Entry
cutting = Accept 1 (view 8192) (bytes_at Write 4000 200) (replicate 200 90) ∷ []

abbrev cut_once : List Entry
cut_once = Done 0 (Store 0) ∷ (Done 0 (Fetch 0) ∷ cutting)

-- a range that cuts two groups has two parts, and one that is a group a run
pub two-groups :
    (next (disk 8 false 16 None) cutting ≡ turn 0 (Fetch 0))
    × (next (disk 8 false 16 None) (Done 0 (Fetch 0) ∷ cutting) ≡ turn 0 (Store 0))
    × (next (disk 8 false 16 None) cut_once ≡ turn 0 (Fetch 8))
    × (next (disk 8 false 16 None) (Done 0 (Fetch 8) ∷ cut_once) ≡ turn 0 (Store 8))
    × (pieces_of (disk 8 false 16 None) 1 (Done 0 (Store 8) ∷ (Done 0 (Fetch 8) ∷ cut_once)) ≡ piece 0 4096 (replicate 104 90) ∷ (piece 0 4000 (replicate 96 90) ∷ []))
    × (next (disk 8 false 16 None) (Accept 1 (view 8192) (bytes_at Write 4096 4096) (replicate 4096 90) ∷ []) ≡ turn 0 (Put 8 8))
unfolding next_turn next_task first_open first_from token_count mark_of ending is_complete all_from request done_commands has_done units_of runs_from pieces_of piece_of piece_in inserts
two-groups = (refl, refl, refl, refl, refl, refl)

abbrev erasing : List Entry
erasing = Accept 1 (view 2048) (blocks_at Erase 1 1024) [] ∷ []

-- an erase of two blocks wipes them, and a failed wipe makes its first blocks zero
pub erased :
    (next (disk 1 false 4 None) erasing ≡ turn 0 (Wipe 1 2))
    × (mark_of (disk 1 false 4 None) (Done 0 (Wipe 1 2) ∷ erasing) 0 ≡ Some Success)
    × (pieces_of (disk 1 false 4 None) 1 (Done 0 (Wipe 1 2) ∷ erasing) ≡ piece 0 512 (replicate 1024 0) ∷ [])
    × (mark_of (disk 1 false 4 None) (Fault 0 (Wipe 1 2) 1 ∷ erasing) 0 ≡ Some DeviceError)
    × (pieces_of (disk 1 false 4 None) 1 (Fault 0 (Wipe 1 2) 1 ∷ erasing) ≡ piece 0 512 (replicate 512 0) ∷ [])
unfolding next_turn next_task first_open first_from token_count mark_of ending is_complete all_from request done_commands has_done units_of runs_from pieces_of piece_of piece_in inserts
erased = (refl, refl, refl, refl, refl)

-- inside a group of four it is a part: it fetches the group and stores zeros
pub erased-inside :
    (next (disk 4 false 4 None) erasing ≡ turn 0 (Fetch 0))
    × (next (disk 4 false 4 None) (Done 0 (Fetch 0) ∷ erasing) ≡ turn 0 (Store 0))
    × (mark_of (disk 4 false 4 None) (Done 0 (Store 0) ∷ (Done 0 (Fetch 0) ∷ erasing)) 0 ≡ Some Success)
    × (pieces_of (disk 4 false 4 None) 1 (Done 0 (Store 0) ∷ (Done 0 (Fetch 0) ∷ erasing)) ≡ piece 0 512 (replicate 1024 0) ∷ [])
unfolding next_turn next_task first_open first_from token_count mark_of ending is_complete all_from request done_commands has_done units_of runs_from pieces_of piece_of piece_in inserts
erased-inside = (refl, refl, refl, refl)
