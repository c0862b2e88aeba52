-- Worked runs: the definition computes the entries that its words say.
use Rattle.std.proofs.Common.{◌≡◌, ℕ, true, false, List, [], ◌∷◌, None, refl}
use Rattle.efi_status.specs.declared.Status.TheVariants.{MediaChanged}
use Rattle.history.specs.declared.entry.Kind.TheVariants.{Read, Write}
use Rattle.history.specs.declared.entry.UnitKind.TheVariants.{Bytes}
use Rattle.history.specs.declared.entry.Command.TheVariants.{Fetch, Store, Get}
use Rattle.history.specs.declared.entry.Entry.TheVariants as entry
use Rattle.history.specs.declared.order.Order.{Order}
use Rattle.history.specs.declared.order.Order.TheVariants as order
use Rattle.history.specs.declared.order.Payload.TheVariants.{Fill, Nothing}
use Rattle.history.specs.Setup.{Setup, Opening}
use Rattle.history.specs.Tokens.{token_count, request, was_collected}
use Rattle.history.specs.Eras.{is_protected, ejects, inserts}
use Rattle.history.specs.Commands.{done_commands, has_done}
use Rattle.history.specs.Marks.{first_from, all_from, is_complete, ending, mark_of}
use Rattle.history.specs.Next.{first_open, next_task, next_turn, Failed}
use Rattle.history.specs.Rules.{refusal_of}
use Rattle.shared_disk.specs.declared.clients.Stand.TheVariants.{Whole}
use Rattle.shared_disk.specs.Lines.{Role, line_entry, first_own_open}
use Rattle.disk_io2.specs.Views.{whole_view}
use Rattle.disk_split.specs.Units.{runs_from, units_of}
use Rattle.device_workers.specs.Plain.{collects, with_own_collects, with_last_collects, after_line_of, after_lines_of_first, after_command, after_step, after_rounds, lines_rounds, rounds, plain_history}

-- a disk of one medium of two blocks, and one with a spare of one block
disk : List Opening → Setup
disk media = record { geometry = record { size = 512; per = 1 }; cached = false; protected = false; media = media }

medium : ℕ → Opening
medium blocks = record { blocks = blocks; first = None }

abbrev read_line : ℕ → Order
read_line at = order.Request (record { kind = Read; unit = Bytes; at = at; length = 1 }) Nothing 1

abbrev write_line : ℕ → ℕ → Order
write_line at byte = order.Request (record { kind = Write; unit = Bytes; at = at; length = 1 }) (Fill byte) 1

abbrev on_whole : List Order → Role
on_whole orders = record { stand = Whole; orders = orders }

-- three clients: a write, a read, and a protection, which ends the write
three-clients : plain_history (disk (medium 2 ∷ [])) [] (on_whole (write_line 0 17 ∷ []) ∷ on_whole (read_line 1 ∷ []) ∷ on_whole (order.Protect true ∷ []) ∷ []) []
    ≡ entry.Collect 2 1
    ∷ entry.Collect 1 0
    ∷ entry.Done 1 (Get 0 1)
    ∷ entry.Protect 3 true
    ∷ entry.Accept 2 (whole_view (disk (medium 2 ∷ [])) 1) (record { kind = Read; unit = Bytes; at = 1; length = 1 }) []
    ∷ entry.Accept 1 (whole_view (disk (medium 2 ∷ [])) 1) (record { kind = Write; unit = Bytes; at = 0; length = 1 }) (17 ∷ [])
    ∷ []
unfolding disk medium token_count request was_collected is_protected ejects inserts done_commands has_done first_from all_from is_complete ending mark_of first_open next_task next_turn runs_from units_of refusal_of line_entry first_own_open collects with_own_collects with_last_collects after_line_of after_lines_of_first after_command after_step after_rounds lines_rounds rounds plain_history
three-clients = refl

-- a wait asks for the tokens of its own client
own-waits : plain_history (disk (medium 2 ∷ [])) [] (on_whole (write_line 0 17 ∷ order.Wait ∷ []) ∷ on_whole (read_line 1 ∷ order.Wait ∷ []) ∷ []) []
    ≡ entry.Collect 2 1
    ∷ entry.Done 1 (Get 0 1)
    ∷ entry.Collect 1 0
    ∷ entry.Done 0 (Store 0)
    ∷ entry.Done 0 (Fetch 0)
    ∷ entry.Accept 2 (whole_view (disk (medium 2 ∷ [])) 1) (record { kind = Read; unit = Bytes; at = 1; length = 1 }) ([])
    ∷ entry.Accept 1 (whole_view (disk (medium 2 ∷ [])) 1) (record { kind = Write; unit = Bytes; at = 0; length = 1 }) (17 ∷ [])
    ∷ []
unfolding disk medium token_count request was_collected is_protected ejects inserts done_commands has_done first_from all_from is_complete ending mark_of first_open next_task next_turn runs_from units_of refusal_of line_entry first_own_open collects with_own_collects with_last_collects after_line_of after_lines_of_first after_command after_step after_rounds lines_rounds rounds plain_history
own-waits = refl

-- the medium is ejected under a read, and the spare is another
spare-in : plain_history (disk (medium 2 ∷ medium 1 ∷ [])) [] (on_whole (read_line 0 ∷ order.Wait ∷ read_line 0 ∷ []) ∷ on_whole (order.Eject ∷ order.Insert ∷ []) ∷ []) []
    ≡ entry.Refuse 1 (whole_view (disk (medium 2 ∷ medium 1 ∷ [])) 1) (record { kind = Read; unit = Bytes; at = 0; length = 1 }) 1 MediaChanged
    ∷ entry.Insert 2 2
    ∷ entry.Collect 1 0
    ∷ entry.Eject 2
    ∷ entry.Accept 1 (whole_view (disk (medium 2 ∷ medium 1 ∷ [])) 1) (record { kind = Read; unit = Bytes; at = 0; length = 1 }) ([])
    ∷ []
unfolding disk medium token_count request was_collected is_protected ejects inserts done_commands has_done first_from all_from is_complete ending mark_of first_open next_task next_turn runs_from units_of refusal_of line_entry first_own_open collects with_own_collects with_last_collects after_line_of after_lines_of_first after_command after_step after_rounds lines_rounds rounds plain_history
spare-in = refl

-- a fetch that fails ends its token
failed-fetch : plain_history (disk (medium 2 ∷ [])) [] (on_whole (write_line 0 17 ∷ []) ∷ []) (Failed 0 ∷ [])
    ≡ entry.Collect 1 0
    ∷ entry.Fault 0 (Fetch 0) 0
    ∷ entry.Accept 1 (whole_view (disk (medium 2 ∷ [])) 1) (record { kind = Write; unit = Bytes; at = 0; length = 1 }) (17 ∷ [])
    ∷ []
unfolding disk medium token_count request was_collected is_protected ejects inserts done_commands has_done first_from all_from is_complete ending mark_of first_open next_task next_turn runs_from units_of refusal_of line_entry first_own_open collects with_own_collects with_last_collects after_line_of after_lines_of_first after_command after_step after_rounds lines_rounds rounds plain_history
failed-fetch = refl
