-- The line of an entry (own profile).
use Rattle.std.specs.Prelude.{ℕ, Bool, true, false, List, [], ◌∷◌, codes, decimal}
use Rattle.efi_status.specs.StatusTable.{name_of}
use Rattle.history.specs.declared.entry.Kind.{Kind}
use Rattle.history.specs.declared.entry.Kind.TheVariants.{Read, Write, Flush, Erase}
use Rattle.history.specs.declared.entry.Asked.{Asked}
use Rattle.history.specs.declared.entry.Command.{Command}
use Rattle.history.specs.declared.entry.Command.TheVariants.{Fetch, Store, Put, Get, Wipe, Sync}
use Rattle.history.specs.declared.entry.Entry.{Entry}
use Rattle.history.specs.declared.entry.Entry.TheVariants.{Accept, Refuse, Done, Fault, Collect, Cancel, Reset, Eject, Insert, Protect}
use Rattle.script_text.specs.Text.{lines_text, line_of, hex_text, view_text, asked_text}

-- what was accepted; a flush has no range, and only a write has bytes
abbrev pub accepted_words : Kind → Asked → List ℕ → List (List ℕ)
accepted_words Read asked bytes = asked_text asked ∷ []
accepted_words Write asked bytes = asked_text asked ∷ hex_text bytes ∷ []
accepted_words Flush asked bytes = codes "flush" ∷ []
accepted_words Erase asked bytes = asked_text asked ∷ []

-- a command that was done
abbrev pub done_words : ℕ → Command → List (List ℕ)
done_words token (Fetch block) = codes "fetch" ∷ decimal token ∷ decimal block ∷ []
done_words token (Store block) = codes "store" ∷ decimal token ∷ decimal block ∷ []
done_words token (Put block count) = codes "put" ∷ decimal token ∷ decimal block ∷ decimal count ∷ []
done_words token (Get block count) = codes "get" ∷ decimal token ∷ decimal block ∷ decimal count ∷ []
done_words token (Wipe block count) = codes "wipe" ∷ decimal token ∷ decimal block ∷ decimal count ∷ []
done_words token Sync = codes "sync" ∷ decimal token ∷ []

-- a command that failed on a disk with groups of so many blocks: its blocks, and how many of them it had done
abbrev pub failed_words : ℕ → Command → ℕ → List (List ℕ)
failed_words per (Fetch block) done = codes "fetch" ∷ decimal block ∷ decimal per ∷ decimal done ∷ []
failed_words per (Store block) done = codes "store" ∷ decimal block ∷ decimal per ∷ decimal done ∷ []
failed_words per (Put block count) done = codes "put" ∷ decimal block ∷ decimal count ∷ decimal done ∷ []
failed_words per (Get block count) done = codes "get" ∷ decimal block ∷ decimal count ∷ decimal done ∷ []
failed_words per (Wipe block count) done = codes "wipe" ∷ decimal block ∷ decimal count ∷ decimal done ∷ []
failed_words per Sync done = codes "sync" ∷ codes "0" ∷ codes "0" ∷ decimal done ∷ []

abbrev pub switch_text : Bool → List ℕ
switch_text true = codes "on"
switch_text false = codes "off"

-- the words of an entry of a disk with groups of so many blocks
unfoldable pub entry_words : ℕ → Entry → List (List ℕ)
entry_words per (Accept tag view asked bytes) = codes "accept" ∷ decimal tag ∷ view_text view ∷ accepted_words asked.kind asked bytes
entry_words per (Refuse tag view asked media_id status) =
    codes "refuse" ∷ decimal tag ∷ view_text view ∷ asked_text asked ∷ decimal media_id ∷ name_of status ∷ []
entry_words per (Done token command) = done_words token command
entry_words per (Fault token command done) = codes "fault" ∷ decimal token ∷ failed_words per command done
entry_words per (Collect tag token) = codes "collect" ∷ decimal tag ∷ decimal token ∷ []
entry_words per (Cancel tag view) = codes "cancel" ∷ decimal tag ∷ view_text view ∷ []
entry_words per (Reset tag) = codes "reset" ∷ decimal tag ∷ []
entry_words per (Eject tag) = codes "eject" ∷ decimal tag ∷ []
entry_words per (Insert tag media_id) = codes "insert" ∷ decimal tag ∷ decimal media_id ∷ []
entry_words per (Protect tag on) = codes "protect" ∷ decimal tag ∷ switch_text on ∷ []

-- the line of an entry: its place from 0 for the oldest, and its words
unfoldable pub line_text : ℕ → ℕ → Entry → List ℕ
line_text per place entry = line_of (decimal place ∷ entry_words per entry)

-- the lines of entries from the oldest on
abbrev pub entries_text : ℕ → List Entry → List ℕ
entries_text per entries = lines_text (line_text per) 0 entries
