-- How many commands a history has, and how many entries are still owed (own profile).
use Rattle.std.specs.Prelude.{◌≡◌, ℕ, zero, suc, ◌+◌, ◌-◌, ◌/◌, ◌≤◌, Bool, true, false, nat_eq, List, [], ◌∷◌, length, Option, None, Some, sum_by, count_by}
use Rattle.efi_status.specs.declared.Status.{Status}
use Rattle.disk_split.specs.Units.{whole_blocks}
use Rattle.history.specs.declared.entry.Kind.{Kind}
use Rattle.history.specs.declared.entry.Kind.TheVariants.{Read, Write, Flush, Erase}
use Rattle.history.specs.declared.entry.Entry.{Entry}
use Rattle.history.specs.declared.entry.Entry.TheVariants.{Done, Fault}
use Rattle.history.specs.Setup.{Setup}
use Rattle.history.specs.Eras.{ejects, inserts, is_command, is_fault}
use Rattle.history.specs.Tokens.{Request, token_count, request, was_collected, from_of, until_of}
use Rattle.history.specs.Commands.{is_put, is_get, is_wipe, is_sync, is_at, has_done}
use Rattle.history.specs.Marks.{mark_of, was_fetched, was_stored}
use Rattle.history.specs.Tasks.{Task, Moves, Syncs, tasks_of}

-- how many commands were made
unfoldable pub commands : List Entry → ℕ
commands H = count_by is_command H

-- how many of all failed
unfoldable pub faults : List Entry → ℕ
faults H = count_by is_fault H

abbrev pub is_command_of : ℕ → Entry → Bool
is_command_of t (Done u c) = nat_eq u t
is_command_of t (Fault u c done) = nat_eq u t
is_command_of t e = false

-- how many commands were made for this token
unfoldable pub commands_of : List Entry → ℕ → ℕ
commands_of H t = count_by (is_command_of t) H

-- into how many runs the whole groups of a request are cut
abbrev pub runs_of : Setup → Request → ℕ
runs_of S r = (whole_blocks S.geometry (from_of S r) (until_of S r) + 63) / 64

-- each token has at most four commands beside one for each of its runs
abbrev pub AreFewCommands : Setup → List Entry → Type 0
AreFewCommands S H = (t : ℕ) (r : Request) → request H t ≡ Some r → commands_of H t ≤ runs_of S r + 4

-- the commands that a part of a write or an erase may still make: its fetch and its store
abbrev pub part_owed : Bool → Bool → ℕ
part_owed fetched true = 0
part_owed true false = 1
part_owed false false = 2

abbrev pub one_unless : Bool → ℕ
one_unless true = 0
one_unless false = 1

-- the commands that a part or a run of a token may still make
abbrev pub span_owed : Kind → List Entry → ℕ → Bool → ℕ → ℕ
span_owed Read H t whole b = one_unless (has_done (is_at is_get b) H t)
span_owed Write H t true b = one_unless (has_done (is_at is_put b) H t)
span_owed Write H t false b = part_owed (was_fetched H t b) (was_stored H t b)
span_owed Erase H t true b = one_unless (has_done (is_at is_wipe b) H t)
span_owed Erase H t false b = part_owed (was_fetched H t b) (was_stored H t b)
span_owed Flush H t whole b = 0

-- the commands that a unit of a token may still make
abbrev pub task_owed : Kind → List Entry → ℕ → Task → ℕ
task_owed kind H t (Moves u) = span_owed kind H t u.whole u.block
task_owed kind H t Syncs = one_unless (has_done is_sync H t)

-- the commands that a request may still make
unfoldable pub commands_owed : Setup → List Entry → ℕ → Request → ℕ
commands_owed S H t r = sum_by (task_owed r.asked.kind H t) (tasks_of S r)

-- an outstanding token owes its commands, an entry that ends it, and its collect; an ended one its collect
abbrev pub request_owed : Setup → List Entry → ℕ → Option Request → Option Status → Bool → ℕ
request_owed S H t None mark collected = 0
request_owed S H t (Some r) None collected = commands_owed S H t r + 2
request_owed S H t (Some r) (Some status) true = 0
request_owed S H t (Some r) (Some status) false = 1

unfoldable pub token_owed : Setup → List Entry → ℕ → ℕ
token_owed S H t = request_owed S H t (request H t) (mark_of S H t) (was_collected H t)

-- what the first n tokens owe
unfoldable pub tokens_owed : Setup → List Entry → ℕ → ℕ
tokens_owed S H zero = 0
tokens_owed S H (suc n) = tokens_owed S H n + token_owed S H n

-- each ejection and insertion that can still come
abbrev pub media_owed : Setup → List Entry → ℕ
media_owed S H = (length S.media - ejects H) + (length S.media - (inserts H + 1))

-- the entries that the history must still have room for
unfoldable pub owed_entries : Setup → List Entry → ℕ
owed_entries S H = tokens_owed S H (token_count H) + media_owed S H
