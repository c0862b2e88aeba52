-- How the tokens of a disk ended, as the report tells it from what a desk kept of them (own profile).
use Rattle.std.specs.Prelude.{Bool, ◌&&◌, List, [], ◌∷◌, None, Some}
use Rattle.efi_status.specs.declared.Status.TheVariants.{Success}
use Rattle.shared_disk.specs.declared.books.Buffer.{Buffer}
use Rattle.shared_disk.specs.declared.books.Buffer.TheVariants.{Awaited, Kept, Gone}
use Rattle.shared_disk.specs.declared.books.Slot.{Slot}
use Rattle.script_text.specs.declared.report.parts.TokenLine.{TokenLine}
use Rattle.script_text.specs.Report.{is_success, given_if}

-- a token whose buffer is kept: a tagged read gives its bytes where it succeeded; a token that was not collected tells nothing
abbrev pub line_told : Bool → Buffer → TokenLine
line_told tagged (Kept done) = record { status = done.status; given = given_if (tagged && is_success (Some done.status)) (Some done.buffer) }
line_told tagged Awaited = record { status = Success; given = None }
line_told tagged Gone = record { status = Success; given = None }

-- the token of this buffer was collected: the desk keeps it, or another caller has it
abbrev pub IsCollected : Buffer → Type 0
IsCollected Awaited = ⊥
IsCollected (Kept done) = Unit {0}
IsCollected Gone = Unit {0}

-- the tokens in order, of which these are tagged reads
unfoldable pub lines_told : List Bool → List Slot → List TokenLine
lines_told [] slots = []
lines_told (tagged ∷ more) [] = []
lines_told (tagged ∷ more) (slot ∷ slots) = line_told tagged slot.buffer ∷ lines_told more slots
