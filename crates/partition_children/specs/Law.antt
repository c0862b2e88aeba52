-- Where the views of children lie, and what their requests leave (UEFI 2.10, 13.7 and 13.9; own profile). Histories stand newest entry
-- first.
use Rattle.std.specs.Prelude.{◌≡◌, ℕ, ◌+◌, ◌*◌, ◌<◌, ◌≤◌, ◌⊎◌, true, List, [], ◌∷◌, ◌++◌, All, length, Some}
use Rattle.history.specs.declared.entry.View.{View}
use Rattle.history.specs.declared.entry.Entry.{Entry}
use Rattle.history.specs.Setup.{Setup, size_of}
use Rattle.history.specs.Tokens.{Request, request}
use Rattle.history.specs.Contents.{contents, byte_at}
use Rattle.history.specs.Room.{is_command_of}
use Rattle.partition_tables.specs.declared.table.Child.{Child}
use Rattle.partition_tables.specs.Table.{table_of}
use Rattle.partition_children.specs.Children.{HaveOwnNumbers, child_view}

-- each child's view ends where the medium's bytes do, or before
abbrev pub ChildViewsLie : Type 0
ChildViewsLie =
    (bytes : List ℕ) (size media_id : ℕ)
    → All (λ child. (child_view child media_id size).start + (child_view child media_id size).length ≤ length bytes) (table_of bytes size).children

-- no two children of a medium's table have the same number
abbrev pub ChildNumbersDiffer : Type 0
ChildNumbersDiffer = (bytes : List ℕ) (size : ℕ) → HaveOwnNumbers (table_of bytes size).children

-- each of these entries that is a command is one of a request of this view; they stand on top of a history
unfoldable pub AreOfView : View → List Entry → List Entry → Type 0
AreOfView view H [] = Unit {0}
AreOfView view H (e ∷ earlier) =
    ((t : ℕ) (r : Request) → is_command_of t e ≡ true → request (earlier ++ H) t ≡ Some r → r.view ≡ view) × AreOfView view H earlier

-- a byte of the medium is none of the child's blocks
abbrev pub IsBeside : Child → ℕ → ℕ → Type 0
IsBeside child size x = (x < child.first * size) ⊎ ((child.first + child.blocks) * size ≤ x)

-- such a byte is as it was, whatever the requests of the child did
abbrev pub ChildRequestsStay : Setup → List Entry → Type 0
ChildRequestsStay S all =
    (child : Child) (k x : ℕ) (more before : List Entry) → all ≡ more ++ before → AreOfView (child_view child k (size_of S)) before more → IsBeside child (size_of S) x
    → byte_at (contents S k all) x ≡ byte_at (contents S k before) x
