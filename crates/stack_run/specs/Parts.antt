-- The children of a disk that its clients are for (own profile).
use Rattle.std.specs.Prelude.{ℕ, ◌*◌, ◌^◌, ◌&&◌, Bool, false, nat_eq, nat_lt, if◌then◌else◌, List, [], ◌∷◌, Option, None, Some, is_none}
use Rattle.partition_tables.specs.declared.table.Child.{Child}
use Rattle.partition_tables.specs.declared.table.Table.{Table}
use Rattle.partition_children.specs.Children.{child_view}
use Rattle.script_text.specs.declared.language.plans.ClientPlan.{ClientPlan}
use Rattle.shared_disk.specs.declared.clients.Stand.{Stand}
use Rattle.shared_disk.specs.declared.clients.Stand.TheVariants.{Whole, Child as ChildOf}

-- its first byte and its length are below 2^64, with blocks of this size; so are those of each child of a medium that tells its bytes
abbrev pub is_countable : ℕ → Child → Bool
is_countable size child = nat_lt (child.first * size) (2 ^ 64) && nat_lt (child.blocks * size) (2 ^ 64)

abbrev pub is_child : ℕ → ℕ → Child → Bool
is_child size number child = nat_eq child.number number && is_countable size child

-- the first such child with this number
unfoldable pub child_with : ℕ → ℕ → List Child → Option Child
child_with size number [] = None
child_with size number (child ∷ more) = if is_child size number child then Some child else child_with size number more

-- the children of a table that was read
abbrev pub children_of : Option Table → List Child
children_of None = []
children_of (Some table) = table.children

-- a client's part is none of these children
abbrev pub is_missing : ℕ → List Child → Option ℕ → Bool
is_missing size children None = false
is_missing size children (Some part) = is_none (child_with size part children)

-- the line of the first client whose part is none of them
unfoldable pub first_missing : ℕ → List Child → List ClientPlan → Option ℕ
first_missing size children [] = None
first_missing size children (client ∷ more) = if is_missing size children client.part then Some client.line else first_missing size children more

-- the part of the first medium that is this child
abbrev pub stand_on : ℕ → Option Child → Stand
stand_on size None = Whole
stand_on size (Some child) = ChildOf (child_view child 1 size)

-- the part of the disk that a client's lines are for
abbrev pub stand_in : ℕ → List Child → Option ℕ → Stand
stand_in size children None = Whole
stand_in size children (Some part) = stand_on size (child_with size part children)
