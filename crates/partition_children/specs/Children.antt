-- A child as a disk of its own, and as a device path names it (the view: own profile; the node: UEFI 2.10, 10.3.5.1).
use Rattle.std.specs.Prelude.{◌≡◌, ◌≢◌, ℕ, ◌*◌, ◌<◌, List, slice_get, Option, Some}
use Rattle.history.specs.declared.entry.View.{View}
use Rattle.device_path.specs.declared.hard_drive.Format.{Format}
use Rattle.device_path.specs.declared.hard_drive.Format.TheVariants as formats
use Rattle.device_path.specs.declared.hard_drive.Sign.{Sign}
use Rattle.device_path.specs.declared.hard_drive.Sign.TheVariants as signs
use Rattle.device_path.specs.declared.hard_drive.HardDrive.{HardDrive}
use Rattle.partition_tables.specs.declared.table.Child.{Child}
use Rattle.partition_tables.specs.declared.table.Origin.{Origin}
use Rattle.partition_tables.specs.declared.table.Origin.TheVariants as origins

-- the bytes of a child on the medium with this id, of blocks of this size
abbrev pub child_view : Child → ℕ → ℕ → View
child_view child media_id size =
    record { start = child.first * size; length = child.blocks * size; media_id = media_id; index = child.number }

-- which table names the child
abbrev pub format_of : Origin → Format
format_of (origins.Mbr os_type signature boot) = formats.Mbr
format_of (origins.Gpt kind unique attributes) = formats.Gpt

-- the signature of its disk's master boot record, or its own GUID
abbrev pub origin_sign : Origin → Sign
origin_sign (origins.Mbr os_type signature boot) = signs.Mbr signature
origin_sign (origins.Gpt kind unique attributes) = signs.Guid unique

-- the child as a device path names it
abbrev pub child_node : Child → HardDrive
child_node child = record {
  number = child.number;
  start = child.first;
  size = child.blocks;
  format = format_of child.origin;
  sign = origin_sign child.origin;
}

-- no child before this place has this node
abbrev pub AreOthersBefore : List Child → HardDrive → ℕ → Type 0
AreOthersBefore children node place = (i : ℕ) (child : Child) → i < place → slice_get children i ≡ Some child → child_node child ≢ node

-- the child at this place has this node, and none before it has
pub record IsFirstWith (children : List Child) (node : HardDrive) (place : ℕ) : Type 0 where
  pub child : Child
  pub there : slice_get children place ≡ Some child
  pub is : child_node child ≡ node
  pub others : AreOthersBefore children node place

-- no two children have the same number
abbrev pub HaveOwnNumbers : List Child → Type 0
HaveOwnNumbers children =
    (i j : ℕ) (child other : Child) → slice_get children i ≡ Some child → slice_get children j ≡ Some other → child.number ≡ other.number → i ≡ j

-- where they have not, the node of each child finds that child alone
abbrev pub FindsItsChild : List Child → HardDrive → Option ℕ → Type 0
FindsItsChild children node result =
    (i : ℕ) (child : Child) → HaveOwnNumbers children → slice_get children i ≡ Some child → child_node child ≡ node → result ≡ Some i
