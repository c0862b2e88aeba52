-- What is written of an image that was probed (own profile; nodes: UEFI 2.10, 10.3.5.1).
use Rattle.std.specs.Prelude.{◌≡◌, ℕ, ◌⊎◌, List, [], ◌∷◌, codes, decimal, Option, None, Some}
use Rattle.hex.specs.Hex.{encode_lower}
use Rattle.medium.specs.Counts.{Rose}
use Rattle.image_store.specs.Edge.{Outlet, Appends, AppendsFront}
use Rattle.image_store.specs.Place.{Image}
use Rattle.device_path.specs.Node.{node_bytes}
use Rattle.device_path.specs.Text.{text_of}
use Rattle.partition_tables.specs.declared.table.Child.{Child}
use Rattle.partition_tables.specs.declared.table.Table.{Table}
use Rattle.partition_children.specs.Children.{child_node}
use Rattle.script_text.specs.Tables.{table_text, unread_text}
use Rattle.script_text.specs.Text.{line_of, lines_text}
use Rattle.stack_run.specs.declared.listing.Listing.{Listing}
use Rattle.stack_run.specs.declared.listing.Listing.TheVariants as listing
use Rattle.stack_run.specs.declared.refusal.Refusal.TheVariants.{Image as ImageOf, Memory}
use Rattle.stack_run.specs.declared.wanted.Wanted.{Wanted}
use Rattle.stack_run.specs.Media.{LacksBlocks}
use Rattle.stack_run.specs.Probing.{IsProbed, ProbeFails, ProbeLeaves, wanted_alone}
use Rattle.stack_run.specs.Program.{refusal_text, IsServingStatus, WritesLine}

-- the line of a child's path: its number, its node in lower-case hexadecimal digits, and the node's text
unfoldable pub path_text : Child → List ℕ
path_text child = line_of (codes "path" ∷ decimal child.number ∷ encode_lower (node_bytes (child_node child)) ∷ text_of (child_node child) ∷ [])

-- the paths of children in order
abbrev pub paths_text : List Child → List ℕ
paths_text children = lines_text (λ place child. path_text child) 0 children

-- the lines of a table, or the paths of its children; of a table that could not be read one line
abbrev pub listing_text : Listing → Option Table → List ℕ
listing_text what None = unread_text
listing_text listing.Table (Some table) = table_text table
listing_text listing.Paths (Some table) = paths_text table.children

-- the image was probed, and what was written of it is so
pub record IsListed (what : Listing) (size : ℕ) (old new : Image) (Writes : List ℕ → Type 0) : Type 0 where
  pub table : Option Table
  pub probed : IsProbed size table old new
  pub written : Writes (listing_text what table)

-- the image could not be taken or put back, and the line says so
pub record IsUnlisted (want : Wanted) (old new : Image) (out out' : Outlet) : Type 0 where
  pub fails : ProbeFails want old new
  pub line : WritesLine (refusal_text ImageOf want.image) out out'

-- the image was probed, and the sink failed
pub record IsListedInPart (what : Listing) (size : ℕ) (old new : Image) (out out' : Outlet) : Type 0 where
  pub listed : IsListed what size old new (AppendsFront out.wrote out'.wrote)
  pub cause : Rose out.faults out'.faults

-- memory ran out in the probe
pub record ProbeRanOut (size : ℕ) (old new : Image) (out out' : Outlet) : Type 0 where
  pub leaves : ProbeLeaves size old new
  pub line : WritesLine (refusal_text Memory []) out out'

-- or in what is written of it
pub record ListingRanOut (what : Listing) (size : ℕ) (old new : Image) (out out' : Outlet) : Type 0 where
  pub listed : IsListed what size old new (AppendsFront out.wrote out'.wrote)
  pub quiet : out'.faults ≡ out.faults

-- what `probe` and `paths` answer, write and leave of their image
pub record ListsImage (what : Listing) (name : List ℕ) (size status : ℕ) (old new : Image) (out out' : Outlet) : Type 0 where
  pub done : status ≡ 0 → IsListed what size old new (Appends out.wrote out'.wrote)
  pub image : status ≡ 3 → IsUnlisted (wanted_alone name size) old new out out'
  pub lacks : LacksBlocks (wanted_alone name size) old.place → (status ≡ 3) ⊎ (status ≡ 6)
  pub sink : status ≡ 5 → IsListedInPart what size old new out out'
  pub memory : status ≡ 6 → ProbeRanOut size old new out out' ⊎ ListingRanOut what size old new out out'
  pub few : IsServingStatus status
