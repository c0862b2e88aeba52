-- What an image in memory, and one in a file, is to those who look it up.
use Rattle.std.specs.Prelude.{◌≡◌, ◌≢◌, ℕ, Bool, true, false, List, [], Option, None, Some, Result, Ok, Err}
use Rattle.std.specs.BTreeMap.{BTreeMap, get_by_text}
use Rattle.std.specs.declared.alloc.Global.{Global}
use Rattle.std.specs.declared.string.String.{String}
use Rattle.medium.specs.declared.block_failed.BlockFailed.{BlockFailed}
use Rattle.medium.specs.declared.faulty.Planned.{Planned}
use Rattle.image_store.specs.Place.{Place, Missing, Here, Taken, Untold, Image}
use Rattle.image_store.specs.declared.file_slot.FileSlot.{FileSlot}
use Rattle.image_store.specs.declared.mem_images.MemImages.{MemImages}
use Rattle.image_store.specs.declared.sink.PutFault.{PutFault}
use Rattle.image_store.specs.declared.slot.Slot.{Slot}
use Rattle.image_store.specs.declared.slot.Stored.{Stored}
use Rattle.image_store.specs.declared.slot.Stored.TheVariants.{Gone, Whole, Tail}

-- where an image in memory is
abbrev pub stored_place : Stored → Place
stored_place Gone = Missing
stored_place (Whole bytes) = Here bytes.items
stored_place (Tail bytes) = Taken (Some bytes.items)

-- what a name's slot says
abbrev pub image_of : Slot → Image
image_of slot = record { place = stored_place slot.stored; faults = slot.faults; worn = slot.worn }

-- a name that was never used
abbrev pub unused : Image
unused = record { place = Missing; faults = 0; worn = 0 }

-- a name without a slot was never used
abbrev pub image_or_unused : Option Slot → Image
image_or_unused None = unused
image_or_unused (Some slot) = image_of slot

-- the image of each name
abbrev pub image_at : BTreeMap (String Global) Slot → List ℕ → Image
image_at slots name = image_or_unused (get_by_text slots name)

-- the image of each name of an object
abbrev pub images_at : MemImages → List ℕ → Image
images_at images = image_at images.slots

-- the plan of a name's media
abbrev pub plan_or_none : Option Slot → List Planned
plan_or_none None = []
plan_or_none (Some slot) = slot.plan.items

abbrev pub plans_at : MemImages → List ℕ → List Planned
plans_at images name = plan_or_none (get_by_text images.slots name)

-- all names but this one keep their plans
abbrev pub PlansOnly : List ℕ → MemImages → MemImages → Type 0
PlansOnly name old new = (other : List ℕ) → other ≢ name → plans_at new other ≡ plans_at old other

-- where a file is: its bytes and its tail are not told
abbrev pub file_place : Bool → Place
file_place false = Untold
file_place true = Taken None

abbrev pub file_image : FileSlot → Image
file_image slot = record { place = file_place slot.taken; faults = slot.faults; worn = slot.worn }

-- a file that was never used
abbrev pub unused_file : Image
unused_file = record { place = Untold; faults = 0; worn = 0 }

-- a name without a slot was never used
abbrev pub file_or_unused : Option FileSlot → Image
file_or_unused None = unused_file
file_or_unused (Some slot) = file_image slot

-- the image of each file's name
abbrev pub file_at : BTreeMap (String Global) FileSlot → List ℕ → Image
file_at slots name = file_or_unused (get_by_text slots name)

-- a file is put back where its medium was settled and written through
abbrev pub put_answer : Result (Unit {0}) BlockFailed → Result (Unit {0}) PutFault
put_answer (Ok done) = Ok tt
put_answer (Err fault) = Err PutFault.Failed
