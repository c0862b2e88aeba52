-- The media that the disks of a script have, and what becomes of their images (own profile).
use Rattle.std.specs.Prelude.{◌≡◌, ◌≢◌, ℕ, ◌+◌, ◌/◌, ◌%◌, ◌<◌, ◌≤◌, ◌⊎◌, List, [], ◌∷◌, ◌++◌, length, map, Some}
use Rattle.std.specs.List.{AllByRecursion}
use Rattle.medium.specs.Counts.{capped_sum, Rose}
use Rattle.disk_split.specs.declared.geometry.Geometry.{Geometry}
use Rattle.history.specs.declared.entry.Entry.{Entry}
use Rattle.history.specs.Setup.{Setup, Opening, size_of}
use Rattle.history.specs.Eras.{era_faults}
use Rattle.history.specs.Contents.{kept_contents}
use Rattle.image_store.specs.Place.{Place, Here, Missing, Taken, Untold, Image, whole_block_bytes, tail_of}
use Rattle.script_text.specs.declared.language.plans.DiskPlan.{DiskPlan}
use Rattle.stack_run.specs.declared.wanted.Wanted.{Wanted}

-- the images of a disk's media in order of id
abbrev pub media_names : DiskPlan → List (List ℕ)
media_names plan = plan.image ∷ plan.spares

-- an image as a disk's medium is made of it
abbrev pub wanted_by : DiskPlan → List ℕ → Wanted
wanted_by plan name = record { image = name; size = plan.size; cached = plan.cached; physical = plan.physical }

-- all images in the order of taking
unfoldable pub wanted_of : List DiskPlan → List Wanted
wanted_of [] = []
wanted_of (plan ∷ more) = map (wanted_by plan) (media_names plan) ++ wanted_of more

-- there is no image of one block, or its whole blocks are no whole groups
abbrev pub LacksBlocks : Wanted → Place → Type 0
LacksBlocks want (Here bytes) = (length bytes < want.size) ⊎ (length bytes / want.size % want.physical ≢ 0)
LacksBlocks want Missing = Unit {0}
LacksBlocks want (Taken tail) = ⊥
LacksBlocks want Untold = ⊥

-- so with an image that is there, or that does not tell
abbrev pub MayLackBlocks : Wanted → Place → Type 0
MayLackBlocks want (Here bytes) = (length bytes < want.size) ⊎ (length bytes / want.size % want.physical ≢ 0)
MayLackBlocks want Missing = ⊥
MayLackBlocks want (Taken tail) = ⊥
MayLackBlocks want Untold = Unit {0}

-- the image has a block, and its whole blocks are whole groups; or it does not tell
abbrev pub MayHaveBlocks : Wanted → Place → Type 0
MayHaveBlocks want (Here bytes) = (want.size ≤ length bytes) × (length bytes / want.size % want.physical ≡ 0)
MayHaveBlocks want Missing = ⊥
MayHaveBlocks want (Taken tail) = ⊥
MayHaveBlocks want Untold = Unit {0}

-- the image is there and has them
abbrev pub HasBlocks : Wanted → Place → Type 0
HasBlocks want (Here bytes) = (want.size ≤ length bytes) × (length bytes / want.size % want.physical ≡ 0)
HasBlocks want Missing = ⊥
HasBlocks want (Taken tail) = ⊥
HasBlocks want Untold = ⊥

-- a medium has the whole blocks of its image; those of an image that does not tell are some
abbrev pub Opens : ℕ → Place → Opening → Type 0
Opens size (Here bytes) o = (size ≤ length bytes) × (o ≡ record { blocks = length bytes / size; first = Some (whole_block_bytes size bytes) })
Opens size Missing o = ⊥
Opens size (Taken tail) o = ⊥
Opens size Untold o = Unit {0}

-- so each of a disk's media
abbrev pub OpenEach : ℕ → (List ℕ → Image) → List (List ℕ) → List Opening → Type 0
OpenEach size at [] [] = Unit {0}
OpenEach size at [] (o ∷ openings) = ⊥
OpenEach size at (name ∷ names) [] = ⊥
OpenEach size at (name ∷ names) (o ∷ openings) = Opens size (at name).place o × OpenEach size at names openings

-- the blocks of a disk and its groups
abbrev pub groups_of : DiskPlan → Geometry
groups_of plan = record { size = plan.size; per = plan.physical }

-- the setup that the disk's line and its images give
pub record IsSetupOf (plan : DiskPlan) (at : List ℕ → Image) (S : Setup) : Type 0 where
  pub geometry : S.geometry ≡ groups_of plan
  pub cached : S.cached ≡ plan.cached
  pub protected : S.protected ≡ plan.protected
  pub media : OpenEach plan.size at (media_names plan) S.media
  pub whole : AllByRecursion (λ o. o.blocks % plan.physical ≡ 0) S.media

-- an image that told its bytes is what its medium kept and then its tail
abbrev pub Leaves : Setup → List Entry → ℕ → Place → Place → Type 0
Leaves S H k (Here bytes) new = (kept : List ℕ) × (kept_contents S k H ≡ Some kept) × (new ≡ Here (kept ++ tail_of (size_of S) bytes))
Leaves S H k Missing new = ⊥
Leaves S H k (Taken tail) new = ⊥
Leaves S H k Untold new = new ≡ Untold

-- an image that could not be put back is nowhere, where it told its bytes
abbrev pub IsLostPlace : Place → Place → Type 0
IsLostPlace (Here bytes) new = new ≡ Missing
IsLostPlace Missing new = ⊥
IsLostPlace (Taken tail) new = ⊥
IsLostPlace Untold new = new ≡ Untold

-- the image of medium k was put back: no call of its name failed, and the failed commands of its era are counted
pub record IsLeft (S : Setup) (H : List Entry) (k : ℕ) (old new : Image) : Type 0 where
  pub place : Leaves S H k old.place new.place
  pub worn : new.worn ≡ capped_sum old.worn (era_faults k H)
  pub quiet : new.faults ≡ old.faults

-- the image of a medium with so many failed commands could not be put back
pub record IsLost (Cause : ℕ → ℕ → Type 0) (failed : ℕ) (old new : Image) : Type 0 where
  pub place : IsLostPlace old.place new.place
  pub worn : new.worn ≡ capped_sum old.worn failed
  pub cause : Cause old.faults new.faults

-- the count stayed: memory ran out
abbrev pub Stayed : ℕ → ℕ → Type 0
Stayed before now = now ≡ before

-- it was put back, or could not be and its name's faults rose
abbrev pub IsLeftOrLost : Setup → List Entry → ℕ → Image → Image → Type 0
IsLeftOrLost S H k old new = IsLeft S H k old new ⊎ IsLost Rose (era_faults k H) old new

-- or memory ran out in putting it back
abbrev pub IsLeftOrGone : Setup → List Entry → ℕ → Image → Image → Type 0
IsLeftOrGone S H k old new = IsLeftOrLost S H k old new ⊎ IsLost Stayed (era_faults k H) old new

-- this holds of the image of each medium from id k on
abbrev pub EachMedium : (ℕ → Image → Image → Type 0) → ℕ → List (List ℕ) → (List ℕ → Image) → (List ℕ → Image) → Type 0
EachMedium Ends k [] at at' = Unit {0}
EachMedium Ends k (name ∷ names) at at' = Ends k (at name) (at' name) × EachMedium Ends (k + 1) names at at'

-- the image is where it was
pub record IsAsItWas (Faults : ℕ → ℕ → Type 0) (old new : Image) : Type 0 where
  pub place : new.place ≡ old.place
  pub worn : capped_sum new.worn 0 ≡ capped_sum old.worn 0
  pub count : Faults old.faults new.faults

-- or it was taken, and could not be put back as it was
abbrev pub IsBackOrLost : Image → Image → Type 0
IsBackOrLost old new = IsAsItWas Stayed old new ⊎ IsLost Rose 0 old new

abbrev pub IsBackOrGone : Image → Image → Type 0
IsBackOrGone old new = IsBackOrLost old new ⊎ IsLost Stayed 0 old new

-- the image that was not taken: it is where it was, or was refused and could not be put back; its name's faults rose, or it may lack blocks
pub record IsUnmade (want : Wanted) (old new : Image) : Type 0 where
  pub left : IsAsItWas (λ before now. before ≤ now) old new ⊎ IsLost Rose 0 old new
  pub cause : Rose old.faults new.faults ⊎ MayLackBlocks want old.place

-- it is none of these names
abbrev pub IsNone : List ℕ → List (List ℕ) → Type 0
IsNone other names = AllByRecursion (λ name. other ≢ name) names

-- all other names stay as they were
abbrev pub ChangesAmong : List (List ℕ) → (List ℕ → Image) → (List ℕ → Image) → Type 0
ChangesAmong names at at' = (other : List ℕ) → IsNone other names → at' other ≡ at other
