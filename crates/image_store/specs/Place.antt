-- Images by name: where each is, and what taking it and putting it back does (own profile).
use Rattle.std.specs.Prelude.{◌≡◌, ◌≢◌, ℕ, ◌*◌, ◌/◌, ◌<◌, ◌≤◌, Bool, false, List, ◌++◌, length, take, drop, Option, None, Some, Result, Ok, Err}
use Rattle.medium.specs.Device.{Device, IsFresh}

-- an image is not there, is there with these bytes, was taken and left this tail, or is not taken and does not tell
pub data Place : Type 0 where
  Missing : Place
  Here : List ℕ → Place
  Taken : Option (List ℕ) → Place
  Untold : Place

-- a name: where its image is, its faults, and the failed commands of the media that it took back
pub record Image : Type 0 where
  pub place : Place
  pub faults : ℕ
  pub worn : ℕ

-- the name is not taken
abbrev pub IsFree : Place → Type 0
IsFree Missing = Unit {0}
IsFree (Here bytes) = Unit {0}
IsFree (Taken tail) = ⊥
IsFree Untold = Unit {0}

-- the name is taken
abbrev pub IsTaken : Place → Type 0
IsTaken Missing = ⊥
IsTaken (Here bytes) = ⊥
IsTaken (Taken tail) = Unit {0}
IsTaken Untold = ⊥

-- the name is there, and tells its bytes
abbrev pub IsHere : Place → Type 0
IsHere Missing = ⊥
IsHere (Here bytes) = Unit {0}
IsHere (Taken tail) = ⊥
IsHere Untold = ⊥

-- how many bytes of an image of n bytes lie in whole blocks of this size
abbrev pub whole_length : ℕ → ℕ → ℕ
whole_length size n = n / size * size

-- the whole blocks of an image
abbrev pub whole_block_bytes : ℕ → List ℕ → List ℕ
whole_block_bytes size bytes = take (whole_length size (length bytes)) bytes

-- the rest of less than a block
abbrev pub tail_of : ℕ → List ℕ → List ℕ
tail_of size bytes = drop (whole_length size (length bytes)) bytes

-- an image cut into a fresh medium of its whole blocks and a tail
pub record IsCut (block : ℕ) (bytes : List ℕ) (medium : Device) (rest : List ℕ) : Type 0 where
  pub fresh : IsFresh medium
  pub size : medium.size ≡ block
  pub cached : medium.cached ≡ false
  pub blocks : medium.blocks ≡ length bytes / block
  pub first : medium.first ≡ Some (whole_block_bytes block bytes)
  pub tail : rest ≡ tail_of block bytes

-- the medium has the image's whole blocks, and the name keeps its tail; an image that is missing or taken gives none
unfoldable pub GivesBlocks : Place → Place → ℕ → Device → Type 0
GivesBlocks (Here bytes) new size medium = (size ≤ length bytes) × (new ≡ Taken (Some (tail_of size bytes))) × (medium.first ≡ Some (whole_block_bytes size bytes)) × (medium.blocks ≡ length bytes / size)
GivesBlocks Untold new size medium = new ≡ Taken None
GivesBlocks Missing new size medium = ⊥
GivesBlocks (Taken tail) new size medium = ⊥

-- a medium was taken: nothing has happened on it, and it is as it was asked for
pub record IsTaking (old new : Place) (asked_size : ℕ) (asked_cached : Bool) (medium : Device) : Type 0 where
  pub fresh : IsFresh medium
  pub size : medium.size ≡ asked_size
  pub cached : medium.cached ≡ asked_cached
  pub taken : IsTaken new
  pub blocks : GivesBlocks old new asked_size medium

-- the image is there and shorter than one block
abbrev pub IsShort : Place → ℕ → Type 0
IsShort (Here bytes) size = length bytes < size
IsShort Untold size = ⊥
IsShort Missing size = ⊥
IsShort (Taken tail) size = ⊥

-- the image is shorter than one block, or does not tell
abbrev pub MayBeShort : Place → ℕ → Type 0
MayBeShort (Here bytes) size = length bytes < size
MayBeShort Untold size = Unit {0}
MayBeShort Missing size = ⊥
MayBeShort (Taken tail) size = ⊥

-- where an image is after a medium with these kept bytes was put back: the kept bytes and then the tail, or nowhere
abbrev pub put_place : {E : Type 0} → Place → Option (List ℕ) → Result (Unit {0}) E → Place
put_place (Taken (Some tail)) (Some kept) (Ok x) = Here (kept ++ tail)
put_place (Taken (Some tail)) None (Ok x) = Untold
put_place (Taken (Some tail)) kept (Err e) = Missing
put_place (Taken None) kept result = Untold
put_place Missing kept result = Missing
put_place (Here bytes) kept result = Here bytes
put_place Untold kept result = Untold

-- all names but this one stay as they were
abbrev pub ChangesOnly : List ℕ → (List ℕ → Image) → (List ℕ → Image) → Type 0
ChangesOnly name old new = (other : List ℕ) → other ≢ name → new other ≡ old other
