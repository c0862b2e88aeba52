-- What calls for one image after another do (own profile).
use Rattle.std.specs.Prelude.{◌≡◌, ◌≢◌, ℕ, ◌%◌, ◌≤◌, Bool, true, false, List, [], ◌∷◌, ◌++◌, length, Result, Ok, Err}
use Rattle.std.specs.List.{AllByRecursion}
use Rattle.medium.specs.Counts.{capped_sum}
use Rattle.medium.specs.Device.{Device, IsFresh, IsBlockSize}
use Rattle.image_store.specs.Edge.{HasCauseOf}
use Rattle.image_store.specs.Place.{Image, IsFree, IsTaken, IsTaking, ChangesOnly, put_place}
use Rattle.script_text.specs.declared.language.plans.DiskPlan.{DiskPlan}
use Rattle.stack_run.specs.declared.refusal.NotRun.{NotRun}
use Rattle.stack_run.specs.declared.wanted.Wanted.{Wanted}
use Rattle.stack_run.specs.Media.{IsUnmade, IsBackOrGone, LacksBlocks}

-- a fresh medium as it was wanted
pub record IsMade (want : Wanted) (d : Device) : Type 0 where
  pub fresh : IsFresh d
  pub size : d.size ≡ want.size
  pub cached : d.cached ≡ want.cached
  pub whole : d.blocks % want.physical ≡ 0

-- an image was taken as this medium
pub record TakesImage (want : Wanted) (d : Device) (old new : Image) : Type 0 where
  pub taking : IsTaking old.place new.place want.size want.cached d
  pub whole : d.blocks % want.physical ≡ 0
  pub worn : new.worn ≡ old.worn
  pub quiet : new.faults ≡ old.faults

-- the medium of a disk: fresh, and as its line says
pub record IsMediumOf (plan : DiskPlan) (d : Device) : Type 0 where
  pub fresh : IsFresh d
  pub size : d.size ≡ plan.size
  pub cached : d.cached ≡ plan.cached
  pub whole : d.blocks % plan.physical ≡ 0

-- a medium was put back with this answer
pub record Puts (result : Result (Unit {0}) NotRun) (d : Device) (old new : Image) : Type 0 where
  pub place : new.place ≡ put_place old.place d.kept result
  pub worn : new.worn ≡ capped_sum old.worn d.failed
  pub free : IsFree new.place
  pub cause : HasCauseOf NotRun.Image old.faults new.faults result

-- it was put back
abbrev pub PutsBack : Wanted → Device → Image → Image → Type 0
PutsBack want d old new = Puts (Ok tt) d old new

-- it was put back or could not be, and memory ran out only where that is told
pub record PutsOr (spent : Bool) (want : Wanted) (d : Device) (old new : Image) : Type 0 where
  pub result : Result (Unit {0}) NotRun
  pub puts : Puts result d old new
  pub told : result ≡ Err NotRun.Memory → spent ≡ true

-- what the refusal of a medium is that was put back with this answer
abbrev pub fault_of : Result (Unit {0}) NotRun → NotRun
fault_of (Ok x) = NotRun.Image
fault_of (Err fault) = fault

-- memory ran out in putting back the medium of one of these
pub record SpentAmong (wanted : List Wanted) (at at' : List ℕ → Image) : Type 0 where
  pub before : List Wanted
  pub want : Wanted
  pub after : List Wanted
  pub is : wanted ≡ before ++ want ∷ after
  pub d : Device
  pub puts : Puts (Err NotRun.Memory) d (at want.image) (at' want.image)

-- a medium was refused, and put back with an answer that this fault tells
pub record Unmakes (d : Device) (fault : NotRun) (old new : Image) : Type 0 where
  pub result : Result (Unit {0}) NotRun
  pub puts : Puts result d old new
  pub told : fault ≡ fault_of result

-- one call for each of these in order
unfoldable pub Chain : (Wanted → Device → Image → Image → Type 0) → List Wanted → List Device → (List ℕ → Image) → (List ℕ → Image) → Type 0
Chain Calls [] [] at at' = at' ≡ at
Chain Calls [] (d ∷ devices) at at' = ⊥
Chain Calls (want ∷ wanted) [] at at' = ⊥
Chain Calls (want ∷ wanted) (d ∷ devices) at at' =
    (mid : List ℕ → Image) × ChangesOnly want.image at mid × Calls want d (at want.image) (mid want.image) × Chain Calls wanted devices mid at'

-- as an image can be wanted
pub record IsWanted (want : Wanted) : Type 0 where
  pub size : IsBlockSize want.size
  pub group : 1 ≤ want.physical

unfoldable pub AreWanted : List Wanted → Type 0
AreWanted wanted = AllByRecursion IsWanted wanted

-- no two of them have one name
unfoldable pub HaveOtherNames : List Wanted → Type 0
HaveOtherNames [] = Unit {0}
HaveOtherNames (want ∷ wanted) = AllByRecursion (λ other. want.image ≢ other.image) wanted × HaveOtherNames wanted

-- all these names are free
unfoldable pub AreFree : List Wanted → (List ℕ → Image) → Type 0
AreFree wanted at = AllByRecursion (λ want. IsFree (at want.image).place) wanted

-- all these names are taken
unfoldable pub AreTaken : List Wanted → (List ℕ → Image) → Type 0
AreTaken wanted at = AllByRecursion (λ want. IsTaken (at want.image).place) wanted

-- a fresh medium for each wanted image
unfoldable pub AreMade : List Wanted → List Device → Type 0
AreMade [] [] = Unit {0}
AreMade [] (d ∷ devices) = ⊥
AreMade (want ∷ wanted) [] = ⊥
AreMade (want ∷ wanted) (d ∷ devices) = IsMade want d × AreMade wanted devices

-- an image was not taken for this fault
abbrev pub FailsToTake : NotRun → Wanted → Image → Image → Type 0
FailsToTake NotRun.Image want old new = IsUnmade want old new
FailsToTake NotRun.Memory want old new = IsBackOrGone old new

-- the first images were taken as these media, and the next could not be
pub record TakingStops (wanted : List Wanted) (devices : List Device) (place : ℕ) (fault : NotRun) (at at' : List ℕ → Image) : Type 0 where
  pub before : List Wanted
  pub want : Wanted
  pub after : List Wanted
  pub is : wanted ≡ before ++ want ∷ after
  pub placed : place ≡ length before
  pub mid : List ℕ → Image
  pub taken : Chain TakesImage before devices at mid
  pub only : ChangesOnly want.image mid at'
  pub fails : FailsToTake fault want (mid want.image) (at' want.image)
  pub free : IsFree (at' want.image).place

-- some image of a list has not the blocks that it has to have
pub record LacksOne (wanted : List Wanted) (at : List ℕ → Image) : Type 0 where
  pub before : List Wanted
  pub want : Wanted
  pub after : List Wanted
  pub is : wanted ≡ before ++ want ∷ after
  pub lacks : LacksBlocks want (at want.image).place

-- the first media were put back, the next could not be, and these are left
pub record PuttingStops (wanted : List Wanted) (devices left : List Device) (place : ℕ) (fault : NotRun) (at at' : List ℕ → Image) : Type 0 where
  pub before : List Wanted
  pub want : Wanted
  pub after : List Wanted
  pub is : wanted ≡ before ++ want ∷ after
  pub placed : place ≡ length before
  pub first : List Device
  pub d : Device
  pub are : devices ≡ first ++ d ∷ left
  pub mid : List ℕ → Image
  pub put : Chain PutsBack before first at mid
  pub only : ChangesOnly want.image mid at'
  pub fails : Puts (Err fault) d (mid want.image) (at' want.image)

-- so, and then those that were left were put back or could not be
pub record PutsAround (wanted : List Wanted) (devices : List Device) (place : ℕ) (at at' : List ℕ → Image) : Type 0 where
  pub left : List Device
  pub mid : List ℕ → Image
  pub stops : PuttingStops wanted devices left place NotRun.Image at mid
  pub rest : Chain (PutsOr false) stops.after left mid at'

-- not all media were put back: this one first, or memory ran out for some
abbrev pub PutEnds : NotRun → List Wanted → List Device → ℕ → (List ℕ → Image) → (List ℕ → Image) → Type 0
PutEnds NotRun.Image wanted devices place at at' = PutsAround wanted devices place at at'
PutEnds NotRun.Memory wanted devices place at at' = Chain (PutsOr true) wanted devices at at' × SpentAmong wanted at at'
