-- The program's statuses, and what stands behind each of them (own profile).
use Rattle.std.specs.Prelude.{◌≡◌, ℕ, ◌⊎◌, List, [], ◌∷◌, ◌++◌, codes, decimal, Option, None, Some, Result, Ok, Err, IsErr}
use Rattle.medium.specs.Counts.{Rose}
use Rattle.image_store.specs.declared.sink.PutFault.{PutFault}
use Rattle.image_store.specs.declared.sink.PutFault.TheVariants as put
use Rattle.image_store.specs.Edge.{Outlet, Appends, AppendsFront, PutsText, HasCauseOf}
use Rattle.image_store.specs.Place.{Image}
use Rattle.script_text.specs.declared.language.plans.DiskPlan.{DiskPlan}
use Rattle.script_text.specs.declared.language.refusal.Reason.{Reason}
use Rattle.script_text.specs.declared.language.refusal.Reason.TheVariants as why
use Rattle.stack_run.specs.Said.{said_of}
use Rattle.stack_run.specs.declared.refusal.Refusal.{Refusal}
use Rattle.stack_run.specs.declared.refusal.Refusal.TheVariants.{Words, Script, Image as ImageOf, Source, Memory}
use Rattle.stack_run.specs.declared.refusal.Unserved.{Unserved}
use Rattle.stack_run.specs.declared.refusal.Unserved.TheVariants as fault
use Rattle.stack_run.specs.declared.wanted.Wanted.{Wanted}
use Rattle.stack_run.specs.Stages.{ImageStops}
use Rattle.stack_run.specs.Reading.{IsScript, IsRefused}
use Rattle.stack_run.specs.Serving.{Served, NotTaken, NotPutBack, MemoryLeaves, LacksImage, HasImages}

abbrev pub status_of : Refusal → ℕ
status_of Words = 1
status_of (Script line reason) = 2
status_of ImageOf = 3
status_of Source = 4
status_of Memory = 6

-- the word of a reason
abbrev pub reason_text : Reason → List ℕ
reason_text why.Form = codes "form"
reason_text why.Number = codes "number"
reason_text why.Hex = codes "hex"
reason_text why.Order = codes "order"
reason_text why.Name = codes "name"
reason_text why.Medium = codes "medium"
reason_text why.Limit = codes "limit"
reason_text why.Size = codes "size"
reason_text why.Part = codes "part"

-- the line of a refusal, which ends with a line feed (10), with a space (32) between its words
abbrev pub refusal_text : Refusal → List ℕ → List ℕ
refusal_text Words name = codes "words\n"
refusal_text (Script line reason) name = codes "script " ++ (decimal line ++ (32 ∷ reason_text reason ++ 10 ∷ []))
refusal_text ImageOf name = codes "image " ++ (name ++ 10 ∷ [])
refusal_text Source name = codes "source\n"
refusal_text Memory name = codes "memory\n"

-- the line was put, or a front of it where the sink failed or ran out of memory
pub record PutsLine (out out' : Outlet) (result : Result (Unit {0}) PutFault) (line : List ℕ) : Type 0 where
  pub text : PutsText out.wrote out'.wrote result line
  pub cause : HasCauseOf put.Failed out.faults out'.faults result
  pub spent : HasCauseOf put.Memory out.spent out'.spent result

-- the line was written and the sink did not fail
pub record IsWritten (line : List ℕ) (out out' : Outlet) : Type 0 where
  pub added : Appends out.wrote out'.wrote line
  pub quiet : out'.faults ≡ out.faults

-- the sink failed or ran out of memory, and a front was written
pub record IsFrontOfLine (line : List ℕ) (out out' : Outlet) : Type 0 where
  pub front : AppendsFront out.wrote out'.wrote line
  pub cause : Rose out.faults out'.faults ⊎ Rose out.spent out'.spent

-- a line was written, or a front of it where the sink failed or ran out of memory
abbrev pub WritesLine : List ℕ → Outlet → Outlet → Type 0
WritesLine line out out' = IsWritten line out out' ⊎ IsFrontOfLine line out out'

-- the line of a refusal was written, and no image has changed
pub record WritesRefusal (text : List ℕ) (at at' : List ℕ → Image) (out out' : Outlet) : Type 0 where
  pub images : at' ≡ at
  pub line : WritesLine text out out'

-- the source is no script, which the line says, and no image has changed
pub record ScriptRefused (left left' : Option (List ℕ)) (at at' : List ℕ → Image) (out out' : Outlet) : Type 0 where
  pub number : ℕ
  pub reason : Reason
  pub refused : IsRefused left left' number reason
  pub line : WritesRefusal (refusal_text (Script number reason) []) at at' out out'

-- the source was read to its end and is a script of these disks, of which this holds
pub record OfScript (left left' : Option (List ℕ)) (P : List DiskPlan → Type 0) : Type 0 where
  pub plans : List DiskPlan
  pub script : IsScript left left' plans
  pub holds : P plans

-- an image could not be taken or put back, and the line says so
pub record ImageFailed (at at' : List ℕ → Image) (out out' : Outlet) (plans : List DiskPlan) : Type 0 where
  pub name : List ℕ
  pub fails : NotTaken plans at at' name ⊎ NotPutBack plans at at' name
  pub line : WritesLine (refusal_text ImageOf name) out out'

-- the disks were served, and the sink failed in their reports
pub record SinkFailed (at at' : List ℕ → Image) (out out' : Outlet) (plans : List DiskPlan) : Type 0 where
  pub served : Served plans at at' (AppendsFront out.wrote out'.wrote)
  pub cause : Rose out.faults out'.faults

-- memory ran out in the reports of the disks, which were served, and nothing failed
pub record ReportRanOut (at at' : List ℕ → Image) (out out' : Outlet) (plans : List DiskPlan) : Type 0 where
  pub served : Served plans at at' (AppendsFront out.wrote out'.wrote)
  pub quiet : out'.faults ≡ out.faults

-- memory ran out before, and the images are left so
pub record DisksRanOut (at at' : List ℕ → Image) (out out' : Outlet) (plans : List DiskPlan) : Type 0 where
  pub leaves : MemoryLeaves plans at at'
  pub line : WritesLine (refusal_text Memory []) out out'

abbrev pub ServingRanOut : (List ℕ → Image) → (List ℕ → Image) → Outlet → Outlet → List DiskPlan → Type 0
ServingRanOut at at' out out' plans = DisksRanOut at at' out out' plans ⊎ ReportRanOut at at' out out' plans

-- memory ran out in reading the script, or in serving its disks or in their reports
abbrev pub MemoryRanOut : Option (List ℕ) → Option (List ℕ) → (List ℕ → Image) → (List ℕ → Image) → Outlet → Outlet → Type 0
MemoryRanOut left left' at at' out out' =
    WritesRefusal (refusal_text Memory []) at at' out out' ⊎ OfScript left left' (ServingRanOut at at' out out')

abbrev pub SaidLacksImage : Result (List DiskPlan) (ℕ × Reason) → (List ℕ → Image) → Type 0
SaidLacksImage (Ok plans) at = LacksImage plans at
SaidLacksImage (Err fault) at = ⊥

-- the source tells its bytes, and they are refused as a script
abbrev pub IsToldRefused : Option (List ℕ) → Type 0
IsToldRefused (Some left) = IsErr (said_of left)
IsToldRefused None = ⊥

-- the source tells its bytes, and they are a script of which an image lacks blocks
abbrev pub IsToldLacking : Option (List ℕ) → (List ℕ → Image) → Type 0
IsToldLacking (Some left) at = SaidLacksImage (said_of left) at
IsToldLacking None at = ⊥

-- the source tells its bytes, and they are a script each of whose images is there and has its blocks
abbrev pub SaidHasImages : Result (List DiskPlan) (ℕ × Reason) → (List ℕ → Image) → Type 0
SaidHasImages (Ok plans) at = HasImages plans at
SaidHasImages (Err fault) at = ⊥

abbrev pub IsToldServable : Option (List ℕ) → (List ℕ → Image) → Type 0
IsToldServable (Some left) at = SaidHasImages (said_of left) at
IsToldServable None at = ⊥

-- what serving disks may answer
abbrev pub IsServingStatus : ℕ → Type 0
IsServingStatus n = (n ≡ 0) ⊎ ((n ≡ 3) ⊎ ((n ≡ 5) ⊎ (n ≡ 6)))

-- why the disks were not served, and what was left and written
abbrev pub ServingFails : Unserved → List DiskPlan → List Wanted → (List ℕ → Image) → (List ℕ → Image) → Outlet → Outlet → Type 0
ServingFails (fault.Image place) plans wanted at at' out out' = ImageStops plans wanted place at at' × (out' ≡ out)
ServingFails fault.Memory plans wanted at at' out out' = MemoryLeaves plans at at' × (out' ≡ out)
ServingFails fault.Sink plans wanted at at' out out' = SinkFailed at at' out out' plans
ServingFails fault.Report plans wanted at at' out out' = ReportRanOut at at' out out' plans

-- an image could not be taken or put back, or memory ran out before the reports
abbrev pub IsImageStop : Result (Unit {0}) Unserved → Type 0
IsImageStop (Ok x) = ⊥
IsImageStop (Err (fault.Image place)) = Unit {0}
IsImageStop (Err fault.Memory) = Unit {0}
IsImageStop (Err fault.Sink) = ⊥
IsImageStop (Err fault.Report) = ⊥

-- the count did not rise
abbrev pub IsNoRise : ℕ → ℕ → Type 0
IsNoRise before now = Rose before now → ⊥

-- the program ends with the status of its run and leaves the sink as it was; without one, since memory ran out for its words, with 6 and a line
abbrev pub EndsWith : Option ℕ → ℕ → Outlet → Outlet → Type 0
EndsWith (Some status) code out out' = (code ≡ status) × (out' ≡ out)
EndsWith None code out out' = (code ≡ 6) × WritesLine (refusal_text Memory []) out out'
