-- What stands between the images that were taken and the reports (own profile).
use Rattle.std.specs.Prelude.{◌≡◌, ℕ, ◌*◌, ◌^◌, ◌<◌, ◌⊎◌, List, [], ◌∷◌, ◌++◌, length}
use Rattle.std.specs.List.{AllByRecursion}
use Rattle.image_store.specs.Place.{Image}
use Rattle.script_text.specs.declared.language.plans.DiskPlan.{DiskPlan}
use Rattle.script_text.specs.Report.{givens_of, AreEnds}
use Rattle.history.specs.Setup.{Setup}
use Rattle.stack_run.specs.declared.desk_run.Run.{Run}
use Rattle.stack_run.specs.declared.refusal.NotRun.{NotRun}
use Rattle.stack_run.specs.declared.wanted.Wanted.{Wanted}
use Rattle.stack_run.specs.Media.{media_names, IsSetupOf, IsLeft, EachMedium}
use Rattle.stack_run.specs.Clients.{Start}
use Rattle.stack_run.specs.Runs.{RanPlain}
use Rattle.stack_run.specs.Serving.{blocks_in, NotTaken, NotPutBack, MemoryLeaves}

-- the lines of a disk ran so over its images, which are put back
pub record HasRunAs (plan : DiskPlan) (at at' : List ℕ → Image) (run : Run) : Type 0 where
  pub setup : Setup
  pub opened : IsSetupOf plan at setup
  pub start : Start
  pub table : start.found ≡ run.table
  pub ran : RanPlain plan setup start run.history.entries (givens_of run.ends.items)
  pub images : EachMedium (IsLeft setup run.history.entries) 1 (media_names plan) at at'
  pub ends : AreEnds setup run.history.entries run.ends.items
  pub blocks : run.blocks.items ≡ blocks_in setup
  pub fits : AllByRecursion (λ b. b * plan.size < 2 ^ 64) run.blocks.items

-- so of all disks
unfoldable pub AllRan : List DiskPlan → (List ℕ → Image) → (List ℕ → Image) → List Run → Type 0
AllRan [] at at' [] = Unit {0}
AllRan [] at at' (run ∷ runs) = ⊥
AllRan (plan ∷ plans) at at' [] = ⊥
AllRan (plan ∷ plans) at at' (run ∷ runs) = HasRunAs plan at at' run × AllRan plans at at' runs

-- the image at this place of the order of taking could not be taken or put back
pub record ImageStops (plans : List DiskPlan) (wanted : List Wanted) (place : ℕ) (at at' : List ℕ → Image) : Type 0 where
  pub before : List Wanted
  pub want : Wanted
  pub after : List Wanted
  pub is : wanted ≡ before ++ want ∷ after
  pub placed : place ≡ length before
  pub fails : NotTaken plans at at' want.image ⊎ NotPutBack plans at at' want.image

-- an image could not be taken or put back, or memory ran out
abbrev pub RunStops : NotRun → List DiskPlan → List Wanted → ℕ → (List ℕ → Image) → (List ℕ → Image) → Type 0
RunStops NotRun.Image plans wanted place at at' = ImageStops plans wanted place at at'
RunStops NotRun.Memory plans wanted place at at' = MemoryLeaves plans at at'
