-- What the disks of a script did, and what they left (own profile).
use Rattle.std.specs.Prelude.{◌≡◌, ◌≢◌, ℕ, ◌+◌, ◌*◌, ◌⊎◌, List, [], ◌∷◌, ◌++◌, map, Option, None, Some}
use Rattle.std.specs.List.{AllByRecursion}
use Rattle.medium.specs.Counts.{Rose}
use Rattle.history.specs.declared.entry.Entry.{Entry}
use Rattle.history.specs.Setup.{Setup, size_of, per_of, blocks_of}
use Rattle.image_store.specs.Place.{Image}
use Rattle.partition_tables.specs.declared.table.Table.{Table}
use Rattle.script_text.specs.declared.language.plans.DiskPlan.{DiskPlan}
use Rattle.script_text.specs.declared.report.parts.KeptMedium.{KeptMedium}
use Rattle.script_text.specs.Fitting.{images_of}
use Rattle.script_text.specs.Report.{head_text, body_text}
use Rattle.script_text.specs.Tables.{table_text}
use Rattle.stack_run.specs.declared.wanted.Wanted.{Wanted}
use Rattle.stack_run.specs.Media.{media_names, wanted_of, IsSetupOf, IsLostPlace, IsLeft, IsLeftOrLost, IsLeftOrGone, EachMedium, IsBackOrLost, IsBackOrGone, IsUnmade, MayHaveBlocks, HasBlocks, ChangesAmong}
use Rattle.stack_run.specs.Chains.{LacksOne}
use Rattle.stack_run.specs.Clients.{Start}
use Rattle.stack_run.specs.Runs.{RanPlain, RanInPart}

-- the media of a report: their images, and their lengths in bytes
unfoldable pub kept_media : ℕ → List (List ℕ) → List ℕ → List KeptMedium
kept_media size [] blocks = []
kept_media size (name ∷ names) [] = []
kept_media size (name ∷ names) (n ∷ blocks) = record { name = name; bytes = n * size } ∷ kept_media size names blocks

abbrev pub blocks_in : Setup → List ℕ
blocks_in S = map (λ o. o.blocks) S.media

-- the report of a disk with this number; the lines of its table stand behind the first, where it was probed
unfoldable pub disk_report : ℕ → DiskPlan → Setup → List ℕ → List Entry → List (Option (List ℕ)) → List ℕ
disk_report number plan S table H given =
    head_text number plan.image (size_of S) (blocks_of S 1) (per_of S) ++ (table ++ body_text S H given (kept_media (size_of S) (media_names plan) (blocks_in S)))

-- the lines of a disk ran to their end over its images, each of which ended so
pub record DiskHasRun (Ends : Setup → List Entry → ℕ → Image → Image → Type 0) (plan : DiskPlan) (at at' : List ℕ → Image) : Type 0 where
  pub setup : Setup
  pub history : List Entry
  pub given : List (Option (List ℕ))
  pub opened : IsSetupOf plan at setup
  pub start : Start
  pub ran : RanPlain plan setup start history given
  pub images : EachMedium (Ends setup history) 1 (media_names plan) at at'

-- or some of them, or none
pub record HasRunInPart (plan : DiskPlan) (at at' : List ℕ → Image) : Type 0 where
  pub setup : Setup
  pub history : List Entry
  pub opened : IsSetupOf plan at setup
  pub start : Start
  pub part : RanInPart plan setup start history
  pub images : EachMedium (IsLeftOrGone setup history) 1 (media_names plan) at at'

-- the lines of a table, where the disk was probed
abbrev pub table_lines : Option Table → List ℕ
table_lines None = []
table_lines (Some table) = table_text table

-- this is the report of a disk, and then this rest
pub record IsReport (number : ℕ) (plan : DiskPlan) (at at' : List ℕ → Image) (text rest : List ℕ) : Type 0 where
  pub run : DiskHasRun IsLeft plan at at'
  pub is : text ≡ disk_report number plan run.setup (table_lines run.start.found) run.history run.given ++ rest

-- the reports of all disks, the first of which has this number
unfoldable pub AreReports : ℕ → List DiskPlan → (List ℕ → Image) → (List ℕ → Image) → List ℕ → Type 0
AreReports number [] at at' text = text ≡ []
AreReports number (plan ∷ plans) at at' text = (rest : List ℕ) × IsReport number plan at at' text rest × AreReports (number + 1) plans at at' rest

-- all disks did what their reports say, all images are put back, and the reports were written so; no other name has changed
pub record Served (plans : List DiskPlan) (at at' : List ℕ → Image) (Writes : List ℕ → Type 0) : Type 0 where
  pub text : List ℕ
  pub reports : AreReports 1 plans at at' text
  pub others : ChangesAmong (images_of plans) at at'
  pub written : Writes text

-- this is the first of the wanted images for which that holds not
pub record IsFirstAt (P : Wanted → Type 0) (wanted : List Wanted) (want : Wanted) : Type 0 where
  pub before : List Wanted
  pub after : List Wanted
  pub is : wanted ≡ before ++ want ∷ after
  pub first : AllByRecursion P before

-- this image could not be taken, the first of all, and each other one is back or lost
pub record NotTaken (plans : List DiskPlan) (at at' : List ℕ → Image) (name : List ℕ) : Type 0 where
  pub want : Wanted
  pub named : want.image ≡ name
  pub first : IsFirstAt (λ earlier. MayHaveBlocks earlier (at earlier.image).place) (wanted_of plans) want
  pub unmade : IsUnmade want (at name) (at' name)
  pub back : (other : List ℕ) → other ≢ name → IsBackOrLost (at other) (at' other)
  pub others : ChangesAmong (images_of plans) at at'

-- all disks ran to their end, and this is the first image that could not be put back
pub record NotPutBack (plans : List DiskPlan) (at at' : List ℕ → Image) (name : List ℕ) : Type 0 where
  pub ran : AllByRecursion (λ plan. DiskHasRun IsLeftOrLost plan at at') plans
  pub want : Wanted
  pub named : want.image ≡ name
  pub first : IsFirstAt (λ earlier. (at' earlier.image).faults ≡ (at earlier.image).faults) (wanted_of plans) want
  pub cause : Rose (at name).faults (at' name).faults
  pub others : ChangesAmong (images_of plans) at at'

-- an image could not be taken, and memory ran out in putting another one back
pub record NotTakenSpent (at at' : List ℕ → Image) : Type 0 where
  pub want : Wanted
  pub unmade : IsUnmade want (at want.image) (at' want.image)
  pub back : (other : List ℕ) → other ≢ want.image → IsBackOrGone (at other) (at' other)
  pub spent : List ℕ
  pub lost : IsLostPlace (at spent).place (at' spent).place
  pub quiet : (at' spent).faults ≡ (at spent).faults

-- the first disks ran to their end, and the others in part or not at all; there is one of these where there is a disk
pub record StopsShort (plans : List DiskPlan) (at at' : List ℕ → Image) : Type 0 where
  pub ran : List DiskPlan
  pub left : List DiskPlan
  pub are : plans ≡ ran ++ left
  pub some : left ≡ [] → ran ≡ []
  pub whole : AllByRecursion (λ plan. DiskHasRun IsLeftOrGone plan at at') ran
  pub part : AllByRecursion (λ plan. HasRunInPart plan at at') left

-- all disks ran to their end, and memory ran out in putting an image back
pub record NotPutSpent (plans : List DiskPlan) (at at' : List ℕ → Image) : Type 0 where
  pub ran : AllByRecursion (λ plan. DiskHasRun IsLeftOrGone plan at at') plans
  pub spent : List ℕ
  pub lost : IsLostPlace (at spent).place (at' spent).place
  pub quiet : (at' spent).faults ≡ (at spent).faults

-- what want of memory leaves: all images where they were or lost, but for one that could not be taken; or as the disks' runs left them,
-- of which one stops short, or all are whole and an image was lost
pub record MemoryLeaves (plans : List DiskPlan) (at at' : List ℕ → Image) : Type 0 where
  pub images : ((name : List ℕ) → IsBackOrGone (at name) (at' name)) ⊎ (NotTakenSpent at at' ⊎ (StopsShort plans at at' ⊎ NotPutSpent plans at at'))
  pub others : ChangesAmong (images_of plans) at at'

-- some wanted image has not the blocks that it has to have
abbrev pub LacksImage : List DiskPlan → (List ℕ → Image) → Type 0
LacksImage plans at = LacksOne (wanted_of plans) at

-- each wanted image is there and has its blocks
abbrev pub HasImages : List DiskPlan → (List ℕ → Image) → Type 0
HasImages plans at = AllByRecursion (λ want. HasBlocks want (at want.image).place) (wanted_of plans)
