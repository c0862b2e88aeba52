-- What the writers of reports tell (own profile).
use Rattle.std.specs.Prelude.{◌≡◌, ℕ, ◌+◌, ◌*◌, ◌^◌, ◌<◌, List, [], ◌∷◌, length, slice_index_or}
use Rattle.std.specs.List.{AllByRecursion}
use Rattle.history.specs.Setup.{Setup}
use Rattle.image_store.specs.Place.{Image}
use Rattle.script_text.specs.declared.language.plans.DiskPlan.{DiskPlan}
use Rattle.script_text.specs.Report.{givens_of, AreEnds}
use Rattle.stack_run.specs.declared.desk_run.Run.{Run}
use Rattle.stack_run.specs.Media.{media_names, groups_of}
use Rattle.stack_run.specs.Serving.{blocks_in, disk_report, table_lines, AreReports}
use Rattle.stack_run.specs.Stages.{AllRan}

-- the name of the medium at a place, from 0
abbrev pub name_at : DiskPlan → ℕ → List ℕ
name_at plan k = slice_index_or (media_names plan) k []

-- the bytes of each medium of a disk can be counted
pub record IsReportable (plan : DiskPlan) (run : Run) : Type 0 where
  pub count : length run.blocks.items ≡ length plan.spares + 1
  pub fits : AllByRecursion (λ b. b * plan.size < 2 ^ 64) run.blocks.items

unfoldable pub AreReportable : List DiskPlan → List Run → Type 0
AreReportable [] [] = Unit {0}
AreReportable [] (run ∷ runs) = ⊥
AreReportable (plan ∷ plans) [] = ⊥
AreReportable (plan ∷ plans) (run ∷ runs) = IsReportable plan run × AreReportable plans runs

-- the report of a disk is written so, whatever its setup is
abbrev pub TellsDisk : ℕ → DiskPlan → Run → (List ℕ → Type 0) → Type 0
TellsDisk number plan run Writes =
    (S : Setup) → S.geometry ≡ groups_of plan → run.blocks.items ≡ blocks_in S → AreEnds S run.history.entries run.ends.items
    → Writes (disk_report number plan S (table_lines run.table) run.history.entries (givens_of run.ends.items))

-- the reports of disks that ran so
pub record IsWrittenSo (plans : List DiskPlan) (at at' : List ℕ → Image) (Writes : List ℕ → Type 0) : Type 0 where
  pub text : List ℕ
  pub reports : AreReports 1 plans at at' text
  pub written : Writes text

abbrev pub TellsDisks : List DiskPlan → List Run → (List ℕ → Type 0) → Type 0
TellsDisks plans runs Writes = (at at' : List ℕ → Image) → AllRan plans at at' runs → IsWrittenSo plans at at' Writes
