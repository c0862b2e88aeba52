-- What the lines of a disk do to its media (own profile). What a run is stands here alone: `RanPlain` and `RanInPart`.
use Rattle.std.specs.Prelude.{◌≡◌, ℕ, suc, ◌+◌, ◌*◌, ◌^◌, ◌<◌, ◌⊎◌, true, List, [], ◌∷◌, ◌++◌, length, map, slice_get, Option, Some}
use Rattle.std.specs.List.{AllByRecursion}
use Rattle.medium.specs.Device.{Device}
use Rattle.history.specs.declared.entry.Entry.{Entry}
use Rattle.history.specs.declared.order.Order.{Order}
use Rattle.history.specs.Setup.{Setup, opening_of}
use Rattle.history.specs.Rules.{IsLegal}
use Rattle.disk_core.specs.State.{opening_from}
use Rattle.disk_core.specs.Facts.{MeetsEra}
use Rattle.shared_disk.specs.Lines.{Role}
use Rattle.shared_disk.specs.Script.{next_order, places_at, KeepsScript, RunsWholeScript}
use Rattle.shared_disk.specs.Desk.{wants_memory}
use Rattle.device_workers.specs.Serving.{IsPlain, IsFaultlessPlain, IsPlainFront}
use Rattle.script_text.specs.declared.language.plans.DiskPlan.{DiskPlan}
use Rattle.script_text.specs.Report.{givens_of, AreEnds, AreGiven}
use Rattle.stack_run.specs.declared.desk_run.Run.{Run}
use Rattle.stack_run.specs.Media.{groups_of}
use Rattle.stack_run.specs.Clients.{Start, script_in}
use Rattle.stack_run.specs.Starting.{IsStart}

-- a legal history that begins with the start's and runs the whole script of the disk's clients by the plain schedule, with its own
-- outcomes, of the lines and the start alone where no command failed; and this is what its reads gave
pub record RanPlain (plan : DiskPlan) (S : Setup) (start : Start) (H : List Entry) (given : List (Option (List ℕ))) : Type 0 where
  pub begins : IsStart plan S start
  pub legal : IsLegal S H
  pub whole : RunsWholeScript S (script_in plan start) H
  pub plain : IsPlain S (script_in plan start) H
  pub faultless : IsFaultlessPlain S (script_in plan start) H
  pub reads : AreGiven S H given

-- some client's next line may want memory, where they have done so many lines
abbrev pub WantsMore : List Role → List (List ℕ) → Type 0
WantsMore roles places = (i : ℕ) × (order : Order) × (next_order roles i (length (places_at places i)) ≡ Some order) × (wants_memory order ≡ true)

-- what want of memory leaves of it: a front of a plain run, which keeps the script; nothing was done, or a line that is left may want memory
pub record RanInPart (plan : DiskPlan) (S : Setup) (start : Start) (H : List Entry) : Type 0 where
  pub begins : IsStart plan S start
  pub legal : IsLegal S H
  pub places : List (List ℕ)
  pub keeps : KeepsScript S (script_in plan start) places H
  pub front : IsPlainFront S (script_in plan start) H
  pub short : (H ≡ start.entries) ⊎ WantsMore (script_in plan start).roles places

-- the setup of a disk over these media
abbrev pub setup_over : DiskPlan → List Device → Setup
setup_over plan media = record { geometry = groups_of plan; cached = plan.cached; protected = plan.protected; media = map opening_from media }

-- the medium with id k, which was taken so, follows the history in its era
pub record IsEra (S : Setup) (H : List Entry) (k : ℕ) (before after : Device) : Type 0 where
  pub opening : opening_of S k ≡ Some (opening_from before)
  pub meets : MeetsEra S H k after

-- so each from id k on
unfoldable pub AreEras : Setup → List Entry → ℕ → List Device → List Device → Type 0
AreEras S H k [] [] = Unit {0}
AreEras S H k [] (d ∷ after) = ⊥
AreEras S H k (d ∷ before) [] = ⊥
AreEras S H k (d ∷ before) (d' ∷ after) = IsEra S H k d d' × AreEras S H (k + 1) before after

-- each medium follows the history in its era
pub record Follow (S : Setup) (H : List Entry) (after : List Device) : Type 0 where
  pub count : length after ≡ length S.media
  pub each : (i : ℕ) (d : Device) → slice_get after i ≡ Some d → MeetsEra S H (suc i) d

-- the lines of a disk with this setup ran
pub record RanOver (plan : DiskPlan) (S : Setup) (start : Start) (after : List Device) (run : Run) : Type 0 where
  pub ran : RanPlain plan S start run.history.entries (givens_of run.ends.items)
  pub ends : AreEnds S run.history.entries run.ends.items
  pub follow : Follow S run.history.entries after
  pub blocks : run.blocks.items ≡ map (λ d. d.blocks) after
  pub fits : AllByRecursion (λ d. d.blocks * d.size < 2 ^ 64) after

-- some of them ran, or none
pub record RanSomeOver (plan : DiskPlan) (S : Setup) (start : Start) (after : List Device) : Type 0 where
  pub history : List Entry
  pub part : RanInPart plan S start history
  pub follow : Follow S history after

-- the lines of a disk ran over its media
pub record RanDisk (plan : DiskPlan) (before after : List Device) (run : Run) : Type 0 where
  pub count : length before ≡ length plan.spares + 1
  pub start : Start
  pub table : start.found ≡ run.table
  pub ran : RanPlain plan (setup_over plan before) start run.history.entries (givens_of run.ends.items)
  pub ends : AreEnds (setup_over plan before) run.history.entries run.ends.items
  pub media : AreEras (setup_over plan before) run.history.entries 1 before after
  pub blocks : run.blocks.items ≡ map (λ d. d.blocks) before
  pub fits : AllByRecursion (λ b. b * plan.size < 2 ^ 64) run.blocks.items

-- some of them ran, or none
pub record RanSome (plan : DiskPlan) (before after : List Device) : Type 0 where
  pub count : length before ≡ length plan.spares + 1
  pub start : Start
  pub history : List Entry
  pub part : RanInPart plan (setup_over plan before) start history
  pub media : AreEras (setup_over plan before) history 1 before after

-- these are the media of the first disk, and then the others
pub record IsSplit (before after own own' rest rest' : List Device) : Type 0 where
  pub taken : before ≡ own ++ rest
  pub back : after ≡ own' ++ rest'

-- so over all disks
unfoldable pub RanAll : List DiskPlan → List Device → List Device → List Run → Type 0
RanAll [] before after runs = (before ≡ []) × (after ≡ []) × (runs ≡ [])
RanAll (plan ∷ plans) before after [] = ⊥
RanAll (plan ∷ plans) before after (run ∷ runs) =
    (own : List Device) × (own' : List Device) × (rest : List Device) × (rest' : List Device)
    × IsSplit before after own own' rest rest' × RanDisk plan own own' run × RanAll plans rest rest' runs

-- each of these disks ran in part, or not at all
unfoldable pub AllInPart : List DiskPlan → List Device → List Device → Type 0
AllInPart [] before after = (before ≡ []) × (after ≡ [])
AllInPart (plan ∷ plans) before after =
    (own : List Device) × (own' : List Device) × (rest : List Device) × (rest' : List Device)
    × IsSplit before after own own' rest rest' × RanSome plan own own' × AllInPart plans rest rest'

-- the first of them ran to their end, and those that are left in part
unfoldable pub RanSomeOfAll : List DiskPlan → List DiskPlan → List Device → List Device → Type 0
RanSomeOfAll [] left before after = AllInPart left before after
RanSomeOfAll (plan ∷ plans) left before after =
    (own : List Device) × (own' : List Device) × (rest : List Device) × (rest' : List Device)
    × IsSplit before after own own' rest rest' × ((run : Run) × RanDisk plan own own' run) × RanSomeOfAll plans left rest rest'

-- the first disks ran to their end, and the others in part or not at all; there is one of these where there is a disk
pub record RunsStop (plans : List DiskPlan) (before after : List Device) : Type 0 where
  pub ran : List DiskPlan
  pub left : List DiskPlan
  pub are : plans ≡ ran ++ left
  pub some : left ≡ [] → ran ≡ []
  pub media : RanSomeOfAll ran left before after
