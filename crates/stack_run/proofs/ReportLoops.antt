-- Reports of one disk after the other.
use Rattle.std.proofs.Common.{◌≡◌, ℕ, zero, suc, ◌+◌, ◌<◌, ◌≤◌, List, [], ◌∷◌, ◌++◌, length, drop, get_or, Option, None, Some, refl, sym, ap, subst, arith, append_assoc}
use Rattle.std.proofs.lemmas.List.{append-nil}
use Rattle.std.proofs.Math.ListN.{drop_of_length-le}
use Rattle.image_store.specs.Edge.{Appends, AppendsFront}
use Rattle.script_text.specs.declared.language.plans.DiskPlan.{DiskPlan}
use Rattle.script_text.specs.Report.{givens_of}
use Rattle.stack_run.specs.declared.desk_run.Run.{Run}
use Rattle.stack_run.specs.Media.{IsLeft}
use Rattle.stack_run.specs.Serving.{DiskHasRun, AreReports, disk_report, table_lines}
use Rattle.stack_run.specs.Stages.{HasRunAs, AllRan}
use Rattle.stack_run.specs.Reporting.{IsReportable, AreReportable, TellsDisk, IsWrittenSo}
use Rattle.stack_run.proofs.ChainLemmas.{Names, drop-next}
use Rattle.stack_run.proofs.Reported.{both-written, head-front, body-front}

-- what is written after the first disks, of a run of all that left the images so
pub record SoFar (plans : List DiskPlan) (runs : List Run) (i : ℕ) (wrote wrote' : Option (List ℕ)) (at at' : Names) : Type 0 where
  pub front : List ℕ
  pub added : Appends wrote wrote' front
  pub left : AllRan (drop i plans) at at' (drop i runs)
  pub leads : (rest : List ℕ) → AreReports (i + 1) (drop i plans) at at' rest → AreReports 1 plans at at' (front ++ rest)

abbrev pub Writes : List DiskPlan → List Run → ℕ → Option (List ℕ) → Option (List ℕ) → Type 0
Writes plans runs i wrote wrote' = (at at' : Names) → AllRan plans at at' runs → SoFar plans runs i wrote wrote' at at'

pub appends-nothing : (wrote : Option (List ℕ)) → Appends wrote wrote []
unfolding Appends
appends-nothing None = refl
appends-nothing (Some bytes) = ap Some (sym (append-nil bytes))

pub writes-none : (plans : List DiskPlan) (runs : List Run) (wrote : Option (List ℕ)) → Writes plans runs 0 wrote wrote
writes-none plans runs wrote at at' ran = record { front = []; added = appends-nothing wrote; left = ran; leads = λ rest reports. subst (λ n. AreReports n plans at at' rest) one reports }
  where
    one : 0 + 1 ≡ 1
    one = refl

-- the run of a disk, without what its writer needs
abbrev pub run-of : (plan : DiskPlan) (at at' : Names) (run : Run) → HasRunAs plan at at' run → DiskHasRun IsLeft plan at at'
run-of plan at at' run ran = record { setup = ran.setup; start = ran.start; history = run.history.entries; given = givens_of run.ends.items; opened = ran.opened; ran = ran.ran; images = ran.images }

abbrev pub text-of : (number : ℕ) (plan : DiskPlan) (at at' : Names) (run : Run) → HasRunAs plan at at' run → List ℕ
text-of number plan at at' run ran = disk_report number plan ran.setup (table_lines ran.start.found) run.history.entries (givens_of run.ends.items)

-- all disks that are left have reports
reports-exist : (number : ℕ) (plans : List DiskPlan) (runs : List Run) (at at' : Names) → AllRan plans at at' runs → (text : List ℕ) × AreReports number plans at at' text
unfolding AllRan AreReports
reports-exist number [] [] at at' ran = ([], refl)
reports-exist number [] (run ∷ runs) at at' ran = absurd ran
reports-exist number (plan ∷ plans) [] at at' ran = absurd ran
reports-exist number (plan ∷ plans) (run ∷ runs) at at' ran =
    let (rest, reports) = reports-exist (number + 1) plans runs at at' ran.1 in
    (text-of number plan at at' run ran.0 ++ rest, (rest, record { run = run-of plan at at' run ran.0; is = refl }, reports))

module _ (plans : List DiskPlan) (runs : List Run) (i n : ℕ) (plan : DiskPlan) (run : Run) (wrote mid : Option (List ℕ)) (inside : i < length plans) (all : length runs ≡ length plans) (is : plan ≡ get_or plans i plan) (his : run ≡ get_or runs i run) (number : n ≡ i + 1) (so : Writes plans runs i wrote mid) where
  both-left : (at at' : Names) → AllRan (drop i plans) at at' (drop i runs) → AllRan (plan ∷ drop (i + 1) plans) at at' (run ∷ drop (i + 1) runs)
  both-left at at' left = subst (λ l. AllRan l at at' (run ∷ drop (i + 1) runs)) (drop-next plans i plan inside is) (subst (λ l. AllRan (drop i plans) at at' l) (drop-next runs i run (omega (arith, inside, all)) his) left)

  parts : (at at' : Names) → AllRan (drop i plans) at at' (drop i runs) → HasRunAs plan at at' run × AllRan (drop (i + 1) plans) at at' (drop (i + 1) runs)
  unfolding AllRan
  parts at at' left = both-left at at' left

  -- the reports with this one and the rest
  leads-on : (at at' : Names) (far : SoFar plans runs i wrote mid at at') (ran : HasRunAs plan at at' run) (rest : List ℕ) → AreReports (i + 1 + 1) (drop (i + 1) plans) at at' rest → AreReports 1 plans at at' (far.front ++ (text-of n plan at at' run ran ++ rest))
  unfolding AreReports
  leads-on at at' far ran rest reports =
      let here : AreReports (i + 1) (plan ∷ drop (i + 1) plans) at at' (text-of n plan at at' run ran ++ rest) =
      (rest, record { run = run-of plan at at' run ran; is = ap (λ k. disk_report k plan ran.setup (table_lines ran.start.found) run.history.entries (givens_of run.ends.items) ++ rest) number }, reports) in
      far.leads (text-of n plan at at' run ran ++ rest) (subst (λ l. AreReports (i + 1) l at at' (text-of n plan at at' run ran ++ rest)) (sym (drop-next plans i plan inside is)) here)

  -- one more report
  pub writes-next : (wrote' : Option (List ℕ)) → ((at at' : Names) (ran : HasRunAs plan at at' run) → Appends mid wrote' (text-of n plan at at' run ran)) → Writes plans runs (i + 1) wrote wrote'
  writes-next wrote' put at at' ran =
      let far = so at at' ran in
      let (here, later) = parts at at' far.left in
      record {
        front = far.front ++ text-of n plan at at' run here;
        added = both-written wrote mid wrote' far.front (text-of n plan at at' run here) far.added (put at at' here);
        left = later;
        leads = λ rest reports. subst (λ l. AreReports 1 plans at at' l) (sym (append_assoc far.front (text-of n plan at at' run here) rest)) (leads-on at at' far here rest reports);
      }

  -- or a front of it
  pub writes-stop : (wrote' : Option (List ℕ)) → ((at at' : Names) (ran : HasRunAs plan at at' run) → AppendsFront mid wrote' (text-of n plan at at' run ran)) → (at at' : Names) → AllRan plans at at' runs → IsWrittenSo plans at at' (AppendsFront wrote wrote')
  writes-stop wrote' put at at' ran =
      let far = so at at' ran in
      let (here, later) = parts at at' far.left in
      let (rest, reports) = reports-exist (i + 1 + 1) (drop (i + 1) plans) (drop (i + 1) runs) at at' later in
      record {
        text = far.front ++ (text-of n plan at at' run here ++ rest);
        reports = leads-on at at' far here rest reports;
        written = body-front wrote mid wrote' far.front (text-of n plan at at' run here ++ rest) far.added (head-front mid wrote' (text-of n plan at at' run here) rest (put at at' here));
      }

-- after the last
pub writes-all : (plans : List DiskPlan) (runs : List Run) (i : ℕ) (wrote wrote' : Option (List ℕ)) → length plans ≤ i → Writes plans runs i wrote wrote' → (at at' : Names) → AllRan plans at at' runs → IsWrittenSo plans at at' (Appends wrote wrote')
unfolding AreReports
writes-all plans runs i wrote wrote' past so at at' ran =
    let far = so at at' ran in
    let none : drop i plans ≡ [] = drop_of_length-le plans past in
    let nothing : AreReports (i + 1) [] at at' [] = refl in
    record {
      text = far.front;
      reports = subst (λ l. AreReports 1 plans at at' l) (append-nil far.front) (far.leads [] (subst (λ l. AreReports (i + 1) l at at' []) (sym none) nothing));
      written = far.added;
    }

-- a disk can be reported
pub reportable-next : (plans : List DiskPlan) (runs : List Run) (i : ℕ) (plan : DiskPlan) (run : Run) → AreReportable plans runs → i < length plans → plan ≡ get_or plans i plan → run ≡ get_or runs i run → IsReportable plan run
unfolding AreReportable
reportable-next [] runs i plan run are inside is his = absurd (omega (arith, inside))
reportable-next (p ∷ plans) [] i plan run are inside is his = absurd are
reportable-next (p ∷ plans) (r ∷ runs) zero plan run are inside is his = subst (λ x. IsReportable x run) (sym is) (subst (λ y. IsReportable p y) (sym his) are.0)
reportable-next (p ∷ plans) (r ∷ runs) (suc i) plan run are inside is his = reportable-next plans runs i plan run are.1 (omega (arith, inside)) is his

pub reportable-count : (plans : List DiskPlan) (runs : List Run) → AreReportable plans runs → length runs ≡ length plans
unfolding AreReportable
reportable-count [] [] are = refl
reportable-count [] (r ∷ runs) are = absurd are
reportable-count (p ∷ plans) [] are = absurd are
reportable-count (p ∷ plans) (r ∷ runs) are = omega (arith, reportable-count plans runs are.1)

-- what the writer of one disk's report tells
pub told-of : (number : ℕ) (plan : DiskPlan) (at at' : Names) (run : Run) (P : List ℕ → Type 0) (ran : HasRunAs plan at at' run) → TellsDisk number plan run P → P (text-of number plan at at' run ran)
told-of number plan at at' run P ran tells =
    subst (λ table. P (disk_report number plan ran.setup (table_lines table) run.history.entries (givens_of run.ends.items))) (sym ran.table) (tells ran.setup ran.opened.geometry ran.blocks ran.ends)
