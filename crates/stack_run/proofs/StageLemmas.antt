-- Images that were taken, run over, and put back: what that is for each disk of a script.
use Rattle.std.proofs.Common.{◌≡◌, ℕ, ◌+◌, ◌%◌, ◌⊎◌, inl, inr, Bool, true, false, ◌&&◌, nat_eq, if◌then◌else◌, List, [], ◌∷◌, ◌++◌, map, length, Option, Some, Result, Ok, Err, bytes_eq, Decides, refl, sym, ◌∙◌, ap, subst, arith}
use Rattle.std.specs.List.{AllByRecursion}
use Rattle.std.proofs.lemmas.Bool.{false≢true}
use Rattle.std.proofs.lemmas.Slice.Eq.{bytes_eq-Decides}
use Rattle.medium.specs.Counts.{capped_sum, Rose}
use Rattle.medium.specs.Device.{Device}
use Rattle.history.specs.declared.entry.Entry.{Entry}
use Rattle.history.specs.declared.entry.Entry.TheVariants.{Accept, Refuse, Done, Fault, Collect, Cancel, Reset, Eject, Insert, Protect}
use Rattle.history.specs.Setup.{Setup, Opening, opening_bytes, first_of, size_of}
use Rattle.history.specs.Eras.{media_id_of, era_faults}
use Rattle.history.specs.Commands.{is_sync}
use Rattle.history.specs.Contents.{contents, flushed_contents, kept_contents, pieces_of, patch_all}
use Rattle.disk_core.specs.State.{opening_from}
use Rattle.image_store.specs.Place.{Place, Here, Missing, Taken, Untold, Image, IsTaking, GivesBlocks, put_place, whole_block_bytes}
use Rattle.script_text.specs.declared.language.plans.DiskPlan.{DiskPlan}
use Rattle.script_text.specs.Report.{givens_of}
use Rattle.stack_run.specs.declared.desk_run.Run.{Run}
use Rattle.stack_run.specs.declared.refusal.NotRun.{NotRun}
use Rattle.stack_run.specs.declared.wanted.Wanted.{Wanted}
use Rattle.stack_run.specs.Media.{media_names, wanted_by, wanted_of, Opens, OpenEach, IsSetupOf, Leaves, IsLeft, IsLost, Stayed, IsLeftOrLost, IsLeftOrGone, EachMedium}
use Rattle.stack_run.specs.Chains.{TakesImage, Puts, PutsBack, PutsOr}
use Rattle.stack_run.specs.Runs.{setup_over, IsEra, AreEras, IsSplit, RanDisk, RanAll, AllInPart, RanSomeOfAll}
use Rattle.stack_run.specs.Serving.{DiskHasRun, HasRunInPart}
use Rattle.stack_run.specs.Stages.{AllRan}
use Rattle.stack_run.proofs.ChainLemmas.{Call, Names, IsNoneOf, Points}
use Rattle.stack_run.proofs.DiskLoops.{count-named}
use Rattle.stack_run.proofs.EraLemmas.{eras-count}
use Rattle.stack_run.proofs.HandedLemmas.{lost-place}

-- these bytes are told
abbrev pub IsToldOf : Option (List ℕ) → Type 0
IsToldOf told = (kept : List ℕ) × (told ≡ Some kept)

if-told : (b : Bool) (x y : Option (List ℕ)) → IsToldOf x → IsToldOf y → IsToldOf (if b then x else y)
if-told true x y here there = here
if-told false x y here there = there

-- what a medium holds and keeps is told where its opening bytes are
module _ (S : Setup) (k : ℕ) (bytes : List ℕ) (first : first_of S k ≡ Some bytes) where
  contents-told : (H : List Entry) → IsToldOf (contents S k H)
  unfolding contents
  contents-told H = (patch_all (pieces_of S k H) bytes, rw first refl)

  flushed-told : (H : List Entry) → IsToldOf (flushed_contents S k H)
  unfolding flushed_contents
  flushed-told [] = (bytes, first)
  flushed-told (Accept tag view asked b ∷ H) = flushed-told H
  flushed-told (Refuse tag view asked id status ∷ H) = flushed-told H
  flushed-told (Done t c ∷ H) = if-told (is_sync c && nat_eq (media_id_of H) k) (contents S k H) (flushed_contents S k H) (contents-told H) (flushed-told H)
  flushed-told (Fault t c n ∷ H) = flushed-told H
  flushed-told (Collect tag t ∷ H) = flushed-told H
  flushed-told (Cancel tag view ∷ H) = flushed-told H
  flushed-told (Reset tag ∷ H) = flushed-told H
  flushed-told (Eject tag ∷ H) = flushed-told H
  flushed-told (Insert tag id ∷ H) = flushed-told H
  flushed-told (Protect tag on ∷ H) = flushed-told H

  pub kept-told : (H : List Entry) → IsToldOf (kept_contents S k H)
  unfolding kept_contents
  kept-told H = if-told S.cached (flushed_contents S k H) (contents S k H) (flushed-told H) (contents-told H)

-- one medium of a disk
module _ (S : Setup) (H : List Entry) (k : ℕ) (want : Wanted) (d d' : Device) (old mid new : Image) (sized : size_of S ≡ want.size) (takes : TakesImage want d old mid) (era : IsEra S H k d d') where
  worn-is : new.worn ≡ capped_sum mid.worn d'.failed → new.worn ≡ capped_sum old.worn (era_faults k H)
  worn-is is = is ∙ (rw (takes.worn, era.meets.failed) refl)

  leaves : (p0 p1 : Place) → IsTaking p0 p1 want.size want.cached d → new.place ≡ put_place {E = NotRun} p1 d'.kept (Ok tt) → Leaves S H k p0 new.place
  unfolding GivesBlocks
  leaves (Here bytes) p1 taking put =
      let (long, taken, first, blocks) = taking.blocks in
      let (kept, told) = kept-told S k (whole_block_bytes want.size bytes) (ap opening_bytes era.opening ∙ first) H in
      (kept, told, put ∙ (rw (taken, era.meets.kept, told, sized) refl))
  leaves Missing p1 taking put = absurd taking.blocks
  leaves (Taken tail) p1 taking put = absurd taking.blocks
  leaves Untold p1 taking put = put ∙ (rw taking.blocks refl)

  pub is-left : Puts (Ok tt) d' mid new → IsLeft S H k old new
  is-left puts = record {
    place = leaves old.place mid.place takes.taking puts.place;
    worn = worn-is puts.worn;
    quiet = puts.cause.quiet ∙ takes.quiet;
  }

  pub is-lost : (Cause : ℕ → ℕ → Type 0) (fault : NotRun) → Puts (Err fault) d' mid new → Cause old.faults new.faults → IsLost Cause (era_faults k H) old new
  is-lost Cause fault puts cause = record {
    place = lost-place old.place mid.place new.place want.size want.cached d d'.kept fault takes.taking puts.place;
    worn = worn-is puts.worn;
    cause = cause;
  }

  ends : (result : Result (Unit {0}) NotRun) → Puts result d' mid new → (result ≡ Err NotRun.Memory → ⊥) → IsLeftOrLost S H k old new
  ends (Ok tt) puts told = inl (is-left puts)
  ends (Err NotRun.Image) puts told = inr (is-lost Rose NotRun.Image puts (rw takes.quiet at puts.cause.failed refl))
  ends (Err NotRun.Memory) puts told = absurd (told refl)

  pub is-left-or-lost : PutsOr false want d' mid new → IsLeftOrLost S H k old new
  is-left-or-lost puts = ends puts.result puts.puts (λ is. false≢true (puts.told is))

  ends-gone : (result : Result (Unit {0}) NotRun) → Puts result d' mid new → IsLeftOrGone S H k old new
  ends-gone (Ok tt) puts = inl (inl (is-left puts))
  ends-gone (Err NotRun.Image) puts = inl (inr (is-lost Rose NotRun.Image puts (rw takes.quiet at puts.cause.failed refl)))
  ends-gone (Err NotRun.Memory) puts = inr (is-lost Stayed NotRun.Memory puts (puts.cause.quiet (λ same. cc) ∙ takes.quiet))

  pub is-left-or-gone : (s : Bool) → PutsOr s want d' mid new → IsLeftOrGone S H k old new
  is-left-or-gone s puts = ends-gone puts.result puts.puts

-- all media of a disk
module _ (plan : DiskPlan) (S : Setup) (H : List Entry) (sized : size_of S ≡ plan.size) (at mid at' : Names) (Call2 : Call) (Ends : ℕ → Image → Image → Type 0)
    (each : (k : ℕ) (want : Wanted) (d d' : Device) (old mid new : Image) → size_of S ≡ want.size → TakesImage want d old mid → IsEra S H k d d' → Call2 want d' mid new → Ends k old new) where
  pub each-medium : (names : List (List ℕ)) (k : ℕ) (ds ds' : List Device) → Points TakesImage (map (wanted_by plan) names) ds at mid → AreEras S H k ds ds' → Points Call2 (map (wanted_by plan) names) ds' mid at' → EachMedium Ends k names at at'
  unfolding Points AreEras
  each-medium [] k ds ds' takes eras puts = tt
  each-medium (n ∷ names) k [] ds' takes eras puts = absurd takes
  each-medium (n ∷ names) k (d ∷ ds) [] takes eras puts = absurd eras
  each-medium (n ∷ names) k (d ∷ ds) (d' ∷ ds') takes eras puts =
      (each k (wanted_by plan n) d d' (at n) (mid n) (at' n) sized takes.0 eras.0 puts.0, each-medium names (k + 1) ds ds' takes.1 eras.1 puts.1)

-- the setup of a disk over its images
opens : (want : Wanted) (d : Device) (old mid : Image) → TakesImage want d old mid → Opens want.size old.place (opening_from d)
unfolding GivesBlocks
opens want d old mid takes = by old.place takes.taking
  where
    by : (p : Place) → IsTaking p mid.place want.size want.cached d → Opens want.size p (opening_from d)
    by (Here bytes) taking = let (long, taken, first, blocks) = taking.blocks in (long, λ i. record { blocks = blocks i; first = first i })
    by Missing taking = absurd taking.blocks
    by (Taken tail) taking = absurd taking.blocks
    by Untold taking = tt

open-each : (plan : DiskPlan) (names : List (List ℕ)) (ds : List Device) (at mid : Names) → Points TakesImage (map (wanted_by plan) names) ds at mid → OpenEach plan.size at names (map opening_from ds) × AllByRecursion (λ (o : Opening). o.blocks % plan.physical ≡ 0) (map opening_from ds)
unfolding Points
open-each plan [] [] at mid takes = (tt, tt)
open-each plan [] (d ∷ ds) at mid takes = absurd takes
open-each plan (n ∷ names) [] at mid takes = absurd takes
open-each plan (n ∷ names) (d ∷ ds) at mid takes =
    let (opened, whole) = open-each plan names ds at mid takes.1 in
    ((opens (wanted_by plan n) d (at n) (mid n) takes.0, opened), (takes.0.whole, whole))

pub setup-of-disk : (plan : DiskPlan) (ds : List Device) (at mid : Names) → Points TakesImage (map (wanted_by plan) (media_names plan)) ds at mid → IsSetupOf plan at (setup_over plan ds)
setup-of-disk plan ds at mid takes =
    let (opened, whole) = open-each plan (media_names plan) ds at mid takes in
    record { geometry = refl; cached = refl; protected = refl; media = opened; whole = whole }

-- the calls for one disk, and those for the others
points-split : (R : Call) (ws vs : List Wanted) (own rest : List Device) (at at' : Names) → length own ≡ length ws → Points R (ws ++ vs) (own ++ rest) at at' → Points R ws own at at' × Points R vs rest at at'
unfolding Points
points-split R [] vs [] rest at at' same points = (tt, points)
points-split R [] vs (d ∷ own) rest at at' same points = absurd (omega (arith, same))
points-split R (w ∷ ws) vs [] rest at at' same points = absurd (omega (arith, same))
points-split R (w ∷ ws) vs (d ∷ own) rest at at' same points =
    let (front, back) = points-split R ws vs own rest at at' (omega (arith, same)) points.1 in
    ((points.0, front), back)

module _ (R : Call) (plan : DiskPlan) (plans : List DiskPlan) (ds own rest : List Device) (at at' : Names) (cut : ds ≡ own ++ rest) (count : length own ≡ length plan.spares + 1) where
  pub disk-points : Points R (wanted_of (plan ∷ plans)) ds at at' → Points R (map (wanted_by plan) (media_names plan)) own at at' × Points R (wanted_of plans) rest at at'
  unfolding wanted_of
  disk-points points = points-split R (map (wanted_by plan) (media_names plan)) (wanted_of plans) own rest at at' (count ∙ sym (count-named plan)) (subst (λ l. Points R (wanted_of (plan ∷ plans)) l at at') cut points)

-- all disks ran, and all images are put back
pub all-ran-so : (plans : List DiskPlan) (before after : List Device) (runs : List Run) (at mid at' : Names) → Points TakesImage (wanted_of plans) before at mid → RanAll plans before after runs → Points PutsBack (wanted_of plans) after mid at' → AllRan plans at at' runs
unfolding RanAll AllRan
all-ran-so [] before after [] at mid at' takes ran puts = tt
all-ran-so [] before after (run ∷ runs) at mid at' takes (b, a, r) puts = absurd (cc)
all-ran-so (plan ∷ plans) before after [] at mid at' takes ran puts = absurd ran
all-ran-so (plan ∷ plans) before after (run ∷ runs) at mid at' takes (own, own', rest, rest', split, disk, more) puts =
    let (took, took2) = disk-points TakesImage plan plans before own rest at mid split.taken disk.count takes in
    let count' = eras-count (setup_over plan own) run.history.entries 1 own own' disk.media ∙ disk.count in
    let (put, put2) = disk-points PutsBack plan plans after own' rest' mid at' split.back count' puts in (
      record {
        setup = setup_over plan own;
        opened = setup-of-disk plan own at mid took;
        start = disk.start;
        table = disk.table;
        ran = disk.ran;
        images = each-medium plan (setup_over plan own) run.history.entries refl at mid at' PutsBack (IsLeft (setup_over plan own) run.history.entries) (λ k w d d' old m new. is-left (setup_over plan own) run.history.entries k w d d' old m new) (media_names plan) 1 own own' took disk.media put;
        ends = disk.ends;
        blocks = disk.blocks ∙ blocks-same own;
        fits = disk.fits;
      },
      all-ran-so plans rest rest' runs at mid at' took2 more put2,
    )
  where
    blocks-same : (ds : List Device) → map (λ (d : Device). d.blocks) ds ≡ map (λ (o : Opening). o.blocks) (map opening_from ds)
    blocks-same [] = refl
    blocks-same (d ∷ ds) = ap (λ l. d.blocks ∷ l) (blocks-same ds)

-- all disks ran, and an image could not be put back
module _ (s : Bool) (Ends : Setup → List Entry → ℕ → Image → Image → Type 0)
    (each : (S : Setup) (H : List Entry) (k : ℕ) (want : Wanted) (d d' : Device) (old mid new : Image) → size_of S ≡ want.size → TakesImage want d old mid → IsEra S H k d d' → PutsOr s want d' mid new → Ends S H k old new) where
  disk-ends : (plan : DiskPlan) (plans : List DiskPlan) (before after own own' rest rest' : List Device) (run : Run) (at mid at' : Names) → Points TakesImage (wanted_of (plan ∷ plans)) before at mid → IsSplit before after own own' rest rest' → RanDisk plan own own' run
      → Points (PutsOr s) (wanted_of (plan ∷ plans)) after mid at' → DiskHasRun Ends plan at at' × (Points TakesImage (wanted_of plans) rest at mid × Points (PutsOr s) (wanted_of plans) rest' mid at')
  disk-ends plan plans before after own own' rest rest' run at mid at' takes split disk puts =
      let (took, took2) = disk-points TakesImage plan plans before own rest at mid split.taken disk.count takes in
      let count' = eras-count (setup_over plan own) run.history.entries 1 own own' disk.media ∙ disk.count in
      let (put, put2) = disk-points (PutsOr s) plan plans after own' rest' mid at' split.back count' puts in (
        record {
          setup = setup_over plan own;
          history = run.history.entries;
          given = givens_of run.ends.items;
          opened = setup-of-disk plan own at mid took;
          start = disk.start;
          ran = disk.ran;
          images = each-medium plan (setup_over plan own) run.history.entries refl at mid at' (PutsOr s) (Ends (setup_over plan own) run.history.entries) (each (setup_over plan own) run.history.entries) (media_names plan) 1 own own' took disk.media put;
        },
        (took2, put2),
      )

  all-ends : (plans : List DiskPlan) (before after : List Device) (runs : List Run) (at mid at' : Names) → Points TakesImage (wanted_of plans) before at mid → RanAll plans before after runs → Points (PutsOr s) (wanted_of plans) after mid at' → AllByRecursion (λ plan. DiskHasRun Ends plan at at') plans
  unfolding RanAll
  all-ends [] before after runs at mid at' takes ran puts = tt
  all-ends (plan ∷ plans) before after [] at mid at' takes ran puts = absurd ran
  all-ends (plan ∷ plans) before after (run ∷ runs) at mid at' takes (own, own', rest, rest', split, disk, more) puts =
      let (here, (took, put)) = disk-ends plan plans before after own own' rest rest' run at mid at' takes split disk puts in
      (here, all-ends plans rest rest' runs at mid at' took more put)

pub all-ran-lost : (plans : List DiskPlan) (before after : List Device) (runs : List Run) (at mid at' : Names) → Points TakesImage (wanted_of plans) before at mid → RanAll plans before after runs → Points (PutsOr false) (wanted_of plans) after mid at' → AllByRecursion (λ plan. DiskHasRun IsLeftOrLost plan at at') plans
all-ran-lost plans before after runs at mid at' takes ran puts = all-ends false IsLeftOrLost (λ S H k w d d' old m new. is-left-or-lost S H k w d d' old m new) plans before after runs at mid at' takes ran puts

gone-each : (s : Bool) (S : Setup) (H : List Entry) (k : ℕ) (want : Wanted) (d d' : Device) (old mid new : Image) → size_of S ≡ want.size → TakesImage want d old mid → IsEra S H k d d' → PutsOr s want d' mid new → IsLeftOrGone S H k old new
gone-each s S H k w d d' old mid new sized takes era puts = is-left-or-gone S H k w d d' old mid new sized takes era s puts

pub all-ran-gone : (plans : List DiskPlan) (before after : List Device) (runs : List Run) (s : Bool) (at mid at' : Names) → Points TakesImage (wanted_of plans) before at mid → RanAll plans before after runs → Points (PutsOr s) (wanted_of plans) after mid at' → AllByRecursion (λ plan. DiskHasRun IsLeftOrGone plan at at') plans
all-ran-gone plans before after runs s at mid at' takes ran puts = all-ends s IsLeftOrGone (gone-each s) plans before after runs at mid at' takes ran puts

-- these ran in part
part-ran-so : (plans : List DiskPlan) (before after : List Device) (s : Bool) (at mid at' : Names) → Points TakesImage (wanted_of plans) before at mid → AllInPart plans before after → Points (PutsOr s) (wanted_of plans) after mid at' → AllByRecursion (λ plan. HasRunInPart plan at at') plans
unfolding AllInPart
part-ran-so [] before after s at mid at' takes ran puts = tt
part-ran-so (plan ∷ plans) before after s at mid at' takes (own, own', rest, rest', split, disk, more) puts =
    let (took, took2) = disk-points TakesImage plan plans before own rest at mid split.taken disk.count takes in
    let count' = eras-count (setup_over plan own) disk.history 1 own own' disk.media ∙ disk.count in
    let (put, put2) = disk-points (PutsOr s) plan plans after own' rest' mid at' split.back count' puts in (
      record {
        setup = setup_over plan own;
        history = disk.history;
        opened = setup-of-disk plan own at mid took;
        start = disk.start;
        part = disk.part;
        images = each-medium plan (setup_over plan own) disk.history refl at mid at' (PutsOr s) (IsLeftOrGone (setup_over plan own) disk.history) (gone-each s (setup_over plan own) disk.history) (media_names plan) 1 own own' took disk.media put;
      },
      part-ran-so plans rest rest' s at mid at' took2 more put2,
    )

-- the first disks ran to their end, and the others in part
pub some-ran-so : (ran left : List DiskPlan) (before after : List Device) (s : Bool) (at mid at' : Names) → Points TakesImage (wanted_of (ran ++ left)) before at mid → RanSomeOfAll ran left before after → Points (PutsOr s) (wanted_of (ran ++ left)) after mid at'
    → AllByRecursion (λ plan. DiskHasRun IsLeftOrGone plan at at') ran × AllByRecursion (λ plan. HasRunInPart plan at at') left
unfolding RanSomeOfAll
some-ran-so [] left before after s at mid at' takes some puts = (tt, part-ran-so left before after s at mid at' takes some puts)
some-ran-so (plan ∷ ran) left before after s at mid at' takes (own, own', rest, rest', split, (run, disk), more) puts =
    let (here, (took, put)) = disk-ends s IsLeftOrGone (gone-each s) plan (ran ++ left) before after own own' rest rest' run at mid at' takes split disk puts in
    let (whole, part) = some-ran-so ran left rest rest' s at mid at' took more put in
    ((here, whole), part)

-- a name is one of these or none
among-more : (P : List ℕ → Type 0) (w : Wanted) (ws : List Wanted) (name : List ℕ) (same : Bool) → Decides same (name ≡ w.image) → IsNoneOf name ws ⊎ (AllByRecursion (λ v. P v.image) ws → P name) → IsNoneOf name (w ∷ ws) ⊎ (AllByRecursion (λ v. P v.image) (w ∷ ws) → P name)
among-more P w ws name true decided rest = inr (λ all. subst P (sym (decided.0 refl)) all.0)
among-more P w ws name false decided (inl none) = inl ((λ is. false≢true (decided.1 is)), none)
among-more P w ws name false decided (inr found) = inr (λ all. found all.1)

among : (P : List ℕ → Type 0) (ws : List Wanted) (name : List ℕ) → IsNoneOf name ws ⊎ (AllByRecursion (λ v. P v.image) ws → P name)
among P [] name = inl tt
among P (w ∷ ws) name = among-more P w ws name (bytes_eq name w.image) (bytes_eq-Decides name w.image) (among P ws name)

pub by-name : (P : List ℕ → Type 0) (ws : List Wanted) → ((name : List ℕ) → IsNoneOf name ws → P name) → AllByRecursion (λ w. P w.image) ws → (name : List ℕ) → P name
by-name P ws none all name = by (among P ws name)
  where
    by : IsNoneOf name ws ⊎ (AllByRecursion (λ v. P v.image) ws → P name) → P name
    by (inl not) = none name not
    by (inr found) = found all
