-- The media of a disk in their eras.
use Rattle.std.proofs.Common.{◌≡◌, ℕ, suc, ◌+◌, ◌*◌, ◌^◌, ◌<◌, List, [], ◌∷◌, map, length, slice_get, Option, Some, None, IfSome, All, option_map, refl, sym, ◌∙◌, ap, subst, arith}
use Rattle.std.specs.List.{AllByRecursion}
use Rattle.std.proofs.lemmas.List.{length-map}
use Rattle.std.proofs.lemmas.Option.{slice_get-map}
use Rattle.std.proofs.lemmas.Simd.{map-map}
use Rattle.medium.specs.Device.{Device}
use Rattle.drive.specs.Drives.{DriveState, FitTheDrive}
use Rattle.history.specs.declared.entry.Entry.{Entry}
use Rattle.history.specs.Setup.{Setup, opening_of, opening_blocks}
use Rattle.disk_core.specs.State.{setup_of, opening_from}
use Rattle.disk_core.specs.Facts.{MeetsEra}
use Rattle.script_text.specs.declared.language.plans.DiskPlan.{DiskPlan}
use Rattle.stack_run.specs.declared.desk_run.Run.{Run}
use Rattle.stack_run.specs.Chains.{IsMediumOf}
use Rattle.stack_run.specs.Clients.{Start}
use Rattle.stack_run.specs.Runs.{setup_over, AreEras, Follow, RanOver, RanSomeOver, RanDisk, RanSome}
use Rattle.stack_run.proofs.RanLemmas.{all-at}

-- from media at their places to each in its era
eras-from : (S : Setup) (H : List Entry) (k : ℕ) (before after : List Device) → length after ≡ length before
    → ((i : ℕ) (d : Device) → slice_get before i ≡ Some d → opening_of S (suc (k + i)) ≡ Some (opening_from d))
    → ((i : ℕ) (d : Device) → slice_get after i ≡ Some d → MeetsEra S H (suc (k + i)) d) → AreEras S H (k + 1) before after
unfolding AreEras
eras-from S H k [] [] same opens meets = tt
eras-from S H k [] (a ∷ after) same opens meets = absurd (omega (arith, same))
eras-from S H k (b ∷ before) [] same opens meets = absurd (omega (arith, same))
eras-from S H k (b ∷ before) (a ∷ after) same opens meets =
    let here : suc (k + 0) ≡ k + 1 = omega arith in (
      record {
        opening = subst (λ n. opening_of S n ≡ Some (opening_from b)) here (opens 0 b refl);
        meets = subst (λ n. MeetsEra S H n a) here (meets 0 a refl);
      },
      eras-from S H (k + 1) before after (omega (arith, same))
          (λ i d is. let next : suc (k + suc i) ≡ suc (k + 1 + i) = omega arith in subst (λ n. opening_of S n ≡ Some (opening_from d)) next (opens (suc i) d is))
          (λ i d is. let next : suc (k + suc i) ≡ suc (k + 1 + i) = omega arith in subst (λ n. MeetsEra S H n d) next (meets (suc i) d is)),
    )

pub eras-follow : (plan : DiskPlan) (H : List Entry) (before after : List Device) → Follow (setup_over plan before) H after → AreEras (setup_over plan before) H 1 before after
eras-follow plan H before after follow =
    eras-from (setup_over plan before) H 0 before after (follow.count ∙ length-map before opening_from)
    (λ i d is. let at : suc i ≡ suc (0 + i) = omega arith in subst (λ n. opening_of (setup_over plan before) n ≡ Some (opening_from d)) at (slice_get-map opening_from before i ∙ ap (option_map opening_from) is))
    (λ i d is. let at : suc i ≡ suc (0 + i) = omega arith in subst (λ n. MeetsEra (setup_over plan before) H n d) at (follow.each i d is))

-- as many after as before
pub eras-count : (S : Setup) (H : List Entry) (k : ℕ) (before after : List Device) → AreEras S H k before after → length after ≡ length before
unfolding AreEras
eras-count S H k [] [] eras = refl
eras-count S H k [] (a ∷ after) eras = absurd eras
eras-count S H k (b ∷ before) [] eras = absurd eras
eras-count S H k (b ∷ before) (a ∷ after) eras = omega (arith, eras-count S H (k + 1) before after eras.1)

pub some-count : (plan : DiskPlan) (before after : List Device) → RanSome plan before after → length after ≡ length before
some-count plan before after some = eras-count (setup_over plan before) some.history 1 before after some.media

-- a medium keeps its blocks
eras-blocks : (S : Setup) (H : List Entry) (k : ℕ) (before after : List Device) → AreEras S H k before after → map (λ d. d.blocks) after ≡ map (λ d. d.blocks) before
unfolding AreEras
eras-blocks S H k [] [] eras = refl
eras-blocks S H k [] (a ∷ after) eras = absurd eras
eras-blocks S H k (b ∷ before) [] eras = absurd eras
eras-blocks S H k (b ∷ before) (a ∷ after) eras =
    let same : a.blocks ≡ b.blocks = ap opening_blocks (sym eras.0.meets.opening ∙ eras.0.opening) in
    ap (λ n. n ∷ map (λ d. d.blocks) after) same ∙ ap (λ l. b.blocks ∷ l) (eras-blocks S H (k + 1) before after eras.1)

-- and its size
eras-fit : (S : Setup) (H : List Entry) (k size : ℕ) (before after : List Device) → S.geometry.size ≡ size → AreEras S H k before after → AllByRecursion (λ d. d.blocks * d.size < 2 ^ 64) after → AllByRecursion (λ b. b * size < 2 ^ 64) (map (λ d. d.blocks) after)
unfolding AreEras
eras-fit S H k size [] [] is eras fits = tt
eras-fit S H k size [] (a ∷ after) is eras fits = absurd eras
eras-fit S H k size (b ∷ before) [] is eras fits = absurd eras
eras-fit S H k size (b ∷ before) (a ∷ after) is eras fits =
    let sized : a.size ≡ size = eras.0.meets.size ∙ is in
    (subst (λ n. a.blocks * n < 2 ^ 64) sized fits.0, eras-fit S H (k + 1) size before after is eras.1 fits.1)

-- the lines of a disk ran over its media
pub disk-ran : (plan : DiskPlan) (before after : List Device) (start : Start) (run : Run) → length before ≡ length plan.spares + 1 → start.found ≡ run.table → RanOver plan (setup_over plan before) start after run → RanDisk plan before after run
disk-ran plan before after start run count table over =
    let eras = eras-follow plan run.history.entries before after over.follow in
    record {
      count = count;
      start = start;
      table = table;
      ran = over.ran;
      ends = over.ends;
      media = eras;
      blocks = over.blocks ∙ eras-blocks (setup_over plan before) run.history.entries 1 before after eras;
      fits = subst (AllByRecursion (λ b. b * plan.size < 2 ^ 64)) (sym over.blocks) (eras-fit (setup_over plan before) run.history.entries 1 plan.size before after refl eras over.fits);
    }

pub disk-ran-some : (plan : DiskPlan) (before after : List Device) (start : Start) → length before ≡ length plan.spares + 1 → RanSomeOver plan (setup_over plan before) start after → RanSome plan before after
disk-ran-some plan before after start count over = record { count = count; start = start; history = over.history; part = over.part; media = eras-follow plan over.history before after over.follow }

-- the setup of the drive that was made of the media
pub setup-same : {M : Type 0} (device : M → Device) (plan : DiskPlan) (media : List M) (drive : DriveState M) → FitTheDrive device drive → drive.media ≡ media → drive.protected ≡ plan.protected → drive.cached ≡ plan.cached → drive.per ≡ plan.physical
    → 0 < length media → All (λ m. IsMediumOf plan (device m)) media → setup_of device drive drive.protected ≡ setup_over plan (map device media)
unfolding setup_of
setup-same device plan [] drive fit are protected cached per some made = absurd (omega (arith, some))
setup-same device plan (m ∷ media) drive fit are protected cached per some made =
    let there : slice_get drive.media 0 ≡ Some m = ap (λ l. slice_get l 0) are in
    let size : drive.size ≡ plan.size = sym (all-at (λ n. (device n).size ≡ drive.size) drive.media 0 m fit.size there) ∙ (made 0 m (omega arith)).size in
    let openings : map (λ n. opening_from (device n)) drive.media ≡ map opening_from (map device (m ∷ media)) = ap (map (λ n. opening_from (device n))) are ∙ sym (map-map opening_from device (m ∷ media)) in
    λ i. record { geometry = record { size = size i; per = per i }; cached = cached i; protected = protected i; media = openings i }

pub some-disk-ran : (plan : DiskPlan) (before after : List Device) (start : Start) → length before ≡ length plan.spares + 1 → (o : Option Run) → IfSome o (λ run. run.table ≡ start.found) → IfSome o (RanOver plan (setup_over plan before) start after) → IfSome o (RanDisk plan before after)
some-disk-ran plan before after start count None table over = tt
some-disk-ran plan before after start count (Some run) table over = disk-ran plan before after start run count (sym table) over
