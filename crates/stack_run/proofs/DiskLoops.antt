-- One disk after the other.
use Rattle.std.proofs.Common.{◌≡◌, ℕ, zero, suc, ◌+◌, ◌<◌, ◌≤◌, List, [], ◌∷◌, ◌++◌, map, length, take, drop, get_or, slice_get, Some, None, option_map, All, refl, sym, ◌∙◌, ap, subst, arith, append_assoc, length-append, length-take}
use Rattle.std.proofs.lemmas.Option.{slice_get-map}
use Rattle.std.specs.List.{AllByRecursion, drop-map}
use Rattle.std.proofs.lemmas.List.{append-nil, length-map, take-append-drop, map-append, take-map, length-drop}
use Rattle.medium.specs.Device.{Device}
use Rattle.disk_core.specs.State.{opening_from}
use Rattle.disk_core.proofs.Fresh.{fresh-era}
use Rattle.script_text.specs.declared.language.plans.DiskPlan.{DiskPlan}
use Rattle.script_text.specs.Fitting.{IsDiskPlan, AreDisks}
use Rattle.stack_run.specs.declared.desk_run.Run.{Run}
use Rattle.stack_run.specs.declared.wanted.Wanted.{Wanted}
use Rattle.stack_run.specs.Media.{media_names, wanted_by, wanted_of}
use Rattle.stack_run.specs.Chains.{IsMediumOf, AreMade}
use Rattle.stack_run.specs.Runs.{setup_over, Follow, RanDisk, RanSome, RanAll, AllInPart, RanSomeOfAll, RunsStop}
use Rattle.stack_run.proofs.ChainLemmas.{drop-next}
use Rattle.stack_run.proofs.EraLemmas.{eras-follow}
use Rattle.stack_run.specs.Clients.{unprobed}
use Rattle.stack_run.specs.Starting.{part_line, AreWhole}
use Rattle.stack_run.proofs.StartLemmas.{nothing-begun}

-- what the disks that are left will do is what all do, behind those that ran
pub record DisksGoOn (plans ran left : List DiskPlan) (before media done : List Device) (runs : List Run) : Type 0 where
  pub are : plans ≡ ran ++ left
  pub all : (after : List Device) (more : List Run) → RanAll left media after more → RanAll plans before (done ++ after) (runs ++ more)
  pub some : (more rest : List DiskPlan) (after : List Device) → RanSomeOfAll more rest media after → RanSomeOfAll (ran ++ more) rest before (done ++ after)

pub goes-first : (plans : List DiskPlan) (before : List Device) → DisksGoOn plans [] plans before before [] []
goes-first plans before = record { are = refl; all = λ after more all. all; some = λ more rest after some. some }

-- the media that are made for two lists of images
pub made-split : (ws vs : List Wanted) (ds : List Device) → AreMade (ws ++ vs) ds → AreMade ws (take (length ws) ds) × AreMade vs (drop (length ws) ds)
unfolding AreMade
made-split [] vs ds made = (tt, made)
made-split (w ∷ ws) vs [] made = absurd made
made-split (w ∷ ws) vs (d ∷ ds) made = let (front, back) = made-split ws vs ds made.1 in ((made.0, front), back)

pub made-count : (ws : List Wanted) (ds : List Device) → AreMade ws ds → length ds ≡ length ws
unfolding AreMade
made-count [] [] made = refl
made-count [] (d ∷ ds) made = absurd made
made-count (w ∷ ws) [] made = absurd made
made-count (w ∷ ws) (d ∷ ds) made = omega (arith, made-count ws ds made.1)

made-none : (ds : List Device) → AreMade [] ds → ds ≡ []
unfolding AreMade
made-none [] made = refl
made-none (d ∷ ds) made = absurd made

-- each is a medium of its disk
made-of : (plan : DiskPlan) (names : List (List ℕ)) (ds : List Device) → AreMade (map (wanted_by plan) names) ds → AllByRecursion (IsMediumOf plan) ds
unfolding AreMade
made-of plan [] [] made = tt
made-of plan [] (d ∷ ds) made = absurd made
made-of plan (n ∷ names) [] made = absurd made
made-of plan (n ∷ names) (d ∷ ds) made = (record { fresh = made.0.fresh; size = made.0.size; cached = made.0.cached; whole = made.0.whole }, made-of plan names ds made.1)

-- at a place, and by place
rec-at : {X : Type 0} (P : X → Type 0) (xs : List X) (i : ℕ) (x : X) → AllByRecursion P xs → slice_get xs i ≡ Some x → P x
rec-at P [] i x all is = absurd (cc)
rec-at P (y ∷ xs) zero x all is = let same : y ≡ x = cc in subst P same all.0
rec-at P (y ∷ xs) (suc i) x all is = rec-at P xs i x all.1 is

pub all-from-rec : {X Y : Type 0} (P : Y → Type 0) (f : X → Y) (xs : List X) → AllByRecursion P (map f xs) → All (λ x. P (f x)) xs
all-from-rec P f [] all k d inside = absurd (omega (arith, inside))
all-from-rec P f (x ∷ xs) all zero d inside = all.0
all-from-rec P f (x ∷ xs) all (suc k) d inside = all-from-rec P f xs all.1 k d (omega (arith, inside))

pub rec-from-all : {X Y : Type 0} (P : Y → Type 0) (f : X → Y) (xs : List X) → All (λ x. P (f x)) xs → AllByRecursion P (map f xs)
rec-from-all P f [] all = tt
rec-from-all P f (x ∷ xs) all = (all 0 x (omega arith), rec-from-all P f xs (λ k d inside. all (suc k) d (omega (arith, inside))))

-- the images of a disk
pub count-named : (plan : DiskPlan) → length (map (wanted_by plan) (media_names plan)) ≡ length plan.spares + 1
count-named plan = omega (arith, length-map plan.spares (wanted_by plan))

-- the media of the disk that is next, and those of the others
module _ (plans : List DiskPlan) (i : ℕ) (plan : DiskPlan) (ds : List Device) (inside : i < length plans) (is : plan ≡ get_or plans i plan) (made : AreMade (wanted_of (drop i plans)) ds) where
  both-made : AreMade (map (wanted_by plan) (media_names plan) ++ wanted_of (drop (i + 1) plans)) ds
  unfolding wanted_of
  both-made = subst (λ (l : List DiskPlan). AreMade (wanted_of l) ds) (drop-next plans i plan inside is) made

  split-made : AreMade (map (wanted_by plan) (media_names plan)) (take (length plan.spares + 1) ds) × AreMade (wanted_of (drop (i + 1) plans)) (drop (length plan.spares + 1) ds)
  split-made = subst (λ n. AreMade (map (wanted_by plan) (media_names plan)) (take n ds) × AreMade (wanted_of (drop (i + 1) plans)) (drop n ds)) (count-named plan)
      (made-split (map (wanted_by plan) (media_names plan)) (wanted_of (drop (i + 1) plans)) ds both-made)

  pub enough : length plan.spares + 1 ≤ length ds
  enough = omega (arith, made-count _ ds both-made, length-append (map (wanted_by plan) (media_names plan)) (wanted_of (drop (i + 1) plans)), count-named plan)

  pub first-made : AllByRecursion (IsMediumOf plan) (take (length plan.spares + 1) ds)
  first-made = made-of plan (media_names plan) (take (length plan.spares + 1) ds) split-made.0

  pub rest-made : AreMade (wanted_of (drop (i + 1) plans)) (drop (length plan.spares + 1) ds)
  rest-made = split-made.1

-- media on which nothing has happened
fresh-follow : (plan : DiskPlan) (ds : List Device) → AllByRecursion (IsMediumOf plan) ds → Follow (setup_over plan ds) [] ds
fresh-follow plan ds made = record {
  count = sym (length-map ds opening_from);
  each = λ i d there.
      let of : IsMediumOf plan d = rec-at (IsMediumOf plan) ds i d made there in
      fresh-era (setup_over plan ds) (suc i) d of.fresh (slice_get-map opening_from ds i ∙ ap (option_map opening_from) there) of.size of.cached;
}

pub fresh-some : (plan : DiskPlan) (ds : List Device) → part_line plan ≡ None → length ds ≡ length plan.spares + 1 → AllByRecursion (IsMediumOf plan) ds → RanSome plan ds ds
fresh-some plan ds whole count made = record { count = count; start = unprobed; history = []; part = nothing-begun plan (setup_over plan ds) whole; media = eras-follow plan [] ds ds (fresh-follow plan ds made) }

none-of-all : (plans : List DiskPlan) (ds : List Device) → AreWhole plans → AreMade (wanted_of plans) ds → AllInPart plans ds ds
unfolding AllInPart wanted_of AreWhole
none-of-all [] ds whole made = (made-none ds made, made-none ds made)
none-of-all (plan ∷ plans) ds whole made =
    let (front, back) = made-split (map (wanted_by plan) (media_names plan)) (wanted_of plans) ds made in
    let n = length (map (wanted_by plan) (media_names plan)) in (
      take n ds,
      take n ds,
      drop n ds,
      drop n ds,
      record { taken = sym (take-append-drop n ds); back = sym (take-append-drop n ds) },
      fresh-some plan (take n ds) whole.0 (made-count (map (wanted_by plan) (media_names plan)) (take n ds) front ∙ count-named plan) (made-of plan (media_names plan) (take n ds) front),
      none-of-all plans (drop n ds) whole.1 back,
    )

-- before the first disk
pub stops-first : (plans : List DiskPlan) (ds : List Device) → AreWhole plans → AreMade (wanted_of plans) ds → RunsStop plans ds ds
unfolding RanSomeOfAll
stops-first plans ds whole made = record { ran = []; left = plans; are = refl; some = λ none. refl; media = none-of-all plans ds whole made }

-- one more disk
pub goes-next : (plans ran left rest : List DiskPlan) (plan : DiskPlan) (before media media' done own own' : List Device) (runs : List Run) (run : Run) → DisksGoOn plans ran left before media done runs → left ≡ plan ∷ rest → media ≡ own ++ media'
    → RanDisk plan own own' run → DisksGoOn plans (ran ++ plan ∷ []) rest before media' (done ++ own') (runs ++ run ∷ [])
unfolding RanAll RanSomeOfAll
goes-next plans ran left rest plan before media media' done own own' runs run goes next cut disk = record {
  are = goes.are ∙ (ap (λ l. ran ++ l) next ∙ sym (append_assoc ran (plan ∷ []) rest));
  all = λ after more all.
      let whole : RanAll (plan ∷ rest) media (own' ++ after) (run ∷ more) = (own, own', media', after, record { taken = cut; back = refl }, disk, all) in
      subst (λ l. RanAll plans before l ((runs ++ run ∷ []) ++ more)) (sym (append_assoc done own' after))
      (subst (λ r. RanAll plans before (done ++ (own' ++ after)) r) (sym (append_assoc runs (run ∷ []) more))
      (goes.all (own' ++ after) (run ∷ more) (subst (λ l. RanAll l media (own' ++ after) (run ∷ more)) (sym next) whole)));
  some = λ more last after some.
      let whole : RanSomeOfAll (plan ∷ more) last media (own' ++ after) = (own, own', media', after, record { taken = cut; back = refl }, (run, disk), some) in
      subst (λ l. RanSomeOfAll ((ran ++ plan ∷ []) ++ more) last before l) (sym (append_assoc done own' after))
      (subst (λ l. RanSomeOfAll l last before (done ++ (own' ++ after))) (sym (append_assoc ran (plan ∷ []) more))
      (goes.some (plan ∷ more) last (own' ++ after) whole));
}

-- the disks that are left stop
stops-so : (plans ran left : List DiskPlan) (before media done after : List Device) (runs : List Run) → DisksGoOn plans ran left before media done runs → (left ≡ [] → ⊥) → AllInPart left media after → RunsStop plans before (done ++ after)
unfolding RanSomeOfAll
stops-so plans ran left before media done after runs goes some part = record {
  ran = ran;
  left = left;
  are = goes.are;
  some = λ none. absurd (some none);
  media = subst (λ l. RanSomeOfAll l left before (done ++ after)) (append-nil ran) (goes.some [] left after part);
}

no-nil : {X : Type 0} (x : X) (xs : List X) → x ∷ xs ≡ [] → ⊥
no-nil x xs is = cc

-- before the next one
pub stops-here : (plans ran left rest : List DiskPlan) (plan : DiskPlan) (before media done : List Device) (runs : List Run) → DisksGoOn plans ran left before media done runs → left ≡ plan ∷ rest → AreWhole left → AreMade (wanted_of left) media → RunsStop plans before (done ++ media)
stops-here plans ran left rest plan before media done runs goes next all made =
    stops-so plans ran left before media done media runs goes (λ none. no-nil plan rest (sym next ∙ none)) (none-of-all left media all made)

-- or this disk ran in part, and those behind it did not
pub stops-next : (plans ran left rest : List DiskPlan) (plan : DiskPlan) (before media media' done own own' : List Device) (runs : List Run) → DisksGoOn plans ran left before media done runs → left ≡ plan ∷ rest → media ≡ own ++ media'
    → RanSome plan own own' → AreWhole rest → AreMade (wanted_of rest) media' → RunsStop plans before ((done ++ own') ++ media')
unfolding AllInPart
stops-next plans ran left rest plan before media media' done own own' runs goes next cut some all made =
    let whole : AllInPart (plan ∷ rest) media (own' ++ media') = (own, own', media', media', record { taken = cut; back = refl }, some, none-of-all rest media' all made) in
    subst (λ l. RunsStop plans before l) (sym (append_assoc done own' media'))
    (stops-so plans ran left before media done (own' ++ media') runs goes (λ none. no-nil plan rest (sym next ∙ none)) (subst (λ l. AllInPart l media (own' ++ media')) (sym next) whole))

-- after the last disk
pub last-made : (left : List DiskPlan) (ds : List Device) → left ≡ [] → AreMade (wanted_of left) ds → ds ≡ []
unfolding wanted_of
last-made left ds none made = made-none ds (subst (λ (l : List DiskPlan). AreMade (wanted_of l) ds) none made)

pub goes-last : (plans ran left : List DiskPlan) (before media done : List Device) (runs : List Run) → DisksGoOn plans ran left before media done runs → left ≡ [] → media ≡ [] → RanAll plans before done runs
unfolding RanAll
goes-last plans ran left before media done runs goes none empty =
    let all : RanAll left media [] [] = subst (λ l. RanAll l media [] []) (sym none) (empty, refl, refl) in
    subst (λ l. RanAll plans before l runs) (append-nil done) (subst (λ r. RanAll plans before (done ++ []) r) (append-nil runs) (goes.all [] [] all))

-- a disk of a script at a place
pub disk-next : (plans : List DiskPlan) (i : ℕ) (plan : DiskPlan) → AreDisks plans → i < length plans → plan ≡ get_or plans i plan → IsDiskPlan plan
unfolding AreDisks
disk-next [] i plan are inside is = absurd (omega (arith, inside))
disk-next (p ∷ plans) zero plan are inside is = subst IsDiskPlan (sym is) are.0
disk-next (p ∷ plans) (suc i) plan are inside is = disk-next plans i plan are.1 (omega (arith, inside)) is

-- media that are cut off the front
module _ {M : Type 0} (device : M → Device) (media own rest : List M) (n : ℕ) (front : own ≡ take n media) (back : rest ≡ drop n media) where
  pub cut-of : map device media ≡ map device own ++ map device rest
  cut-of = ap (map device) (sym (take-append-drop n media) ∙ (ap (λ l. l ++ drop n media) (sym front) ∙ ap (λ l. own ++ l) (sym back))) ∙ map-append device own rest

  pub own-of : map device own ≡ take n (map device media)
  own-of = ap (map device) front ∙ sym (take-map device n media)

  pub rest-of : map device rest ≡ drop n (map device media)
  rest-of = ap (map device) back ∙ sym (drop-map device n media)

  pub cut-count : length media ≡ length own + length rest
  cut-count = omega (arith, ap length front, ap length back, length-take n media, length-drop n media)
