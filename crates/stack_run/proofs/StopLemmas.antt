-- Where a run stops, and what it leaves of the images.
use Rattle.std.proofs.Common.{◌≡◌, ◌≢◌, ℕ, inl, inr, Bool, true, false, if◌then◌else◌, List, [], ◌∷◌, ◌++◌, length, take, Result, Ok, Err, refl, sym, ◌∙◌, ap, subst, arith}
use Rattle.std.specs.List.{AllByRecursion}
use Rattle.std.proofs.Math.Seq.{take-append_seam}
use Rattle.std.proofs.lemmas.Bool.{false≢true}
use Rattle.medium.specs.Counts.{capped_sum, Rose}
use Rattle.medium.specs.Device.{Device}
use Rattle.image_store.specs.Place.{Image, IsFree, IsTaken}
use Rattle.script_text.specs.declared.language.plans.DiskPlan.{DiskPlan}
use Rattle.script_text.specs.Fitting.{images_of}
use Rattle.stack_run.specs.declared.desk_run.Run.{Run}
use Rattle.stack_run.specs.declared.refusal.NotRun.{NotRun}
use Rattle.stack_run.specs.declared.wanted.Wanted.{Wanted}
use Rattle.history.specs.Setup.{Opening}
use Rattle.std.proofs.lemmas.List.{length-map}
use Rattle.stack_run.specs.Media.{media_names, OpenEach, wanted_of, MayHaveBlocks, Stayed, IsAsItWas, IsBackOrLost, IsBackOrGone, IsUnmade, ChangesAmong}
use Rattle.stack_run.specs.Chains.{TakesImage, Puts, PutsBack, PutsOr, SpentAmong, Chain, HaveOtherNames, AreTaken, AreMade, TakingStops, PuttingStops, PutsAround, PutEnds, FailsToTake}
use Rattle.stack_run.specs.Runs.{RanAll, RunsStop}
use Rattle.stack_run.specs.Serving.{IsFirstAt, NotTaken, NotTakenSpent, MemoryLeaves}
use Rattle.stack_run.specs.Stages.{HasRunAs, AllRan, ImageStops, RunStops}
use Rattle.stack_run.specs.Reporting.{AreReportable}
use Rattle.stack_run.proofs.ChainLemmas.{Call, Names, IsNoneOf, Points, chain-both, chain-map, chain-others, chain-length, chain-points, points-same, refl-all, all-map, apart-front, apart-back, back-none, front-none, all-front, all-back}
use Rattle.stack_run.proofs.HandedLemmas.{as-it-was, is-lost, lost-place, taken-has}
use Rattle.stack_run.proofs.StageLemmas.{all-ran-so, all-ran-lost, all-ran-gone, some-ran-so, by-name}
use Rattle.stack_run.proofs.WantedLemmas.{none-wanted}

-- an image that was not touched
unchanged : (old new : Image) → new ≡ old → IsAsItWas Stayed old new
unchanged old new same = record { place = ap (λ (i : Image). i.place) same; worn = ap (λ (i : Image). capped_sum i.worn 0) same; count = ap (λ (i : Image). i.faults) same }

-- an image that was taken, and put back with nothing done
back-gone : (s : Bool) (w : Wanted) (d : Device) (old mid new : Image) → TakesImage w d old mid → PutsOr s w d mid new → IsBackOrGone old new
back-gone s w d old mid new takes puts = by puts.result puts.puts
  where
    by : (result : Result (Unit {0}) NotRun) → Puts result d mid new → IsBackOrGone old new
    by (Ok tt) put = inl (inl (as-it-was old mid new w.size w.cached d takes.taking takes.worn Stayed put (put.cause.quiet ∙ takes.quiet)))
    by (Err NotRun.Image) put = inl (inr (is-lost old mid new w.size w.cached d takes.taking takes.worn Rose NotRun.Image put (rw takes.quiet at put.cause.failed refl)))
    by (Err NotRun.Memory) put = inr (is-lost old mid new w.size w.cached d takes.taking takes.worn Stayed NotRun.Memory put (put.cause.quiet (λ same. cc) ∙ takes.quiet))

back-lost : (w : Wanted) (d : Device) (old mid new : Image) → TakesImage w d old mid → PutsOr false w d mid new → IsBackOrLost old new
back-lost w d old mid new takes puts = by puts.result puts.puts puts.told
  where
    by : (result : Result (Unit {0}) NotRun) → Puts result d mid new → (result ≡ Err NotRun.Memory → false ≡ true) → IsBackOrLost old new
    by (Ok tt) put told = inl (as-it-was old mid new w.size w.cached d takes.taking takes.worn Stayed put (put.cause.quiet ∙ takes.quiet))
    by (Err NotRun.Image) put told = inr (is-lost old mid new w.size w.cached d takes.taking takes.worn Rose NotRun.Image put (rw takes.quiet at put.cause.failed refl))
    by (Err NotRun.Memory) put told = absurd (false≢true (told refl))

-- so each of a list
both-points : (R Q : Call) (P : Image → Image → Type 0) → ((w : Wanted) (d : Device) (old mid new : Image) → R w d old mid → Q w d mid new → P old new)
    → (ws : List Wanted) (ds : List Device) (at mid at' : Names) → Points R ws ds at mid → Points Q ws ds mid at' → AllByRecursion (λ w. P (at w.image) (at' w.image)) ws
unfolding Points
both-points R Q P each [] ds at mid at' first last = tt
both-points R Q P each (w ∷ ws) [] at mid at' first last = absurd first
both-points R Q P each (w ∷ ws) (d ∷ ds) at mid at' first last = (each w d _ _ _ first.0 last.0, both-points R Q P each ws ds at mid at' first.1 last.1)

has-points : (ws : List Wanted) (ds : List Device) (at mid : Names) → Points TakesImage ws ds at mid → AllByRecursion (λ w. MayHaveBlocks w (at w.image).place) ws
unfolding Points
has-points [] ds at mid points = tt
has-points (w ∷ ws) [] at mid points = absurd points
has-points (w ∷ ws) (d ∷ ds) at mid points = (taken-has _ _ w d points.0.taking points.0.whole, has-points ws ds at mid points.1)

free-points : (s : Bool) (ws : List Wanted) (ds : List Device) (at at' : Names) → Points (PutsOr s) ws ds at at' → AllByRecursion (λ w. IsFree (at' w.image).place) ws
unfolding Points
free-points s [] ds at at' points = tt
free-points s (w ∷ ws) [] at at' points = absurd points
free-points s (w ∷ ws) (d ∷ ds) at at' points = (points.0.puts.free, free-points s ws ds at at' points.1)

taken-points : (ws : List Wanted) (ds : List Device) (at mid : Names) → Points TakesImage ws ds at mid → AllByRecursion (λ w. IsTaken (mid w.image).place) ws
unfolding Points
taken-points [] ds at mid points = tt
taken-points (w ∷ ws) [] at mid points = absurd points
taken-points (w ∷ ws) (d ∷ ds) at mid points = (points.0.taking.taken, taken-points ws ds at mid points.1)

some-taken : (ws : List Wanted) (ds : List Device) (at mid : Names) → Points TakesImage ws ds at mid → AllByRecursion (λ w. (d : Device) × TakesImage w d (at w.image) (mid w.image)) ws
unfolding Points
some-taken [] ds at mid points = tt
some-taken (w ∷ ws) [] at mid points = absurd points
some-taken (w ∷ ws) (d ∷ ds) at mid points = ((d, points.0), some-taken ws ds at mid points.1)

-- each is a fresh medium as it was wanted
made-points : (ws : List Wanted) (ds : List Device) (at mid : Names) → Points TakesImage ws ds at mid → AreMade ws ds
unfolding Points AreMade
made-points [] [] at mid points = tt
made-points [] (d ∷ ds) at mid points = absurd points
made-points (w ∷ ws) [] at mid points = absurd points
made-points (w ∷ ws) (d ∷ ds) at mid points = (record { fresh = points.0.taking.fresh; size = points.0.taking.size; cached = points.0.taking.cached; whole = points.0.whole }, made-points ws ds at mid points.1)

pub are-made : (ws : List Wanted) (ds : List Device) (at mid : Names) → HaveOtherNames ws → Chain TakesImage ws ds at mid → AreMade ws ds
are-made ws ds at mid apart chain = made-points ws ds at mid (chain-points TakesImage ws ds at mid apart chain)

-- the images that were taken are so
pub are-taken : (ws : List Wanted) (ds : List Device) (at mid : Names) → HaveOtherNames ws → Chain TakesImage ws ds at mid → AreTaken ws mid
unfolding AreTaken
are-taken ws ds at mid apart chain = taken-points ws ds at mid (chain-points TakesImage ws ds at mid apart chain)

-- all names are free again, and all others are as they were
module _ (s : Bool) (ws : List Wanted) (ds es : List Device) (at mid at' : Names) (apart : HaveOtherNames ws) (takes : Chain TakesImage ws ds at mid) (puts : Chain (PutsOr s) ws es mid at') where
  pub others-so : (name : List ℕ) → IsNoneOf name ws → at' name ≡ at name
  others-so name none = chain-others (PutsOr s) ws es mid at' puts name none ∙ chain-others TakesImage ws ds at mid takes name none

  pub free-so : ((name : List ℕ) → IsFree (at name).place) → (name : List ℕ) → IsFree (at' name).place
  free-so free = by-name (λ name. IsFree (at' name).place) ws (λ name none. subst (λ (i : Image). IsFree i.place) (sym (others-so name none)) (free name)) (free-points s ws es mid at' (chain-points (PutsOr s) ws es mid at' apart puts))

pub changes-among : (plans : List DiskPlan) (ws : List Wanted) (at at' : Names) → ws ≡ wanted_of plans → ((name : List ℕ) → IsNoneOf name ws → at' name ≡ at name) → ChangesAmong (images_of plans) at at'
changes-among plans ws at at' same others other none = others other (subst (λ l. IsNoneOf other l) (sym same) (none-wanted other plans none))

-- where taking stopped, and what was taken is put back
module _ (plans : List DiskPlan) (ws : List Wanted) (ds : List Device) (place : ℕ) (fault : NotRun) (at mid : Names) (same : ws ≡ wanted_of plans) (apart : HaveOtherNames ws) (stops : TakingStops ws ds place fault at mid) where
  apart-is : HaveOtherNames (stops.before ++ stops.want ∷ stops.after)
  apart-is = subst HaveOtherNames stops.is apart

  pub before-is : take place ws ≡ stops.before
  before-is = ap (λ l. take place l) stops.is ∙ (ap (λ n. take n (stops.before ++ stops.want ∷ stops.after)) stops.placed ∙ take-append_seam stops.before (stops.want ∷ stops.after))

  pub before-count : length ds ≡ length stops.before
  before-count = chain-length TakesImage stops.before ds at stops.mid stops.taken

  pub before-apart : HaveOtherNames stops.before
  before-apart = apart-front stops.before (stops.want ∷ stops.after) apart-is

  want-none : IsNoneOf stops.want.image stops.before
  want-none = back-none stops.before stops.want stops.after apart-is

  takes : Points TakesImage stops.before ds at stops.mid
  takes = chain-points TakesImage stops.before ds at stops.mid before-apart stops.taken

  -- the failed one changes none of them
  before-want : AllByRecursion (λ w. w.image ≢ stops.want.image) stops.before
  before-want = all-map (λ w. IsNoneOf w.image (stops.want ∷ stops.after)) (λ w. w.image ≢ stops.want.image) (λ w none. none.0) stops.before (front-none stops.before (stops.want ∷ stops.after) apart-is)

  mid-same : (us : List Wanted) → AllByRecursion (λ w. w.image ≢ stops.want.image) us → AllByRecursion (λ w. mid w.image ≡ stops.mid w.image) us
  mid-same [] none = tt
  mid-same (u ∷ us) none = (stops.only u.image none.0, mid-same us none.1)

  takes-mid : Points TakesImage stops.before ds at mid
  takes-mid = points-same TakesImage stops.before ds at stops.mid at mid (refl-all stops.before at) (mid-same stops.before before-want) takes

  pub taking-taken : AreTaken stops.before mid
  unfolding AreTaken
  taking-taken = taken-points stops.before ds at mid takes-mid

  module _ (at' : Names) (s : Bool) (puts : Chain (PutsOr s) stops.before ds mid at') where
    puts-points : Points (PutsOr s) stops.before ds mid at'
    puts-points = chain-points (PutsOr s) stops.before ds mid at' before-apart puts

    pub other-same : (name : List ℕ) → name ≢ stops.want.image → IsNoneOf name stops.before → at' name ≡ at name
    other-same name differs none = chain-others (PutsOr s) stops.before ds mid at' puts name none ∙ (stops.only name differs ∙ chain-others TakesImage stops.before ds at stops.mid stops.taken name none)

    want-same : at' stops.want.image ≡ mid stops.want.image
    want-same = chain-others (PutsOr s) stops.before ds mid at' puts stops.want.image want-none

    want-first : stops.mid stops.want.image ≡ at stops.want.image
    want-first = chain-others TakesImage stops.before ds at stops.mid stops.taken stops.want.image want-none

    want-fails : FailsToTake fault stops.want (at stops.want.image) (at' stops.want.image)
    want-fails = rw (want-same, sym want-first) stops.fails

    pub taking-others : (name : List ℕ) → IsNoneOf name ws → at' name ≡ at name
    taking-others name none =
        let all = subst (λ l. IsNoneOf name l) stops.is none in
        other-same name (all-back (λ w. name ≢ w.image) stops.before (stops.want ∷ stops.after) all).0 (all-front (λ w. name ≢ w.image) stops.before (stops.want ∷ stops.after) all)

    pub taking-free : ((name : List ℕ) → IsFree (at name).place) → (name : List ℕ) → IsFree (at' name).place
    taking-free free =
        by-name (λ name. IsFree (at' name).place) (stops.want ∷ stops.before)
        (λ name none. subst (λ (i : Image). IsFree i.place) (sym (other-same name none.0 none.1)) (free name))
        (subst (λ (i : Image). IsFree i.place) (sym want-same) stops.free, free-points s stops.before ds mid at' puts-points)

    -- memory ran out
    gone-all : IsBackOrGone (at stops.want.image) (at' stops.want.image) → (name : List ℕ) → IsBackOrGone (at name) (at' name)
    gone-all want =
        by-name (λ name. IsBackOrGone (at name) (at' name)) (stops.want ∷ stops.before)
        (λ name none. inl (inl (unchanged (at name) (at' name) (other-same name none.0 none.1))))
        (want, both-points TakesImage (PutsOr s) IsBackOrGone (back-gone s) stops.before ds at mid at' takes-mid puts-points)

    first-is : IsFirstAt (λ e. MayHaveBlocks e (at e.image).place) (wanted_of plans) stops.want
    first-is = record { before = stops.before; after = stops.after; is = sym same ∙ stops.is; first = has-points stops.before ds at stops.mid takes }

    not-taken : s ≡ false → IsUnmade stops.want (at stops.want.image) (at' stops.want.image) → NotTaken plans at at' stops.want.image
    not-taken whole unmade = record {
      want = stops.want;
      named = refl;
      first = first-is;
      unmade = unmade;
      back = by-name (λ name. name ≢ stops.want.image → IsBackOrLost (at name) (at' name)) stops.before
          (λ name none differs. inl (unchanged (at name) (at' name) (other-same name differs none)))
          (all-map (λ w. IsBackOrLost (at w.image) (at' w.image)) (λ w. w.image ≢ stops.want.image → IsBackOrLost (at w.image) (at' w.image)) (λ w back differs. back) stops.before
          (both-points TakesImage (PutsOr false) IsBackOrLost back-lost stops.before ds at mid at' takes-mid (subst (λ b. Points (PutsOr b) stops.before ds mid at') whole puts-points)));
      others = changes-among plans ws at at' same taking-others;
    }

    -- or another one was lost for want of memory
    not-taken-spent : SpentAmong stops.before mid at' → IsUnmade stops.want (at stops.want.image) (at' stops.want.image) → NotTakenSpent at at'
    not-taken-spent spent unmade =
        let taken : AllByRecursion (λ w. (d : Device) × TakesImage w d (at w.image) (mid w.image)) stops.before = some-taken stops.before ds at mid takes-mid in
        let (d, took) = (all-back (λ w. (d : Device) × TakesImage w d (at w.image) (mid w.image)) spent.before (spent.want ∷ spent.after) (subst (AllByRecursion (λ w. (d : Device) × TakesImage w d (at w.image) (mid w.image))) spent.is taken)).0 in
        record {
          want = stops.want;
          unmade = unmade;
          back = by-name (λ name. name ≢ stops.want.image → IsBackOrGone (at name) (at' name)) stops.before
              (λ name none differs. inl (inl (unchanged (at name) (at' name) (other-same name differs none))))
              (all-map (λ w. IsBackOrGone (at w.image) (at' w.image)) (λ w. w.image ≢ stops.want.image → IsBackOrGone (at w.image) (at' w.image)) (λ w back differs. back) stops.before
              (both-points TakesImage (PutsOr s) IsBackOrGone (back-gone s) stops.before ds at mid at' takes-mid puts-points));
          spent = spent.want.image;
          lost = lost-place _ _ _ spent.want.size spent.want.cached d spent.d.kept NotRun.Memory took.taking spent.puts.place;
          quiet = spent.puts.cause.quiet (λ is. cc) ∙ took.quiet;
        }

-- the run stops so
pub taking-ends : (plans : List DiskPlan) (ws : List Wanted) (ds : List Device) (place : ℕ) (fault : NotRun) (at mid at' : Names) → ws ≡ wanted_of plans → HaveOtherNames ws → (stops : TakingStops ws ds place fault at mid) → (s : Bool) → Chain (PutsOr s) stops.before ds mid at'
    → (s ≡ true → SpentAmong stops.before mid at') → RunStops (if s then NotRun.Memory else fault) plans ws place at at'
taking-ends plans ws ds place NotRun.Image at mid at' same apart stops false puts spent = record {
  before = stops.before;
  want = stops.want;
  after = stops.after;
  is = stops.is;
  placed = stops.placed;
  fails = inl (not-taken plans ws ds place NotRun.Image at mid same apart stops at' false puts refl (want-fails plans ws ds place NotRun.Image at mid same apart stops at' false puts));
}
taking-ends plans ws ds place NotRun.Memory at mid at' same apart stops false puts spent = record {
  images = inl (gone-all plans ws ds place NotRun.Memory at mid same apart stops at' false puts (want-fails plans ws ds place NotRun.Memory at mid same apart stops at' false puts));
  others = changes-among plans ws at at' same (taking-others plans ws ds place NotRun.Memory at mid same apart stops at' false puts);
}
taking-ends plans ws ds place NotRun.Image at mid at' same apart stops true puts spent = record {
  images = inr (inl (not-taken-spent plans ws ds place NotRun.Image at mid same apart stops at' true puts (spent refl) (want-fails plans ws ds place NotRun.Image at mid same apart stops at' true puts)));
  others = changes-among plans ws at at' same (taking-others plans ws ds place NotRun.Image at mid same apart stops at' true puts);
}
taking-ends plans ws ds place NotRun.Memory at mid at' same apart stops true puts spent = record {
  images = inl (gone-all plans ws ds place NotRun.Memory at mid same apart stops at' true puts (want-fails plans ws ds place NotRun.Memory at mid same apart stops at' true puts));
  others = changes-among plans ws at at' same (taking-others plans ws ds place NotRun.Memory at mid same apart stops at' true puts);
}

-- where putting back stopped
module _ (plans : List DiskPlan) (ws : List Wanted) (before after : List Device) (place : ℕ) (at mid at' : Names) (same : ws ≡ wanted_of plans) (apart : HaveOtherNames ws) (took : Chain TakesImage ws before at mid) where
  takes-all : Points TakesImage (wanted_of plans) before at mid
  takes-all = subst (λ l. Points TakesImage l before at mid) same (chain-points TakesImage ws before at mid apart took)

  quiet-points : (us : List Wanted) (ds : List Device) (m m' : Names) → Points PutsBack us ds m m' → AllByRecursion (λ w. (m' w.image).faults ≡ (m w.image).faults) us
  unfolding Points
  quiet-points [] ds m m' points = tt
  quiet-points (u ∷ us) [] m m' points = absurd points
  quiet-points (u ∷ us) (d ∷ ds) m m' points = (points.0.cause.quiet, quiet-points us ds m m' points.1)

  takes-quiet : (us : List Wanted) (ds : List Device) (m m' : Names) → Points TakesImage us ds m m' → AllByRecursion (λ w. (m' w.image).faults ≡ (m w.image).faults) us
  unfolding Points
  takes-quiet [] ds m m' points = tt
  takes-quiet (u ∷ us) [] m m' points = absurd points
  takes-quiet (u ∷ us) (d ∷ ds) m m' points = (points.0.quiet, takes-quiet us ds m m' points.1)

  puts-all : (s : Bool) → Chain (PutsOr s) ws after mid at' → Points (PutsOr s) (wanted_of plans) after mid at'
  puts-all s puts = subst (λ l. Points (PutsOr s) l after mid at') same (chain-points (PutsOr s) ws after mid at' apart puts)

  -- the lines stop short
  pub memory-after : (s : Bool) → RunsStop plans before after → Chain (PutsOr s) ws after mid at' → MemoryLeaves plans at at'
  memory-after s stop puts =
      let (whole, part) = some-ran-so stop.ran stop.left before after s at mid at' (subst (λ (l : List DiskPlan). Points TakesImage (wanted_of l) before at mid) stop.are takes-all) stop.media (subst (λ (l : List DiskPlan). Points (PutsOr s) (wanted_of l) after mid at') stop.are (puts-all s puts)) in
      record {
        images = inr (inr (inl (record { ran = stop.ran; left = stop.left; are = stop.are; some = stop.some; whole = whole; part = part })));
        others = changes-among plans ws at at' same (others-so s ws before after at mid at' apart took puts);
      }

  -- memory ran out in putting an image back
  pub spent-after : (runs : List Run) → RanAll plans before after runs → Chain (PutsOr true) ws after mid at' → SpentAmong ws mid at' → MemoryLeaves plans at at'
  spent-after runs ran puts spent =
      let taken : AllByRecursion (λ w. (d : Device) × TakesImage w d (at w.image) (mid w.image)) ws = some-taken ws before at mid (chain-points TakesImage ws before at mid apart took) in
      let (d, here) = (all-back (λ w. (d : Device) × TakesImage w d (at w.image) (mid w.image)) spent.before (spent.want ∷ spent.after) (subst (AllByRecursion (λ w. (d : Device) × TakesImage w d (at w.image) (mid w.image))) spent.is taken)).0 in
      record {
        images = inr (inr (inr (record {
          ran = all-ran-gone plans before after runs true at mid at' takes-all ran (puts-all true puts);
          spent = spent.want.image;
          lost = lost-place _ _ _ spent.want.size spent.want.cached d spent.d.kept NotRun.Memory here.taking spent.puts.place;
          quiet = spent.puts.cause.quiet (λ is. cc) ∙ here.quiet;
        })));
        others = changes-among plans ws at at' same (others-so true ws before after at mid at' apart took puts);
      }

  module _ (around : PutsAround ws after place mid at') where
    abbrev stops : PuttingStops ws after around.left place NotRun.Image mid around.mid
    stops = around.stops

    -- all calls
    pub whole : Chain (PutsOr false) ws after mid at'
    unfolding Chain
    whole =
        let first = chain-map PutsBack (PutsOr false) (λ v d old new puts. record { result = Ok tt; puts = puts; told = λ is. cc }) stops.before stops.first mid stops.mid stops.put in
        subst (λ l. Chain (PutsOr false) ws l mid at') (sym stops.are)
        (subst (λ l. Chain (PutsOr false) l (stops.first ++ stops.d ∷ around.left) mid at') (sym stops.is)
        (chain-both (PutsOr false) stops.before (stops.want ∷ stops.after) stops.first (stops.d ∷ around.left) mid stops.mid at' first (around.mid, stops.only, record { result = Err NotRun.Image; puts = stops.fails; told = λ is. cc }, around.rest)))

    apart-here : HaveOtherNames (stops.before ++ stops.want ∷ stops.after)
    apart-here = subst HaveOtherNames stops.is apart

    want-before : IsNoneOf stops.want.image stops.before
    want-before = back-none stops.before stops.want stops.after apart-here

    want-after : IsNoneOf stops.want.image stops.after
    unfolding HaveOtherNames
    want-after = let rest : HaveOtherNames (stops.want ∷ stops.after) = apart-back stops.before (stops.want ∷ stops.after) apart-here in rest.0

    -- the failed name
    cause-is : Rose (at stops.want.image).faults (at' stops.want.image).faults
    cause-is =
        let last : at' stops.want.image ≡ around.mid stops.want.image = chain-others (PutsOr false) stops.after around.left around.mid at' around.rest stops.want.image want-after in
        let first : stops.mid stops.want.image ≡ mid stops.want.image = chain-others PutsBack stops.before stops.first mid stops.mid stops.put stops.want.image want-before in
        let quiet : (mid stops.want.image).faults ≡ (at stops.want.image).faults = (all-back (λ w. (mid w.image).faults ≡ (at w.image).faults) stops.before (stops.want ∷ stops.after) (subst (AllByRecursion (λ w. (mid w.image).faults ≡ (at w.image).faults)) stops.is (takes-quiet ws before at mid (chain-points TakesImage ws before at mid apart took)))).0 in
        let rose : Rose (stops.mid stops.want.image).faults (around.mid stops.want.image).faults = stops.fails.cause.failed refl in
        rw (last, sym quiet, sym first) rose

    -- those before it were put back
    first-quiet : AllByRecursion (λ e. (at' e.image).faults ≡ (at e.image).faults) stops.before
    first-quiet =
        let none = front-none stops.before (stops.want ∷ stops.after) apart-here in
        let puts = quiet-points stops.before stops.first mid stops.mid (chain-points PutsBack stops.before stops.first mid stops.mid (apart-front stops.before (stops.want ∷ stops.after) apart-here) stops.put) in
        let quiet = all-front (λ w. (mid w.image).faults ≡ (at w.image).faults) stops.before (stops.want ∷ stops.after) (subst (AllByRecursion (λ w. (mid w.image).faults ≡ (at w.image).faults)) stops.is (takes-quiet ws before at mid (chain-points TakesImage ws before at mid apart took))) in
        go stops.before none puts quiet
      where
        go : (us : List Wanted) → AllByRecursion (λ w. IsNoneOf w.image (stops.want ∷ stops.after)) us → AllByRecursion (λ w. (stops.mid w.image).faults ≡ (mid w.image).faults) us → AllByRecursion (λ w. (mid w.image).faults ≡ (at w.image).faults) us → AllByRecursion (λ e. (at' e.image).faults ≡ (at e.image).faults) us
        go [] none puts took2 = tt
        go (u ∷ us) none puts took2 =
            let last : at' u.image ≡ around.mid u.image = chain-others (PutsOr false) stops.after around.left around.mid at' around.rest u.image none.0.1 in
            let here : around.mid u.image ≡ stops.mid u.image = stops.only u.image none.0.0 in
            (ap (λ (i : Image). i.faults) (last ∙ here) ∙ (puts.0 ∙ took2.0), go us none.1 puts.1 took2.1)

    pub not-put-back : (runs : List Run) → RanAll plans before after runs → ImageStops plans ws place at at'
    not-put-back runs ran = record {
      before = stops.before;
      want = stops.want;
      after = stops.after;
      is = stops.is;
      placed = stops.placed;
      fails = inr (record {
        ran = all-ran-lost plans before after runs at mid at' takes-all ran (subst (λ l. Points (PutsOr false) l after mid at') same (chain-points (PutsOr false) ws after mid at' apart whole));
        want = stops.want;
        named = refl;
        first = record { before = stops.before; after = stops.after; is = sym same ∙ stops.is; first = first-quiet };
        cause = cause-is;
        others = changes-among plans ws at at' same (others-so false ws before after at mid at' apart took whole);
      });
    }

pub putting-ends : (plans : List DiskPlan) (ws : List Wanted) (before after : List Device) (place : ℕ) (fault : NotRun) (at mid at' : Names) (runs : List Run) → ws ≡ wanted_of plans → HaveOtherNames ws → Chain TakesImage ws before at mid → RanAll plans before after runs
    → PutEnds fault ws after place mid at' → RunStops fault plans ws place at at'
putting-ends plans ws before after place NotRun.Image at mid at' runs same apart took ran ends = not-put-back plans ws before after place at mid at' same apart took ends runs ran
putting-ends plans ws before after place NotRun.Memory at mid at' runs same apart took ran ends = spent-after plans ws before after place at mid at' same apart took runs ran ends.0 ends.1

-- the calls that were made, whatever the fault
pub putting-calls : (plans : List DiskPlan) (ws : List Wanted) (before after : List Device) (place : ℕ) (fault : NotRun) (at mid at' : Names) → ws ≡ wanted_of plans → HaveOtherNames ws → Chain TakesImage ws before at mid → PutEnds fault ws after place mid at' → (s : Bool) × Chain (PutsOr s) ws after mid at'
putting-calls plans ws before after place NotRun.Image at mid at' same apart took ends = (false, whole plans ws before after place at mid at' same apart took ends)
putting-calls plans ws before after place NotRun.Memory at mid at' same apart took ends = (true, ends.0)

-- all were put back
pub put-calls : (ws : List Wanted) (ds : List Device) (at at' : Names) → Chain PutsBack ws ds at at' → Chain (PutsOr false) ws ds at at'
put-calls ws ds at at' chain = chain-map PutsBack (PutsOr false) (λ v d old new puts. record { result = Ok tt; puts = puts; told = λ is. cc }) ws ds at at' chain

pub all-put : (plans : List DiskPlan) (ws : List Wanted) (before after : List Device) (runs : List Run) (at mid at' : Names) → ws ≡ wanted_of plans → HaveOtherNames ws → Chain TakesImage ws before at mid → RanAll plans before after runs → Chain PutsBack ws after mid at' → AllRan plans at at' runs
all-put plans ws before after runs at mid at' same apart took ran put =
    all-ran-so plans before after runs at mid at' (subst (λ l. Points TakesImage l before at mid) same (chain-points TakesImage ws before at mid apart took)) ran (subst (λ l. Points PutsBack l after mid at') same (chain-points PutsBack ws after mid at' apart put))

-- where nothing was touched
pub memory-none : (plans : List DiskPlan) (at : Names) → MemoryLeaves plans at at
memory-none plans at = record { images = inl (λ name. inl (inl (unchanged (at name) (at name) refl))); others = λ other none. refl }

-- the runs of all disks can be reported
opens-count : (size : ℕ) (at : Names) (names : List (List ℕ)) (media : List Opening) → OpenEach size at names media → length media ≡ length names
opens-count size at [] [] opened = refl
opens-count size at [] (o ∷ media) opened = absurd opened
opens-count size at (n ∷ names) [] opened = absurd opened
opens-count size at (n ∷ names) (o ∷ media) opened = omega (arith, opens-count size at names media opened.1)

pub ran-reportable : (plans : List DiskPlan) (runs : List Run) (at at' : Names) → AllRan plans at at' runs → AreReportable plans runs
unfolding AllRan AreReportable
ran-reportable [] [] at at' ran = tt
ran-reportable [] (run ∷ runs) at at' ran = absurd ran
ran-reportable (plan ∷ plans) [] at at' ran = absurd ran
ran-reportable (plan ∷ plans) (run ∷ runs) at at' ran =
    let one : HasRunAs plan at at' run = ran.0 in (
      record {
        count = omega (arith, ap length one.blocks, length-map one.setup.media (λ (o : Opening). o.blocks), opens-count plan.size at (media_names plan) one.setup.media one.opened.media);
        fits = one.fits;
      },
      ran-reportable plans runs at at' ran.1,
    )
