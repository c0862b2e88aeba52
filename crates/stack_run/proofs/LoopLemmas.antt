-- Loops that take images or put them back, one call further.
use Rattle.std.proofs.Common.{◌≡◌, ◌≢◌, ℕ, ◌+◌, ◌-◌, ◌<◌, Bool, true, false, ◌||◌, List, [], ◌∷◌, ◌++◌, map, length, take, drop, get_or, slice_index_or, Ok, Err, refl, sym, ◌∙◌, ap, subst, arith, append_assoc, length-append}
use Rattle.std.specs.List.{AllByRecursion, remove}
use Rattle.std.proofs.Math.Seq.{drop-cons, drop-append-add}
use Rattle.std.proofs.lemmas.List.{map-append, take-append-drop, take-map, take_all, length-drop, drop-drop}
use Rattle.medium.specs.Device.{Device}
use Rattle.image_store.specs.Place.{Image, ChangesOnly, IsFree, IsTaken}
use Rattle.stack_run.specs.declared.refusal.NotRun.{NotRun}
use Rattle.stack_run.specs.declared.wanted.Wanted.{Wanted}
use Rattle.stack_run.specs.Media.{LacksBlocks}
use Rattle.stack_run.specs.Chains.{TakesImage, Puts, PutsBack, PutsOr, SpentAmong, Chain, IsWanted, AreWanted, HaveOtherNames, AreFree, AreTaken, TakingStops, PuttingStops, LacksOne, FailsToTake, PutEnds}
use Rattle.stack_run.proofs.ChainLemmas.{Call, Names, IsNoneOf, Points, drop-next, take-next, split-at, length-taken, chain-more, chain-both, chain-map, chain-length, chain-points, chain-others, back-none, stays-all, all-kept, trans-all, behind-none, stay-behind, apart-back, all-back}
use Rattle.stack_run.proofs.HandedLemmas.{taken-has, has-not-lacks}

-- the images that are left differ from the one that is next
pub next-apart : (ws : List Wanted) (i : ℕ) (w : Wanted) → HaveOtherNames ws → i < length ws → w ≡ get_or ws i w → IsNoneOf w.image (drop (i + 1) ws)
unfolding HaveOtherNames
next-apart ws i w apart inside is =
    let rest : HaveOtherNames (w ∷ drop (i + 1) ws) = subst HaveOtherNames (drop-next ws i w inside is) (apart-back (take i ws) (drop i ws) (subst HaveOtherNames (sym (take-append-drop i ws)) apart)) in
    rest.0

-- what holds of the image that is next, and of those behind it
pub next-holds : (P : Wanted → Type 0) (ws : List Wanted) (i : ℕ) (w : Wanted) → i < length ws → w ≡ get_or ws i w → AllByRecursion P (drop i ws) → P w
next-holds P ws i w inside is all = let next : AllByRecursion P (w ∷ drop (i + 1) ws) = subst (AllByRecursion P) (drop-next ws i w inside is) all in next.0

pub rest-holds : (P : Image → Type 0) (ws : List Wanted) (i : ℕ) (w : Wanted) (at at' : Names) → HaveOtherNames ws → i < length ws → w ≡ get_or ws i w → ChangesOnly w.image at at'
    → AllByRecursion (λ v. P (at v.image)) (drop i ws) → AllByRecursion (λ v. P (at' v.image)) (drop (i + 1) ws)
rest-holds P ws i w at at' apart inside is only all =
    let next : AllByRecursion (λ v. P (at v.image)) (w ∷ drop (i + 1) ws) = subst (AllByRecursion (λ v. P (at v.image))) (drop-next ws i w inside is) all in
    all-kept P (drop (i + 1) ws) at at' (stays-all w (drop (i + 1) ws) at at' only (next-apart ws i w apart inside is)) next.1

-- the images that are left are free, and one is taken
pub free-next : (ws : List Wanted) (i : ℕ) (w : Wanted) (at : Names) → i < length ws → w ≡ get_or ws i w → AreFree (drop i ws) at → IsFree (at w.image).place
unfolding AreFree
free-next ws i w at inside is free = next-holds (λ v. IsFree (at v.image).place) ws i w inside is free

pub free-rest : (ws : List Wanted) (i : ℕ) (w : Wanted) (at at' : Names) → HaveOtherNames ws → i < length ws → w ≡ get_or ws i w → ChangesOnly w.image at at' → AreFree (drop i ws) at → AreFree (drop (i + 1) ws) at'
unfolding AreFree
free-rest ws i w at at' apart inside is only free = rest-holds (λ im. IsFree im.place) ws i w at at' apart inside is only free

-- or they are taken, and one is put back
pub taken-next : (ws : List Wanted) (i : ℕ) (w : Wanted) (at : Names) → i < length ws → w ≡ get_or ws i w → AreTaken (drop i ws) at → IsTaken (at w.image).place
unfolding AreTaken
taken-next ws i w at inside is taken = next-holds (λ v. IsTaken (at v.image).place) ws i w inside is taken

pub taken-rest : (ws : List Wanted) (i : ℕ) (w : Wanted) (at at' : Names) → HaveOtherNames ws → i < length ws → w ≡ get_or ws i w → ChangesOnly w.image at at' → AreTaken (drop i ws) at → AreTaken (drop (i + 1) ws) at'
unfolding AreTaken
taken-rest ws i w at at' apart inside is only taken = rest-holds (λ im. IsTaken im.place) ws i w at at' apart inside is only taken

-- as it can be wanted
pub wanted-next : (ws : List Wanted) (i : ℕ) (w : Wanted) → i < length ws → w ≡ get_or ws i w → AreWanted ws → IsWanted w
unfolding AreWanted
wanted-next ws i w inside is all = next-holds IsWanted ws i w inside is (all-back IsWanted (take i ws) (drop i ws) (subst (AllByRecursion IsWanted) (sym (take-append-drop i ws)) all))

-- one more call
pub chain-next : (R : Call) (ws : List Wanted) (i : ℕ) (w : Wanted) (ds ds' : List Device) (d : Device) (at mid at' : Names) → i < length ws → w ≡ get_or ws i w
    → Chain R (take i ws) ds at mid → ChangesOnly w.image mid at' → R w d (mid w.image) (at' w.image) → ds' ≡ ds ++ d ∷ [] → Chain R (take (i + 1) ws) ds' at at'
chain-next R ws i w ds ds' d at mid at' inside is chain only call more =
    rw (take-next ws i w inside is, more) (chain-more R (take i ws) w ds d at mid at' chain only call)

-- a chain of takings meets no image that lacks blocks
points-has : (ws : List Wanted) (ds : List Device) (at at' : Names) → Points TakesImage ws ds at at' → (before : List Wanted) (w : Wanted) (after : List Wanted) → ws ≡ before ++ w ∷ after → LacksBlocks w (at w.image).place → ⊥
unfolding Points
points-has [] ds at at' points [] w after is lacks = cc
points-has [] ds at at' points (v ∷ before) w after is lacks = cc
points-has (u ∷ ws) [] at at' points before w after is lacks = points
points-has (u ∷ ws) (d ∷ ds) at at' points [] w after is lacks =
    let same : u ≡ w = cc in
    has-not-lacks w (at w.image).place (subst (λ (x : Wanted). Rattle.stack_run.specs.Media.MayHaveBlocks x (at x.image).place) same (taken-has _ _ u d points.0.taking points.0.whole)) lacks
points-has (u ∷ ws) (d ∷ ds) at at' points (v ∷ before) w after is lacks =
    let rest : ws ≡ before ++ w ∷ after = cc in
    points-has ws ds at at' points.1 before w after rest lacks

pub all-have : (ws : List Wanted) (ds : List Device) (at at' : Names) → HaveOtherNames ws → Chain TakesImage ws ds at at' → LacksOne ws at → ⊥
all-have ws ds at at' apart chain lacks = points-has ws ds at at' (chain-points TakesImage ws ds at at' apart chain) lacks.before lacks.want lacks.after lacks.is lacks.lacks

-- where taking stops
pub taking-stops : (ws : List Wanted) (ds : List Device) (i : ℕ) (w : Wanted) (fault : NotRun) (at mid at' : Names) → i < length ws → w ≡ get_or ws i w
    → Chain TakesImage (take i ws) ds at mid → ChangesOnly w.image mid at' → FailsToTake fault w (mid w.image) (at' w.image) → IsFree (at' w.image).place → TakingStops ws ds i fault at at'
taking-stops ws ds i w fault at mid at' inside is chain only fails free = record {
  before = take i ws;
  want = w;
  after = drop (i + 1) ws;
  is = split-at ws i w inside is;
  placed = sym (length-taken ws i (omega arith));
  mid = mid;
  taken = chain;
  only = only;
  fails = fails;
  free = free;
}

-- why it could not be taken, by its fault
pub fails-so : (w : Wanted) (old new : Image) (fault : NotRun) → (fault ≡ NotRun.Image → FailsToTake NotRun.Image w old new) → (fault ≡ NotRun.Memory → FailsToTake NotRun.Memory w old new) → FailsToTake fault w old new
fails-so w old new NotRun.Image image memory = image refl
fails-so w old new NotRun.Memory image memory = memory refl

-- the media that are left
pub left-next : {M : Type 0} (media0 media media' : List M) (i : ℕ) → media ≡ drop i media0 → media' ≡ remove media 0 → media' ≡ drop (i + 1) media0
left-next {M} media0 media media' i left removed = removed ∙ (ap (λ l. remove l 0) left ∙ cut media0 i)
  where
    cut : (xs : List M) (i : ℕ) → remove (drop i xs) 0 ≡ drop (i + 1) xs
    cut xs i = one (drop i xs) ∙ drop-drop 1 i xs
      where
        one : (ys : List M) → remove ys 0 ≡ drop 1 ys
        one [] = refl
        one (y ∷ ys) = refl

-- the medium that is next
next-read : {M : Type 0} (media0 media : List M) (i n : ℕ) (m : M) → length media0 ≡ n → i < n → media ≡ drop i media0 → m ≡ slice_index_or media 0 m → m ≡ get_or media0 i m
next-read {M} media0 media i n m all inside left value = value ∙ (ap (λ l. slice_index_or l 0 m) left ∙ get-dropped media0 i m (omega (arith, all, inside)))
  where
    get-dropped : (xs : List M) (i : ℕ) (x : M) → i < length xs → slice_index_or (drop i xs) 0 x ≡ get_or xs i x
    get-dropped xs i x inside = ap (λ l. slice_index_or l 0 x) (drop-cons xs i x inside)

module _ {M : Type 0} (device : M → Device) (ws : List Wanted) (i : ℕ) (w : Wanted) (media0 media : List M) where
  -- one more medium is put back
  pub puts-next : (R : Call) (m : M) (at mid at' : Names) → length media0 ≡ length ws → i < length ws → w ≡ get_or ws i w → media ≡ drop i media0 → m ≡ slice_index_or media 0 m
      → Chain R (take i ws) (take i (map device media0)) at mid → ChangesOnly w.image mid at' → R w (device m) (mid w.image) (at' w.image) → Chain R (take (i + 1) ws) (take (i + 1) (map device media0)) at at'
  puts-next R m at mid at' all inside is left value chain only call =
      let there : m ≡ get_or media0 i m = next-read media0 media i (length ws) m all inside left value in
      let more : take (i + 1) (map device media0) ≡ take i (map device media0) ++ device m ∷ [] = take-map device (i + 1) media0 ∙ (ap (map device) (take-next media0 i m (omega (arith, all, inside)) there) ∙ (map-append device (take i media0) (m ∷ []) ∙ ap (λ l. l ++ device m ∷ []) (sym (take-map device i media0)))) in
      chain-next R ws i w (take i (map device media0)) (take (i + 1) (map device media0)) (device m) at mid at' inside is chain only call more

  -- or cannot be
  pub putting-stops : (media' : List M) (m : M) (fault : NotRun) (at mid at' : Names) → length media0 ≡ length ws → i < length ws → w ≡ get_or ws i w → media ≡ drop i media0 → m ≡ slice_index_or media 0 m → media' ≡ remove media 0
      → Chain PutsBack (take i ws) (take i (map device media0)) at mid → ChangesOnly w.image mid at' → Puts (Err fault) (device m) (mid w.image) (at' w.image) → PuttingStops ws (map device media0) (map device media') i fault at at'
  putting-stops media' m fault at mid at' all inside is left value removed chain only call =
      let there : m ≡ get_or media0 i m = next-read media0 media i (length ws) m all inside left value in
      let short : i < length media0 = omega (arith, all, inside) in
      record {
        before = take i ws;
        want = w;
        after = drop (i + 1) ws;
        is = split-at ws i w inside is;
        placed = sym (length-taken ws i (omega arith));
        first = take i (map device media0);
        d = device m;
        are = ap (map device) (split-at media0 i m short there) ∙ (map-append device (take i media0) (m ∷ drop (i + 1) media0) ∙ (ap (λ l. l ++ device m ∷ map device (drop (i + 1) media0)) (sym (take-map device i media0)) ∙ ap (λ l. take i (map device media0) ++ device m ∷ map device l) (sym (left-next media0 media media' i left removed))));
        mid = mid;
        put = chain;
        only = only;
        fails = call;
      }

-- memory ran out here too, or not
pub spent-more : (s s' : Bool) (w : Wanted) (d : Device) (old new : Image) → (s ≡ true → s' ≡ true) → PutsOr s w d old new → PutsOr s' w d old new
spent-more s s' w d old new more puts = record { result = puts.result; puts = puts.puts; told = λ is. more (puts.told is) }

or-left : (a b : Bool) → a ≡ true → (a || b) ≡ true
or-left true b is = refl
or-left false b is = absurd (cc)

or-right : (a b : Bool) → b ≡ true → (a || b) ≡ true
or-right true b is = refl
or-right false b is = is

-- one more of those that are put back whatever becomes of each
module _ {M : Type 0} (device : M → Device) (ws : List Wanted) (i : ℕ) (w : Wanted) (media0 media : List M) where
  pub rest-next : (s one : Bool) (m : M) (at mid at' : Names) → length media0 ≡ length ws → i < length ws → w ≡ get_or ws i w → media ≡ drop i media0 → m ≡ slice_index_or media 0 m
      → Chain (PutsOr s) (take i ws) (take i (map device media0)) at mid → ChangesOnly w.image mid at' → PutsOr one w (device m) (mid w.image) (at' w.image) → Chain (PutsOr (s || one)) (take (i + 1) ws) (take (i + 1) (map device media0)) at at'
  rest-next s one m at mid at' all inside is left value chain only call =
      puts-next device ws i w media0 media (PutsOr (s || one)) m at mid at' all inside is left value
      (chain-map (PutsOr s) (PutsOr (s || one)) (λ v d old new puts. spent-more s (s || one) v d old new (or-left s one) puts) (take i ws) (take i (map device media0)) at mid chain)
      only (spent-more one (s || one) w (device m) _ _ (or-right s one) call)

-- where putting back stops, the rest can be put back
module _ (ws : List Wanted) (ds left : List Device) (place : ℕ) (fault : NotRun) (at mid : Names) (stops : PuttingStops ws ds left place fault at mid) where
  pub after-is : drop (place + 1) ws ≡ stops.after
  after-is = ap (λ l. drop (place + 1) l) stops.is ∙ (ap (λ n. drop (n + 1) (stops.before ++ stops.want ∷ stops.after)) stops.placed ∙ drop-append-add stops.before (stops.want ∷ stops.after) 1)

  pub slice-after : take (length ws - (place + 1)) (drop (place + 1) ws) ≡ stops.after
  slice-after = take_all (length ws - (place + 1)) (drop (place + 1) ws) (omega (arith, length-drop (place + 1) ws)) ∙ after-is

  pub after-count : length ds ≡ length ws → length left ≡ length stops.after
  after-count all = omega (arith, all, ap length stops.is, ap length stops.are, length-append stops.before (stops.want ∷ stops.after), length-append stops.first (stops.d ∷ left), chain-length PutsBack stops.before stops.first at stops.mid stops.put)

  apart-is : HaveOtherNames ws → HaveOtherNames (stops.before ++ stops.want ∷ stops.after)
  apart-is apart = subst HaveOtherNames stops.is apart

  pub after-apart : HaveOtherNames ws → HaveOtherNames stops.after
  unfolding HaveOtherNames
  after-apart apart = let rest : HaveOtherNames (stops.want ∷ stops.after) = apart-back stops.before (stops.want ∷ stops.after) (apart-is apart) in rest.1

  pub after-taken : HaveOtherNames ws → AreTaken ws at → AreTaken stops.after mid
  unfolding HaveOtherNames AreTaken
  after-taken apart taken =
      let all : AllByRecursion (λ v. IsTaken (at v.image).place) (stops.before ++ stops.want ∷ stops.after) = subst (AllByRecursion (λ v. IsTaken (at v.image).place)) stops.is taken in
      let rest = all-back (λ v. IsTaken (at v.image).place) stops.before (stops.want ∷ stops.after) all in
      let apart2 : HaveOtherNames (stops.want ∷ stops.after) = apart-back stops.before (stops.want ∷ stops.after) (apart-is apart) in
      let none = behind-none stops.before (stops.want ∷ stops.after) (apart-is apart) in
      let first = stay-behind PutsBack stops.before stops.after stops.first at stops.mid stops.put none.1 in
      all-kept (λ im. IsTaken im.place) stops.after at mid (trans-all stops.after at stops.mid mid first (stays-all stops.want stops.after stops.mid mid stops.only apart2.0)) rest.1

  -- all calls, where memory ran out somewhere
  spent-whole : (s : Bool) (at' : Names) → Chain (PutsOr s) stops.after left mid at' → Chain (PutsOr true) ws ds at at'
  unfolding Chain
  spent-whole s at' rest =
      let first = chain-map PutsBack (PutsOr true) (λ v d old new puts. record { result = Ok tt; puts = puts; told = λ is. refl }) stops.before stops.first at stops.mid stops.put in
      let last = chain-map (PutsOr s) (PutsOr true) (λ v d old new puts. spent-more s true v d old new (λ is. refl) puts) stops.after left mid at' rest in
      subst (λ l. Chain (PutsOr true) ws l at at') (sym stops.are)
      (subst (λ l. Chain (PutsOr true) l (stops.first ++ stops.d ∷ left) at at') (sym stops.is)
      (chain-both (PutsOr true) stops.before (stops.want ∷ stops.after) stops.first (stops.d ∷ left) at stops.mid at' first (mid, stops.only, record { result = Err fault; puts = stops.fails; told = λ is. refl }, last)))

  -- the other names stay as they were until the rest is put back
  rest-same : HaveOtherNames ws → AllByRecursion (λ w. mid w.image ≡ at w.image) stops.after
  unfolding HaveOtherNames
  rest-same apart =
      let behind : HaveOtherNames (stops.want ∷ stops.after) = apart-back stops.before (stops.want ∷ stops.after) (apart-is apart) in
      let none = behind-none stops.before (stops.want ∷ stops.after) (apart-is apart) in
      let first = stay-behind PutsBack stops.before stops.after stops.first at stops.mid stops.put none.1 in
      trans-all stops.after at stops.mid mid first (stays-all stops.want stops.after stops.mid mid stops.only behind.0)

  -- memory ran out here
  spent-first : (s : Bool) (at' : Names) → HaveOtherNames ws → fault ≡ NotRun.Memory → Chain (PutsOr s) stops.after left mid at' → SpentAmong ws at at'
  unfolding HaveOtherNames
  spent-first s at' apart is rest =
      let behind : HaveOtherNames (stops.want ∷ stops.after) = apart-back stops.before (stops.want ∷ stops.after) (apart-is apart) in
      let last : at' stops.want.image ≡ mid stops.want.image = chain-others (PutsOr s) stops.after left mid at' rest stops.want.image behind.0 in
      let first : stops.mid stops.want.image ≡ at stops.want.image = chain-others PutsBack stops.before stops.first at stops.mid stops.put stops.want.image (back-none stops.before stops.want stops.after (apart-is apart)) in
      record { before = stops.before; want = stops.want; after = stops.after; is = stops.is; d = stops.d; puts = rw (last, sym first, sym is) stops.fails }

  -- or behind it
  spent-behind : (at' : Names) → HaveOtherNames ws → SpentAmong stops.after mid at' → SpentAmong ws at at'
  spent-behind at' apart spent =
      let same : mid spent.want.image ≡ at spent.want.image = (all-back (λ w. mid w.image ≡ at w.image) spent.before (spent.want ∷ spent.after) (subst (AllByRecursion (λ w. mid w.image ≡ at w.image)) spent.is (rest-same apart))).0 in
      record {
        before = stops.before ++ stops.want ∷ spent.before;
        want = spent.want;
        after = spent.after;
        is = stops.is ∙ (ap (λ l. stops.before ++ stops.want ∷ l) spent.is ∙ sym (append_assoc stops.before (stops.want ∷ spent.before) (spent.want ∷ spent.after)));
        d = spent.d;
        puts = rw (sym same) spent.puts;
      }

  pub ends-spent : (s : Bool) (at' : Names) → HaveOtherNames ws → Chain (PutsOr s) stops.after left mid at' → SpentAmong stops.after mid at' → PutEnds NotRun.Memory ws ds place at at'
  ends-spent s at' apart rest spent = (spent-whole s at' rest, spent-behind at' apart spent)

  pub ends-first : (s : Bool) (at' : Names) → HaveOtherNames ws → fault ≡ NotRun.Memory → Chain (PutsOr s) stops.after left mid at' → PutEnds NotRun.Memory ws ds place at at'
  ends-first s at' apart is rest = (spent-whole s at' rest, spent-first s at' apart is rest)

-- or it ran out nowhere
pub ends-so : (ws : List Wanted) (ds left : List Device) (place : ℕ) (fault : NotRun) (at mid at' : Names) (s : Bool) (stops : PuttingStops ws ds left place fault at mid) → HaveOtherNames ws → s ≡ false → Chain (PutsOr s) stops.after left mid at' → PutEnds fault ws ds place at at'
ends-so ws ds left place NotRun.Image at mid at' s stops apart none rest = record { left = left; mid = mid; stops = stops; rest = subst (λ b. Chain (PutsOr b) stops.after left mid at') none rest }
ends-so ws ds left place NotRun.Memory at mid at' s stops apart none rest = ends-first ws ds left place NotRun.Memory at mid stops s at' apart refl rest

-- where memory ran out before, it has still run out
spent-later : (us : List Wanted) (w : Wanted) (at mid at' : Names) → IsNoneOf w.image us → ChangesOnly w.image mid at' → SpentAmong us at mid → SpentAmong (us ++ w ∷ []) at at'
spent-later us w at mid at' none only spent =
    let differ = (all-back (λ u. w.image ≢ u.image) spent.before (spent.want ∷ spent.after) (subst (IsNoneOf w.image) spent.is none)).0 in
    record {
      before = spent.before;
      want = spent.want;
      after = spent.after ++ w ∷ [];
      is = ap (λ l. l ++ w ∷ []) spent.is ∙ append_assoc spent.before (spent.want ∷ spent.after) (w ∷ []);
      d = spent.d;
      puts = rw (only spent.want.image (λ same. differ (sym same))) spent.puts;
    }

spent-here : (R : Call) (us : List Wanted) (w : Wanted) (ds : List Device) (d : Device) (at mid at' : Names) → IsNoneOf w.image us → Chain R us ds at mid → Puts (Err NotRun.Memory) d (mid w.image) (at' w.image) → SpentAmong (us ++ w ∷ []) at at'
spent-here R us w ds d at mid at' none chain puts = record {
  before = us;
  want = w;
  after = [];
  is = refl;
  d = d;
  puts = rw (sym (chain-others R us ds at mid chain w.image none)) puts;
}

pub spent-next : (ws : List Wanted) (i : ℕ) (w : Wanted) (ds : List Device) (d : Device) (s one : Bool) (at mid at' : Names) → HaveOtherNames ws → i < length ws → w ≡ get_or ws i w
    → Chain (PutsOr s) (take i ws) ds at mid → (s ≡ true → SpentAmong (take i ws) at mid) → ChangesOnly w.image mid at' → (one ≡ true → Puts (Err NotRun.Memory) d (mid w.image) (at' w.image)) → (s || one) ≡ true → SpentAmong (take (i + 1) ws) at at'
spent-next ws i w ds d s one at mid at' apart inside is chain before only here some =
    subst (λ l. SpentAmong l at at') (sym (take-next ws i w inside is)) (by s refl)
  where
    none : IsNoneOf w.image (take i ws)
    none = back-none (take i ws) w (drop (i + 1) ws) (subst HaveOtherNames (split-at ws i w inside is) apart)

    by : (b : Bool) → s ≡ b → SpentAmong (take i ws ++ w ∷ []) at at'
    by true is_spent = spent-later (take i ws) w at mid at' none only (before is_spent)
    by false is_not = spent-here (PutsOr s) (take i ws) w ds d at mid at' none chain (here (ap (λ b. b || one) (sym is_not) ∙ some))
