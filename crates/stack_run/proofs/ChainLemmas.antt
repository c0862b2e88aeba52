-- Calls for one image after another: what they come to for each name.
use Rattle.std.proofs.Common.{◌≡◌, ◌≢◌, ℕ, suc, ◌+◌, ◌<◌, ◌≤◌, List, [], ◌∷◌, ◌++◌, length, take, drop, get_or, refl, sym, ◌∙◌, ap, arith, length-take}
use Rattle.std.specs.List.{AllByRecursion}
use Rattle.std.proofs.Math.Seq.{drop-cons}
use Rattle.std.proofs.lemmas.List.{take_more, take-append-drop}
use Rattle.medium.specs.Device.{Device}
use Rattle.image_store.specs.Place.{Image, ChangesOnly}
use Rattle.stack_run.specs.declared.wanted.Wanted.{Wanted}
use Rattle.stack_run.specs.Chains.{Chain, HaveOtherNames}

-- a call for a wanted image
abbrev pub Call : Type 1
Call = Wanted → Device → Image → Image → Type 0

-- images by name
abbrev pub Names : Type 0
Names = List ℕ → Image

-- this name is that of none of these
abbrev pub IsNoneOf : List ℕ → List Wanted → Type 0
IsNoneOf name wanted = AllByRecursion (λ want. name ≢ want.image) wanted

-- lists at a place
pub drop-next : {X : Type 0} (xs : List X) (i : ℕ) (x : X) → i < length xs → x ≡ get_or xs i x → drop i xs ≡ x ∷ drop (i + 1) xs
drop-next xs i x inside is =
    let next : suc i ≡ i + 1 = omega arith in
    drop-cons xs i x inside ∙ (ap (λ y. y ∷ drop (suc i) xs) (sym is) ∙ ap (λ n. x ∷ drop n xs) next)

pub take-next : {X : Type 0} (xs : List X) (i : ℕ) (x : X) → i < length xs → x ≡ get_or xs i x → take (i + 1) xs ≡ take i xs ++ x ∷ []
take-next xs i x inside is = take_more xs i x inside ∙ ap (λ y. take i xs ++ y ∷ []) (sym is)

pub split-at : {X : Type 0} (xs : List X) (i : ℕ) (x : X) → i < length xs → x ≡ get_or xs i x → xs ≡ take i xs ++ x ∷ drop (i + 1) xs
split-at xs i x inside is = sym (take-append-drop i xs) ∙ ap (λ l. take i xs ++ l) (drop-next xs i x inside is)

pub length-taken : {X : Type 0} (xs : List X) (i : ℕ) → i ≤ length xs → length (take i xs) ≡ i
length-taken xs i le = omega (arith, length-take i xs)

-- what holds of each of two lists holds of both
pub all-both : {X : Type 0} (P : X → Type 0) (xs ys : List X) → AllByRecursion P xs → AllByRecursion P ys → AllByRecursion P (xs ++ ys)
all-both P [] ys front back = back
all-both P (x ∷ xs) ys front back = (front.0, all-both P xs ys front.1 back)

pub all-front : {X : Type 0} (P : X → Type 0) (xs ys : List X) → AllByRecursion P (xs ++ ys) → AllByRecursion P xs
all-front P [] ys all = tt
all-front P (x ∷ xs) ys all = (all.0, all-front P xs ys all.1)

pub all-back : {X : Type 0} (P : X → Type 0) (xs ys : List X) → AllByRecursion P (xs ++ ys) → AllByRecursion P ys
all-back P [] ys all = all
all-back P (x ∷ xs) ys all = all-back P xs ys all.1

pub all-map : {X : Type 0} (P Q : X → Type 0) → ((x : X) → P x → Q x) → (xs : List X) → AllByRecursion P xs → AllByRecursion Q xs
all-map P Q each [] all = tt
all-map P Q each (x ∷ xs) all = (each x all.0, all-map P Q each xs all.1)

-- two chains, one after the other
pub chain-both : (R : Call) (ws vs : List Wanted) (ds es : List Device) (at mid at' : Names) → Chain R ws ds at mid → Chain R vs es mid at' → Chain R (ws ++ vs) (ds ++ es) at at'
unfolding Chain
chain-both R [] vs [] es at mid at' first then = rw first at then
chain-both R [] vs (d ∷ ds) es at mid at' first then = absurd first
chain-both R (w ∷ ws) vs [] es at mid at' first then = absurd first
chain-both R (w ∷ ws) vs (d ∷ ds) es at mid at' (next, only, call, rest) then = (next, only, call, chain-both R ws vs ds es next mid at' rest then)

-- one more call
pub chain-more : (R : Call) (ws : List Wanted) (w : Wanted) (ds : List Device) (d : Device) (at mid at' : Names)
    → Chain R ws ds at mid → ChangesOnly w.image mid at' → R w d (mid w.image) (at' w.image) → Chain R (ws ++ w ∷ []) (ds ++ d ∷ []) at at'
unfolding Chain
chain-more R ws w ds d at mid at' first only call = chain-both R ws (w ∷ []) ds (d ∷ []) at mid at' first (at', only, call, refl)

pub chain-none : (R : Call) (at : Names) → Chain R [] [] at at
unfolding Chain
chain-none R at = refl

pub chain-map : (R Q : Call) → ((w : Wanted) (d : Device) (old new : Image) → R w d old new → Q w d old new) → (ws : List Wanted) (ds : List Device) (at at' : Names) → Chain R ws ds at at' → Chain Q ws ds at at'
unfolding Chain
chain-map R Q each [] [] at at' chain = chain
chain-map R Q each [] (d ∷ ds) at at' chain = absurd chain
chain-map R Q each (w ∷ ws) [] at at' chain = absurd chain
chain-map R Q each (w ∷ ws) (d ∷ ds) at at' (mid, only, call, rest) = (mid, only, each w d _ _ call, chain-map R Q each ws ds mid at' rest)

pub chain-length : (R : Call) (ws : List Wanted) (ds : List Device) (at at' : Names) → Chain R ws ds at at' → length ds ≡ length ws
unfolding Chain
chain-length R [] [] at at' chain = refl
chain-length R [] (d ∷ ds) at at' chain = absurd chain
chain-length R (w ∷ ws) [] at at' chain = absurd chain
chain-length R (w ∷ ws) (d ∷ ds) at at' (mid, only, call, rest) = ap suc (chain-length R ws ds mid at' rest)

-- another name stays
pub chain-others : (R : Call) (ws : List Wanted) (ds : List Device) (at at' : Names) → Chain R ws ds at at' → (name : List ℕ) → IsNoneOf name ws → at' name ≡ at name
unfolding Chain
chain-others R [] [] at at' chain name none = ap (λ (f : Names). f name) chain
chain-others R [] (d ∷ ds) at at' chain name none = absurd chain
chain-others R (w ∷ ws) [] at at' chain name none = absurd chain
chain-others R (w ∷ ws) (d ∷ ds) at at' (mid, only, call, rest) name none = chain-others R ws ds mid at' rest name none.1 ∙ only name none.0

-- what a chain comes to for each name
unfoldable pub Points : Call → List Wanted → List Device → Names → Names → Type 0
Points R [] [] at at' = Unit {0}
Points R [] (d ∷ ds) at at' = ⊥
Points R (w ∷ ws) [] at at' = ⊥
Points R (w ∷ ws) (d ∷ ds) at at' = R w d (at w.image) (at' w.image) × Points R ws ds at at'

-- with the same images of these names
pub points-same : (R : Call) (ws : List Wanted) (ds : List Device) (at at' be be' : Names) → AllByRecursion (λ w. be w.image ≡ at w.image) ws → AllByRecursion (λ w. be' w.image ≡ at' w.image) ws → Points R ws ds at at' → Points R ws ds be be'
unfolding Points
points-same R [] [] at at' be be' first last points = tt
points-same R [] (d ∷ ds) at at' be be' first last points = absurd points
points-same R (w ∷ ws) [] at at' be be' first last points = absurd points
points-same R (w ∷ ws) (d ∷ ds) at at' be be' first last points = (rw (first.0, last.0) points.0, points-same R ws ds at at' be be' first.1 last.1 points.1)

pub refl-all : (ws : List Wanted) (at : Names) → AllByRecursion (λ w. at w.image ≡ at w.image) ws
refl-all [] at = tt
refl-all (w ∷ ws) at = (refl, refl-all ws at)

-- a name that is none of these stays where one call changes another
pub stays-all : (w : Wanted) (ws : List Wanted) (at mid : Names) → ChangesOnly w.image at mid → IsNoneOf w.image ws → AllByRecursion (λ v. mid v.image ≡ at v.image) ws
stays-all w [] at mid only none = tt
stays-all w (v ∷ ws) at mid only none = (only v.image (λ same. none.0 (sym same)), stays-all w ws at mid only none.1)

pub sym-all : (ws : List Wanted) (at mid : Names) → AllByRecursion (λ v. mid v.image ≡ at v.image) ws → AllByRecursion (λ v. at v.image ≡ mid v.image) ws
sym-all [] at mid all = tt
sym-all (w ∷ ws) at mid all = (sym all.0, sym-all ws at mid all.1)

-- names that differ, each changed once
pub chain-points : (R : Call) (ws : List Wanted) (ds : List Device) (at at' : Names) → HaveOtherNames ws → Chain R ws ds at at' → Points R ws ds at at'
unfolding Chain Points HaveOtherNames
chain-points R [] [] at at' apart chain = tt
chain-points R [] (d ∷ ds) at at' apart chain = absurd chain
chain-points R (w ∷ ws) [] at at' apart chain = absurd chain
chain-points R (w ∷ ws) (d ∷ ds) at at' apart (mid, only, call, rest) = (
  rw (chain-others R ws ds mid at' rest w.image apart.0) call,
  points-same R ws ds mid at' at at' (sym-all ws at mid (stays-all w ws at mid only apart.0)) (refl-all ws at') (chain-points R ws ds mid at' apart.1 rest),
)

-- what holds of the images of other names still holds
pub all-kept : (P : Image → Type 0) (ws : List Wanted) (at at' : Names) → AllByRecursion (λ w. at' w.image ≡ at w.image) ws → AllByRecursion (λ w. P (at w.image)) ws → AllByRecursion (λ w. P (at' w.image)) ws
all-kept P [] at at' same all = tt
all-kept P (w ∷ ws) at at' same all = (rw same.0 all.0, all-kept P ws at at' same.1 all.1)

-- the names of a front, and of a rest, differ
pub apart-front : (ws vs : List Wanted) → HaveOtherNames (ws ++ vs) → HaveOtherNames ws
unfolding HaveOtherNames
apart-front [] vs apart = tt
apart-front (w ∷ ws) vs apart = (all-front (λ v. w.image ≢ v.image) ws vs apart.0, apart-front ws vs apart.1)

pub apart-back : (ws vs : List Wanted) → HaveOtherNames (ws ++ vs) → HaveOtherNames vs
unfolding HaveOtherNames
apart-back [] vs apart = apart
apart-back (w ∷ ws) vs apart = apart-back ws vs apart.1

-- a name of the front is none of the rest, and one of the rest none of the front
pub front-none : (ws vs : List Wanted) → HaveOtherNames (ws ++ vs) → AllByRecursion (λ w. IsNoneOf w.image vs) ws
unfolding HaveOtherNames
front-none [] vs apart = tt
front-none (w ∷ ws) vs apart = (all-back (λ v. w.image ≢ v.image) ws vs apart.0, front-none ws vs apart.1)

pub back-none : (ws : List Wanted) (v : Wanted) (vs : List Wanted) → HaveOtherNames (ws ++ v ∷ vs) → IsNoneOf v.image ws
unfolding HaveOtherNames
back-none [] v vs apart = tt
back-none (w ∷ ws) v vs apart =
    let (here, later) = all-back (λ u. w.image ≢ u.image) ws (v ∷ vs) apart.0 in
    ((λ same. here (sym same)), back-none ws v vs apart.1)

-- each name of the rest is none of the front
none-more : (u : Wanted) (us vs : List Wanted) → AllByRecursion (λ v. u.image ≢ v.image) vs → AllByRecursion (λ v. IsNoneOf v.image us) vs → AllByRecursion (λ v. IsNoneOf v.image (u ∷ us)) vs
none-more u us [] differ none = tt
none-more u us (v ∷ vs) differ none = (((λ same. differ.0 (sym same)), none.0), none-more u us vs differ.1 none.1)

none-nil : (vs : List Wanted) → AllByRecursion (λ v. IsNoneOf v.image []) vs
none-nil [] = tt
none-nil (v ∷ vs) = (tt, none-nil vs)

pub behind-none : (us vs : List Wanted) → HaveOtherNames (us ++ vs) → AllByRecursion (λ v. IsNoneOf v.image us) vs
unfolding HaveOtherNames
behind-none [] vs apart = none-nil vs
behind-none (u ∷ us) vs apart = none-more u us vs (all-back (λ v. u.image ≢ v.image) us vs apart.0) (behind-none us vs apart.1)

-- so they stay where calls are made for the front
pub stay-behind : (R : Call) (us vs : List Wanted) (ds : List Device) (at at' : Names) → Chain R us ds at at' → AllByRecursion (λ v. IsNoneOf v.image us) vs → AllByRecursion (λ v. at' v.image ≡ at v.image) vs
stay-behind R us [] ds at at' chain none = tt
stay-behind R us (v ∷ vs) ds at at' chain none = (chain-others R us ds at at' chain v.image none.0, stay-behind R us vs ds at at' chain none.1)

pub trans-all : (vs : List Wanted) (at mid at' : Names) → AllByRecursion (λ v. mid v.image ≡ at v.image) vs → AllByRecursion (λ v. at' v.image ≡ mid v.image) vs → AllByRecursion (λ v. at' v.image ≡ at v.image) vs
trans-all [] at mid at' first last = tt
trans-all (v ∷ vs) at mid at' first last = (last.0 ∙ first.0, trans-all vs at mid at' first.1 last.1)
