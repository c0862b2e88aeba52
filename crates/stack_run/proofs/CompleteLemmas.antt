-- Where nothing fails and each image has its blocks, the disks are served.
use Rattle.std.proofs.Common.{◌≡◌, ℕ, ◌⊎◌, inl, inr, List, ◌∷◌, Option, None, Some, Ok, Err, subst, arith}
use Rattle.std.specs.List.{AllByRecursion}
use Rattle.medium.specs.Counts.{Rose}
use Rattle.image_store.specs.Edge.{Outlet}
use Rattle.image_store.specs.Place.{Place, Here, Missing, Taken, Untold}
use Rattle.script_text.specs.declared.language.plans.DiskPlan.{DiskPlan}
use Rattle.script_text.specs.declared.language.refusal.Reason.{Reason}
use Rattle.stack_run.specs.declared.wanted.Wanted.{Wanted}
use Rattle.stack_run.specs.Media.{HasBlocks, MayLackBlocks}
use Rattle.stack_run.specs.Serving.{NotTaken, NotPutBack, HasImages}
use Rattle.stack_run.specs.Reading.{SourceSays}
use Rattle.stack_run.specs.Program.{ImageFailed, SinkFailed, IsServingStatus, IsToldServable, IsNoRise}
use Rattle.stack_run.proofs.ChainLemmas.{Names, all-back}

has-all : (want : Wanted) (p : Place) → HasBlocks want p → MayLackBlocks want p → ⊥
has-all want (Here bytes) has (inl short) = omega (arith, has.0, short)
has-all want (Here bytes) has (inr broken) = broken has.1
has-all want Missing has lacks = has
has-all want (Taken tail) has lacks = has
has-all want Untold has lacks = has

image-stays : (plans : List DiskPlan) (at at' : Names) (name : List ℕ) → HasImages plans at → ((n : List ℕ) → IsNoRise (at n).faults (at' n).faults) → NotTaken plans at at' name ⊎ NotPutBack plans at at' name → ⊥
image-stays plans at at' name has none (inl fails) = by fails.unmade.cause
  where
    here : HasBlocks fails.want (at fails.want.image).place
    here = (all-back (λ w. HasBlocks w (at w.image).place) fails.first.before (fails.want ∷ fails.first.after) (subst (AllByRecursion (λ w. HasBlocks w (at w.image).place)) fails.first.is has)).0

    by : Rose (at name).faults (at' name).faults ⊎ MayLackBlocks fails.want (at name).place → ⊥
    by (inl rose) = none name rose
    by (inr lacks) = has-all fails.want (at name).place (subst (λ n. HasBlocks fails.want (at n).place) fails.named here) lacks
image-stays plans at at' name has none (inr fails) = none name fails.cause

-- the statuses of failures do not come
pub serves : (n : ℕ) (plans : List DiskPlan) (at at' : Names) (out out' : Outlet) → IsServingStatus n
    → (n ≡ 3 → ImageFailed at at' out out' plans) → (n ≡ 5 → SinkFailed at at' out out' plans)
    → HasImages plans at → IsNoRise out.faults out'.faults → ((name : List ℕ) → IsNoRise (at name).faults (at' name).faults) → (n ≡ 0) ⊎ (n ≡ 6)
serves n plans at at' out out' (inl zero_is) image sink has quiet none = inl zero_is
serves n plans at at' out out' (inr (inl three)) image sink has quiet none = let fails = image three in absurd (image-stays plans at at' fails.name has none fails.fails)
serves n plans at at' out out' (inr (inr (inl five))) image sink has quiet none = let fails = sink five in absurd (quiet fails.cause)
serves n plans at at' out out' (inr (inr (inr six))) image sink has quiet none = inr six

-- the script that is told is the one that was read
pub servable-has : (left : Option (List ℕ)) (plans : List DiskPlan) (at : Names) → SourceSays left (Ok plans) → IsToldServable left at → HasImages plans at
servable-has (Some left) plans at says servable = rw says at servable
servable-has None plans at says servable = absurd servable

pub servable-not-refused : (left : Option (List ℕ)) (fault : ℕ × Reason) (at : Names) → SourceSays left (Err fault) → IsToldServable left at → ⊥
servable-not-refused (Some left) fault at says servable = rw says at servable
servable-not-refused None fault at says servable = servable
