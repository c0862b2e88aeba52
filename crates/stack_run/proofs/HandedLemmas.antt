-- An image that was taken and put back.
use Rattle.std.proofs.Common.{◌≡◌, ◌≢◌, ℕ, ◌%◌, ◌≤◌, ◌⊎◌, inl, inr, Bool, List, length, Option, None, Some, Result, Ok, Err, refl, sym, ◌∙◌, ap, arith}
use Rattle.std.proofs.lemmas.List.{take-append-drop}
use Rattle.medium.specs.Counts.{capped_sum, Rose}
use Rattle.medium.specs.Device.{Device}
use Rattle.image_store.specs.Place.{Place, Here, Missing, Taken, Untold, Image, IsTaking, GivesBlocks, put_place, whole_length}
use Rattle.stack_run.specs.declared.refusal.NotRun.{NotRun}
use Rattle.stack_run.specs.declared.wanted.Wanted.{Wanted}
use Rattle.stack_run.specs.Media.{LacksBlocks, MayLackBlocks, MayHaveBlocks, IsLostPlace, IsLost, Stayed, IsAsItWas, IsBackOrGone, IsUnmade}
use Rattle.stack_run.specs.Chains.{Puts, Unmakes, fault_of}

-- a fresh medium was put back: the image is where it was
pub back-place : (p0 p1 p2 : Place) (size : ℕ) (cached : Bool) (d : Device) → IsTaking p0 p1 size cached d → p2 ≡ put_place {E = NotRun} p1 d.kept (Ok tt) → p2 ≡ p0
unfolding GivesBlocks
back-place (Here bytes) p1 p2 size cached d taking put =
    let (long, taken, first, blocks) = taking.blocks in
    put ∙ (rw (taken, taking.fresh.kept, first) (ap Here (take-append-drop (whole_length size (length bytes)) bytes)))
back-place Missing p1 p2 size cached d taking put = absurd taking.blocks
back-place (Taken tail) p1 p2 size cached d taking put = absurd taking.blocks
back-place Untold p1 p2 size cached d taking put = put ∙ (rw taking.blocks refl)

-- a name's image after its medium could not be put back
pub lost-place : (p0 p1 p2 : Place) (size : ℕ) (cached : Bool) (d : Device) (kept : Option (List ℕ)) (fault : NotRun) → IsTaking p0 p1 size cached d → p2 ≡ put_place p1 kept (Err fault) → IsLostPlace p0 p2
unfolding GivesBlocks
lost-place (Here bytes) p1 p2 size cached d None fault taking put = put ∙ (rw taking.blocks.1 refl)
lost-place (Here bytes) p1 p2 size cached d (Some kept) fault taking put = put ∙ (rw taking.blocks.1 refl)
lost-place Missing p1 p2 size cached d kept fault taking put = absurd taking.blocks
lost-place (Taken tail) p1 p2 size cached d kept fault taking put = absurd taking.blocks
lost-place Untold p1 p2 size cached d kept fault taking put = put ∙ (rw taking.blocks refl)

-- the counts of a medium on which nothing has happened
worn-none : (w0 w1 w2 failed : ℕ) → w1 ≡ w0 → failed ≡ 0 → w2 ≡ capped_sum w1 failed → w2 ≡ capped_sum w0 0
worn-none w0 w1 w2 failed same none is = is ∙ (rw (same, none) refl)

twice : (w : ℕ) → capped_sum (capped_sum w 0) 0 ≡ capped_sum w 0
twice w = omega arith

module _ (old mid new : Image) (size : ℕ) (cached : Bool) (d : Device) (taking : IsTaking old.place mid.place size cached d) (worn : mid.worn ≡ old.worn) where
  -- it was put back
  pub as-it-was : (Faults : ℕ → ℕ → Type 0) → Puts (Ok tt) d mid new → Faults old.faults new.faults → IsAsItWas Faults old new
  as-it-was Faults puts count = record {
    place = back-place old.place mid.place new.place size cached d taking puts.place;
    worn = ap (λ w. capped_sum w 0) (worn-none old.worn mid.worn new.worn d.failed worn taking.fresh.failed puts.worn) ∙ twice old.worn;
    count = count;
  }

  -- or it is lost
  pub is-lost : (Cause : ℕ → ℕ → Type 0) (fault : NotRun) → Puts (Err fault) d mid new → Cause old.faults new.faults → IsLost Cause 0 old new
  is-lost Cause fault puts cause = record {
    place = lost-place old.place mid.place new.place size cached d d.kept fault taking puts.place;
    worn = worn-none old.worn mid.worn new.worn d.failed worn taking.fresh.failed puts.worn;
    cause = cause;
  }

-- a medium of whole groups has the blocks that its image has
pub taken-has : (p0 p1 : Place) (want : Wanted) (d : Device) → IsTaking p0 p1 want.size want.cached d → d.blocks % want.physical ≡ 0 → MayHaveBlocks want p0
unfolding GivesBlocks
taken-has (Here bytes) p1 want d taking whole =
    let (long, taken, first, blocks) = taking.blocks in
    (long, ap (λ n. n % want.physical) (sym blocks) ∙ whole)
taken-has Missing p1 want d taking whole = absurd taking.blocks
taken-has (Taken tail) p1 want d taking whole = absurd taking.blocks
taken-has Untold p1 want d taking whole = tt

pub has-not-lacks : (want : Wanted) (p : Place) → MayHaveBlocks want p → LacksBlocks want p → ⊥
has-not-lacks want (Here bytes) has (inl short) = omega (arith, has.0, short)
has-not-lacks want (Here bytes) has (inr broken) = broken has.1
has-not-lacks want Missing has lacks = has
has-not-lacks want (Taken tail) has lacks = has
has-not-lacks want Untold has lacks = lacks

-- one of broken groups lacks them
taken-lacks : (p0 p1 : Place) (want : Wanted) (d : Device) → IsTaking p0 p1 want.size want.cached d → d.blocks % want.physical ≢ 0 → MayLackBlocks want p0
unfolding GivesBlocks
taken-lacks (Here bytes) p1 want d taking broken =
    let (long, taken, first, blocks) = taking.blocks in
    inr (λ whole. broken (ap (λ n. n % want.physical) blocks ∙ whole))
taken-lacks Missing p1 want d taking broken = absurd taking.blocks
taken-lacks (Taken tail) p1 want d taking broken = absurd taking.blocks
taken-lacks Untold p1 want d taking broken = tt

module _ (old mid new : Image) (want : Wanted) (d : Device) (taking : IsTaking old.place mid.place want.size want.cached d) (worn : mid.worn ≡ old.worn) (quiet : mid.faults ≡ old.faults) where
  -- a refused medium
  pub unmade : (fault : NotRun) → d.blocks % want.physical ≢ 0 → Unmakes d fault mid new → fault ≡ NotRun.Image → IsUnmade want old new
  unmade fault broken unmakes is = record { left = left unmakes.result unmakes.puts (sym is ∙ unmakes.told); cause = inr (taken-lacks old.place mid.place want d taking broken) }
    where
      left : (result : Result (Unit {0}) NotRun) → Puts result d mid new → NotRun.Image ≡ fault_of result → IsAsItWas (λ before now. before ≤ now) old new ⊎ IsLost Rose 0 old new
      left (Ok tt) puts told = inl (as-it-was old mid new want.size want.cached d taking worn (λ before now. before ≤ now) puts (omega (arith, puts.cause.quiet, quiet)))
      left (Err fault) puts told = inr (is-lost old mid new want.size want.cached d taking worn Rose fault puts (rw quiet at puts.cause.failed (ap Err (sym told))))

  pub unmade-spent : (fault : NotRun) → Unmakes d fault mid new → fault ≡ NotRun.Memory → IsBackOrGone old new
  unmade-spent fault unmakes is = left unmakes.result unmakes.puts (sym is ∙ unmakes.told)
    where
      left : (result : Result (Unit {0}) NotRun) → Puts result d mid new → NotRun.Memory ≡ fault_of result → IsBackOrGone old new
      left (Ok tt) puts told = cc
      left (Err fault) puts told = inr (is-lost old mid new want.size want.cached d taking worn Stayed fault puts (puts.cause.quiet (λ same. cc) ∙ quiet))
