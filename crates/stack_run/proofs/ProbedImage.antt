-- An image that was taken, probed and put back.
use Rattle.std.proofs.Common.{◌≡◌, ℕ, ◌⊎◌, inl, inr, List, Option, None, Some, Result, Ok, Err, refl, sym, ◌∙◌, ap, arith}
use Rattle.medium.specs.Counts.{capped_sum, Rose}
use Rattle.medium.specs.Device.{Device}
use Rattle.image_store.specs.Place.{Place, Here, Missing, Taken, Untold, Image, IsTaking, GivesBlocks, put_place}
use Rattle.partition_tables.specs.declared.table.Table.{Table}
use Rattle.stack_run.specs.declared.refusal.NotRun.{NotRun}
use Rattle.stack_run.specs.declared.wanted.Wanted.{Wanted}
use Rattle.stack_run.specs.Media.{IsLost, IsAsItWas, IsBackOrGone, Stayed}
use Rattle.stack_run.specs.Chains.{Puts, TakesImage}
use Rattle.stack_run.specs.Probing.{IsProbed, IsProbedAndLost, IsTableAt, IsTableOf, KeepsBytes, ProbeLeaves, failed_reads}
use Rattle.stack_run.proofs.HandedLemmas.{back-place, lost-place}

pub err-is : {X : Type 0} (fault other : NotRun) → (◌≡◌ {A = Result X NotRun} (Err fault) (Err other)) → fault ≡ other
err-is fault other same = cc

-- the bytes of a medium are the image's whole blocks
at-image : (p0 p1 : Place) (want : Wanted) (d : Device) (table : Option Table) → IsTaking p0 p1 want.size want.cached d → IsTableOf d.first d.size table → IsTableAt p0 want.size table
unfolding GivesBlocks
at-image (Here bytes) p1 want d table taking is = let (long, taken, first, blocks) = taking.blocks in rw (first, taking.size) at is
at-image Missing p1 want d table taking is = absurd taking.blocks
at-image (Taken tail) p1 want d table taking is = absurd taking.blocks
at-image Untold p1 want d table taking is = tt

module _ (old mid new : Image) (want : Wanted) (d d' : Device) (takes : TakesImage want d old mid) where
  module _ (n : ℕ) (keeps : KeepsBytes n d d') where
    worn-so : new.worn ≡ capped_sum mid.worn d'.failed → new.worn ≡ capped_sum old.worn n
    worn-so is = is ∙ (rw (takes.worn, keeps.failed) refl)

    place-back : Puts (Ok tt) d' mid new → new.place ≡ old.place
    place-back puts =
        let kept : d'.kept ≡ d.kept = keeps.kept ∙ sym takes.taking.fresh.kept in
        back-place old.place mid.place new.place want.size want.cached d takes.taking (puts.place ∙ ap (λ k. put_place {E = NotRun} mid.place k (Ok tt)) kept)

    lost-so : (Cause : ℕ → ℕ → Type 0) (fault : NotRun) → Puts (Err fault) d' mid new → Cause old.faults new.faults → IsLost Cause n old new
    lost-so Cause fault puts cause = record {
      place = lost-place old.place mid.place new.place want.size want.cached d d'.kept fault takes.taking puts.place;
      worn = worn-so puts.worn;
      cause = cause;
    }

  twice : (w : ℕ) → capped_sum (capped_sum w 0) 0 ≡ capped_sum w 0
  twice w = omega arith

  -- memory ran out in its probe
  pub left-so : (result : Result (Unit {0}) NotRun) → KeepsBytes 0 d d' → Puts result d' mid new → ProbeLeaves want.size old new
  left-so (Ok tt) keeps puts = inl (inl (inl (record {
    place = place-back 0 keeps puts;
    worn = ap (λ w. capped_sum w 0) (worn-so 0 keeps puts.worn) ∙ twice old.worn;
    count = puts.cause.quiet ∙ takes.quiet;
  })))
  left-so (Err NotRun.Image) keeps puts = inl (inl (inr (lost-so 0 keeps Rose NotRun.Image puts (rw takes.quiet at puts.cause.failed refl))))
  left-so (Err NotRun.Memory) keeps puts = inl (inr (lost-so 0 keeps Stayed NotRun.Memory puts (puts.cause.quiet (λ same. cc) ∙ takes.quiet)))

  -- it was probed
  module _ (table : Option Table) (keeps : KeepsBytes (failed_reads table) d d') (is : IsTableOf d.first d.size table) where
    pub probed-so : Puts (Ok tt) d' mid new → IsProbed want.size table old new
    probed-so puts = record {
      table = at-image old.place mid.place want d table takes.taking is;
      place = place-back (failed_reads table) keeps puts;
      worn = worn-so (failed_reads table) keeps puts.worn;
      quiet = puts.cause.quiet ∙ takes.quiet;
    }

    lost-after : (Cause : ℕ → ℕ → Type 0) (fault : NotRun) → Puts (Err fault) d' mid new → Cause old.faults new.faults → IsProbedAndLost Cause want.size old new
    lost-after Cause fault puts cause = record {
      table = table;
      is = at-image old.place mid.place want d table takes.taking is;
      lost = lost-so (failed_reads table) keeps Cause fault puts cause;
    }

    pub failed-after : (fault : NotRun) → fault ≡ NotRun.Image → Puts (Err fault) d' mid new → IsProbedAndLost Rose want.size old new
    failed-after NotRun.Image same puts = lost-after Rose NotRun.Image puts (rw takes.quiet at puts.cause.failed refl)
    failed-after NotRun.Memory same puts = absurd cc

    pub spent-after : (fault : NotRun) → fault ≡ NotRun.Memory → Puts (Err fault) d' mid new → IsProbedAndLost Stayed want.size old new
    spent-after NotRun.Image same puts = absurd cc
    spent-after NotRun.Memory same puts = lost-after Stayed NotRun.Memory puts (puts.cause.quiet (λ same. cc) ∙ takes.quiet)
