-- A write to a medium with a volatile cache.
use Rattle.std.proofs.Common.{◌≡◌, ℕ, ◌+◌, ◌*◌, ◌<◌, ◌≤◌, ◌⊎◌, List, length, Option, IsSome, Result, Ok, Err, OnOk, OnErr, IfErr, Bool, true, false, sym, ◌∙◌, ap, subst, arith, inl, inr, ⊎_elim, length-take}
use Rattle.std.proofs.lemmas.Bool.{cases_lt}
use Rattle.std.proofs.Math.Nat.{mul-le-mul_left}
use Rattle.medium.proofs.Overlays.{block-fits}
use Rattle.medium.proofs.Restored.{restored-covered}
use Rattle.medium.proofs.Sizes.{count-is}
use Rattle.medium.specs.Cached.{restoration, HasTried, HoldsOthers, IsWrittenInside}
use Rattle.medium.specs.Counts.{Rose}
use Rattle.medium.specs.Device.{Device, IsShaped, IsTransfer, IsWrite, patch_told, written_bytes}
use Rattle.medium.specs.declared.block_failed.BlockFailed.{BlockFailed}

-- what was written is no longer than what was to be
length-written : (result : Result (Unit {0}) BlockFailed) (size : ℕ) (bytes : List ℕ) → length (written_bytes result size bytes) ≤ length bytes
length-written (Ok x) size bytes = omega arith
length-written (Err fault) size bytes = omega (arith, length-take (fault.done * size) bytes)

on-err : (result : Result (Unit {0}) BlockFailed) (a b c : ℕ) → b ≡ a → OnErr result (Rose b c) → OnErr result (Rose a c)
on-err (Ok x) a b c same rose = tt
on-err (Err fault) a b c same rose = subst (λ (n : ℕ). Rose n c) same rose

on-ok : (result : Result (Unit {0}) BlockFailed) (a b c : ℕ) → b ≡ a → OnOk result (c ≡ b) → OnOk result (c ≡ a)
on-ok (Ok x) a b c same is = is ∙ same
on-ok (Err fault) a b c same is = tt

-- it was written once all of it was saved
pub written-after : (d0 d1 d2 : Device) (cached : Bool) (saved saved' : ℕ → Option (List ℕ)) (lba : ℕ) (bytes : List ℕ) (result : Result (Unit {0}) BlockFailed) → cached ≡ true → IsShaped d0 → (t : IsTransfer d0 lba (length bytes)) → HasTried d0 (Ok tt) d1 → ((b : ℕ) → lba ≤ b → b < lba + t.count → IsSome (saved' b)) → HoldsOthers lba (lba + t.count) saved saved' → restoration saved' d0.size d0.blocks d0.now ≡ restoration saved d0.size d0.blocks d0.now → IsWrite d1 lba bytes result d2 → IsWrittenInside d0 cached saved saved' lba bytes result d2
written-after d0 d1 d2 cached saved saved' lba bytes result is_cached shaped t tried held others kept write = record {
  same = record {
    first = write.command.same.first ∙ tried.same.first;
    size = write.command.same.size ∙ tried.same.size;
    blocks = write.command.same.blocks ∙ tried.same.blocks;
    cached = write.command.same.cached ∙ tried.same.cached;
  };
  now = now_is;
  restored = λ c. ap (restoration saved' d0.size d0.blocks) now_is ∙ restored-covered saved' d0.size d0.blocks d0.now lba t.count (written_bytes result d0.size bytes) held (omega (arith, length-written result d0.size bytes, t.whole)) inside shaped.told_now ∙ kept;
  uncached = λ un b. absurd (true-false (sym is_cached ∙ un));
  held = λ count whole. subst (λ (n : ℕ). HoldsOthers lba (lba + n) saved saved') (same_count count whole) others;
  later = let first = tried.later in let second = write.command.later in omega arith;
  cause = on-err result d0.faults d1.faults d2.faults tried.quiet write.command.cause;
  quiet = on-ok result d0.faults d1.faults d2.faults tried.quiet write.command.quiet;
  done = subst (λ (s : ℕ). IfErr result (λ fault. fault.done * s < length bytes)) tried.same.size write.done;
} where
  now_is : d2.now ≡ patch_told d0.now (lba * d0.size) (written_bytes result d0.size bytes)
  now_is = write.now ∙ ap (λ (n : Option (List ℕ)). patch_told n (lba * d1.size) (written_bytes result d1.size bytes)) tried.now ∙ ap (λ (s : ℕ). patch_told d0.now (lba * s) (written_bytes result s bytes)) tried.same.size

  inside : lba * d0.size ≤ d0.blocks * d0.size
  inside = let below : lba ≤ d0.blocks = let fits = t.fits in omega arith in omega (arith, mul-le-mul_left d0.size below)

  true-false : true ≡ false → ⊥
  true-false same = cc

  same_count : (count : ℕ) → length bytes ≡ count * d0.size → t.count ≡ count
  same_count count whole = sym (count-is (length bytes) t.count d0.size shaped.size t.whole) ∙ count-is (length bytes) count d0.size shaped.size whole

-- what is saved then was saved before, or lies in the write
pub held-written : (d : Device) (prepared : ℕ → Type 0) (saved saved' : ℕ → Option (List ℕ)) (lba count : ℕ) → HoldsOthers lba (lba + count) saved saved' → lba + count ≤ d.blocks → ((b : ℕ) → lba ≤ b → b < lba + count → prepared b) → (b : ℕ) → IsSome (saved' b) → IsSome (saved b) ⊎ (prepared b × (b < d.blocks))
held-written d prepared saved saved' lba count others fits ready b is = ⊎_elim (λ below. inl (subst (λ (o : Option (List ℕ)). IsSome o) (others.0 b below) is)) (λ low. ⊎_elim (λ high. inr (ready b low high, omega arith)) (λ above. inl (subst (λ (o : Option (List ℕ)). IsSome o) (others.1 b above) is)) (cases_lt b (lba + count))) (cases_lt b lba)

-- the blocks of a transfer
pub within-transfer : (size lba count b : ℕ) (bytes : ℕ) → 0 < size → bytes ≡ count * size → b < lba + count → b * size < lba * size + bytes
within-transfer size lba count b bytes some whole high = omega (arith, block-fits size b (lba + count) high)
