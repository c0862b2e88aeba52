-- The run and the part of a read.
use Rattle.std.proofs.Common.{◌≡◌, ℕ, ◌+◌, ◌*◌, ◌^◌, ◌<◌, ◌≤◌, Bool, true, false, length, refl, sym, ◌∙◌, ap, arith}
use Rattle.std.proofs.Math.Nat.{mul_comm}
use Rattle.medium.specs.Device.{Device, IsShaped, IsTransfer}
use Rattle.drive.specs.Drives.{DriveState}
use Rattle.disk_split.specs.declared.span.Span.{Span}
use Rattle.history.specs.Setup.{Setup, size_of, per_of}
use Rattle.history.specs.Tokens.{changes_bytes}
use Rattle.history.specs.Tasks.{Moves, Todo}
use Rattle.history_laws.proofs.PieceLemmas.{run-low, run-high}
use Rattle.subtask_queue.specs.declared.sub.Sub.{Sub}
use Rattle.subtask_queue.specs.declared.sub.Sub.TheVariants as sub
use Rattle.disk_core.specs.declared.parts.Core.{Core}
use Rattle.disk_core.specs.declared.reading.Target.{Target}
use Rattle.disk_core.specs.State.{setup_of}
use Rattle.disk_core.specs.Commands.{OfMedium}
use Rattle.disk_core.specs.Moves.{IsDisk, IsFirst}
use Rattle.disk_core.proofs.Getting.{GoesTo, moving, get-transfer, get-has}
use Rattle.disk_core.proofs.Moving.{unit-moving, medium-meets}
use Rattle.disk_core.proofs.Ranged.{run-kept, part-kept}

module _ {M : Type 0} (device : M → Device) (prepared : M → ℕ → Type 0) (drive : DriveState M) (c : Core) (sound : IsDisk device prepared drive c) (unit : Sub) (todo : Todo) (first : IsFirst device drive c unit todo) (t b : ℕ) where
  abbrev S : Setup
  S = setup_of device drive c.protected_at_first

  -- a run that the queue keeps
  pub run-span : (n : ℕ) (w : Bool) → unit ≡ sub.Run t b n w → (low high : ℕ) × (todo.task ≡ Moves (record { whole = true; block = b; count = n; low = low; high = high })) × (changes_bytes todo.kind ≡ w)
  run-span n w is = run-kept drive.size todo.token t b n (changes_bytes todo.kind) w todo.task (first.kept_so ∙ is)

  -- a part, which has the blocks of a group
  pub part-span : (from n : ℕ) (w : Bool) → unit ≡ sub.Part t b from n w → (low high : ℕ) × (todo.task ≡ Moves (record { whole = false; block = b; count = c.blocks.per; low = low; high = high })) × (changes_bytes todo.kind ≡ w)
  part-span from n w is =
      let kept = part-kept drive.size todo.token t b from n (changes_bytes todo.kind) w todo.task (first.kept_so ∙ is) in
      let u : Span = record { whole = false; block = b; count = kept.0; low = kept.1; high = kept.2 } in
      let unit_is = (unit-moving device prepared drive c sound unit todo first u kept.3).3.unit in
      let group = unit_is.kind in
      let per : kept.0 ≡ c.blocks.per = group.1 ∙ ap (λ G. G.per) (sym sound.fitted.blocks) in
      (kept.1, kept.2, kept.3 ∙ (λ i. Moves (record { whole = false; block = b; count = per i; low = kept.1; high = kept.2 })), kept.4)

  module _ (n low high : ℕ) (task_is : todo.task ≡ Moves (record { whole = true; block = b; count = n; low = low; high = high })) (still : changes_bytes todo.kind ≡ false) where
    abbrev run : Span
    run = record { whole = true; block = b; count = n; low = low; high = high }

    low-is : low ≡ b * size_of S
    low-is = run-low S.geometry _ _ run sound.geometry.geometry (moving device prepared drive c sound unit todo first run task_is still).unit refl

    high-is : high ≡ (b + n) * size_of S
    high-is = run-high S.geometry _ _ run sound.geometry.geometry (moving device prepared drive c sound unit todo first run task_is still).unit refl

    pub run-transfer : (target : Target) → GoesTo device prepared drive c sound unit todo first run task_is still target → OfMedium drive (λ m. IsTransfer (device m) b target.count)
    run-transfer target goes = get-transfer device prepared drive c sound unit todo first run task_is still target.count (let count = goes.count in let from = low-is in let to = high-is in let sum : (b + n) * size_of S ≡ b * size_of S + n * size_of S = omega arith in omega arith)

    pub run-begins : (target : Target) → GoesTo device prepared drive c sound unit todo first run task_is still target → OfMedium drive (λ m. target.range.low ≡ b * (device m).size)
    run-begins target goes m in_ = goes.low ∙ low-is ∙ ap (λ k. b * k) (sym (medium-meets device prepared drive c sound m in_).size)

  module _ (low high : ℕ) (task_is : todo.task ≡ Moves (record { whole = false; block = b; count = c.blocks.per; low = low; high = high })) (still : changes_bytes todo.kind ≡ false) where
    abbrev part : Span
    part = record { whole = false; block = b; count = c.blocks.per; low = low; high = high }

    size-is : c.blocks.size ≡ size_of S
    size-is = ap (λ G. G.size) sound.fitted.blocks

    group-long : length c.group.items ≡ c.blocks.per * size_of S
    group-long = sound.fitted.group ∙ mul_comm (size_of S) (per_of S) ∙ ap (λ G. G.per * size_of S) (sym sound.fitted.blocks)

    pub part-transfer : OfMedium drive (λ m. IsTransfer (device m) b (length c.group.items))
    part-transfer = get-transfer device prepared drive c sound unit todo first part task_is still (length c.group.items) group-long

    pub part-sized : OfMedium drive (λ m. c.blocks.size ≡ (device m).size)
    part-sized m in_ = size-is ∙ sym (medium-meets device prepared drive c sound m in_).size

    pub part-begins : (target : Target) → GoesTo device prepared drive c sound unit todo first part task_is still target → b * c.blocks.size ≤ target.range.low
    part-begins target goes = (let from = goes.low in let low_is = (moving device prepared drive c sound unit todo first part task_is still).unit.low in let same : b * c.blocks.size ≡ b * size_of S = ap (λ k. b * k) size-is in omega arith)

    pub part-ends : (target : Target) → GoesTo device prepared drive c sound unit todo first part task_is still target → target.range.low + target.count ≤ b * c.blocks.size + length c.group.items
    part-ends target goes =
        let from = goes.low in let count = goes.count in let unit_is = (moving device prepared drive c sound unit todo first part task_is still).unit in
        let to = unit_is.high in let some = unit_is.some in
        let same : b * c.blocks.size ≡ b * size_of S = ap (λ k. b * k) size-is in
        let long = group-long in
        let sum : (b + c.blocks.per) * size_of S ≡ b * size_of S + c.blocks.per * size_of S = omega arith in
        omega arith

    pub part-bounded : ((m : M) → IsShaped (device m)) → b * c.blocks.size < 2 ^ 64
    part-bounded shaped =
        let has = get-has device prepared drive c sound unit todo first part task_is still shaped in
        let fits = has.fits in
        let sum : (b + c.blocks.per) * c.blocks.size ≡ b * c.blocks.size + c.blocks.per * c.blocks.size = omega arith in
        omega arith
