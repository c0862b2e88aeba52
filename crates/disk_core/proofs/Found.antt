-- The queue finds the unit that the history finds.
use Rattle.std.proofs.Common.{◌≡◌, ℕ, ◌+◌, ◌*◌, ◌/◌, ◌<◌, ◌≤◌, ◌⊎◌, inl, inr, Bool, true, false, not, ◌&&◌, ◌||◌, List, slice_get, Some, refl, sym, ◌∙◌, ap, subst, arith}
use Rattle.std.specs.Prelude.{nat_lt, vec_capacity, if◌then◌else◌, find}
use Rattle.std.specs.Option.{option_map}
use Rattle.std.proofs.Math.Nat.{le-div_iff_mul-le, div-mul-le_self, mul-le-mul_right}
use Rattle.std.proofs.lemmas.Bool.{eqb-true, or_cases, not_from_false, not-true, false_from_ne_true, true≢false}
use Rattle.std.specs.Prelude.{◌==◌}
use Rattle.std.specs.Cmp.{both_ways}
use Rattle.medium.specs.Device.{Device}
use Rattle.drive.specs.Drives.{DriveState, IsPer}
use Rattle.block_gate.specs.Gates.{Gates, is_block_held}
use Rattle.block_gate.proofs.GatesLemmas.{held-by}
use Rattle.disk_split.specs.declared.span.Span.{Span}
use Rattle.disk_split.specs.Units.{group_start, group_size, up, IsUnit, IsKind}
use Rattle.history.specs.declared.entry.Entry.{Entry}
use Rattle.history.specs.Setup.{Setup, IsSetup, per_of}
use Rattle.history.specs.Tokens.{Request, changes_bytes, from_of, until_of}
use Rattle.history.specs.Marks.{all_from, is_held}
use Rattle.history.specs.Rules.{IsLegal}
use Rattle.history.specs.Tasks.{Task, Moves, Syncs, Todo, tasks_of, units_left, is_clear, is_task_clear, is_runnable, first_runnable}
use Rattle.history_laws.proofs.HolderLemmas.{held-holder}
use Rattle.history_laws.proofs.OwedLemmas.{group-start-part}
use Rattle.history_laws.proofs.PendingLemmas.{IsPending, pending-is}
use Rattle.history_laws.proofs.ScanLemmas.{all_from-true, all_from-each}
use Rattle.history_laws.proofs.TaskLemmas.{task-unit}
use Rattle.subtask_queue.specs.Subs.{may_run, sub_of}
use Rattle.subtask_queue.proofs.SubsLemmas.{find-sub_of}
use Rattle.disk_core.specs.declared.parts.Core.{Core}
use Rattle.disk_core.specs.declared.parts.Holder.{Holder}
use Rattle.disk_core.specs.State.{setup_of}
use Rattle.disk_core.specs.Facts.{GatesFollow}
use Rattle.disk_core.specs.Parts.{state_of}
use Rattle.disk_core.specs.Inside.{HoldersFollow}
use Rattle.disk_core.specs.Calls.{first_todo}
use Rattle.disk_core.specs.Moves.{IsDisk}
use Rattle.disk_core.proofs.Gated.{held-block, unheld-block}
use Rattle.disk_core.proofs.Upcoming.{legal-in}
use Rattle.history_laws.proofs.FetchLemmas.{fetched-ticket, find-alike}

-- 64 blocks are whole groups
whole-runs : (per : ℕ) → IsPer per → (m : ℕ) × (64 ≡ m * per)
whole-runs per is = by (or_cases (per == 1) _ is)
  where
    at : (k m : ℕ) → 64 ≡ m * k → (per == k) ≡ true → (m : ℕ) × (64 ≡ m * per)
    at k m all same = (m, all ∙ ap (λ v. m * v) (sym (eqb-true per k same)))

    last : ((per == 4) ≡ true) ⊎ ((per == 8) ≡ true) → (m : ℕ) × (64 ≡ m * per)
    last (inl e) = at 4 16 refl e
    last (inr e) = at 8 8 refl e

    second : ((per == 2) ≡ true) ⊎ (((per == 4) || (per == 8)) ≡ true) → (m : ℕ) × (64 ≡ m * per)
    second (inl e) = at 2 32 refl e
    second (inr e) = last (or_cases (per == 4) (per == 8) e)

    by : ((per == 1) ≡ true) ⊎ (((per == 2) || ((per == 4) || (per == 8))) ≡ true) → (m : ℕ) × (64 ≡ m * per)
    by (inl e) = at 1 64 refl e
    by (inr e) = second (or_cases (per == 2) ((per == 4) || (per == 8)) e)

module _ (S : Setup) (H : List Entry) (gates : Gates) (holders : List Holder) (places : ℕ) (setup : IsSetup S) (legal : IsLegal S H) (follow : GatesFollow S H gates) (holding_ : HoldersFollow S H gates holders places) (free : Bool) where
  -- the first block of a held group has its gate
  start-held : (b : ℕ) → is_held S H b ≡ true → is_block_held gates.held (group_start S.geometry b) ≡ true
  start-held b is =
      let holder = held-holder S H b is in
      let t = holder.0 in
      let ticket = fetched-ticket H t (group_start S.geometry b) holder.1.fetched in
      let gate = follow.all t (group_start S.geometry b) ticket.0 (record { holds = holder.1; ticket_is = ticket.1 }) in
      subst (λ v. is_block_held gates.held v ≡ true) gate.2 (held-by gates.held ticket.0 gate.0 gate.1)

  start-agrees : (b : ℕ) → group_start S.geometry b ≡ b → is_block_held gates.held b ≡ is_held S H b
  start-agrees b starts = both_ways (is_block_held gates.held b) (is_held S H b) (held-block S H gates holders places setup legal follow holding_ b) (λ is. subst (λ v. is_block_held gates.held v ≡ true) starts (start-held b is))

  -- no block of a run of whole groups is held by a gate exactly where none is in the history
  run-agrees : (b n q : ℕ) → b ≡ q * per_of S → all_from (λ at. not (is_block_held gates.held at)) b n ≡ all_from (λ at. not (is_held S H at)) b n
  run-agrees b n q aligned = both_ways (all_from (λ at. not (is_block_held gates.held at)) b n) (all_from (λ at. not (is_held S H at)) b n)
      (λ none. all_from-true (λ at. not (is_held S H at)) b n (λ at lo hi. not_from_false (is_held S H at) (false_from_ne_true (is_held S H at) (λ held. inside at lo hi none held))))
      (λ none. all_from-true (λ at. not (is_block_held gates.held at)) b n
      (λ at lo hi. not_from_false (is_block_held gates.held at) (unheld-block S H gates holders places setup legal follow holding_ at (not-true (is_held S H at) (all_from-each (λ x. not (is_held S H x)) b n at none lo hi)))))
    where
      inside : (at : ℕ) → b ≤ at → at < b + n → all_from (λ x. not (is_block_held gates.held x)) b n ≡ true → is_held S H at ≡ true → ⊥
      inside at lo hi none held =
          let per_some = setup.geometry.per_some in
          let low : q ≤ at / per_of S = (le-div_iff_mul-le {k = per_of S} {x = q} {y = at} (omega arith)).1 (omega arith) in
          let start : q * per_of S ≤ at / per_of S * per_of S = mul-le-mul_right (per_of S) low in
          let under = div-mul-le_self at (per_of S) in
          let not_here = all_from-each (λ x. not (is_block_held gates.held x)) b n (group_start S.geometry at) none (omega arith) (omega arith) in
          true≢false (sym (start-held at held) ∙ not-true (is_block_held gates.held (group_start S.geometry at)) not_here)

  unit-agrees : IsPer (per_of S) → (from until : ℕ) (u : Span) → IsUnit S.geometry from until u → is_clear (is_block_held gates.held) free u ≡ is_clear (is_held S H) free u
  unit-agrees per from until u unit = by u.whole unit.kind
    where
      by : (w : Bool) → IsKind S.geometry from until w u.block u.count
          → (if w then all_from (λ b. not (is_block_held gates.held b)) u.block u.count else not (is_block_held gates.held u.block) && free) ≡ (if w then all_from (λ b. not (is_held S H b)) u.block u.count else not (is_held S H u.block) && free)
      by false part = ap (λ v. not v && free) (start-agrees u.block (group-start-part S.geometry from until u.block setup.geometry part.0))
      by true run =
          let runs = whole-runs (per_of S) per in
          let m = runs.0 in
          let first = up (group_size S.geometry) from in
          let begins = run.begins in
          let i = run.number in
          let all : 64 * i ≡ m * i * per_of S = ap (λ k. k * i) runs.1 ∙ omega arith in
          let sum : (first + m * i) * per_of S ≡ first * per_of S + m * i * per_of S = omega arith in
          run-agrees u.block u.count (first + m * i) (omega arith)

  todo-agrees : IsPer (per_of S) → (todo : Todo) (r : Request) → IsPending S H todo r → is_runnable (is_block_held gates.held) free todo ≡ is_runnable (is_held S H) free todo
  todo-agrees per todo r left = by todo.task left.listed
    where
      by : (task : Task) → slice_get (tasks_of S r) left.place ≡ Some task → is_task_clear (is_block_held gates.held) free todo.kind task ≡ is_task_clear (is_held S H) free todo.kind task
      by Syncs listed = refl
      by (Moves u) listed = ap (λ v. not (changes_bytes todo.kind) || v) (unit-agrees per (from_of S r) (until_of S r) u (task-unit S r left.place u setup listed))

-- the first unit of the queue that may run is the first runnable one of the history
pub found-first : {M : Type 0} (device : M → Device) (prepared : M → ℕ → Type 0) (drive : DriveState M) (c : Core) → IsDisk device prepared drive c
    → find (may_run (is_block_held c.gates.held) (nat_lt 0 c.gates.free)) c.queue ≡ option_map (sub_of drive.size) (first_todo (state_of device drive c))
unfolding state_of first_runnable setup_of
found-first device prepared drive c sound =
    let S = setup_of device drive c.protected_at_first in
    let H = c.history.entries in
    let free = nat_lt 0 c.gates.free in
    let legal = legal-in device prepared drive c sound in
    ap (find (may_run (is_block_held c.gates.held) free)) sound.queue
    ∙ find-sub_of (is_block_held c.gates.held) free drive.size (units_left S H)
    ∙ ap (option_map (sub_of drive.size)) (find-alike (is_runnable (is_block_held c.gates.held) free) (is_runnable (is_held S H) free) (units_left S H)
    (λ i todo at. let left = pending-is S H i todo at in todo-agrees S H c.gates c.holders.items (vec_capacity c.holders) sound.geometry legal sound.facts.gates sound.holders free sound.drive_follows.shape.per todo left.0 left.1))
