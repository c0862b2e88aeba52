-- The command of a runnable unit may be made.
use Rattle.std.proofs.Common.{◌≡◌, ℕ, ◌+◌, ◌<◌, ◌≤◌, inl, inr, Bool, true, false, not, ◌&&◌, ◌||◌, if◌then◌else◌, List, slice_get, Some, refl, ◌∙◌, ap}
use Rattle.std.proofs.lemmas.Bool.{cases_Bool, and_parts, both_ways, not-true}
use Rattle.disk_split.specs.declared.span.Span.{Span}
use Rattle.disk_split.specs.Units.{IsUnit, IsKind}
use Rattle.history.specs.declared.entry.Kind.{Kind}
use Rattle.history.specs.declared.entry.Kind.TheVariants.{Read, Write, Flush, Erase}
use Rattle.history.specs.declared.entry.Command.{Command}
use Rattle.history.specs.declared.entry.Command.TheVariants.{Fetch, Store}
use Rattle.history.specs.declared.entry.Entry.{Entry}
use Rattle.history.specs.Setup.{Setup, IsSetup}
use Rattle.history.specs.Tokens.{Request, request, is_read, is_write, is_flush, is_erase, changes_bytes, from_of, until_of}
use Rattle.history.specs.Commands.{is_store, is_put, is_get, is_wipe, is_transfer, is_at, has_done, is_moved}
use Rattle.history.specs.Marks.{all_from, was_fetched, Holds, is_held, IsOutstanding}
use Rattle.history.specs.Rules.{IsOpen, IsUnheld, MayCommand, IsLegal}
use Rattle.history.specs.Tasks.{Task, Moves, Syncs, tasks_of, is_finished, Todo, is_task_clear, is_runnable, units_left, first_runnable, span_command, task_command}
use Rattle.history_laws.proofs.ScanLemmas.{all_from-each}
use Rattle.history_laws.proofs.UnitLemmas.{unmoved-undone, store-transfers, put-transfers, get-transfers, wipe-transfers}
use Rattle.history_laws.proofs.TaskLemmas.{task-unit, task-sync, task-moving}
use Rattle.history_laws.proofs.OwedLemmas.{group-start-part}
use Rattle.history_laws.proofs.HolderLemmas.{unheld-from, holder-held}
use Rattle.history_laws.proofs.NextLemmas.{find-some}
use Rattle.history_laws.proofs.PendingLemmas.{IsPending, pending-is}

-- a unit of an open token that is not finished
pub record IsLeftUnit (S : Setup) (H : List Entry) (t : ℕ) (r : Request) (u : Span) : Type 0 where
  pub outstanding : IsOutstanding S H t
  pub named : request H t ≡ Some r
  pub unit : IsUnit S.geometry (from_of S r) (until_of S r) u
  pub unmoved : is_moved S H t u.low ≡ false

undone : (S : Setup) (H : List Entry) (t : ℕ) (r : Request) (u : Span) (test : Command → Bool) → IsSetup S → IsLegal S H → IsLeftUnit S H t r u → ((c : Command) → test c ≡ true → is_transfer c ≡ true) → has_done (is_at test u.block) H t ≡ false
undone S H t r u test is legal left only = unmoved-undone S H t r test u is legal left.named left.unit only left.unmoved

-- a runnable part that changes bytes is not fetched
pub part-unfetched : (S : Setup) (H : List Entry) (t : ℕ) (r : Request) (u : Span) → IsSetup S → IsLegal S H → IsLeftUnit S H t r u → IsKind S.geometry (from_of S r) (until_of S r) false u.block u.count → is_held S H u.block ≡ false → was_fetched H t u.block ≡ false
part-unfetched S H t r u is legal left (part, count) unheld = elim (cases_Bool (was_fetched H t u.block)) [
  | inr unfetched ↦ unfetched
  | inl fetched ↦
      let holds : Holds S H t u.block = record { outstanding = left.outstanding; fetched = fetched; unstored = undone S H t r u is_store is legal left store-transfers } in
      absurd (both_ways (is_held S H u.block) unheld (holder-held S H t u.block (rw (group-start-part S.geometry (from_of S r) (until_of S r) u.block is.geometry part) holds)))
]

span-may : (S : Setup) (H : List Entry) (t : ℕ) (r : Request) (u : Span) (free : Bool) → IsSetup S → IsLegal S H → IsLeftUnit S H t r u → is_flush r.asked.kind ≡ false → is_task_clear (is_held S H) free r.asked.kind (Moves u) ≡ true
    → MayCommand S H t (span_command H t r.asked.kind u.whole u.block u.count)
unfolding MayCommand
span-may S H t r u free is legal left moving clear = by r.asked.kind refl u.whole moving left.unit.kind clear
  where
    at : (of_kind : Kind → Bool) (kind : Kind) → r.asked.kind ≡ kind → of_kind kind ≡ true → IsOpen S H t of_kind r
    at of_kind kind is_kind passes = record { outstanding = left.outstanding; named = left.named; kind = ap of_kind is_kind ∙ passes }

    covered : all_from (λ b. not (is_held S H b)) u.block u.count ≡ true → (c : ℕ) → u.block ≤ c → c < u.block + u.count → IsUnheld S H c
    covered all c from until = unheld-from S H c (not-true (is_held S H c) (all_from-each (λ b. not (is_held S H b)) u.block u.count c all from until))

    fetched : (kind : Kind) → r.asked.kind ≡ kind → changes_bytes kind ≡ true → IsKind S.geometry (from_of S r) (until_of S r) false u.block u.count → is_held S H u.block ≡ false
        → (f : Bool) → was_fetched H t u.block ≡ f → MayCommand S H t (if f then Store u.block else Fetch u.block)
    fetched kind is_kind changes part unheld true was = absurd (both_ways (was_fetched H t u.block) (part-unfetched S H t r u is legal left part unheld) was)
    fetched kind is_kind changes part unheld false was =
        (r, record { at = at changes_bytes kind is_kind changes; part = part.0; unstored = undone S H t r u is_store is legal left store-transfers; free = unheld-from S H u.block unheld })

    part-clear : (not (is_held S H u.block) && free) ≡ true → is_held S H u.block ≡ false
    part-clear both = not-true (is_held S H u.block) (and_parts (not (is_held S H u.block)) free both).0

    by : (kind : Kind) → r.asked.kind ≡ kind → (whole : Bool) → is_flush kind ≡ false → IsKind S.geometry (from_of S r) (until_of S r) whole u.block u.count
        → (not (changes_bytes kind) || (if whole then all_from (λ b. not (is_held S H b)) u.block u.count else not (is_held S H u.block) && free)) ≡ true
        → MayCommand S H t (span_command H t kind whole u.block u.count)
    by Read is_kind true moving run clear = (r, record { at = at is_read Read is_kind refl; unit = inl run; undone = undone S H t r u is_get is legal left get-transfers })
    by Read is_kind false moving part clear = (r, record { at = at is_read Read is_kind refl; unit = inr part; undone = undone S H t r u is_get is legal left get-transfers })
    by Write is_kind true moving run clear = (r, record { at = at is_write Write is_kind refl; run = run; undone = undone S H t r u is_put is legal left put-transfers; free = covered clear })
    by Erase is_kind true moving run clear = (r, record { at = at is_erase Erase is_kind refl; run = run; undone = undone S H t r u is_wipe is legal left wipe-transfers; free = covered clear })
    by Write is_kind false moving part clear = fetched Write is_kind refl part (part-clear clear) (was_fetched H t u.block) refl
    by Erase is_kind false moving part clear = fetched Erase is_kind refl part (part-clear clear) (was_fetched H t u.block) refl
    by Flush is_kind whole moving of clear = cc

-- the command of a unit that is left and may run may be made
pub left-may : (S : Setup) (H : List Entry) (free : Bool) (todo : Todo) (r : Request) → IsSetup S → IsLegal S H → IsPending S H todo r → is_runnable (is_held S H) free todo ≡ true → MayCommand S H todo.token (task_command H todo.token todo.kind todo.task)
unfolding MayCommand
left-may S H free todo r is legal pending_ clear = rw pending_.kind (by todo.task pending_.listed pending_.unfinished (rw pending_.kind at clear))
  where
    by : (task : Task) → slice_get (tasks_of S r) pending_.place ≡ Some task → is_finished S H todo.token task ≡ false → is_task_clear (is_held S H) free r.asked.kind task ≡ true → MayCommand S H todo.token (task_command H todo.token r.asked.kind task)
    by Syncs listed unfinished clear = (r, record { outstanding = pending_.outstanding; named = pending_.named; kind = task-sync S r pending_.place listed })
    by (Moves u) listed unfinished clear =
        span-may S H todo.token r u free is legal (record { outstanding = pending_.outstanding; named = pending_.named; unit = task-unit S r pending_.place u is listed; unmoved = unfinished }) (task-moving S r pending_.place u listed) clear

-- so that of the first runnable one may be
pub runnable-may : (S : Setup) (H : List Entry) (free : Bool) (todo : Todo) → IsSetup S → IsLegal S H → first_runnable (is_held S H) free S H ≡ Some todo → MayCommand S H todo.token (task_command H todo.token todo.kind todo.task)
unfolding first_runnable
runnable-may S H free todo is legal first =
    let (k, there, clear, before) = find-some (is_runnable (is_held S H) free) (units_left S H) todo first in
    let (r, left) = pending-is S H k todo there in
    left-may S H free todo r is legal left clear
