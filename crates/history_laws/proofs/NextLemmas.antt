-- The first open token, its first unfinished unit, and the command that comes next.
use Rattle.std.proofs.Common.{◌≡◌, ◌≢◌, ℕ, zero, suc, ◌<◌, inl, inr, Bool, true, false, not, List, [], ◌∷◌, slice_get, Option, None, Some, is_none, find, refl, sym, ◌∙◌, ap, arith, nat_lt}
use Rattle.std.proofs.lemmas.Bool.{cases_Bool, lt-ltb, ltb-true, and_parts, and_from, and_right, not-true}
use Rattle.efi_status.specs.declared.Status.{Status}
use Rattle.history.specs.declared.entry.Entry.{Entry}
use Rattle.history.specs.Setup.{Setup}
use Rattle.history.specs.Tokens.{Request, token_count, request}
use Rattle.history.specs.Marks.{mark_of, is_outstanding, IsOutstanding}
use Rattle.history.specs.Tasks.{Task, tasks_of, is_finished, task_command}
use Rattle.history.specs.Next.{first_open, next_task, next_turn}
use Rattle.history_laws.proofs.ScanLemmas.{first_from-none, first_from-some, first_from-fails}

-- the test for an open token
pub outstanding-test : (S : Setup) (H : List Entry) (t : ℕ) → IsOutstanding S H t → is_outstanding S H t ≡ true
outstanding-test S H t open_ = and_from (nat_lt t (token_count H)) (is_none (mark_of S H t)) (lt-ltb t (token_count H) open_.token) (ap is_none open_.unmarked)

none-is : (m : Option Status) → is_none m ≡ true → m ≡ None
none-is None is = refl
none-is (Some status) is = cc

pub outstanding-from : (S : Setup) (H : List Entry) (t : ℕ) → is_outstanding S H t ≡ true → IsOutstanding S H t
outstanding-from S H t is =
    let parts : (nat_lt t (token_count H) ≡ true) × (is_none (mark_of S H t) ≡ true) = and_parts (nat_lt t (token_count H)) (is_none (mark_of S H t)) is in
    record { token = ltb-true t (token_count H) parts.0; unmarked = none-is (mark_of S H t) parts.1 }

pub ended-test : (S : Setup) (H : List Entry) (t : ℕ) → mark_of S H t ≢ None → is_outstanding S H t ≡ false
ended-test S H t ended = and_right (nat_lt t (token_count H)) (is_none (mark_of S H t)) (by (mark_of S H t) ended)
  where
    by : (m : Option Status) → m ≢ None → is_none m ≡ false
    by None ne = absurd (ne refl)
    by (Some status) ne = refl

-- none where all have ended
pub first-open-none : (S : Setup) (H : List Entry) → ((u : ℕ) → u < token_count H → mark_of S H u ≢ None) → first_open S H ≡ None
unfolding first_open
first-open-none S H ended = first_from-none (is_outstanding S H) 0 (token_count H) (λ u lo hi. ended-test S H u (ended u (omega arith)))

-- the first open token is open, and each before it has ended
pub first-open-some : (S : Setup) (H : List Entry) (t : ℕ) → first_open S H ≡ Some t → IsOutstanding S H t × ((u : ℕ) → u < t → is_outstanding S H u ≡ false)
unfolding first_open
first-open-some S H t is =
    let (lo, hi, open_, before) = first_from-some (is_outstanding S H) 0 (token_count H) t is in
    (outstanding-from S H t open_, λ u below. before u (omega arith) below)

-- where there is none, no token is open
pub first-open-fails : (S : Setup) (H : List Entry) (t : ℕ) → first_open S H ≡ None → IsOutstanding S H t → ⊥
unfolding first_open
first-open-fails S H t none open_ =
    let no_way : true ≡ false = sym (outstanding-test S H t open_) ∙ first_from-fails (is_outstanding S H) 0 (token_count H) t none (omega arith) (omega (arith, open_.token)) in
    absurd (clash no_way)
  where
    clash : true ≡ false → ⊥
    clash e = cc

-- it stands in the list, passes the test, and none before it does
pub find-some : {X : Type 0} (test : X → Bool) (xs : List X) (x : X) → find test xs ≡ Some x → (k : ℕ) × (slice_get xs k ≡ Some x) × (test x ≡ true) × ((j : ℕ) (y : X) → j < k → slice_get xs j ≡ Some y → test y ≡ false)
find-some test [] x is = cc
find-some {X} test (y ∷ xs) x is = elim (cases_Bool (test y)) [
  | inl holds ↦
      let e : Some y ≡ Some x = rw holds at is in
      let same : y ≡ x = cc in
      (0, e, rw (← same) holds, λ j z less at. absurd (omega arith))
  | inr fails ↦
      let e : find test xs ≡ Some x = rw fails at is in
      let (k, there, here, before) = find-some test xs x e in
      (suc k, there, here, λ j z less at. earlier k before fails j z less at)
]
  where
    earlier : (k : ℕ) → ((j : ℕ) (z : X) → j < k → slice_get xs j ≡ Some z → test z ≡ false) → test y ≡ false → (j : ℕ) (z : X) → j < suc k → slice_get (y ∷ xs) j ≡ Some z → test z ≡ false
    earlier k before fails zero z less at = let same : y ≡ z = cc in rw (← same) fails
    earlier k before fails (suc j) z less at = before j z (omega arith) at

-- the unit that comes next is one of the request's, is not finished, and those before it are
pub next-task-some : (S : Setup) (H : List Entry) (t : ℕ) (r : Request) (task : Task) → next_task S H t r ≡ Some task
    → (k : ℕ) × (slice_get (tasks_of S r) k ≡ Some task) × (is_finished S H t task ≡ false)
unfolding next_task
next-task-some S H t r task is =
    let (k, there, here, before) = find-some (λ other. not (is_finished S H t other)) (tasks_of S r) task is in
    (k, there, not-true (is_finished S H t task) here)

-- the command that comes next is that of the first open token's next unit
pub next-turn-is : (S : Setup) (H : List Entry) (t : ℕ) (r : Request) (task : Task) → first_open S H ≡ Some t → request H t ≡ Some r → next_task S H t r ≡ Some task
    → next_turn S H ≡ Some (record { token = t; command = task_command H t r.asked.kind task })
unfolding next_turn
next-turn-is S H t r task first named next = rw (first, named, next)

-- no command comes next where no token is open
pub next-turn-none : (S : Setup) (H : List Entry) → first_open S H ≡ None → next_turn S H ≡ None
unfolding next_turn
next-turn-none S H none = rw none
