-- An outstanding token has a unit that is left, and the first that may run.
use Rattle.std.proofs.Common.{Bool, List, Some, [], ap, arith, inl, inr, map, nat_eq, not, refl, subst, suc, true, zero, ℕ, ◌<◌, ◌||◌, ◌∙◌, ◌∷◌, ◌≡◌}
use Rattle.std.proofs.lemmas.Bool.{cases_Bool, cases_eq, eq-eqb, or_left, or_right}
use Rattle.std.proofs.lemmas.List.Folds.{list_any-append}
use Rattle.std.specs.List.{find, list_any}
use Rattle.std.specs.Prelude.{filter}
use Rattle.history.specs.Marks.{IsOutstanding, is_held}
use Rattle.history.specs.Next.{next_task}
use Rattle.history.specs.Rules.{IsLegal, MayCommand}
use Rattle.history.specs.Setup.{IsSetup, Setup}
use Rattle.history.specs.Tasks.{Todo, is_finished, is_runnable, units_left, task_command, tasks_of, todo_before, todo_of}
use Rattle.history.specs.Tokens.{Request, token_count}
use Rattle.history.specs.declared.entry.Entry.{Entry}
use Rattle.history_laws.proofs.NextLemmas.{outstanding-test}
use Rattle.history_laws.proofs.PendingLemmas.{IsPending, todo-open}
use Rattle.history_laws.proofs.RunnableLemmas.{open-unfinished}
use Rattle.history_laws.proofs.TokenLemmas.{request-some}
use Rattle.history_laws.specs.Pending.{todo_at}

-- ---- tokens and their units

any-filtered : {X : Type 0} (keep test : X → Bool) (xs : List X) (x : X) → find keep xs ≡ Some x → ((y : X) → test y ≡ true) → list_any test (filter keep xs) ≡ true
any-filtered keep test [] x there all = cc
any-filtered keep test (y ∷ xs) x there all = elim (cases_Bool (keep y)) [
  | inl kept ↦ rw kept (or_left (test y) (list_any test (filter keep xs)) (all y))
  | inr dropped ↦ rw dropped (any-filtered keep test xs x (rw dropped at there) all)
]

any-mapped : {X Y : Type 0} (f : X → Y) (test : Y → Bool) (xs : List X) → list_any test (map f xs) ≡ list_any (λ x. test (f x)) xs
any-mapped f test [] = refl
any-mapped f test (x ∷ xs) = ap (λ b. test (f x) || b) (any-mapped f test xs)

open-todo : (S : Setup) (H : List Entry) (t : ℕ) → IsSetup S → IsLegal S H → IsOutstanding S H t → list_any (λ todo. nat_eq t todo.token) (todo_of S H t) ≡ true
unfolding next_task
open-todo S H t is legal open_now =
    let named = request-some H t open_now.token in
    let unfinished = open-unfinished S H t named.0 is legal open_now named.1 in
    rw (todo-open S H t named.0 (outstanding-test S H t open_now) named.1)
    (any-mapped (todo_at t named.0) (λ todo. nat_eq t todo.token) (filter (λ task. not (is_finished S H t task)) (tasks_of S named.0))
    ∙ any-filtered (λ task. not (is_finished S H t task)) (λ task. nat_eq t t) (tasks_of S named.0) unfinished.0 unfinished.1 (λ task. eq-eqb t t refl))

open-before : (S : Setup) (H : List Entry) (t n : ℕ) → IsSetup S → IsLegal S H → IsOutstanding S H t → t < n → list_any (λ todo. nat_eq t todo.token) (todo_before S H n) ≡ true
unfolding todo_before
open-before S H t zero is legal open_now below = absurd (omega arith)
open-before S H t (suc n) is legal open_now below =
    list_any-append (λ (todo : Todo). nat_eq t todo.token) (todo_before S H n) (todo_of S H n) ∙ elim (cases_eq t n) [
      | inl same ↦ or_right (list_any (λ todo. nat_eq t todo.token) (todo_before S H n)) (list_any (λ todo. nat_eq t todo.token) (todo_of S H n))
          (subst (λ m. list_any (λ todo. nat_eq t todo.token) (todo_of S H m) ≡ true) same (open-todo S H t is legal open_now))
      | inr other ↦ or_left (list_any (λ todo. nat_eq t todo.token) (todo_before S H n)) (list_any (λ todo. nat_eq t todo.token) (todo_of S H n)) (open-before S H t n is legal open_now (omega (arith, other)))
    ]

-- an open token has a unit
pub open-pending : (S : Setup) (H : List Entry) (t : ℕ) → IsSetup S → IsLegal S H → IsOutstanding S H t → list_any (λ todo. nat_eq t todo.token) (units_left S H) ≡ true
open-pending S H t is legal open_now = open-before S H t (token_count H) is legal open_now open_now.token

-- a unit that is left, and its command may be made
pub record IsNext (S : Setup) (H : List Entry) (free : Bool) (todo : Todo) (r : Request) : Type 0 where
  pub left : IsPending S H todo r
  pub clear : is_runnable (is_held S H) free todo ≡ true
  pub may : MayCommand S H todo.token (task_command H todo.token todo.kind todo.task)
