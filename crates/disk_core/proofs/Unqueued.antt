-- The queue without the unit that was finished.
use Rattle.std.proofs.Common.{◌≡◌, ℕ, suc, ◌-◌, ◌*◌, inl, inr, Bool, true, false, not, ◌&&◌, List, [], ◌∷◌, map, slice_get, Some, refl, sym, ◌∙◌, ap, subst}
use Rattle.std.specs.Prelude.{filter, nat_eq, if◌then◌else◌}
use Rattle.std.proofs.lemmas.Bool.{cases_Bool, cases_eq, and_left, eq-eqb, ne_eqb}
use Rattle.std.proofs.lemmas.Option.{same_Some}
use Rattle.history.specs.declared.entry.Command.{Command}
use Rattle.history.specs.declared.entry.Entry.{Entry}
use Rattle.history.specs.declared.entry.Entry.TheVariants.{Done}
use Rattle.history.specs.Setup.{Setup, IsSetup, size_of}
use Rattle.history.specs.Tokens.{Request, request, changes_bytes}
use Rattle.history.specs.Marks.{IsOutstanding}
use Rattle.history.specs.Rules.{IsLegal}
use Rattle.history.specs.Tasks.{Task, Moves, Syncs, tasks_of, Todo, units_left}
use Rattle.history_laws.specs.Pending.{task_low, IsBefore, Ordered}
use Rattle.history_laws.proofs.OrderLemmas.{pending-ordered}
use Rattle.history_laws.proofs.PendingLemmas.{IsPending, filter-everything, pending-is}
use Rattle.subtask_queue.specs.declared.sub.Sub.{Sub}
use Rattle.subtask_queue.specs.declared.sub.Sub.TheVariants.{Part, Run}
use Rattle.subtask_queue.specs.Subs.{token_of, block_of, is_of, has_block, is_unit, sub_of_task, sub_of, without_first}
use Rattle.history_laws.proofs.LeftLemmas.{FinishesTask, is_here, pending-finished}
use Rattle.disk_core.proofs.Queued.{sub-token}
use Rattle.history_laws.proofs.LeftLemmas.{blocks-tell, once, task_block}

block-task : (size token : ℕ) (write : Bool) (task : Task) → block_of (sub_of_task size token write task) ≡ task_block task
block-task size token write Syncs = refl
block-task size token write (Moves u) = elim u.whole as (λ v. block_of (if v then Run token u.block u.count write else Part token u.block (u.low - u.block * size) (u.high - u.low) write) ≡ u.block) [ true ↦ refl | false ↦ refl ]

pub block-sub : (size : ℕ) (todo : Todo) → block_of (sub_of size todo) ≡ task_block todo.task
block-sub size todo = block-task size todo.token (changes_bytes todo.kind) todo.task

test-unit : (token block : ℕ) (s : Sub) → is_unit token block s ≡ (nat_eq token (token_of s) && nat_eq block (block_of s))
unfolding is_unit is_of has_block
test-unit token block s = refl

flip : (a b : ℕ) → nat_eq a b ≡ nat_eq b a
flip a b = elim (cases_eq a b) [
  | inl same ↦ eq-eqb a b same ∙ sym (eq-eqb b a (sym same))
  | inr other ↦ ne_eqb a b other ∙ sym (ne_eqb b a (λ same. other (sym same)))
]

-- the queue finds the unit as the history does
finds : (S : Setup) (H : List Entry) (t : ℕ) (r : Request) (task : Task) (place : ℕ) (todo : Todo) (q : Request) → IsSetup S → request H t ≡ Some r → slice_get (tasks_of S r) place ≡ Some task → IsPending S H todo q
    → is_unit t (task_block task) (sub_of (size_of S) todo) ≡ is_here t task todo
finds S H t r task place todo q is named listed left =
    test-unit t (task_block task) (sub_of (size_of S) todo)
    ∙ ap (λ v. nat_eq t v && nat_eq (task_block task) (block_of (sub_of (size_of S) todo))) (sub-token (size_of S) todo)
    ∙ ap (λ v. nat_eq t todo.token && nat_eq (task_block task) v) (block-sub (size_of S) todo)
    ∙ elim (cases_eq todo.token t) [
      | inr other ↦
          and_left (nat_eq t todo.token) (nat_eq (task_block task) (task_block todo.task)) (ne_eqb t todo.token (λ same. other (sym same)))
          ∙ sym (and_left (nat_eq todo.token t) (nat_eq (task_low todo.task) (task_low task)) (ne_eqb todo.token t other))
      | inl same ↦
          let one : q ≡ r = same_Some q r (sym left.named ∙ (ap (request H) same ∙ named)) in
          let there : slice_get (tasks_of S r) left.place ≡ Some todo.task = subst (λ v. slice_get (tasks_of S v) left.place ≡ Some todo.task) one left.listed in
          ap (λ b. b && nat_eq (task_block task) (task_block todo.task)) (flip t todo.token)
          ∙ ap (λ b. nat_eq todo.token t && b) (blocks-tell S r place left.place task todo.task is listed there)
    ]

-- taking all of them away takes the first, where there is at most one
without-one : (p : Todo → Bool) (q : Sub → Bool) (f : Todo → Sub) (xs : List Todo) → Ordered IsBefore xs → ((i : ℕ) (x : Todo) → slice_get xs i ≡ Some x → q (f x) ≡ p x) → ((x y : Todo) → IsBefore x y → p x ≡ true → p y ≡ false)
    → map f (filter (λ x. not (p x)) xs) ≡ without_first q (map f xs)
unfolding without_first Ordered
without-one p q f [] all same only = refl
without-one p q f (x ∷ xs) all same only = elim (cases_Bool (p x)) [
  | inl here ↦
      let rest : filter (λ y. not (p y)) xs ≡ xs = filter-everything (λ y. not (p y)) xs (λ i y at. ap not (only x y (all.0 i y at) here)) in
      let left : filter (λ y. not (p y)) (x ∷ xs) ≡ xs = (rw here refl) ∙ rest in
      ap (map f) left ∙ sym (ap (λ b. if b then map f xs else f x ∷ without_first q (map f xs)) (same 0 x refl ∙ here))
  | inr other ↦
      let left : filter (λ y. not (p y)) (x ∷ xs) ≡ x ∷ filter (λ y. not (p y)) xs = rw other refl in
      ap (map f) left ∙ ap (λ ys. f x ∷ ys) (without-one p q f xs all.1 (λ i y at. same (suc i) y at) only)
      ∙ sym (ap (λ b. if b then map f xs else f x ∷ without_first q (map f xs)) (same 0 x refl ∙ other))
]

pub queue-finished : (S : Setup) (H : List Entry) (t : ℕ) (c : Command) (r : Request) (task : Task) → IsSetup S → IsLegal S (Done t c ∷ H) → IsOutstanding S H t → FinishesTask S H t c r task
    → map (sub_of (size_of S)) (units_left S (Done t c ∷ H)) ≡ without_first (is_unit t (task_block task)) (map (sub_of (size_of S)) (units_left S H))
queue-finished S H t c r task is legal open_ finishes =
    ap (map (sub_of (size_of S))) (pending-finished S H t c r task is legal open_ finishes)
    ∙ without-one (is_here t task) (is_unit t (task_block task)) (sub_of (size_of S)) (units_left S H) (pending-ordered S H is)
    (λ i todo at. let left = pending-is S H i todo at in finds S H t r task finishes.place todo left.0 is finishes.named finishes.listed left.1)
    (once t task)
