-- Each unfinished unit of a token still owes a command, and an open token was not handed back.
use Rattle.std.proofs.Common.{Bool, List, None, Option, Some, [], ap, arith, false, inl, inr, length, nat_eq, not, refl, slice_get, suc, sym, true, zero, ℕ, ◌+◌, ◌∙◌, ◌∷◌, ◌≡◌, ◌≤◌, ◌⊎◌}
use Rattle.std.proofs.lemmas.Bool.{cases_Bool, cases_eq, ne_eqb}
use Rattle.std.proofs.lemmas.List.{length-map}
use Rattle.std.proofs.lemmas.List.Sums.{count_by-le-length, sum_by-append, sum_by-cons}
use Rattle.std.specs.Prelude.{count_by, filter, sum_by}
use Rattle.efi_status.specs.declared.Status.{Status}
use Rattle.history.specs.Commands.{done_commands, has_done, is_at, is_get, is_put, is_store, is_transfer, is_wipe}
use Rattle.history.specs.Marks.{is_outstanding, mark_of}
use Rattle.history.specs.Room.{commands_owed, request_owed, part_owed, span_owed, task_owed}
use Rattle.history.specs.Rules.{IsLegal, MayFollow}
use Rattle.history.specs.Setup.{IsSetup, Setup}
use Rattle.history.specs.Tasks.{Moves, Syncs, Task, Todo, is_finished, units_left, tasks_of, todo_before, todo_of}
use Rattle.history.specs.Tokens.{Request, token_count, is_flush, request, was_collected}
use Rattle.history.specs.declared.entry.Command.{Command}
use Rattle.history.specs.declared.entry.Entry.{Entry}
use Rattle.history.specs.declared.entry.Entry.TheVariants.{Collect}
use Rattle.history.specs.declared.entry.Kind.{Kind}
use Rattle.history.specs.declared.entry.Kind.TheVariants.{Erase, Flush, Read, Write}
use Rattle.history_laws.proofs.CountLemmas.{count-same}
use Rattle.history_laws.proofs.EndLemmas.{mark-before}
use Rattle.history_laws.proofs.OwedLemmas.{commands-same}
use Rattle.history_laws.proofs.PendingLemmas.{before-is, todo-closed, todo-is, todo-open}
use Rattle.history_laws.proofs.TaskLemmas.{task-moving, task-unit}
use Rattle.history_laws.proofs.TokenLemmas.{collected-same}
use Rattle.history_laws.proofs.UnitLemmas.{get-transfers, put-transfers, store-transfers, unmoved-undone, wipe-transfers}

pub count-none : {X : Type 0} (test : X → Bool) (xs : List X) → ((k : ℕ) (x : X) → slice_get xs k ≡ Some x → test x ≡ false) → count_by test xs ≡ 0
count-none test [] none = refl
count-none test (x ∷ xs) none = count-same test x xs (none 0 x refl) ∙ count-none test xs (λ k y there. none (suc k) y there)

part-owes : (fetched : Bool) → 1 ≤ part_owed fetched false
part-owes true = omega arith
part-owes false = omega arith

span-owes : (H : List Entry) (t b : ℕ) (kind : Kind) (whole : Bool) → is_flush kind ≡ false → ((test : Command → Bool) → ((c : Command) → test c ≡ true → is_transfer c ≡ true) → has_done (is_at test b) H t ≡ false)
    → 1 ≤ span_owed kind H t whole b
span-owes H t b Read whole moving undone = rw (undone is_get get-transfers) (omega arith)
span-owes H t b Write true moving undone = rw (undone is_put put-transfers) (omega arith)
span-owes H t b Write false moving undone = rw (undone is_store store-transfers) (part-owes _)
span-owes H t b Flush whole moving undone = cc
span-owes H t b Erase true moving undone = rw (undone is_wipe wipe-transfers) (omega arith)
span-owes H t b Erase false moving undone = rw (undone is_store store-transfers) (part-owes _)

-- a unit that is not finished owes a command
pub task-owes : (S : Setup) (H : List Entry) (t : ℕ) (r : Request) (k : ℕ) (task : Task) → IsSetup S → IsLegal S H → request H t ≡ Some r → slice_get (tasks_of S r) k ≡ Some task → is_finished S H t task ≡ false
    → 1 ≤ task_owed r.asked.kind H t task
task-owes S H t r k (Moves u) is legal named there unfinished =
    span-owes H t u.block r.asked.kind u.whole (task-moving S r k u there) (λ test only. unmoved-undone S H t r test u is legal named (task-unit S r k u is there) only unfinished)
task-owes S H t r k Syncs is legal named there unfinished = rw unfinished (omega arith)

kept-owe : {X : Type 0} (keep : X → Bool) (f : X → ℕ) (xs : List X) → ((k : ℕ) (x : X) → slice_get xs k ≡ Some x → keep x ≡ true → 1 ≤ f x) → length (filter keep xs) ≤ sum_by f xs
kept-owe keep f [] owes = omega arith
kept-owe keep f (x ∷ xs) owes = by (cases_Bool (keep x)) (kept-owe keep f xs (λ k y there. owes (suc k) y there))
  where
    by : (keep x ≡ true) ⊎ (keep x ≡ false) → length (filter keep xs) ≤ sum_by f xs → length (filter keep (x ∷ xs)) ≤ sum_by f (x ∷ xs)
    by (inl kept) rest = rw (kept, sum_by-cons) (omega (arith, owes 0 x refl kept))
    by (inr dropped) rest = rw (dropped, sum_by-cons) (omega arith)

todos-few : (S : Setup) (H : List Entry) (t : ℕ) (r : Request) → IsSetup S → IsLegal S H → request H t ≡ Some r → length (todo_of S H t) ≤ commands_owed S H t r
unfolding commands_owed
todos-few S H t r is legal named = elim (cases_Bool (is_outstanding S H t)) [
  | inr closed ↦ rw (todo-closed S H t closed) (omega arith)
  | inl open_ ↦
      rw (todo-open S H t r open_ named, length-map)
      (kept-owe (λ task. not (is_finished S H t task)) (task_owed r.asked.kind H t) (tasks_of S r)
      (λ k task there unfinished. task-owes S H t r k task is legal named there (not-true (is_finished S H t task) unfinished)))
]
  where
    not-true : (b : Bool) → not b ≡ true → b ≡ false
    not-true true e = cc
    not-true false e = refl

before-none : (S : Setup) (H : List Entry) (t n : ℕ) → n ≤ t → count_by (λ todo. nat_eq t todo.token) (todo_before S H n) ≡ 0
before-none S H t n below = count-none (λ (todo : Todo). nat_eq t todo.token) (todo_before S H n) (λ k todo there. let low = (before-is S H n k todo there).0 in ne_eqb t todo.token (λ same. absurd (omega arith)))

before-few : (S : Setup) (H : List Entry) (t n : ℕ) → count_by (λ todo. nat_eq t todo.token) (todo_before S H n) ≤ length (todo_of S H t)
unfolding todo_before
before-few S H t zero = omega arith
before-few S H t (suc n) =
    rw (sum_by-append _ (todo_before S H n) (todo_of S H n)) (elim (cases_eq t n) [
      | inl same ↦
          let none = before-none S H t n (omega arith) in
          let few = count_by-le-length (λ (todo : Todo). nat_eq t todo.token) (todo_of S H n) in
          let here : length (todo_of S H n) ≡ length (todo_of S H t) = ap (λ m. length (todo_of S H m)) (sym same) in
          omega arith
      | inr other ↦
          let none = count-none (λ (todo : Todo). nat_eq t todo.token) (todo_of S H n) (λ k todo there. let is = (todo-is S H n k todo there).0 in ne_eqb t todo.token (λ same. other (same ∙ is))) in
          let rest = before-few S H t n in
          omega arith
    ])

-- the units of a token that are left are no more than the commands that it owes
pub units-few : (S : Setup) (H : List Entry) (t : ℕ) (r : Request) → IsSetup S → IsLegal S H → request H t ≡ Some r → count_by (λ todo. nat_eq t todo.token) (units_left S H) ≤ commands_owed S H t r
units-few S H t r is legal named = let few = before-few S H t (token_count H) in let owe = todos-few S H t r is legal named in omega arith

-- only an ended token is handed back
pub open-kept : (S : Setup) (H : List Entry) (t : ℕ) → IsLegal S H → mark_of S H t ≡ None → was_collected H t ≡ false
unfolding IsLegal MayFollow was_collected
open-kept S [] t legal unmarked = refl
open-kept S (Collect tag u ∷ H) t (legal, (ended, kept)) unmarked = elim (cases_eq u t) [
  | inl same ↦ absurd (clash (rw (same ∙ refl, mark-before S H (Collect tag u) t unmarked) at ended))
  | inr other ↦ collected-same H (Collect tag u) t (ne_eqb u t other) ∙ open-kept S H t legal (mark-before S H (Collect tag u) t unmarked)
]
  where
    clash : false ≡ true → ⊥
    clash e = cc
open-kept S (e ∷ H) t (legal, may) unmarked = collected-same H e t refl ∙ open-kept S H t legal (mark-before S H e t unmarked)

-- what a token owes depends on its done commands alone
pub owed-alike : (S : Setup) (H H' : List Entry) (t : ℕ) (o : Option Request) (m : Option Status) (collected : Bool) → done_commands H' t ≡ done_commands H t → request_owed S H' t o m collected ≡ request_owed S H t o m collected
owed-alike S H H' t None m collected same = refl
owed-alike S H H' t (Some r) None collected same = ap (λ n. n + 2) (commands-same S H H' t r same)
owed-alike S H H' t (Some r) (Some status) true same = refl
owed-alike S H H' t (Some r) (Some status) false same = refl
