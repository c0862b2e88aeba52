-- The first runnable unit is the one that comes next, where nothing is held and a buffer set is free.
use Rattle.std.proofs.Common.{◌≡◌, ◌⊎◌, ℕ, zero, suc, ◌+◌, inl, inr, Bool, true, false, not, ◌&&◌, if◌then◌else◌, List, [], ◌∷◌, map, filter, find, Option, None, Some, option_map, refl, sym, ◌∙◌, ap, arith}
use Rattle.std.specs.List.{list_all}
use Rattle.std.specs.Option.{option_or}
use Rattle.std.proofs.lemmas.Bool.{cases_Bool, or_right}
use Rattle.std.proofs.lemmas.List.Folds.{find-append}
use Rattle.disk_split.specs.declared.span.Span.{Span}
use Rattle.history.specs.declared.entry.Kind.{Kind}
use Rattle.history.specs.declared.entry.Entry.{Entry}
use Rattle.history.specs.Setup.{Setup, IsSetup}
use Rattle.history.specs.Tokens.{Request, token_count, request, changes_bytes}
use Rattle.history.specs.Marks.{all_from, first_from, is_outstanding, IsOutstanding}
use Rattle.history.specs.Rules.{IsLegal}
use Rattle.history.specs.Tasks.{Task, Moves, Syncs, tasks_of, is_finished, Todo, todo_of, todo_before, units_left, is_clear, is_task_clear, is_runnable, first_runnable}
use Rattle.history.specs.Next.{first_open, next_task, turn_of_token, next_turn}
use Rattle.history_laws.specs.Turns.{turn_of_todo}
use Rattle.history_laws.proofs.TokenLemmas.{request-some}
use Rattle.history_laws.proofs.ScanLemmas.{all_from-true}
use Rattle.history_laws.proofs.TaskLemmas.{complete-tasks, open-incomplete}
use Rattle.history_laws.proofs.NextLemmas.{outstanding-from}

-- where nothing is held and a set is free, every unit may run
pub free-runnable : (held : ℕ → Bool) (todo : Todo) → ((b : ℕ) → held b ≡ false) → is_runnable held true todo ≡ true
free-runnable held todo free = by todo.kind todo.task
  where
    clear : (u : Span) (whole : Bool) → (if whole then all_from (λ b. not (held b)) u.block u.count else not (held u.block) && true) ≡ true
    clear u true = all_from-true (λ b. not (held b)) u.block u.count (λ b lo hi. ap not (free b))
    clear u false = rw (free u.block)

    by : (kind : Kind) (task : Task) → is_task_clear held true kind task ≡ true
    by kind (Moves u) = or_right (not (changes_bytes kind)) (is_clear held true u) (clear u u.whole)
    by kind Syncs = refl

-- the first of those that are left, where all pass the later test
find-filtered : {X Y : Type 0} (keep : X → Bool) (f : X → Y) (test : Y → Bool) (xs : List X) → ((y : Y) → test y ≡ true) → find test (map f (filter keep xs)) ≡ option_map f (find keep xs)
find-filtered keep f test [] all = refl
find-filtered {X} {Y} keep f test (x ∷ xs) all = elim (cases_Bool (keep x)) [
  | inl kept ↦ rw (kept, all (f x))
  | inr dropped ↦ rw dropped (find-filtered keep f test xs all)
]

-- a list of which not all pass has one that fails
find-unfinished : {X : Type 0} (test : X → Bool) (xs : List X) → list_all test xs ≡ false → (x : X) × (find (λ y. not (test y)) xs ≡ Some x)
find-unfinished test [] some = cc
find-unfinished test (x ∷ xs) some = elim (cases_Bool (test x)) [
  | inl passes ↦
      let rest : list_all test xs ≡ false = rw passes at some in
      let (y, is) = find-unfinished test xs rest in
      (y, rw passes is)
  | inr fails ↦ (x, rw fails refl)
]

-- an open token has a unit that is not finished
pub open-unfinished : (S : Setup) (H : List Entry) (t : ℕ) (r : Request) → IsSetup S → IsLegal S H → IsOutstanding S H t → request H t ≡ Some r → (task : Task) × (next_task S H t r ≡ Some task)
unfolding next_task
open-unfinished S H t r is legal open_ named =
    find-unfinished (is_finished S H t) (tasks_of S r) (sym (complete-tasks S H t r is legal named) ∙ open-incomplete S H t legal open_.token open_.unmarked)

-- the range grows at its end
first_from-last : (test : ℕ → Bool) (a n : ℕ) → first_from test a (suc n) ≡ option_or (first_from test a n) (if test (a + n) then Some (a + n) else None)
unfolding first_from
first_from-last test a zero = let here : a + 0 ≡ a = omega arith in rw here refl
first_from-last test a (suc n) = elim (cases_Bool (test a)) [
  | inl holds ↦ rw holds refl
  | inr fails ↦ let next : a + suc n ≡ a + 1 + n = omega arith in rw (fails, next) (first_from-last test (a + 1) n)
]

-- what the first n tokens have in both words
abbrev pub Agrees : Setup → List Entry → (Todo → Bool) → Option ℕ → Option Todo → Type 0
Agrees S H test first todo = ((first ≡ None) × (todo ≡ None)) ⊎ ((t : ℕ) × (d : Todo) × (first ≡ Some t) × (todo ≡ Some d) × (turn_of_token S H (Some t) ≡ Some (turn_of_todo H d)))

todo-closed : (S : Setup) (H : List Entry) (t : ℕ) → is_outstanding S H t ≡ false → todo_of S H t ≡ []
unfolding todo_of
todo-closed S H t closed = rw closed

todo-open : (S : Setup) (H : List Entry) (t : ℕ) (r : Request) (task : Task) (test : Todo → Bool) → ((d : Todo) → test d ≡ true) → is_outstanding S H t ≡ true → request H t ≡ Some r → next_task S H t r ≡ Some task
    → find test (todo_of S H t) ≡ Some (record { token = t; kind = r.asked.kind; task = task })
unfolding todo_of next_task
todo-open S H t r task test all open_ named next =
    rw (open_, named)
    (find-filtered (λ other. not (is_finished S H t other)) (λ other. record { token = t; kind = r.asked.kind; task = other }) test (tasks_of S r) all
    ∙ ap (option_map (λ other. record { token = t; kind = r.asked.kind; task = other })) next)

pub agrees-before : (S : Setup) (H : List Entry) (test : Todo → Bool) (n : ℕ) → IsSetup S → IsLegal S H → ((d : Todo) → test d ≡ true) → Agrees S H test (first_from (is_outstanding S H) 0 n) (find test (todo_before S H n))
unfolding todo_before first_from
agrees-before S H test zero is legal all = inl (refl, refl)
agrees-before S H test (suc n) is legal all =
    rw (first_from-last (is_outstanding S H) 0 n, find-append test (todo_before S H n) (todo_of S H n)) (by (agrees-before S H test n is legal all) (cases_Bool (is_outstanding S H n)))
  where
    by : Agrees S H test (first_from (is_outstanding S H) 0 n) (find test (todo_before S H n)) → (is_outstanding S H n ≡ true) ⊎ (is_outstanding S H n ≡ false)
        → Agrees S H test (option_or (first_from (is_outstanding S H) 0 n) (if is_outstanding S H (0 + n) then Some (0 + n) else None)) (option_or (find test (todo_before S H n)) (find test (todo_of S H n)))
    by (inr (t, d, first, todo, same)) now = rw (first, todo) (inr (t, d, refl, refl, same))
    by (inl (first, todo)) (inr closed) =
        let here : 0 + n ≡ n = omega arith in
        rw (first, todo, here, closed, todo-closed S H n closed) (inl (refl, refl))
    by (inl (first, todo)) (inl open_) =
        let here : 0 + n ≡ n = omega arith in
        let token : IsOutstanding S H n = outstanding-from S H n open_ in
        let (r, named) = request-some H n token.token in
        let (task, next) = open-unfinished S H n r is legal token named in
        let found : find test (todo_of S H n) ≡ Some (record { token = n; kind = r.asked.kind; task = task }) = todo-open S H n r task test all open_ named next in
        rw (first, todo, here, open_, found)
        (inr (n, record { token = n; kind = r.asked.kind; task = task }, refl, refl, rw (named, next) refl))

-- the command that comes next is that of the first runnable unit, where nothing is held and a set is free
pub next-runnable : (S : Setup) (H : List Entry) (held : ℕ → Bool) → IsSetup S → IsLegal S H → ((b : ℕ) → held b ≡ false) → next_turn S H ≡ option_map (turn_of_todo H) (first_runnable held true S H)
unfolding next_turn first_open first_runnable
next-runnable S H held is legal free =
    by (agrees-before S H (is_runnable held true) (token_count H) is legal (λ d. free-runnable held d free))
  where
    by : Agrees S H (is_runnable held true) (first_from (is_outstanding S H) 0 (token_count H)) (find (is_runnable held true) (units_left S H))
        → turn_of_token S H (first_from (is_outstanding S H) 0 (token_count H)) ≡ option_map (turn_of_todo H) (find (is_runnable held true) (units_left S H))
    by (inl (first, todo)) = rw (first, todo)
    by (inr (t, d, first, todo, same)) = rw (first, todo) same
