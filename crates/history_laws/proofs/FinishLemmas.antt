-- What an accept adds to the units that are left, what a finished unit takes away, and which of them may run.
use Rattle.std.proofs.Common.{◌≡◌, ◌⊎◌, ℕ, zero, suc, ◌+◌, inl, inr, Bool, true, false, not, ◌&&◌, ◌||◌, List, [], ◌∷◌, ◌++◌, slice_get, map, filter, find, None, Some, refl, sym, ◌∙◌, ap, arith, nat_eq}
use Rattle.std.specs.List.{list_all}
use Rattle.std.proofs.lemmas.Bool.{cases_Bool, cases_eq, and_parts, and_from, and_left, and_right, both_ways, true_from_ne_false, eq-eqb, ne_eqb, not_from_false, false_from_ne_true}
use Rattle.std.proofs.lemmas.Option.{same_Some}
use Rattle.efi_status.specs.declared.Status.{Status}
use Rattle.efi_status.specs.declared.Status.TheVariants.{Success}
use Rattle.disk_split.specs.declared.span.Span.{Span}
use Rattle.disk_split.specs.Units.{IsUnit}
use Rattle.disk_split.proofs.Shared.{units-same}
use Rattle.history.specs.declared.entry.View.{View}
use Rattle.history.specs.declared.entry.Asked.{Asked}
use Rattle.history.specs.declared.entry.Command.{Command}
use Rattle.history.specs.declared.entry.Entry.{Entry}
use Rattle.history.specs.declared.entry.Entry.TheVariants.{Accept, Done}
use Rattle.history.specs.Setup.{Setup, IsSetup}
use Rattle.history.specs.Tokens.{Request, token_count, request, is_flush, from_of, until_of}
use Rattle.history.specs.Commands.{is_transfer, done_commands, has_done}
use Rattle.history.specs.Marks.{first_from, status_if, is_complete, is_outstanding, IsOutstanding}
use Rattle.history.specs.Rules.{MayFollow, IsLegal}
use Rattle.history.specs.Tasks.{Task, Moves, Syncs, tasks_of, is_finished, Todo, todo_of, todo_before, units_left}
use Rattle.history.specs.Next.{first_open}
use Rattle.history_laws.specs.TokenFacts.{concerns}
use Rattle.history_laws.specs.Units.{IsUnitCommand}
use Rattle.history_laws.specs.Pending.{is_todo, todo_at, todos_of, is_task_of, is_todo_of}
use Rattle.history_laws.proofs.CountLemmas.{accepted-more, accepted-same}
use Rattle.history_laws.proofs.TokenLemmas.{request-same, request-accept, done_commands-same, done_commands-other, mark-other, done-concerns, accept-concerns}
use Rattle.history_laws.proofs.EndLemmas.{mark-accept, mark-done, unaccepted, untold-done, command-open}
use Rattle.history_laws.proofs.UnitLemmas.{is_within, within-from, within-parts, unit-inside, moved-more}
use Rattle.history_laws.proofs.TaskLemmas.{complete-tasks, task-unit, task-sync}
use Rattle.history_laws.proofs.OwedLemmas.{span-moving}
use Rattle.history_laws.proofs.NextLemmas.{outstanding-test}
use Rattle.history_laws.proofs.RunnableLemmas.{Agrees, agrees-before}
use Rattle.history_laws.proofs.PendingLemmas.{IsPending, filter-everything, filter-alike, todo-closed, todo-open, todo-stays, before-keeps, before-is, pending-is, pending-keeps}

-- nothing of a new token is finished
new-unfinished : (S : Setup) (H : List Entry) (t : ℕ) (task : Task) → done_commands H t ≡ [] → is_finished S H t task ≡ false
unfolding has_done
new-unfinished S H t (Moves u) none = rw none refl
new-unfinished S H t Syncs none = rw none refl

all-unfinished : (S : Setup) (H : List Entry) (t : ℕ) (tasks : List Task) → done_commands H t ≡ [] → filter (λ task. not (is_finished S H t task)) tasks ≡ tasks
all-unfinished S H t tasks none = filter-everything (λ task. not (is_finished S H t task)) tasks (λ k task there. not_from_false (is_finished S H t task) (new-unfinished S H t task none))

none-left : (S : Setup) (H : List Entry) (t : ℕ) (tasks : List Task) → done_commands H t ≡ [] → list_all (is_finished S H t) tasks ≡ true → tasks ≡ []
none-left S H t [] none all = refl
none-left S H t (task ∷ tasks) none all =
    let parts : (is_finished S H t task ≡ true) × (list_all (is_finished S H t) tasks ≡ true) = and_parts (is_finished S H t task) (list_all (is_finished S H t) tasks) all in
    absurd (both_ways (is_finished S H t task) (new-unfinished S H t task none) parts.0)

-- a new token has all units of its request left
pub todo-new : (S : Setup) (H : List Entry) (tag : ℕ) (view : View) (asked : Asked) (bytes : List ℕ) → IsSetup S → IsLegal S (Accept tag view asked bytes ∷ H)
    → todo_of S (Accept tag view asked bytes ∷ H) (token_count H) ≡ todos_of S (token_count H) (record { tag = tag; view = view; asked = asked; bytes = bytes })
unfolding IsLegal
todo-new S H tag view asked bytes is (legal, may) = by (cases_Bool (is_outstanding S H' t))
  where
    H' : List Entry
    H' = Accept tag view asked bytes ∷ H

    t : ℕ
    t = token_count H

    r : Request
    r = record { tag = tag; view = view; asked = asked; bytes = bytes }

    named : request H' t ≡ Some r
    named = request-accept H tag view asked bytes

    none : done_commands H' t ≡ []
    none = done_commands-same H (Accept tag view asked bytes) t refl ∙ untold-done S H t (unaccepted S H t legal (omega arith))

    still : is_complete S H' t ≡ false → IsOutstanding S H' t
    still incomplete = record {
      token = omega (arith, accepted-more H (Accept tag view asked bytes) refl);
      unmarked = mark-accept S H tag view asked bytes legal ∙ ap (λ b. status_if b Success) incomplete;
    }

    ended : is_outstanding S H' t ≡ false → is_complete S H' t ≡ true
    ended closed = true_from_ne_false (is_complete S H' t) (λ incomplete. both_ways (is_outstanding S H' t) closed (outstanding-test S H' t (still incomplete)))

    by : (is_outstanding S H' t ≡ true) ⊎ (is_outstanding S H' t ≡ false) → todo_of S H' t ≡ todos_of S t r
    by (inl open_) = todo-open S H' t r open_ named ∙ ap (map (todo_at t r)) (all-unfinished S H' t (tasks_of S r) none)
    by (inr closed) =
        let empty : tasks_of S r ≡ [] = none-left S H' t (tasks_of S r) none (sym (complete-tasks S H' t r is (legal, may) named) ∙ ended closed) in
        todo-closed S H' t closed ∙ sym (ap (map (todo_at t r)) empty)

-- and the older ones have what they had
before-accept : (S : Setup) (H : List Entry) (tag : ℕ) (view : View) (asked : Asked) (bytes : List ℕ) → todo_before S (Accept tag view asked bytes ∷ H) (token_count H) ≡ todo_before S H (token_count H)
before-accept S H tag view asked bytes =
    before-keeps S H e (token_count H) (omega arith)
    ∙ filter-everything (is_todo S (e ∷ H)) (todo_before S H (token_count H)) (λ k todo there.
    let (below, (r, is)) = before-is S H (token_count H) k todo there in
    let quiet : concerns H e todo.token ≡ false = accept-concerns H tag view asked bytes todo.token (λ same. absurd (omega (arith, same, below))) in
    todo-stays S H e todo r is (mark-other S H e todo.token quiet ∙ is.outstanding.unmarked) (done_commands-other S H e todo.token quiet))
  where
    e : Entry
    e = Accept tag view asked bytes

before-last : (S : Setup) (H : List Entry) (n : ℕ) → todo_before S H (suc n) ≡ todo_before S H n ++ todo_of S H n
unfolding todo_before
before-last S H n = refl

-- an accept adds the units of its request at the end
pub pending-accept : (S : Setup) (H : List Entry) (tag : ℕ) (view : View) (asked : Asked) (bytes : List ℕ) → IsSetup S → IsLegal S (Accept tag view asked bytes ∷ H)
    → units_left S (Accept tag view asked bytes ∷ H) ≡ units_left S H ++ todos_of S (token_count H) (record { tag = tag; view = view; asked = asked; bytes = bytes })
pending-accept S H tag view asked bytes is legal =
    let e : Entry = Accept tag view asked bytes in
    let more : token_count (e ∷ H) ≡ suc (token_count H) = (let plus : token_count (e ∷ H) ≡ token_count H + 1 = accepted-more H e refl in omega (arith, plus)) in
    rw more (before-last S (e ∷ H) (token_count H) ∙ rw (before-accept S H tag view asked bytes, todo-new S H tag view asked bytes is legal))

-- a unit of the range that begins at the first byte of another is that one
pub same-low : (S : Setup) (r : Request) (u v : Span) → IsSetup S → IsUnit S.geometry (from_of S r) (until_of S r) u → IsUnit S.geometry (from_of S r) (until_of S r) v → is_within u v.low ≡ nat_eq v.low u.low
same-low S r u v is first second = elim (cases_eq v.low u.low) [
  | inl same ↦ rw (eq-eqb v.low u.low same) (within-from u v.low (omega (arith, same)) (omega (arith, same, first.some)))
  | inr other ↦
      rw (ne_eqb v.low u.low other)
      (false_from_ne_true (is_within u v.low) (λ within.
      let (lo, hi) = within-parts u v.low within in
      let one : v ≡ u = units-same S.geometry (from_of S r) (until_of S r) v.low v u is.geometry second first (omega arith) (omega (arith, second.some)) lo hi in
      other (ap (λ (w : Span). w.low) one)))
]

or-false : (p : Bool) → (p || false) ≡ p
or-false true = refl
or-false false = refl

and-false : (p : Bool) → (p && false) ≡ false
and-false true = refl
and-false false = refl

some-none : (status : Status) → Some status ≡ None → ⊥
some-none status e = cc

not-all : (test : Task → Bool) (tasks : List Task) (k : ℕ) (task : Task) → slice_get tasks k ≡ Some task → test task ≡ false → list_all test tasks ≡ false
not-all test [] k task there fails = cc
not-all test (other ∷ tasks) zero task there fails = let same : other ≡ task = cc in and_left (test other) (list_all test tasks) (rw same fails)
not-all test (other ∷ tasks) (suc k) task there fails = and_right (test other) (list_all test tasks) (not-all test tasks k task there fails)

-- whether a unit is left once its token's unit u is done
finish-test : (S : Setup) (H : List Entry) (t : ℕ) (c : Command) (q : Request) (u : Span) (todo : Todo) (r : Request) → IsSetup S → IsLegal S (Done t c ∷ H) → request H t ≡ Some q → IsUnitCommand S q c u → is_transfer c ≡ true
    → IsPending S H todo r → is_todo S (Done t c ∷ H) todo ≡ not (is_todo_of t u todo)
unfolding IsLegal MayFollow
finish-test S H t c q u todo r is (legal, may) named of transfer left = by (cases_eq todo.token t)
  where
    e : Entry
    e = Done t c

    own : todo.token ≡ t → (task : Task) → slice_get (tasks_of S q) left.place ≡ Some task → is_finished S H t task ≡ false → is_finished S (e ∷ H) t task ≡ is_task_of u task
    own same Syncs listed unfinished =
        let flush : is_flush q.asked.kind ≡ true = task-sync S q left.place listed in
        absurd (both_ways (is_flush q.asked.kind) (span-moving q.asked.kind u.whole c of.kind) flush)
    own same (Moves v) listed unfinished =
        let unit : IsUnit S.geometry (from_of S q) (until_of S q) v = task-unit S q left.place v is listed in
        let (lo, hi) = unit-inside S.geometry (from_of S q) (until_of S q) v.low v unit (omega arith) (omega (arith, unit.some)) in
        moved-more S H t q c u v.low of transfer lo hi ∙ (rw (unfinished) (or-false (is_within u v.low)) ∙ same-low S q u v is of.unit unit)

    by : (todo.token ≡ t) ⊎ (todo.token ≡ t → ⊥) → is_todo S (e ∷ H) todo ≡ not (is_todo_of t u todo)
    by (inr other) =
        let quiet : concerns H e todo.token ≡ false = done-concerns H t todo.token c (λ same. other (sym same)) in
        todo-stays S H e todo r left (mark-other S H e todo.token quiet ∙ left.outstanding.unmarked) (done_commands-other S H e todo.token quiet)
        ∙ sym (not_from_false (is_todo_of t u todo) (and_left (nat_eq todo.token t) (is_task_of u todo.task) (ne_eqb todo.token t other)))
    by (inl same) =
        let request_same : r ≡ q = same_Some r q (sym left.named ∙ (ap (request H) same ∙ named)) in
        let listed : slice_get (tasks_of S q) left.place ≡ Some todo.task = rw request_same at left.listed in
        let finished : is_finished S (e ∷ H) t todo.task ≡ is_task_of u todo.task = own same todo.task listed (rw same at left.unfinished) in
        let here : is_todo_of t u todo ≡ is_task_of u todo.task = ap (λ b. b && is_task_of u todo.task) (eq-eqb todo.token t same) in
        let at_token : is_todo S (e ∷ H) todo ≡ (is_outstanding S (e ∷ H) t && not (is_finished S (e ∷ H) t todo.task)) = ap (λ v. is_outstanding S (e ∷ H) v && not (is_finished S (e ∷ H) v todo.task)) same in
        at_token ∙ (open-where-left (cases_Bool (is_task_of u todo.task)) listed finished ∙ ap not (sym here))
      where
        open-where-left : (is_task_of u todo.task ≡ true) ⊎ (is_task_of u todo.task ≡ false) → slice_get (tasks_of S q) left.place ≡ Some todo.task → is_finished S (e ∷ H) t todo.task ≡ is_task_of u todo.task
            → (is_outstanding S (e ∷ H) t && not (is_finished S (e ∷ H) t todo.task)) ≡ not (is_task_of u todo.task)
        open-where-left (inl ends) listed finished = rw (finished, ends) (and-false (is_outstanding S (e ∷ H) t))
        open-where-left (inr stays) listed finished =
            let named' : request (e ∷ H) t ≡ Some q = request-same H e t refl ∙ named in
            let incomplete : is_complete S (e ∷ H) t ≡ false = complete-tasks S (e ∷ H) t q is (legal, may) named' ∙ not-all (is_finished S (e ∷ H) t) (tasks_of S q) left.place todo.task listed (finished ∙ stays) in
            let before : IsOutstanding S H t = command-open S H t c may in
            let open_now : IsOutstanding S (e ∷ H) t = record { token = omega (arith, before.token, accepted-same H e refl); unmarked = mark-done S H t c before.unmarked ∙ ap (λ b. status_if b Success) incomplete } in
            rw (finished, stays) (and_from (is_outstanding S (e ∷ H) t) true (outstanding-test S (e ∷ H) t open_now) refl)

-- a done command that finishes a unit takes that unit away, and no other
pub pending-finish : (S : Setup) (H : List Entry) (t : ℕ) (c : Command) (r : Request) (u : Span) → IsSetup S → IsLegal S (Done t c ∷ H) → request H t ≡ Some r → IsUnitCommand S r c u → is_transfer c ≡ true
    → units_left S (Done t c ∷ H) ≡ filter (λ todo. not (is_todo_of t u todo)) (units_left S H)
pending-finish S H t c r u is legal named of transfer =
    pending-keeps S H (Done t c) refl
    ∙ filter-alike (is_todo S (Done t c ∷ H)) (λ todo. not (is_todo_of t u todo)) (units_left S H) (λ k todo there. let (q, left) = pending-is S H k todo there in finish-test S H t c r u todo q is legal named of transfer left)

-- no unit is left exactly where no token is open
pub pending-none : (S : Setup) (H : List Entry) → IsSetup S → IsLegal S H → first_open S H ≡ None → units_left S H ≡ []
unfolding first_open
pending-none S H is legal none = by (agrees-before S H (λ todo. true) (token_count H) is legal (λ todo. refl))
  where
    empty : (todos : List Todo) → find (λ todo. true) todos ≡ None → todos ≡ []
    empty [] e = refl
    empty (todo ∷ todos) e = cc

    by : Agrees S H (λ todo. true) (first_from (is_outstanding S H) 0 (token_count H)) (find (λ todo. true) (units_left S H)) → units_left S H ≡ []
    by (inl (first, nothing)) = empty (units_left S H) nothing
    by (inr (t, todo, first, found, same)) = let no_way : None ≡ Some t = sym none ∙ first in cc

pub pending-open : (S : Setup) (H : List Entry) → IsSetup S → IsLegal S H → units_left S H ≡ [] → first_open S H ≡ None
unfolding first_open
pending-open S H is legal none = by (agrees-before S H (λ todo. true) (token_count H) is legal (λ todo. refl))
  where
    by : Agrees S H (λ todo. true) (first_from (is_outstanding S H) 0 (token_count H)) (find (λ todo. true) (units_left S H)) → first_from (is_outstanding S H) 0 (token_count H) ≡ None
    by (inl (first, nothing)) = first
    by (inr (t, todo, first, found, same)) = let no_way : find (λ todo. true) [] ≡ Some todo = rw none at found in cc
