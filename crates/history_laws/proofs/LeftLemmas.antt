-- What a done command that finishes one unit leaves of its token.
use Rattle.std.proofs.Common.{Bool, List, None, Some, [], ap, arith, false, inl, inr, not, refl, slice_get, subst, suc, sym, true, zero, ℕ, ◌&&◌, ◌*◌, ◌+◌, ◌<◌, ◌||◌, ◌∙◌, ◌∷◌, ◌≡◌, ◌≢◌, ◌⊎◌}
use Rattle.std.proofs.lemmas.Bool.{and_from, and_left, and_parts, and_right, both_ways, cases_Bool, cases_eq, eq-eqb, eqb-true, ne_eqb}
use Rattle.std.proofs.lemmas.List.Sums.{sum_by-cons}
use Rattle.std.proofs.lemmas.Option.{none-some, same_Some}
use Rattle.std.specs.List.{list_all}
use Rattle.std.specs.Prelude.{filter, max, nat_eq, sum_by}
use Rattle.disk_split.proofs.Shared.{units-same}
use Rattle.disk_split.specs.declared.span.Span.{Span}
use Rattle.efi_status.specs.declared.Status.TheVariants.{Success}
use Rattle.history.specs.Commands.{is_moved, is_sync, is_transfer}
use Rattle.history.specs.Marks.{IsOutstanding, is_complete, is_outstanding, mark_of, status_if}
use Rattle.history.specs.Rules.{IsLegal}
use Rattle.history.specs.Setup.{IsSetup, Setup, size_of}
use Rattle.history.specs.Tasks.{Moves, Syncs, Task, Todo, is_finished, units_left, tasks_of}
use Rattle.history.specs.Tokens.{Request, from_of, is_flush, request, until_of}
use Rattle.history.specs.declared.entry.Command.{Command}
use Rattle.history.specs.declared.entry.Command.TheVariants.{Sync}
use Rattle.history.specs.declared.entry.Entry.{Entry}
use Rattle.history.specs.declared.entry.Entry.TheVariants.{Done}
use Rattle.history_laws.proofs.CountLemmas.{accepted-same}
use Rattle.history_laws.proofs.EndLemmas.{mark-done}
use Rattle.history_laws.proofs.FinishLemmas.{same-low}
use Rattle.history_laws.proofs.NextLemmas.{outstanding-test}
use Rattle.history_laws.proofs.OrderLemmas.{tasks-ordered}
use Rattle.history_laws.proofs.PendingLemmas.{IsPending, filter-alike, finished-same, pending-is, pending-keeps, todo-stays}
use Rattle.history_laws.proofs.TaskLemmas.{complete-tasks, task-moving, task-sync, task-unit}
use Rattle.history_laws.proofs.TokenLemmas.{done-concerns, done_commands-other, done_commands-same, has_done-done, mark-other, request-same}
use Rattle.history_laws.proofs.UnitLemmas.{moved-more, unit-inside}
use Rattle.history_laws.specs.Left.{left_of, task_bytes}
use Rattle.history_laws.specs.Pending.{IsBefore, Ordered, is_todo, task_low}
use Rattle.history_laws.specs.TokenFacts.{concerns, is_done}
use Rattle.history_laws.specs.Units.{IsUnitCommand}

-- a done command finishes this unit of its token, and no other
pub record FinishesTask (S : Setup) (H : List Entry) (t : ℕ) (c : Command) (r : Request) (task : Task) : Type 0 where
  pub named : request H t ≡ Some r
  pub place : ℕ
  pub listed : slice_get (tasks_of S r) place ≡ Some task
  pub unfinished : is_finished S H t task ≡ false
  pub now : (i : ℕ) (other : Task) → slice_get (tasks_of S r) i ≡ Some other → is_finished S (Done t c ∷ H) t other ≡ (nat_eq (task_low other) (task_low task) || is_finished S H t other)

or-same : (p q : Bool) → q ≡ false → (p || q) ≡ p
or-same true q is = refl
or-same false q is = is

-- the unit of a transfer
pub unit-finishes : (S : Setup) (H : List Entry) (t : ℕ) (c : Command) (r : Request) (u : Span) (place : ℕ) → IsSetup S → request H t ≡ Some r → slice_get (tasks_of S r) place ≡ Some (Moves u) → is_finished S H t (Moves u) ≡ false
    → IsUnitCommand S r c u → is_transfer c ≡ true → FinishesTask S H t c r (Moves u)
unit-finishes S H t c r u place is named listed unfinished of transfer = record { named = named; place = place; listed = listed; unfinished = unfinished; now = now }
  where
    now : (i : ℕ) (other : Task) → slice_get (tasks_of S r) i ≡ Some other → is_finished S (Done t c ∷ H) t other ≡ (nat_eq (task_low other) u.low || is_finished S H t other)
    now i Syncs there = absurd (both_ways (is_flush r.asked.kind) (task-moving S r place u listed) (task-sync S r i there))
    now i (Moves v) there =
        let unit = task-unit S r i v is there in
        let inside = unit-inside S.geometry (from_of S r) (until_of S r) v.low v unit (omega arith) (omega (arith, unit.some)) in
        moved-more S H t r c u v.low of transfer inside.0 inside.1 ∙ ap (λ b. b || is_moved S H t v.low) (same-low S r u v is of.unit unit)

-- the sync of a flush
pub sync-finishes : (S : Setup) (H : List Entry) (t : ℕ) (r : Request) (place : ℕ) → request H t ≡ Some r → slice_get (tasks_of S r) place ≡ Some Syncs → is_finished S H t Syncs ≡ false → FinishesTask S H t Sync r Syncs
sync-finishes S H t r place named listed unfinished = record { named = named; place = place; listed = listed; unfinished = unfinished; now = now }
  where
    now : (i : ℕ) (other : Task) → slice_get (tasks_of S r) i ≡ Some other → is_finished S (Done t Sync ∷ H) t other ≡ (nat_eq (task_low other) 0 || is_finished S H t other)
    now i Syncs there = has_done-done is_sync H t Sync
    now i (Moves v) there = absurd (both_ways (is_flush r.asked.kind) (task-moving S r i v there) (task-sync S r place listed))

-- each unit has a byte
unit-some : (S : Setup) (r : Request) (i : ℕ) (task : Task) → IsSetup S → slice_get (tasks_of S r) i ≡ Some task → 0 < task_bytes task
unit-some S r i Syncs is there = omega arith
unit-some S r i (Moves u) is there = let unit = task-unit S r i u is there in let some = unit.some in omega arith

-- tests that are alike but at one element
abbrev IsLower : Task → Task → Type 0
IsLower one other = task_low one < task_low other

unordered : (xs : List Task) (x : Task) (j : ℕ) (y : Task) → Ordered IsLower (x ∷ xs) → slice_get xs j ≡ Some y → task_low x < task_low y
unfolding Ordered
unordered xs x j y all there = all.0 j y there

rest-ordered : (xs : List Task) (x : Task) → Ordered IsLower (x ∷ xs) → Ordered IsLower xs
unfolding Ordered
rest-ordered xs x all = all.1

filter-in : (keep : Task → Bool) (x : Task) (xs : List Task) → keep x ≡ true → filter keep (x ∷ xs) ≡ x ∷ filter keep xs
filter-in keep x xs is = rw is refl

filter-out : (keep : Task → Bool) (x : Task) (xs : List Task) → keep x ≡ false → filter keep (x ∷ xs) ≡ filter keep xs
filter-out keep x xs is = rw is refl

falls-by : (f g : Task → Bool) (xs : List Task) (k : ℕ) (task : Task) → Ordered IsLower xs → slice_get xs k ≡ Some task → f task ≡ false
    → ((i : ℕ) (x : Task) → slice_get xs i ≡ Some x → g x ≡ (nat_eq (task_low x) (task_low task) || f x))
    → sum_by task_bytes (filter (λ x. not (g x)) xs) + task_bytes task ≡ sum_by task_bytes (filter (λ x. not (f x)) xs)
falls-by f g [] k task all there open_ after = absurd (none-some task there)
falls-by f g (x ∷ xs) zero task all there open_ after =
    let here : x ≡ task = same_Some x task there in
    let done : g x ≡ true = after 0 x refl ∙ ap (λ b. b || f x) (eq-eqb (task_low x) (task_low task) (ap task_low here)) in
    let was : f x ≡ false = ap f here ∙ open_ in
    let alike : filter (λ y. not (g y)) xs ≡ filter (λ y. not (f y)) xs =
    filter-alike (λ y. not (g y)) (λ y. not (f y)) xs (λ i y at.
    let apart : task_low y ≢ task_low task = (λ same. let lower = unordered xs x i y all at in let low : task_low x ≡ task_low task = ap task_low here in absurd (omega arith)) in
    ap not (after (suc i) y at ∙ ap (λ b. b || f y) (ne_eqb (task_low y) (task_low task) apart))) in
    let bytes : task_bytes x ≡ task_bytes task = ap task_bytes here in
    let left : sum_by task_bytes (filter (λ y. not (g y)) (x ∷ xs)) ≡ sum_by task_bytes (filter (λ y. not (f y)) xs) = ap (sum_by task_bytes) (filter-out (λ y. not (g y)) x xs (ap not done) ∙ alike) in
    let right : sum_by task_bytes (filter (λ y. not (f y)) (x ∷ xs)) ≡ task_bytes x + sum_by task_bytes (filter (λ y. not (f y)) xs) = ap (sum_by task_bytes) (filter-in (λ y. not (f y)) x xs (ap not was)) ∙ sum_by-cons task_bytes x (filter (λ y. not (f y)) xs) in
    omega arith
falls-by f g (x ∷ xs) (suc k) task all there open_ after =
    let apart : task_low x ≢ task_low task = (λ same. let lower = unordered xs x k task all there in absurd (omega arith)) in
    let same : g x ≡ f x = after 0 x refl ∙ ap (λ b. b || f x) (ne_eqb (task_low x) (task_low task) apart) in
    let more = falls-by f g xs k task (rest-ordered xs x all) there open_ (λ i y at. after (suc i) y at) in
    elim (cases_Bool (f x)) [
      | inl done ↦
          let left : sum_by task_bytes (filter (λ y. not (g y)) (x ∷ xs)) ≡ sum_by task_bytes (filter (λ y. not (g y)) xs) = ap (sum_by task_bytes) (filter-out (λ y. not (g y)) x xs (ap not (same ∙ done))) in
          let right : sum_by task_bytes (filter (λ y. not (f y)) (x ∷ xs)) ≡ sum_by task_bytes (filter (λ y. not (f y)) xs) = ap (sum_by task_bytes) (filter-out (λ y. not (f y)) x xs (ap not done)) in
          omega arith
      | inr undone ↦
          let left : sum_by task_bytes (filter (λ y. not (g y)) (x ∷ xs)) ≡ task_bytes x + sum_by task_bytes (filter (λ y. not (g y)) xs) = ap (sum_by task_bytes) (filter-in (λ y. not (g y)) x xs (ap not (same ∙ undone))) ∙ sum_by-cons task_bytes x (filter (λ y. not (g y)) xs) in
          let right : sum_by task_bytes (filter (λ y. not (f y)) (x ∷ xs)) ≡ task_bytes x + sum_by task_bytes (filter (λ y. not (f y)) xs) = ap (sum_by task_bytes) (filter-in (λ y. not (f y)) x xs (ap not undone)) ∙ sum_by-cons task_bytes x (filter (λ y. not (f y)) xs) in
          omega arith
    ]

-- what is left falls by the bytes of the unit
pub left-falls : (S : Setup) (H : List Entry) (t : ℕ) (c : Command) (r : Request) (task : Task) → IsSetup S → FinishesTask S H t c r task → left_of S (Done t c ∷ H) t r + task_bytes task ≡ left_of S H t r
unfolding left_of
left-falls S H t c r task is finishes = falls-by (is_finished S H t) (is_finished S (Done t c ∷ H) t) (tasks_of S r) finishes.place task (tasks-ordered S r is) finishes.listed finishes.unfinished finishes.now

nothing-left : (f : Task → Bool) (xs : List Task) → ((i : ℕ) (x : Task) → slice_get xs i ≡ Some x → 0 < task_bytes x) → list_all f xs ≡ nat_eq (sum_by task_bytes (filter (λ x. not (f x)) xs)) 0
nothing-left f [] some = refl
nothing-left f (x ∷ xs) some = elim (cases_Bool (f x)) [
  | inl done ↦ rw done (nothing-left f xs (λ i y at. some (suc i) y at))
  | inr undone ↦
      let more : sum_by task_bytes (filter (λ y. not (f y)) (x ∷ xs)) ≡ task_bytes x + sum_by task_bytes (filter (λ y. not (f y)) xs) = ap (sum_by task_bytes) (filter-in (λ y. not (f y)) x xs (ap not undone)) ∙ sum_by-cons task_bytes x (filter (λ y. not (f y)) xs) in
      let least = some 0 x refl in
      and_left (f x) (list_all f xs) undone ∙ sym (ne_eqb (sum_by task_bytes (filter (λ y. not (f y)) (x ∷ xs))) 0 (λ zero_. absurd (omega arith)))
]

-- a token is complete exactly where nothing is left of it
pub complete-left : (S : Setup) (H : List Entry) (t : ℕ) (r : Request) → IsSetup S → IsLegal S H → request H t ≡ Some r → is_complete S H t ≡ nat_eq (left_of S H t r) 0
unfolding left_of
complete-left S H t r is legal named = complete-tasks S H t r is legal named ∙ nothing-left (is_finished S H t) (tasks_of S r) (λ i task at. unit-some S r i task is at)

-- the token ends exactly where the unit is all that was left
pub mark-finished : (S : Setup) (H : List Entry) (t : ℕ) (c : Command) (r : Request) (task : Task) → IsSetup S → IsLegal S (Done t c ∷ H) → mark_of S H t ≡ None → FinishesTask S H t c r task
    → mark_of S (Done t c ∷ H) t ≡ status_if (nat_eq (left_of S H t r) (task_bytes task)) Success
mark-finished S H t c r task is legal unmarked finishes =
    let e = Done t c in
    let fall = left-falls S H t c r task is finishes in
    let named : request (e ∷ H) t ≡ Some r = request-same H e t refl ∙ finishes.named in
    let same : nat_eq (left_of S (e ∷ H) t r) 0 ≡ nat_eq (left_of S H t r) (task_bytes task) =
    elim (cases_eq (left_of S (e ∷ H) t r) 0) [
      | inl none ↦ eq-eqb (left_of S (e ∷ H) t r) 0 none ∙ sym (eq-eqb (left_of S H t r) (task_bytes task) (omega arith))
      | inr some ↦ ne_eqb (left_of S (e ∷ H) t r) 0 some ∙ sym (ne_eqb (left_of S H t r) (task_bytes task) (λ all. some (omega arith)))
    ] in
    mark-done S H t c unmarked ∙ ap (λ b. status_if b Success) (complete-left S (e ∷ H) t r is legal named ∙ same)

-- the unit of this token that begins at this byte
abbrev pub is_here : ℕ → Task → Todo → Bool
is_here t task todo = nat_eq todo.token t && nat_eq (task_low todo.task) (task_low task)

-- one unit that fails a test
pub not-all : (test : Task → Bool) (tasks : List Task) (k : ℕ) (task : Task) → slice_get tasks k ≡ Some task → test task ≡ false → list_all test tasks ≡ false
not-all test [] k task there fails = absurd (none-some task there)
not-all test (other ∷ tasks) zero task there fails = and_left (test other) (list_all test tasks) (ap test (same_Some other task there) ∙ fails)
not-all test (other ∷ tasks) (suc k) task there fails = and_right (test other) (list_all test tasks) (not-all test tasks k task there fails)

-- whether a unit is left
left-test : (S : Setup) (H : List Entry) (t : ℕ) (c : Command) (r : Request) (task : Task) (todo : Todo) (q : Request) → IsSetup S → IsLegal S (Done t c ∷ H) → IsOutstanding S H t → FinishesTask S H t c r task → IsPending S H todo q
    → is_todo S (Done t c ∷ H) todo ≡ not (is_here t task todo)
left-test S H t c r task todo q is legal open_ finishes left = by (cases_eq todo.token t)
  where
    e : Entry
    e = Done t c

    stays : (task' : Task) → slice_get (tasks_of S r) left.place ≡ Some task' → is_finished S (e ∷ H) t task' ≡ false → is_outstanding S (e ∷ H) t ≡ true
    stays task' there unfinished =
        let named : request (e ∷ H) t ≡ Some r = request-same H e t refl ∙ finishes.named in
        let incomplete = complete-tasks S (e ∷ H) t r is legal named ∙ not-all (is_finished S (e ∷ H) t) (tasks_of S r) left.place task' there unfinished in
        let token = open_.token in let same = accepted-same H e refl in
        outstanding-test S (e ∷ H) t (record { token = omega arith; unmarked = mark-done S H t c open_.unmarked ∙ ap (λ b. status_if b Success) incomplete })

    own : (task' : Task) → slice_get (tasks_of S r) left.place ≡ Some task' → is_finished S H t task' ≡ false → (is_outstanding S (e ∷ H) t && not (is_finished S (e ∷ H) t task')) ≡ not (nat_eq (task_low task') (task_low task))
    own task' there unfinished =
        let now = finishes.now left.place task' there ∙ or-same (nat_eq (task_low task') (task_low task)) (is_finished S H t task') unfinished in
        elim (cases_Bool (nat_eq (task_low task') (task_low task))) [
          | inl same ↦ and_right (is_outstanding S (e ∷ H) t) (not (is_finished S (e ∷ H) t task')) (ap not (now ∙ same)) ∙ sym (ap not same)
          | inr other ↦ and_from (is_outstanding S (e ∷ H) t) (not (is_finished S (e ∷ H) t task')) (stays task' there (now ∙ other)) (ap not (now ∙ other)) ∙ sym (ap not other)
        ]

    by : (todo.token ≡ t) ⊎ (todo.token ≡ t → ⊥) → is_todo S (e ∷ H) todo ≡ not (is_here t task todo)
    by (inr other) =
        let quiet : concerns H e todo.token ≡ false = done-concerns H t todo.token c (λ same. other (sym same)) in
        todo-stays S H e todo q left (mark-other S H e todo.token quiet ∙ left.outstanding.unmarked) (done_commands-other S H e todo.token quiet)
        ∙ sym (ap not (and_left (nat_eq todo.token t) (nat_eq (task_low todo.task) (task_low task)) (ne_eqb todo.token t other)))
    by (inl same) =
        let one : q ≡ r = same_Some q r (sym left.named ∙ (ap (request H) same ∙ finishes.named)) in
        let there : slice_get (tasks_of S r) left.place ≡ Some todo.task = subst (λ v. slice_get (tasks_of S v) left.place ≡ Some todo.task) one left.listed in
        let unfinished : is_finished S H t todo.task ≡ false = subst (λ v. is_finished S H v todo.task ≡ false) same left.unfinished in
        ap (λ v. is_outstanding S (e ∷ H) v && not (is_finished S (e ∷ H) v todo.task)) same
        ∙ own todo.task there unfinished
        ∙ sym (ap (λ b. not (b && nat_eq (task_low todo.task) (task_low task))) (eq-eqb todo.token t same))

-- the unit is taken away, and no other
pub pending-finished : (S : Setup) (H : List Entry) (t : ℕ) (c : Command) (r : Request) (task : Task) → IsSetup S → IsLegal S (Done t c ∷ H) → IsOutstanding S H t → FinishesTask S H t c r task
    → units_left S (Done t c ∷ H) ≡ filter (λ todo. not (is_here t task todo)) (units_left S H)
pending-finished S H t c r task is legal open_ finishes =
    pending-keeps S H (Done t c) refl
    ∙ filter-alike (is_todo S (Done t c ∷ H)) (λ todo. not (is_here t task todo)) (units_left S H) (λ k todo there.
    let left = pending-is S H k todo there in left-test S H t c r task todo left.0 is legal open_ finishes left.1)

-- an entry that does not concern the token leaves what is left of it
pub left-other : (S : Setup) (H : List Entry) (e : Entry) (t : ℕ) (q : Request) → concerns H e t ≡ false → left_of S (e ∷ H) t q ≡ left_of S H t q
unfolding left_of
left-other S H e t q quiet = λ i. sum_by task_bytes (filter (λ task. not (finished-same S H (e ∷ H) t task (done_commands-other S H e t quiet) i)) (tasks_of S q))

-- and so does one that is no done command
pub left-done : (S : Setup) (H : List Entry) (e : Entry) (t : ℕ) (q : Request) → is_done e ≡ false → left_of S (e ∷ H) t q ≡ left_of S H t q
unfolding left_of
left-done S H e t q still = λ i. sum_by task_bytes (filter (λ task. not (finished-same S H (e ∷ H) t task (done_commands-same H e t still) i)) (tasks_of S q))

-- the first block of a unit
abbrev pub task_block : Task → ℕ
task_block (Moves u) = u.block
task_block Syncs = 0

-- units of one request have one first block where they have one first byte
pub blocks-tell : (S : Setup) (r : Request) (i j : ℕ) (task other : Task) → IsSetup S → slice_get (tasks_of S r) i ≡ Some task → slice_get (tasks_of S r) j ≡ Some other → nat_eq (task_block task) (task_block other) ≡ nat_eq (task_low other) (task_low task)
blocks-tell S r i j Syncs Syncs is here there = refl
blocks-tell S r i j Syncs (Moves v) is here there = absurd (both_ways (is_flush r.asked.kind) (task-moving S r j v there) (task-sync S r i here))
blocks-tell S r i j (Moves u) Syncs is here there = absurd (both_ways (is_flush r.asked.kind) (task-moving S r i u here) (task-sync S r j there))
blocks-tell S r i j (Moves u) (Moves v) is here there =
    let first = task-unit S r i u is here in
    let second = task-unit S r j v is there in
    elim (cases_eq u.block v.block) [
      | inl same ↦
          let low : v.low ≡ u.low = second.low ∙ ap (λ b. max (from_of S r) (b * size_of S)) (sym same) ∙ sym first.low in
          eq-eqb u.block v.block same ∙ sym (eq-eqb v.low u.low low)
      | inr other ↦
          ne_eqb u.block v.block other
          ∙ sym (ne_eqb v.low u.low (λ low.
          let some = first.some in let more = second.some in
          let one : u ≡ v = units-same S.geometry (from_of S r) (until_of S r) u.low u v is.geometry first second (omega arith) (omega arith) (omega arith) (omega arith) in
          other (ap (λ (w : Span). w.block) one)))
    ]

-- no two units of a token begin at one byte
pub once : (t : ℕ) (task : Task) (x y : Todo) → IsBefore x y → is_here t task x ≡ true → is_here t task y ≡ false
once t task x y (inl lower) here =
    let parts = and_parts (nat_eq x.token t) (nat_eq (task_low x.task) (task_low task)) here in
    let token = eqb-true x.token t parts.0 in
    and_left (nat_eq y.token t) (nat_eq (task_low y.task) (task_low task)) (ne_eqb y.token t (λ same. absurd (omega arith)))
once t task x y (inr before) here =
    let parts = and_parts (nat_eq x.token t) (nat_eq (task_low x.task) (task_low task)) here in
    let low = eqb-true (task_low x.task) (task_low task) parts.1 in
    let lower = before.1 in
    and_right (nat_eq y.token t) (nat_eq (task_low y.task) (task_low task)) (ne_eqb (task_low y.task) (task_low task) (λ same. absurd (omega arith)))
