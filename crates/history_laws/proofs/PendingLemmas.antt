-- The units that are left after each entry.
use Rattle.std.proofs.Common.{◌≡◌, ◌≢◌, ◌⊎◌, ℕ, zero, suc, ◌<◌, ◌≤◌, inl, inr, Bool, true, false, not, ◌&&◌, List, [], ◌∷◌, ◌++◌, slice_get, map, filter, None, Some, refl, sym, ◌∙◌, ap, subst, arith}
use Rattle.std.specs.List.{list_any}
use Rattle.std.proofs.lemmas.List.Elements.{filter-append}
use Rattle.std.proofs.lemmas.Bool.{cases_Bool, cases_eq, and_from, and_left, both_ways, not-true, not-false, not_from_false, not_from_true}
use Rattle.efi_status.specs.declared.Status.{Status}
use Rattle.history.specs.declared.entry.View.{View}
use Rattle.history.specs.declared.entry.Asked.{Asked}
use Rattle.history.specs.declared.entry.Command.{Command}
use Rattle.history.specs.declared.entry.Command.TheVariants.{Fetch}
use Rattle.history.specs.declared.entry.Entry.{Entry}
use Rattle.history.specs.declared.entry.Entry.TheVariants.{Refuse, Done, Collect, Insert}
use Rattle.history.specs.Setup.{Setup, IsSetup}
use Rattle.history.specs.Tokens.{Request, is_accept, token_count, request}
use Rattle.history.specs.Commands.{is_transfer, is_sync, moves, done_commands, has_done}
use Rattle.history.specs.Marks.{mark_of, ending, is_outstanding, IsOutstanding}
use Rattle.history.specs.Rules.{MayCommand, IsLegal}
use Rattle.history.specs.Tasks.{Task, Moves, Syncs, tasks_of, is_finished, Todo, todo_of, todo_before, units_left}
use Rattle.history_laws.specs.TokenFacts.{concerns}
use Rattle.history_laws.specs.Pending.{is_todo, todo_at}
use Rattle.history_laws.proofs.CountLemmas.{accepted-more, accepted-same}
use Rattle.history_laws.proofs.TokenLemmas.{or_else-none, has_done-done, request-kept, request-some, done_commands-same, done_commands-other, mark-other, done-concerns}
use Rattle.history_laws.proofs.EndLemmas.{accepted-rises, mark-before}
use Rattle.history_laws.proofs.UnitLemmas.{moved-same}
use Rattle.history_laws.proofs.HolderLemmas.{fetch-holds}
use Rattle.history_laws.proofs.TaskLemmas.{finished-stays}
use Rattle.history_laws.proofs.NextLemmas.{outstanding-test, outstanding-from}

-- one filter after a harder one
filter-mapped : {X Y : Type 0} (f : X → Y) (keep later : X → Bool) (test : Y → Bool) (xs : List X) → ((x : X) → keep x ≡ false → later x ≡ false) → ((x : X) → test (f x) ≡ later x)
    → filter test (map f (filter keep xs)) ≡ map f (filter later xs)
filter-mapped f keep later test [] harder same = refl
filter-mapped {X} {Y} f keep later test (x ∷ xs) harder same = elim (cases_Bool (keep x)) [
  | inr dropped ↦ rw (dropped, harder x dropped) (filter-mapped f keep later test xs harder same)
  | inl kept ↦ elim (cases_Bool (later x)) [
    | inl stays ↦ rw (kept, same x, stays) (ap (λ ys. f x ∷ ys) (filter-mapped f keep later test xs harder same))
    | inr goes ↦ rw (kept, same x, goes) (filter-mapped f keep later test xs harder same)
  ]
]

filter-nothing : {X Y : Type 0} (f : X → Y) (test : Y → Bool) (xs : List X) → ((x : X) → test (f x) ≡ false) → filter test (map f xs) ≡ []
filter-nothing f test [] none = refl
filter-nothing f test (x ∷ xs) none = rw (none x) (filter-nothing f test xs none)

pub filter-everything : {X : Type 0} (test : X → Bool) (xs : List X) → ((k : ℕ) (x : X) → slice_get xs k ≡ Some x → test x ≡ true) → filter test xs ≡ xs
filter-everything test [] all = refl
filter-everything test (x ∷ xs) all = rw (all 0 x refl) (ap (λ ys. x ∷ ys) (filter-everything test xs (λ k y there. all (suc k) y there)))

pub filter-alike : {X : Type 0} (test other : X → Bool) (xs : List X) → ((k : ℕ) (x : X) → slice_get xs k ≡ Some x → test x ≡ other x) → filter test xs ≡ filter other xs
filter-alike test other [] same = refl
filter-alike test other (x ∷ xs) same = rw (same 0 x refl, filter-alike test other xs (λ k y there. same (suc k) y there))

-- a token that is open after an entry was open before it
pub open-before : (S : Setup) (H : List Entry) (e : Entry) (t : ℕ) → t ≢ token_count H → IsOutstanding S (e ∷ H) t → IsOutstanding S H t
open-before S H e t old open_ = record { token = by (cases_Bool (is_accept e)); unmarked = mark-before S H e t open_.unmarked }
  where
    by : (is_accept e ≡ true) ⊎ (is_accept e ≡ false) → t < token_count H
    by (inl is) = omega (arith, old, open_.token, accepted-more H e is)
    by (inr isnt) = omega (arith, open_.token, accepted-same H e isnt)

pub todo-closed : (S : Setup) (H : List Entry) (t : ℕ) → is_outstanding S H t ≡ false → todo_of S H t ≡ []
unfolding todo_of
todo-closed S H t closed = rw closed

pub todo-open : (S : Setup) (H : List Entry) (t : ℕ) (r : Request) → is_outstanding S H t ≡ true → request H t ≡ Some r → todo_of S H t ≡ map (todo_at t r) (filter (λ task. not (is_finished S H t task)) (tasks_of S r))
unfolding todo_of
todo-open S H t r open_ named = rw (open_, named)

-- an entry leaves those units of an older token that are still to do
pub todo-keeps : (S : Setup) (H : List Entry) (e : Entry) (t : ℕ) → t < token_count H → todo_of S (e ∷ H) t ≡ filter (is_todo S (e ∷ H)) (todo_of S H t)
todo-keeps S H e t token =
    let old : t ≢ token_count H = (λ same. absurd (omega (arith, same))) in
    let (r, named) = request-some H t token in
    by r named (request-kept H e t old ∙ named) old (cases_Bool (is_outstanding S H t)) (cases_Bool (is_outstanding S (e ∷ H) t))
  where
    by : (r : Request) → request H t ≡ Some r → request (e ∷ H) t ≡ Some r → t ≢ token_count H → (is_outstanding S H t ≡ true) ⊎ (is_outstanding S H t ≡ false)
        → (is_outstanding S (e ∷ H) t ≡ true) ⊎ (is_outstanding S (e ∷ H) t ≡ false) → todo_of S (e ∷ H) t ≡ filter (is_todo S (e ∷ H)) (todo_of S H t)
    by r named named' old (inr closed) (inr closed') = rw (todo-closed S H t closed, todo-closed S (e ∷ H) t closed')
    by r named named' old (inr closed) (inl open_) = absurd (both_ways (is_outstanding S H t) closed (outstanding-test S H t (open-before S H e t old (outstanding-from S (e ∷ H) t open_))))
    by r named named' old (inl open_) (inr closed') =
        rw (todo-closed S (e ∷ H) t closed', todo-open S H t r open_ named)
        (sym (filter-nothing (todo_at t r) (is_todo S (e ∷ H)) (filter (λ task. not (is_finished S H t task)) (tasks_of S r)) (λ task. and_left (is_outstanding S (e ∷ H) t) (not (is_finished S (e ∷ H) t task)) closed')))
    by r named named' old (inl open_) (inl open_') =
        rw (todo-open S (e ∷ H) t r open_' named', todo-open S H t r open_ named)
        (sym (
        filter-mapped (todo_at t r) (λ task. not (is_finished S H t task)) (λ task. not (is_finished S (e ∷ H) t task)) (is_todo S (e ∷ H)) (tasks_of S r)
        (λ task finished. not_from_true (is_finished S (e ∷ H) t task) (finished-stays S H e t task (not-false (is_finished S H t task) finished)))
        (λ task. ap (λ b. b && not (is_finished S (e ∷ H) t task)) open_')
        ))

pub before-keeps : (S : Setup) (H : List Entry) (e : Entry) (n : ℕ) → n ≤ token_count H → todo_before S (e ∷ H) n ≡ filter (is_todo S (e ∷ H)) (todo_before S H n)
unfolding todo_before
before-keeps S H e zero within = refl
before-keeps S H e (suc n) within =
    rw (before-keeps S H e n (omega arith), todo-keeps S H e n (omega arith)) (sym (filter-append (is_todo S (e ∷ H)) (todo_before S H n) (todo_of S H n)))

-- an entry that is no accept leaves the units that are still to do
pub pending-keeps : (S : Setup) (H : List Entry) (e : Entry) → is_accept e ≡ false → units_left S (e ∷ H) ≡ filter (is_todo S (e ∷ H)) (units_left S H)
pending-keeps S H e old = rw (accepted-same H e old) (before-keeps S H e (token_count H) (omega arith))

-- what is told of a unit in the list
pub record IsPending (S : Setup) (H : List Entry) (todo : Todo) (r : Request) : Type 0 where
  pub outstanding : IsOutstanding S H todo.token
  pub named : request H todo.token ≡ Some r
  pub kind : todo.kind ≡ r.asked.kind
  pub place : ℕ
  pub listed : slice_get (tasks_of S r) place ≡ Some todo.task
  pub unfinished : is_finished S H todo.token todo.task ≡ false

pub get-mapped : {X Y : Type 0} (f : X → Y) (xs : List X) (k : ℕ) (y : Y) → slice_get (map f xs) k ≡ Some y → (x : X) × (slice_get xs k ≡ Some x) × (f x ≡ y)
get-mapped f [] k y there = cc
get-mapped f (x ∷ xs) zero y there = (x, refl, (let e : Some (f x) ≡ Some y = there in cc))
get-mapped f (x ∷ xs) (suc k) y there = get-mapped f xs k y there

pub get-filtered : {X : Type 0} (keep : X → Bool) (xs : List X) (k : ℕ) (x : X) → slice_get (filter keep xs) k ≡ Some x → (j : ℕ) × (slice_get xs j ≡ Some x) × (keep x ≡ true)
get-filtered keep [] k x there = cc
get-filtered {X} keep (y ∷ xs) k x there = elim (cases_Bool (keep y)) [
  | inr dropped ↦ let (j, at, kept) = get-filtered keep xs k x (rw dropped at there) in (suc j, at, kept)
  | inl kept ↦ first k (rw kept at there) kept (λ j at. get-filtered keep xs j x at)
]
  where
    first : (k : ℕ) → slice_get (y ∷ filter keep xs) k ≡ Some x → keep y ≡ true → ((j : ℕ) → slice_get (filter keep xs) j ≡ Some x → (i : ℕ) × (slice_get xs i ≡ Some x) × (keep x ≡ true))
        → (j : ℕ) × (slice_get (y ∷ xs) j ≡ Some x) × (keep x ≡ true)
    first zero there kept rest = let same : y ≡ x = cc in (0, there, rw (← same) kept)
    first (suc k) there kept rest = let (j, at, passes) = rest k there in (suc j, at, passes)

pub get-appended : {X : Type 0} (xs ys : List X) (k : ℕ) (x : X) → slice_get (xs ++ ys) k ≡ Some x → (slice_get xs k ≡ Some x) ⊎ ((j : ℕ) × (slice_get ys j ≡ Some x))
get-appended [] ys k x there = inr (k, there)
get-appended (y ∷ xs) ys zero x there = inl there
get-appended (y ∷ xs) ys (suc k) x there = get-appended xs ys k x there

-- a unit that is left of a token
pub todo-is : (S : Setup) (H : List Entry) (t k : ℕ) (todo : Todo) → slice_get (todo_of S H t) k ≡ Some todo → (todo.token ≡ t) × ((r : Request) × IsPending S H todo r)
todo-is S H t k todo there = by (cases_Bool (is_outstanding S H t))
  where
    by : (is_outstanding S H t ≡ true) ⊎ (is_outstanding S H t ≡ false) → (todo.token ≡ t) × ((r : Request) × IsPending S H todo r)
    by (inr closed) = let none : None ≡ Some todo = rw (todo-closed S H t closed) at there in cc
    by (inl open_) =
        let token : IsOutstanding S H t = outstanding-from S H t open_ in
        let (r, named) = request-some H t token.token in
        let (task, kept, same) = get-mapped (todo_at t r) (filter (λ task. not (is_finished S H t task)) (tasks_of S r)) k todo (rw (todo-open S H t r open_ named) at there) in
        let (j, listed, left) = get-filtered (λ task. not (is_finished S H t task)) (tasks_of S r) k task kept in
        let IsSo : Todo → Type 0 = λ d. (d.token ≡ t) × ((r : Request) × IsPending S H d r) in
        subst IsSo same (refl, (r, record { outstanding = token; named = named; kind = refl; place = j; listed = listed; unfinished = not-true (is_finished S H t task) left }))

pub before-is : (S : Setup) (H : List Entry) (n k : ℕ) (todo : Todo) → slice_get (todo_before S H n) k ≡ Some todo → (todo.token < n) × ((r : Request) × IsPending S H todo r)
unfolding todo_before
before-is S H zero k todo there = cc
before-is S H (suc n) k todo there = elim (get-appended (todo_before S H n) (todo_of S H n) k todo there) [
  | inl older ↦ let (below, rest) = before-is S H n k todo older in (omega arith, rest)
  | inr (j, own) ↦ let (same, rest) = todo-is S H n j todo own in (omega (arith, same), rest)
]

-- each unit in the list is of an open token, one of its request's, and not finished
pub pending-is : (S : Setup) (H : List Entry) (k : ℕ) (todo : Todo) → slice_get (units_left S H) k ≡ Some todo → (r : Request) × IsPending S H todo r
pending-is S H k todo there = (before-is S H (token_count H) k todo there).1

-- histories that tell the same done commands of a token tell the same of its units
pub finished-same : (S : Setup) (H H' : List Entry) (t : ℕ) (task : Task) → done_commands H' t ≡ done_commands H t → is_finished S H' t task ≡ is_finished S H t task
unfolding has_done
finished-same S H H' t (Moves u) same = ap (list_any (moves S u.low)) same
finished-same S H H' t Syncs same = ap (list_any is_sync) same

mark-collect : (S : Setup) (H : List Entry) (tag u t : ℕ) → mark_of S (Collect tag u ∷ H) t ≡ mark_of S H t
unfolding mark_of ending
mark-collect S H tag u t = or_else-none (mark_of S H t)

-- an entry that ends no open token and finishes no unit of one leaves the list
pub pending-same : (S : Setup) (H : List Entry) (e : Entry) → is_accept e ≡ false → ((todo : Todo) (r : Request) → IsPending S H todo r → is_todo S (e ∷ H) todo ≡ true) → units_left S (e ∷ H) ≡ units_left S H
pending-same S H e old stays =
    pending-keeps S H e old ∙ filter-everything (is_todo S (e ∷ H)) (units_left S H) (λ k todo there. let (r, is) = pending-is S H k todo there in stays todo r is)

-- a unit stays to do where its token stays open and no command of it was done
pub todo-stays : (S : Setup) (H : List Entry) (e : Entry) (todo : Todo) (r : Request) → IsPending S H todo r → mark_of S (e ∷ H) todo.token ≡ None → done_commands (e ∷ H) todo.token ≡ done_commands H todo.token → is_todo S (e ∷ H) todo ≡ true
todo-stays S H e todo r is unmarked same =
    let open_ : IsOutstanding S (e ∷ H) todo.token = record { token = omega (arith, is.outstanding.token, accepted-rises H e); unmarked = unmarked } in
    and_from (is_outstanding S (e ∷ H) todo.token) (not (is_finished S (e ∷ H) todo.token todo.task)) (outstanding-test S (e ∷ H) todo.token open_)
    (not_from_false (is_finished S (e ∷ H) todo.token todo.task) (finished-same S H (e ∷ H) todo.token todo.task same ∙ is.unfinished))

pub pending-refuse : (S : Setup) (H : List Entry) (tag : ℕ) (view : View) (asked : Asked) (media_id : ℕ) (status : Status) → units_left S (Refuse tag view asked media_id status ∷ H) ≡ units_left S H
pending-refuse S H tag view asked media_id status =
    let e : Entry = Refuse tag view asked media_id status in
    pending-same S H e refl (λ todo r is. todo-stays S H e todo r is (mark-other S H e todo.token refl ∙ is.outstanding.unmarked) (done_commands-same H e todo.token refl))

pub pending-collect : (S : Setup) (H : List Entry) (tag t : ℕ) → units_left S (Collect tag t ∷ H) ≡ units_left S H
pending-collect S H tag t =
    pending-same S H (Collect tag t) refl (λ todo r is. todo-stays S H (Collect tag t) todo r is (mark-collect S H tag t todo.token ∙ is.outstanding.unmarked) (done_commands-same H (Collect tag t) todo.token refl))

pub pending-insert : (S : Setup) (H : List Entry) (tag k : ℕ) → units_left S (Insert tag k ∷ H) ≡ units_left S H
pending-insert S H tag k =
    pending-same S H (Insert tag k) refl (λ todo r is. todo-stays S H (Insert tag k) todo r is (mark-other S H (Insert tag k) todo.token refl ∙ is.outstanding.unmarked) (done_commands-same H (Insert tag k) todo.token refl))

-- a done command that moves nothing and leaves its token open leaves the list, so a fetch does
pub pending-still : (S : Setup) (H : List Entry) (t : ℕ) (c : Command) → is_transfer c ≡ false → is_sync c ≡ false → (mark_of S H t ≡ None → mark_of S (Done t c ∷ H) t ≡ None) → units_left S (Done t c ∷ H) ≡ units_left S H
pending-still S H t c none unsynced open_ = pending-same S H (Done t c) refl (λ todo r is. by todo r is (cases_eq t todo.token))
  where
    still : (task : Task) → is_finished S (Done t c ∷ H) t task ≡ is_finished S H t task
    still (Moves u) = moved-same S H t c u.low none
    still Syncs = has_done-done is_sync H t c ∙ rw unsynced

    by : (todo : Todo) (r : Request) → IsPending S H todo r → (t ≡ todo.token) ⊎ (t ≡ todo.token → ⊥) → is_todo S (Done t c ∷ H) todo ≡ true
    by todo r is (inr other) =
        let quiet : concerns H (Done t c) todo.token ≡ false = done-concerns H t todo.token c other in
        todo-stays S H (Done t c) todo r is (mark-other S H (Done t c) todo.token quiet ∙ is.outstanding.unmarked) (done_commands-other S H (Done t c) todo.token quiet)
    by todo r is (inl same) =
        let was : mark_of S H t ≡ None = rw same is.outstanding.unmarked in
        let open_now : IsOutstanding S (Done t c ∷ H) t = record { token = omega (arith, same, is.outstanding.token, accepted-same H (Done t c) refl); unmarked = open_ was } in
        let unfinished : is_finished S (Done t c ∷ H) t todo.task ≡ false = still todo.task ∙ rw same is.unfinished in
        rw (← same) (and_from (is_outstanding S (Done t c ∷ H) t) (not (is_finished S (Done t c ∷ H) t todo.task)) (outstanding-test S (Done t c ∷ H) t open_now) (not_from_false (is_finished S (Done t c ∷ H) t todo.task) unfinished))

pub pending-fetch : (S : Setup) (H : List Entry) (t b : ℕ) → IsSetup S → IsLegal S H → MayCommand S H t (Fetch b) → units_left S (Done t (Fetch b) ∷ H) ≡ units_left S H
pending-fetch S H t b is legal may = pending-still S H t (Fetch b) refl refl (λ open_. (fetch-holds S H t b is legal may).outstanding.unmarked)
