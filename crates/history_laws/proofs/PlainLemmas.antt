-- Whose turn it is, and what the entry of a turn or a collect leaves.
use Rattle.std.proofs.Common.{◌≡◌, ◌≢◌, ℕ, zero, suc, ◌+◌, inl, inr, Bool, true, false, List, [], ◌∷◌, slice_get, Option, None, Some, option_map, refl, sym, ◌∙◌}
use Rattle.std.proofs.lemmas.Bool.{cases_Bool}
use Rattle.std.proofs.lemmas.Option.{slice_get-map}
use Rattle.disk_split.specs.declared.span.Span.{Span}
use Rattle.disk_split.specs.Units.{units_of}
use Rattle.history.specs.declared.entry.Entry.{Entry}
use Rattle.history.specs.declared.entry.Entry.TheVariants.{Collect}
use Rattle.history.specs.Setup.{Setup}
use Rattle.history.specs.Tokens.{Request, token_count, request, was_collected, is_flush, from_of, until_of}
use Rattle.history.specs.Marks.{IsOutstanding, mark_of, ending, first_from, is_outstanding}
use Rattle.history.specs.Tasks.{Task, Moves, Syncs, tasks_of, task_command}
use Rattle.history.specs.Next.{first_open, next_task, Turn, turn_of_request, turn_of_token, next_turn, Outcome, Made, Failed, entry_of}
use Rattle.history_laws.specs.TokenFacts.{concerns}
use Rattle.history_laws.proofs.CountLemmas.{accepted-same}
use Rattle.history_laws.proofs.TokenLemmas.{or_else-none, request-same, collected-same, done-concerns, fault-concerns}
use Rattle.history_laws.proofs.NextLemmas.{first-open-some}

-- a part or a run among the units of a request is one of its range, and the request is no flush
pub task-unit : (S : Setup) (r : Request) (k : ℕ) (u : Span) → slice_get (tasks_of S r) k ≡ Some (Moves u)
    → (is_flush r.asked.kind ≡ false) × (slice_get (units_of S.geometry (from_of S r) (until_of S r)) k ≡ Some u)
task-unit S r k u there = elim (cases_Bool (is_flush r.asked.kind)) [
  | inl flush ↦ absurd (no-span k (rw flush at there))
  | inr moving ↦ (moving, by (slice_get units k) (sym (slice_get-map Moves units k) ∙ rw moving at there))
]
  where
    units : List Span
    units = units_of S.geometry (from_of S r) (until_of S r)

    no-span : (k : ℕ) → ◌≡◌ {A = Option Task} (slice_get (Syncs ∷ []) k) (Some (Moves u)) → ⊥
    no-span zero is = cc
    no-span (suc k) is = cc

    by : (o : Option Span) → ◌≡◌ {A = Option Task} (option_map Moves o) (Some (Moves u)) → o ≡ Some u
    by None is = cc
    by (Some v) is = cc

-- a sync among them is that of a flush
pub task-sync : (S : Setup) (r : Request) (k : ℕ) → slice_get (tasks_of S r) k ≡ Some Syncs → is_flush r.asked.kind ≡ true
task-sync S r k there = elim (cases_Bool (is_flush r.asked.kind)) [
  | inl flush ↦ flush
  | inr moving ↦ absurd (by (slice_get units k) (sym (slice_get-map Moves units k) ∙ rw moving at there))
]
  where
    units : List Span
    units = units_of S.geometry (from_of S r) (until_of S r)

    by : (o : Option Span) → ◌≡◌ {A = Option Task} (option_map Moves o) (Some Syncs) → ⊥
    by None is = cc
    by (Some v) is = cc

-- the token whose turn it is, and its unit
pub record IsTurnOf (S : Setup) (H : List Entry) (turn : Turn) (t : ℕ) (r : Request) (task : Task) : Type 0 where
  pub open_ : IsOutstanding S H t
  pub named : request H t ≡ Some r
  pub next : next_task S H t r ≡ Some task
  pub is : record { token = t; command = task_command H t r.asked.kind task } ≡ turn

pub turn-of : (S : Setup) (H : List Entry) (turn : Turn) → next_turn S H ≡ Some turn → (t : ℕ) × (r : Request) × (task : Task) × IsTurnOf S H turn t r task
unfolding next_turn
turn-of S H turn next = by (first_open S H) refl next
  where
    Found : Type 0
    Found = (t : ℕ) × (r : Request) × (task : Task) × IsTurnOf S H turn t r task

    tasked : (t : ℕ) (r : Request) → first_open S H ≡ Some t → request H t ≡ Some r → (o : Option Task) → next_task S H t r ≡ o
        → option_map (λ (task : Task). record { token = t; command = task_command H t r.asked.kind task }) o ≡ Some turn → Found
    tasked t r first named None next taken = cc
    tasked t r first named (Some task) next taken = (t, r, task, record { open_ = (first-open-some S H t first).0; named = named; next = next; is = some-turn _ taken })
      where
        some-turn : (v : Turn) → Some v ≡ Some turn → v ≡ turn
        some-turn v e = cc

    named-by : (t : ℕ) → first_open S H ≡ Some t → (o : Option Request) → request H t ≡ o → turn_of_request S H t o ≡ Some turn → Found
    named-by t first None named taken = cc
    named-by t first (Some r) named taken = tasked t r first named (next_task S H t r) refl taken

    by : (o : Option ℕ) → first_open S H ≡ o → turn_of_token S H o ≡ Some turn → Found
    by None first taken = cc
    by (Some t) first taken = named-by t first (request H t) refl taken

-- where a command comes next, a token is open
pub turn-open : (S : Setup) (H : List Entry) (turn : Turn) → next_turn S H ≡ Some turn → (t : ℕ) × (first_open S H ≡ Some t)
unfolding next_turn
turn-open S H turn next = by (first_open S H) refl next
  where
    by : (o : Option ℕ) → first_open S H ≡ o → turn_of_token S H o ≡ Some turn → (t : ℕ) × (first_open S H ≡ Some t)
    by None first taken = cc
    by (Some t) first taken = (t, first)

-- a command of another token does not concern this one
pub turn-concerns : (H : List Entry) (turn : Turn) (outcome : Outcome) (u : ℕ) → turn.token ≢ u → concerns H (entry_of turn outcome) u ≡ false
turn-concerns H turn Made u other = done-concerns H turn.token u turn.command other
turn-concerns H turn (Failed done) u other = fault-concerns H turn.token u turn.command done other

pub turn-accepted : (H : List Entry) (turn : Turn) (outcome : Outcome) → token_count (entry_of turn outcome ∷ H) ≡ token_count H
turn-accepted H turn Made = accepted-same H (entry_of turn Made) refl
turn-accepted H turn (Failed done) = accepted-same H (entry_of turn (Failed done)) refl

pub turn-request : (H : List Entry) (turn : Turn) (outcome : Outcome) (t : ℕ) → request (entry_of turn outcome ∷ H) t ≡ request H t
turn-request H turn Made t = request-same H (entry_of turn Made) t refl
turn-request H turn (Failed done) t = request-same H (entry_of turn (Failed done)) t refl

pub turn-collected : (H : List Entry) (turn : Turn) (outcome : Outcome) (t : ℕ) → was_collected (entry_of turn outcome ∷ H) t ≡ was_collected H t
turn-collected H turn Made t = collected-same H (entry_of turn Made) t refl
turn-collected H turn (Failed done) t = collected-same H (entry_of turn (Failed done)) t refl

-- a collect ends no token
pub mark-collect : (S : Setup) (H : List Entry) (tag t u : ℕ) → mark_of S (Collect tag t ∷ H) u ≡ mark_of S H u
unfolding mark_of ending
mark-collect S H tag t u = or_else-none (mark_of S H u)

-- equal tests have the same first number
first-same : (test other : ℕ → Bool) (a n : ℕ) → ((t : ℕ) → test t ≡ other t) → first_from test a n ≡ first_from other a n
unfolding first_from
first-same test other a zero same = refl
first-same test other a (suc n) same = rw (same a, first-same test other (a + 1) n same)

-- so the first open token stays
pub first-open-collect : (S : Setup) (H : List Entry) (tag t : ℕ) → first_open S (Collect tag t ∷ H) ≡ first_open S H
unfolding first_open
first-open-collect S H tag t =
    rw (accepted-same H (Collect tag t) refl)
    (first-same (is_outstanding S (Collect tag t ∷ H)) (is_outstanding S H) 0 (token_count H) (λ u. rw (accepted-same H (Collect tag t) refl, mark-collect S H tag t u)))
