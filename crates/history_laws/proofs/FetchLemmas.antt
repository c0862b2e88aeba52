-- What a fetch changes: the tickets, the next command of its part, and who holds its group.
use Rattle.std.proofs.Common.{Bool, List, Some, [], ap, arith, cond, false, find, if◌then◌else◌, inl, inr, length, nat_eq, option_map, refl, slice_get, subst, suc, sym, true, ℕ, ◌∙◌, ◌∷◌, ◌≡◌, ◌≢◌, ◌≤◌}
use Rattle.std.proofs.lemmas.Bool.{cases_Bool, eq-eqb, or_left, true≢false}
use Rattle.std.proofs.lemmas.List.Sums.{count_by-le-length}
use Rattle.std.specs.Prelude.{find, if◌then◌else◌, nat_eq}
use Rattle.history.specs.Commands.{done_commands, has_done, is_at, is_fetch}
use Rattle.history.specs.Marks.{fetches, is_fetch_entry, is_held, ticket_of, was_fetched}
use Rattle.history.specs.Next.{next_turn}
use Rattle.history.specs.Rules.{IsLegal, MayCommand}
use Rattle.history.specs.Setup.{IsSetup, Setup}
use Rattle.history.specs.Tasks.{Moves, Syncs, Task, Todo, first_runnable, is_runnable, units_left, span_command, task_command}
use Rattle.history.specs.Tokens.{changes_bytes, is_flush}
use Rattle.history.specs.declared.entry.Command.{Command}
use Rattle.history.specs.declared.entry.Command.TheVariants.{Fetch, Get, Store}
use Rattle.history.specs.declared.entry.Entry.{Entry}
use Rattle.history.specs.declared.entry.Entry.TheVariants.{Accept, Cancel, Collect, Done, Eject, Fault, Insert, Protect, Refuse, Reset}
use Rattle.history.specs.declared.entry.Kind.{Kind}
use Rattle.history.specs.declared.entry.Kind.TheVariants.{Erase, Flush, Read, Write}
use Rattle.history_laws.proofs.CountLemmas.{fetches-more, fetches-same}
use Rattle.history_laws.proofs.MayLemmas.{runnable-may}
use Rattle.history_laws.proofs.PendingLemmas.{pending-fetch}
use Rattle.history_laws.proofs.RunnableLemmas.{free-runnable, next-runnable}
use Rattle.history_laws.proofs.TokenLemmas.{has_done-done}
use Rattle.history_laws.specs.TokenFacts.{is_done}
use Rattle.history_laws.specs.Turns.{turn_of_todo}
use Rattle.history_laws.specs.Units.{is_span_command}

-- a fetched group has its ticket
pub fetched-ticket : (H : List Entry) (t b : ℕ) → was_fetched H t b ≡ true → (k : ℕ) × (ticket_of H t b ≡ Some k)
unfolding has_done done_commands ticket_of
fetched-ticket [] t b is = absurd (true≢false (sym is))
fetched-ticket (Done u c ∷ H) t b is = elim (cases_Bool (nat_eq u t)) [
  | inr other ↦ (let rest = fetched-ticket H t b (rw other at is) in (rest.0, rw other rest.1))
  | inl same ↦
      elim (cases_Bool (is_at is_fetch b c)) [
        | inl now ↦ (fetches H, rw (same, now) refl)
        | inr before ↦ (let rest = fetched-ticket H t b (rw (same, before) at is) in (rest.0, rw (same, before) rest.1))
      ]
]
fetched-ticket (Accept tag view asked bytes ∷ H) t b is = fetched-ticket H t b is
fetched-ticket (Refuse tag view asked media_id status ∷ H) t b is = fetched-ticket H t b is
fetched-ticket (Fault u c done ∷ H) t b is = fetched-ticket H t b is
fetched-ticket (Collect tag u ∷ H) t b is = fetched-ticket H t b is
fetched-ticket (Cancel tag view ∷ H) t b is = fetched-ticket H t b is
fetched-ticket (Reset tag ∷ H) t b is = fetched-ticket H t b is
fetched-ticket (Eject tag ∷ H) t b is = fetched-ticket H t b is
fetched-ticket (Insert tag j ∷ H) t b is = fetched-ticket H t b is
fetched-ticket (Protect tag on ∷ H) t b is = fetched-ticket H t b is

-- tests that agree on each element find the same
pub find-alike : {X : Type 0} (p q : X → Bool) (xs : List X) → ((i : ℕ) (x : X) → slice_get xs i ≡ Some x → p x ≡ q x) → find p xs ≡ find q xs
find-alike p q [] same = refl
find-alike p q (x ∷ xs) same = ap (λ v. cond v (Some x) (find p xs)) (same 0 x refl) ∙ ap (λ rest. cond (q x) (Some x) rest) (find-alike p q xs (λ i y at. same (suc i) y at))

-- a part that was to be fetched is to be stored, once it was fetched
fetched-command : (H : List Entry) (t : ℕ) (kind : Kind) (task : Task) (b : ℕ) → task_command H t kind task ≡ Fetch b → task_command (Done t (Fetch b) ∷ H) t kind task ≡ Store b
fetched-command H t kind Syncs b is = cc
fetched-command H t kind (Moves u) b is = by kind u.whole is
  where
    now : (c : ℕ) → c ≡ b → was_fetched (Done t (Fetch b) ∷ H) t c ≡ true
    now c same = has_done-done (is_at is_fetch c) H t (Fetch b) ∙ or_left (nat_eq b c) (was_fetched H t c) (eq-eqb b c (sym same))

    part : (c : ℕ) (f : Bool) → was_fetched H t c ≡ f → (if f then Store c else Fetch c) ≡ Fetch b → (if was_fetched (Done t (Fetch b) ∷ H) t c then Store c else Fetch c) ≡ Store b
    part c true was e = cc
    part c false was e = let same : c ≡ b = cc in rw (now c same) (ap Store same)

    by : (kind : Kind) (whole : Bool) → task_command H t kind (Moves (record u { whole = whole })) ≡ Fetch b → task_command (Done t (Fetch b) ∷ H) t kind (Moves (record u { whole = whole })) ≡ Store b
    by Read whole e = cc
    by Flush whole e = cc
    by Write true e = cc
    by Erase true e = cc
    by Write false e = part u.block (was_fetched H t u.block) refl e
    by Erase false e = part u.block (was_fetched H t u.block) refl e

-- after the fetch of the first runnable unit its store is the next turn
pub store-turn : (S : Setup) (H : List Entry) (todo : Todo) (b : ℕ) → IsSetup S → IsLegal S H → IsLegal S (Done todo.token (Fetch b) ∷ H) → ((c : ℕ) → is_held S H c ≡ false)
    → first_runnable (is_held S H) true S H ≡ Some todo → task_command H todo.token todo.kind todo.task ≡ Fetch b
    → next_turn S (Done todo.token (Fetch b) ∷ H) ≡ Some (record { token = todo.token; command = Store b })
unfolding first_runnable
store-turn S H todo b is legal legal' none first fetch =
    let may : MayCommand S H todo.token (Fetch b) = subst (λ c. MayCommand S H todo.token c) fetch (runnable-may S H true todo is legal first) in
    let alike : find (is_runnable (λ c. false) true) (units_left S H) ≡ Some todo =
    find-alike (is_runnable (λ c. false) true) (is_runnable (is_held S H) true) (units_left S H) (λ i d there. free-runnable (λ c. false) d (λ c. refl) ∙ sym (free-runnable (is_held S H) d none)) ∙ first in
    let here : first_runnable (λ c. false) true S (Done todo.token (Fetch b) ∷ H) ≡ Some todo = ap (find (is_runnable (λ c. false) true)) (pending-fetch S H todo.token b is legal may) ∙ alike in
    next-runnable S (Done todo.token (Fetch b) ∷ H) (λ c. false) is legal' (λ c. refl) ∙ (ap (option_map (turn_of_todo (Done todo.token (Fetch b) ∷ H))) here
    ∙ ap (λ (c : Command). Some (record { token = todo.token; command = c })) (fetched-command H todo.token todo.kind todo.task b fetch))

-- the next command of a part that was not fetched
pub fetch-span : (H : List Entry) (t : ℕ) (kind : Kind) (b n : ℕ) → changes_bytes kind ≡ true → was_fetched H t b ≡ false → span_command H t kind false b n ≡ Fetch b
fetch-span H t Read b n is un = cc
fetch-span H t Write b n is un = ap (λ v. if v then Store b else Fetch b) un
fetch-span H t Flush b n is un = cc
fetch-span H t Erase b n is un = ap (λ v. if v then Store b else Fetch b) un

-- no more fetches than entries
pub fetches-few : (H : List Entry) → fetches H ≤ length H
unfolding fetches
fetches-few H = count_by-le-length is_fetch_entry H

-- fetches are never undone
pub fetches-rise : (H : List Entry) (e : Entry) → fetches H ≤ fetches (e ∷ H)
fetches-rise H e = elim (cases_Bool (is_fetch_entry e)) [ inl is ↦ omega (arith, fetches-more H e is) | inr isnt ↦ omega (arith, fetches-same H e isnt) ]

-- an entry that is no done command is no done fetch
pub not-done : (e : Entry) (t b : ℕ) → is_done e ≡ false → e ≢ Done t (Fetch b)
not-done e t b undone same = true≢false (sym (ap is_done same) ∙ undone)

-- a request that is no flush and changes no byte reads
pub reads-kind : (kind : Kind) → is_flush kind ≡ false → changes_bytes kind ≡ false → kind ≡ Read
reads-kind Read moves still = refl
reads-kind Write moves still = cc
reads-kind Flush moves still = cc
reads-kind Erase moves still = cc

-- the command of a read's unit
pub get-span : (H : List Entry) (t : ℕ) (kind : Kind) (whole : Bool) (b n : ℕ) → kind ≡ Read → span_command H t kind whole b n ≡ Get b n
get-span H t Read whole b n is = refl
get-span H t Write whole b n is = cc
get-span H t Flush whole b n is = cc
get-span H t Erase whole b n is = cc

-- which is one that a read makes
pub get-kind : (kind : Kind) (whole : Bool) (b n : ℕ) → kind ≡ Read → is_span_command kind whole (Get b n) ≡ true
get-kind Read whole b n is = refl
get-kind Write whole b n is = cc
get-kind Flush whole b n is = cc
get-kind Erase whole b n is = cc
