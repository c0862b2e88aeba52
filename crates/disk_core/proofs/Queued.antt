-- The units of tokens as the queue keeps them.
use Rattle.std.proofs.Common.{◌≡◌, ◌≢◌, ◌⊎◌, ℕ, ◌≤◌, inl, inr, Bool, true, false, not, nat_eq, ◌&&◌, List, [], ◌∷◌, map, refl, sym, ◌∙◌, ap, subst, arith}
use Rattle.std.specs.Prelude.{filter, count_by}
use Rattle.std.proofs.lemmas.Bool.{cases_Bool, cases_eq, eq-eqb, ne_eqb, and_right}
use Rattle.disk_split.specs.declared.span.Span.{Span}
use Rattle.history.specs.Tasks.{Task, Moves, Syncs, Todo}
use Rattle.history_laws.proofs.CountLemmas.{count-more, count-same}
use Rattle.history_laws.proofs.PendingLemmas.{filter-everything, filter-alike}
use Rattle.subtask_queue.specs.Subs.{token_of, is_of, sub_of, without_token}
use Rattle.history_laws.proofs.FilterLemmas.{filter-mapped, filter-twice}

pub sub-token : (size : ℕ) (todo : Todo) → token_of (sub_of size todo) ≡ todo.token
sub-token size todo = by todo.task
  where
    of : (u : Span) (b : Bool) → u.whole ≡ b → token_of (sub_of size (record todo { task = Moves u })) ≡ todo.token
    of u true is = rw is refl
    of u false is = rw is refl

    by : (task : Task) → token_of (sub_of size (record todo { task = task })) ≡ todo.token
    by (Moves u) = of u u.whole refl
    by Syncs = refl

pub queue-without : (size t : ℕ) (keep keep' : Todo → Bool) (units : List Todo) → ((todo : Todo) → todo.token ≡ t → keep' todo ≡ false) → ((todo : Todo) → todo.token ≢ t → keep' todo ≡ keep todo)
    → without_token t (map (sub_of size) (filter keep units)) ≡ map (sub_of size) (filter keep' units)
unfolding without_token is_of
queue-without size t keep keep' units gone stays =
    filter-mapped (λ s. not (nat_eq t (token_of s))) (sub_of size) (filter keep units)
    ∙ ap (map (sub_of size)) (filter-twice (λ todo. not (nat_eq t (token_of (sub_of size todo)))) keep units
    ∙ filter-alike (λ todo. keep todo && not (nat_eq t (token_of (sub_of size todo)))) keep' units (λ k todo there. same todo))
  where
    and-true : (b : Bool) → (b && true) ≡ b
    and-true true = refl
    and-true false = refl

    same : (todo : Todo) → (keep todo && not (nat_eq t (token_of (sub_of size todo)))) ≡ keep' todo
    same todo = elim (cases_eq todo.token t) [
      | inl is ↦ rw (sub-token size todo, eq-eqb t todo.token (sym is)) (and_right (keep todo) false refl ∙ sym (gone todo is))
      | inr isnt ↦ rw (sub-token size todo, ne_eqb t todo.token (λ e. isnt (sym e))) (and-true (keep todo) ∙ sym (stays todo isnt))
    ]

pub queue-count : (size t : ℕ) (keep : Todo → Bool) (units : List Todo) → count_by (is_of t) (map (sub_of size) (filter keep units)) ≤ count_by (λ todo. nat_eq t todo.token) units
unfolding is_of
queue-count size t keep [] = omega arith
queue-count size t keep (todo ∷ units) = by (cases_Bool (keep todo)) (cases_Bool (nat_eq t todo.token)) (queue-count size t keep units)
  where
    by : (keep todo ≡ true) ⊎ (keep todo ≡ false) → (nat_eq t todo.token ≡ true) ⊎ (nat_eq t todo.token ≡ false) → count_by (is_of t) (map (sub_of size) (filter keep units)) ≤ count_by (λ d. nat_eq t d.token) units
        → count_by (is_of t) (map (sub_of size) (filter keep (todo ∷ units))) ≤ count_by (λ d. nat_eq t d.token) (todo ∷ units)
    by (inl kept) (inl of) less = rw kept (
        let one = count-more (is_of t) (sub_of size todo) (map (sub_of size) (filter keep units)) (ap (nat_eq t) (sub-token size todo) ∙ of) in
        let all = count-more (λ (d : Todo). nat_eq t d.token) todo units of in
        omega arith)
    by (inl kept) (inr isnt) less = rw kept (
        let one = count-same (is_of t) (sub_of size todo) (map (sub_of size) (filter keep units)) (ap (nat_eq t) (sub-token size todo) ∙ isnt) in
        let all = count-same (λ (d : Todo). nat_eq t d.token) todo units isnt in
        omega arith)
    by (inr dropped) (inl of) less = rw dropped (let all = count-more (λ (d : Todo). nat_eq t d.token) todo units of in omega arith)
    by (inr dropped) (inr isnt) less = rw dropped (let all = count-same (λ (d : Todo). nat_eq t d.token) todo units isnt in omega arith)

-- the units of a token that stand in the queue
pub queue-units : (size t : ℕ) (units : List Todo) → count_by (is_of t) (map (sub_of size) units) ≤ count_by (λ todo. nat_eq t todo.token) units
queue-units size t units = subst (λ l. count_by (is_of t) (map (sub_of size) l) ≤ count_by (λ todo. nat_eq t todo.token) units) (filter-everything (λ todo. true) units (λ k todo there. refl)) (queue-count size t (λ todo. true) units)
