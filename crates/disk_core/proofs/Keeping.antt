-- What an accepted request keeps, and that its units stand behind those of older ones.
use Rattle.std.proofs.Common.{◌≡◌, ℕ, zero, suc, ◌-◌, ◌*◌, ◌<◌, Bool, true, false, not, List, [], ◌∷◌, ◌++◌, length, map, slice_get, Some, refl, sym, ◌∙◌, ap, subst, arith, nat_eq}
use Rattle.std.specs.Prelude.{filter, slice_set, if◌then◌else◌}
use Rattle.std.specs.Option.{option_map}
use Rattle.std.proofs.lemmas.Bool.{eq-eqb, ne_eqb}
use Rattle.std.proofs.lemmas.List.Elements.{filter-append}
use Rattle.disk_split.specs.declared.geometry.Geometry.{Geometry}
use Rattle.disk_split.specs.declared.parts.Parts.{Parts}
use Rattle.disk_split.specs.declared.span.Span.{Span}
use Rattle.history.specs.declared.entry.Kind.{Kind}
use Rattle.history.specs.declared.entry.Entry.{Entry}
use Rattle.history.specs.Setup.{Setup}
use Rattle.history.specs.Tokens.{is_flush, changes_bytes, token_count}
use Rattle.history.specs.Tasks.{Todo, units_left}
use Rattle.history_laws.proofs.PendingLemmas.{before-is}
use Rattle.event_cell.specs.Ends.{SignallerEnd}
use Rattle.token_table.specs.declared.record.Mark.{Mark}
use Rattle.token_table.specs.declared.record.Request.{Request}
use Rattle.token_table.specs.declared.record.Record.{Record}
use Rattle.token_table.specs.Records.{Records, record_at, new_record, with_record, with_change, mark_of_record, mark_at}
use Rattle.token_table.proofs.RecordsLemmas.{at-push, record_at-added}
use Rattle.subtask_queue.specs.declared.sub.Sub.{Sub}
use Rattle.subtask_queue.specs.declared.sub.Sub.TheVariants.{Part, Run, Sync}
use Rattle.subtask_queue.specs.Subs.{token_of, is_of, sub_of, sub_of_span, spans_in, subs_of_request, without_token, AreBelow}
use Rattle.disk_core.proofs.Queued.{sub-token}

-- the record that was added last is changed
set-last : {X : Type 0} (xs : List X) (x y : X) → slice_set (xs ++ x ∷ []) (length xs) y ≡ xs ++ y ∷ []
set-last [] x y = refl
set-last (z ∷ xs) x y = ap (λ rest. z ∷ rest) (set-last xs x y)

pub changed-last : (change : Record → Record) (s : Records) (r : Record) (n : ℕ) → n ≡ length s → with_change change (s ++ Some r ∷ []) n ≡ s ++ Some (change r) ∷ []
unfolding with_change
changed-last change s r n is =
    let there : record_at (s ++ Some r ∷ []) n ≡ Some r = at-push s n (Some r) ∙ rw (eq-eqb n (length s) is) refl in
    ap (λ o. slice_set (s ++ Some r ∷ []) n (option_map change o)) there ∙ ap (λ k. slice_set (s ++ Some r ∷ []) k (Some (change r))) is ∙ set-last s (Some r) (Some (change r))

are-below : (n size : ℕ) (todos : List Todo) → ((k : ℕ) (todo : Todo) → slice_get todos k ≡ Some todo → todo.token < n) → AreBelow n (map (sub_of size) todos)
unfolding AreBelow
are-below n size [] each = tt
are-below n size (todo ∷ todos) each = ((let same = sub-token size todo in let lt = each zero todo refl in omega arith), are-below n size todos (λ k later there. each (suc k) later there))

-- the queue has units of accepted tokens alone
pub queue-below : (S : Setup) (H : List Entry) (size n : ℕ) (queue : List Sub) → n ≡ token_count H → queue ≡ map (sub_of size) (units_left S H) → AreBelow n queue
queue-below S H size n queue counted is =
    subst (λ k. AreBelow k queue) (sym counted) (subst (AreBelow (token_count H)) (sym is) (are-below (token_count H) size (units_left S H) (λ k todo there. (before-is S H (token_count H) k todo there).0)))

below-kept : (token : ℕ) (subs : List Sub) → AreBelow token subs → filter (λ s. not (is_of token s)) subs ≡ subs
unfolding AreBelow is_of
below-kept token [] below = refl
below-kept token (s ∷ subs) below = rw (ne_eqb token (token_of s) (λ e. (let lt = below.0 in absurd (omega arith)))) (ap (λ rest. s ∷ rest) (below-kept token subs below.1))

own-dropped : (size token : ℕ) (write : Bool) (us : List Span) → filter (λ s. not (is_of token s)) (map (sub_of_span size token write) us) ≡ []
unfolding is_of
own-dropped size token write [] = refl
own-dropped size token write (u ∷ us) = by u.whole (own-dropped size token write us)
  where
    rest : List Sub
    rest = map (sub_of_span size token write) us

    by : (b : Bool) → filter (λ s. not (nat_eq token (token_of s))) rest ≡ []
        → filter (λ s. not (nat_eq token (token_of s))) ((if b then Run token u.block u.count write else Part token u.block (u.low - u.block * size) (u.high - u.low) write) ∷ rest) ≡ []
    by true none = rw (eq-eqb token token refl) none
    by false none = rw (eq-eqb token token refl) none

request-dropped : (G : Geometry) (token : ℕ) (kind : Kind) (parts : Parts) → filter (λ s. not (is_of token s)) (subs_of_request G token kind parts) ≡ []
unfolding subs_of_request is_of
request-dropped G token kind parts = by (is_flush kind)
  where
    by : (b : Bool) → filter (λ s. not (nat_eq token (token_of s))) (if b then Sync token ∷ [] else map (sub_of_span G.size token (changes_bytes kind)) (spans_in G parts)) ≡ []
    by true = rw (eq-eqb token token refl) refl
    by false = own-dropped G.size token (changes_bytes kind) (spans_in G parts)

-- the units that were added go, where the record finds no memory
pub dropped-again : (G : Geometry) (token : ℕ) (kind : Kind) (parts : Parts) (queue : List Sub) → AreBelow token queue → without_token token (queue ++ subs_of_request G token kind parts) ≡ queue
unfolding without_token
dropped-again G token kind parts queue below =
    filter-append (λ s. not (is_of token s)) queue (subs_of_request G token kind parts) ∙ ap (λ old. old ++ filter (λ s. not (is_of token s)) (subs_of_request G token kind parts)) (below-kept token queue below)
    ∙ ap (λ own. queue ++ own) (request-dropped G token kind parts) ∙ append-none queue
  where
    append-none : (xs : List Sub) → xs ++ [] ≡ xs
    append-none [] = refl
    append-none (x ∷ xs) = ap (λ rest. x ∷ rest) (append-none xs)

-- the record that was added last is open
pub new-open : (s new : Records) (request : Request) (signaller : SignallerEnd) (n : ℕ) → new ≡ with_record s request signaller → n ≡ length s → mark_at new n ≡ Mark.Outstanding
unfolding mark_at new_record
new-open s new request signaller n is last =
    let there : record_at (with_record s request signaller) n ≡ Some (new_record request signaller) = record_at-added s request signaller n ∙ rw (eq-eqb n (length s) last) refl in
    subst (λ t. mark_of_record (record_at t n) ≡ Mark.Outstanding) (sym is) (ap mark_of_record there)
