-- How the queue keeps the units of a history, and which of them is the first that may run.
use Rattle.std.proofs.Common.{◌≡◌, ℕ, ◌+◌, ◌-◌, ◌*◌, ◌≤◌, Bool, true, false, cond, not, ◌&&◌, ◌||◌, List, [], ◌∷◌, ◌++◌, map, Some, refl, sym, ap, subst, ◌∙◌, arith}
use Rattle.std.specs.Prelude.{find, if◌then◌else◌, Result, Ok, Err, OnOk, OnErr}
use Rattle.std.specs.Option.{option_map}
use Rattle.disk_split.specs.declared.geometry.Geometry.{Geometry}
use Rattle.disk_split.specs.declared.parts.Parts.{Parts}
use Rattle.disk_split.specs.declared.span.Span.{Span}
use Rattle.disk_split.specs.Units.{group_size, middle, whole_end, units_of}
use Rattle.disk_split.proofs.Listing.{part-spans}
use Rattle.history.specs.declared.entry.Kind.{Kind}
use Rattle.history.specs.Setup.{Setup, size_of}
use Rattle.history.specs.Tokens.{Request, is_flush, changes_bytes, from_of, until_of}
use Rattle.history.specs.Marks.{all_from}
use Rattle.history.specs.Tasks.{Task, Moves, Syncs, Todo, tasks_of, is_clear, is_runnable}
use Rattle.subtask_queue.specs.declared.sub.Sub.{Sub}
use Rattle.subtask_queue.specs.declared.sub.Sub.TheVariants.{Part, Run, Sync}
use Rattle.subtask_queue.specs.Subs.{may_run, sub_of_span, sub_of, spans_in, subs_of_request, AreParts, AreBelow}
use Rattle.subtask_queue.specs.Owned.{AreOf}

may-run-span : (held : ℕ → Bool) (free : Bool) (size token : ℕ) (write : Bool) (u : Span) → may_run held free (sub_of_span size token write u) ≡ (not write || is_clear held free u)
unfolding may_run
may-run-span held free size token write u =
    elim u.whole as (λ v. may_run held free (if v then Run token u.block u.count write else Part token u.block (u.low - u.block * size) (u.high - u.low) write)
    ≡ (not write || (if v then all_from (λ b. not (held b)) u.block u.count else not (held u.block) && free))) [ true ↦ refl | false ↦ refl ]

-- a unit may run in the queue exactly where it is runnable in the history
pub may_run-sub_of : (held : ℕ → Bool) (free : Bool) (size : ℕ) (todo : Todo) → may_run held free (sub_of size todo) ≡ is_runnable held free todo
unfolding may_run
may_run-sub_of held free size todo = go todo.token todo.kind todo.task
  where
    go : (token : ℕ) (kind : Kind) (task : Task) → may_run held free (sub_of size (record { token = token; kind = kind; task = task })) ≡ is_runnable held free (record { token = token; kind = kind; task = task })
    go token kind (Moves u) = may-run-span held free size token (changes_bytes kind) u
    go token kind Syncs = refl

-- so the first that may run is the first that is runnable
pub find-sub_of : (held : ℕ → Bool) (free : Bool) (size : ℕ) (todos : List Todo) → find (may_run held free) (map (sub_of size) todos) ≡ option_map (sub_of size) (find (is_runnable held free) todos)
find-sub_of held free size [] = refl
find-sub_of held free size (todo ∷ todos) =
    ap (λ v. cond v (Some (sub_of size todo)) (find (may_run held free) (map (sub_of size) todos))) (may_run-sub_of held free size todo) ∙ go (is_runnable held free todo) (find-sub_of held free size todos)
  where
    go : (v : Bool) → find (may_run held free) (map (sub_of size) todos) ≡ option_map (sub_of size) (find (is_runnable held free) todos)
        → cond v (Some (sub_of size todo)) (find (may_run held free) (map (sub_of size) todos)) ≡ option_map (sub_of size) (cond v (Some todo) (find (is_runnable held free) todos))
    go true more = refl
    go false more = more

-- the parts and runs that `split` gives are the units of the range
pub spans-units : (G : Geometry) (a z : ℕ) (parts : Parts) → AreParts G a z parts → spans_in G parts ≡ units_of G a z
unfolding spans_in units_of
spans-units G a z parts are = rw (are.under, are.over, are.first, are.count, part-spans G a (middle (group_size G) a z), part-spans G (whole_end (group_size G) a z) z) refl

map-map : (size token : ℕ) (kind : Kind) (us : List Span) → map (sub_of_span size token (changes_bytes kind)) us ≡ map (sub_of size) (map (λ task. record { token = token; kind = kind; task = task }) (map Moves us))
map-map size token kind [] = refl
map-map size token kind (u ∷ us) = ap (λ rest. sub_of_span size token (changes_bytes kind) u ∷ rest) (map-map size token kind us)

-- what is added for a request are its units in the order of the history
pub subs-of-tasks : (S : Setup) (r : Request) (token : ℕ) (parts : Parts) → AreParts S.geometry (from_of S r) (until_of S r) parts
    → subs_of_request S.geometry token r.asked.kind parts ≡ map (sub_of (size_of S)) (map (λ task. record { token = token; kind = r.asked.kind; task = task }) (tasks_of S r))
unfolding subs_of_request
subs-of-tasks S r token parts are = go (is_flush r.asked.kind)
  where
    go : (v : Bool) → (if v then Sync token ∷ [] else map (sub_of_span S.geometry.size token (changes_bytes r.asked.kind)) (spans_in S.geometry parts))
        ≡ map (sub_of (size_of S)) (map (λ task. record { token = token; kind = r.asked.kind; task = task }) (if v then Syncs ∷ [] else map Moves (units_of S.geometry (from_of S r) (until_of S r))))
    go true = refl
    go false = ap (map (sub_of_span S.geometry.size token (changes_bytes r.asked.kind))) (spans-units S.geometry (from_of S r) (until_of S r) parts are) ∙ map-map S.geometry.size token r.asked.kind (units_of S.geometry (from_of S r) (until_of S r))

below-more : (low high : ℕ) (subs : List Sub) → low ≤ high → AreBelow low subs → AreBelow high subs
unfolding AreBelow
below-more low high [] within below = tt
below-more low high (s ∷ subs) within below = (let h = below.0 in omega arith, below-more low high subs within below.1)

below-append : (token : ℕ) (us vs : List Sub) → AreBelow token us → AreBelow token vs → AreBelow token (us ++ vs)
unfolding AreBelow
below-append token [] vs below more = more
below-append token (u ∷ us) vs below more = (below.0, below-append token us vs below.1 more)

pub below-own : (token : ℕ) (subs : List Sub) → AreOf token subs → AreBelow (token + 1) subs
unfolding AreBelow AreOf
below-own token [] of = tt
below-own token (s ∷ subs) of = (let h = of.0 in omega arith, below-own token subs of.1)

pub AreBelow-next : (token : ℕ) (subs : List Sub) → AreBelow token subs → AreBelow (token + 1) subs
AreBelow-next token subs below = below-more token (token + 1) subs (omega arith) below

-- after an addition that went through or not
pub below-either : {T E : Type 0} (r : Result T E) (token : ℕ) (old own new : List Sub) → AreBelow token old → AreBelow (token + 1) own → OnOk r (new ≡ old ++ own) → OnErr r (new ≡ old) → AreBelow (token + 1) new
below-either (Ok x) token old own new below mine ok err = subst (AreBelow (token + 1)) (sym ok) (below-append (token + 1) old own (below-more token (token + 1) old (omega arith) below) mine)
below-either (Err e) token old own new below mine ok err = subst (AreBelow (token + 1)) (sym err) (below-more token (token + 1) old (omega arith) below)
