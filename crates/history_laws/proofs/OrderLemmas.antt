-- The units that are left stand in the order of their tokens and bytes.
use Rattle.std.proofs.Common.{◌≡◌, ◌⊎◌, ℕ, zero, suc, ◌<◌, inl, inr, Bool, true, false, not, List, [], ◌∷◌, ◌++◌, slice_get, map, filter, Some, refl, subst, arith}
use Rattle.std.proofs.lemmas.Bool.{cases_Bool}
use Rattle.disk_split.specs.declared.span.Span.{Span}
use Rattle.disk_split.specs.Units.{Tile, units_of}
use Rattle.disk_split.proofs.Tiling.{tile-units}
use Rattle.disk_split.proofs.Tiled.{tile-within}
use Rattle.history.specs.declared.entry.Entry.{Entry}
use Rattle.history.specs.Setup.{Setup, IsSetup}
use Rattle.history.specs.Tokens.{Request, token_count, is_flush, from_of, until_of}
use Rattle.history.specs.Marks.{is_outstanding, IsOutstanding}
use Rattle.history.specs.Tasks.{Task, Moves, Syncs, tasks_of, is_finished, todo_of, todo_before, units_left}
use Rattle.history_laws.specs.Pending.{todo_at, task_low, IsBefore, Ordered}
use Rattle.history_laws.proofs.TokenLemmas.{request-some}
use Rattle.history_laws.proofs.NextLemmas.{outstanding-from}
use Rattle.history_laws.proofs.PendingLemmas.{get-mapped, get-filtered, get-appended, todo-closed, todo-open, todo-is, before-is}

pub ordered-filter : {X : Type 0} (R : X → X → Type 0) (keep : X → Bool) (xs : List X) → Ordered R xs → Ordered R (filter keep xs)
unfolding Ordered
ordered-filter R keep [] all = tt
ordered-filter R keep (x ∷ xs) (first, rest) = elim (cases_Bool (keep x)) [
  | inr dropped ↦ rw dropped (ordered-filter R keep xs rest)
  | inl kept ↦ rw kept (λ k y there. (let (j, at, passes) = get-filtered keep xs k y there in first j y at), ordered-filter R keep xs rest)
]

pub ordered-map : {X Y : Type 0} (R : X → X → Type 0) (Q : Y → Y → Type 0) (f : X → Y) (xs : List X) → ((x y : X) → R x y → Q (f x) (f y)) → Ordered R xs → Ordered Q (map f xs)
unfolding Ordered
ordered-map R Q f [] keeps all = tt
ordered-map R Q f (x ∷ xs) keeps (first, rest) =
    (λ k y there. (let (z, at, same) = get-mapped f xs k y there in subst (Q (f x)) same (keeps x z (first k z at))), ordered-map R Q f xs keeps rest)

pub ordered-append : {X : Type 0} (R : X → X → Type 0) (xs ys : List X) → Ordered R xs → Ordered R ys → ((i j : ℕ) (x y : X) → slice_get xs i ≡ Some x → slice_get ys j ≡ Some y → R x y) → Ordered R (xs ++ ys)
unfolding Ordered
ordered-append R [] ys front back across = back
ordered-append {X} R (x ∷ xs) ys (first, rest) back across =
    (λ k y there. by k y (get-appended xs ys k y there), ordered-append R xs ys rest back (λ i j a b at at'. across (suc i) j a b at at'))
  where
    by : (k : ℕ) (y : X) → (slice_get xs k ≡ Some y) ⊎ ((j : ℕ) × (slice_get ys j ≡ Some y)) → R x y
    by k y (inl there) = first k y there
    by k y (inr (j, there)) = across 0 j x y refl there

abbrev IsLower : Task → Task → Type 0
IsLower one other = task_low one < task_low other

spans-ordered : (a z : ℕ) (us : List Span) → Tile a z us → Ordered IsLower (map Moves us)
unfolding Ordered Tile
spans-ordered a z [] tiled = tt
spans-ordered a z (u ∷ us) (low, some, more) =
    (λ k y there. (let (v, at, same) = get-mapped Moves us k y there in subst (IsLower (Moves u)) same (omega (arith, some, tile-within u.high z us k v more at))), spans-ordered u.high z us more)

one-ordered : Ordered IsLower (Syncs ∷ [])
unfolding Ordered
one-ordered = (λ k y there. cc, tt)

-- the units of a request stand in the order of their bytes
pub tasks-ordered : (S : Setup) (r : Request) → IsSetup S → Ordered IsLower (tasks_of S r)
tasks-ordered S r is = elim (cases_Bool (is_flush r.asked.kind)) [
  | inl flush ↦ rw flush one-ordered
  | inr moving ↦ rw moving (spans-ordered (from_of S r) (until_of S r) (units_of S.geometry (from_of S r) (until_of S r)) (tile-units S.geometry (from_of S r) (until_of S r) is.geometry (omega arith)))
]

none-ordered : Ordered IsBefore []
unfolding Ordered
none-ordered = tt

todo-ordered : (S : Setup) (H : List Entry) (t : ℕ) → IsSetup S → Ordered IsBefore (todo_of S H t)
todo-ordered S H t is = by (cases_Bool (is_outstanding S H t))
  where
    by : (is_outstanding S H t ≡ true) ⊎ (is_outstanding S H t ≡ false) → Ordered IsBefore (todo_of S H t)
    by (inr closed) = rw (todo-closed S H t closed) none-ordered
    by (inl open_) =
        let token : IsOutstanding S H t = outstanding-from S H t open_ in
        let (r, named) = request-some H t token.token in
        rw (todo-open S H t r open_ named)
        (ordered-map IsLower IsBefore (todo_at t r) (filter (λ task. not (is_finished S H t task)) (tasks_of S r)) (λ one other lower. inr (refl, lower))
        (ordered-filter IsLower (λ task. not (is_finished S H t task)) (tasks_of S r) (tasks-ordered S r is)))

before-ordered : (S : Setup) (H : List Entry) (n : ℕ) → IsSetup S → Ordered IsBefore (todo_before S H n)
unfolding todo_before
before-ordered S H zero is = none-ordered
before-ordered S H (suc n) is =
    ordered-append IsBefore (todo_before S H n) (todo_of S H n) (before-ordered S H n is) (todo-ordered S H n is)
    (λ i j one other at at'.
    let (below, rest) = before-is S H n i one at in
    let (same, rest') = todo-is S H n j other at' in
    inl (omega (arith, below, same)))

-- the units that are left stand in the order of their tokens, and those of one token in the order of their bytes
pub pending-ordered : (S : Setup) (H : List Entry) → IsSetup S → Ordered IsBefore (units_left S H)
pending-ordered S H is = before-ordered S H (token_count H) is
