-- The tokens that have a unit in a queue, in their order.
use Rattle.std.proofs.Common.{◌≡◌, ◌≢◌, ℕ, zero, suc, ◌+◌, ◌<◌, ◌≤◌, inl, inr, true, false, nat_eq, List, [], ◌∷◌, slice_get, None, Some, refl, ◌∙◌, ap, arith}
use Rattle.std.specs.List.{find, list_any}
use Rattle.std.specs.Option.{option_map}
use Rattle.std.proofs.lemmas.Bool.{cases_Bool, cases_eq, cases_lt, eq-eqb, ne_eqb, eqb-true, leb-true, leb-false, or_left, or_right, or_cases, or_from, and_left, and_right, and_from, false_from_ne_true}
use Rattle.history_laws.specs.Pending.{Ordered}
use Rattle.subtask_queue.specs.declared.sub.Sub.{Sub}
use Rattle.subtask_queue.specs.Subs.{token_of, is_of, is_from, AreBelow}
use Rattle.disk_core.specs.declared.parts.Core.{Core}
use Rattle.disk_core.specs.declared.ending.Meant.{Meant}
use Rattle.token_table.specs.Records.{request_at}
use Rattle.disk_core.specs.Closing.{is_some_meant, is_queued, is_queued_meant, IsNextMeant, AreSorted}

-- no unit of a token stands there
none-of : (queue : List Sub) (u : ℕ) → ((k : ℕ) (s : Sub) → slice_get queue k ≡ Some s → u ≢ token_of s) → list_any (is_of u) queue ≡ false
unfolding is_of
none-of [] u none = refl
none-of (s ∷ queue) u none = or_from (nat_eq u (token_of s)) (list_any (is_of u) queue) (ne_eqb u (token_of s) (none zero s refl)) (none-of queue u (λ k x there. none (suc k) x there))

-- no token from this one on has a unit
pub from-none : (queue : List Sub) (at : ℕ) → None ≡ option_map token_of (find (is_from at) queue) → (u : ℕ) → at ≤ u → list_any (is_of u) queue ≡ false
unfolding is_from is_of
from-none [] at none u above = refl
from-none (s ∷ queue) at none u above = elim (cases_Bool (is_from at s)) [
  | inl here ↦ absurd (clash (rw here at none))
  | inr before ↦
      let low = leb-false at (token_of s) before in
      or_from (nat_eq u (token_of s)) (list_any (is_of u) queue) (ne_eqb u (token_of s) (λ same. absurd (omega arith))) (from-none queue at (rw before at none) u above)
]
  where
    clash : None ≡ Some (token_of s) → ⊥
    clash e = cc

-- the least token from this one on that has one
pub record IsLeastQueued (queue : List Sub) (at t : ℕ) : Type 0 where
  pub above : at ≤ t
  pub queued : list_any (is_of t) queue ≡ true
  pub least : (u : ℕ) → at ≤ u → u < t → list_any (is_of u) queue ≡ false

pub from-some : (queue : List Sub) (at t : ℕ) → AreSorted queue → Some t ≡ option_map token_of (find (is_from at) queue) → IsLeastQueued queue at t
unfolding is_from is_of Ordered
from-some [] at t sorted some = cc
from-some (s ∷ queue) at t (first, rest) some = elim (cases_Bool (is_from at s)) [
  | inl here ↦
      let same : t ≡ token_of s = (let e : Some t ≡ Some (token_of s) = rw here at some in cc) in
      let low = leb-true at (token_of s) here in
      record {
        above = omega arith;
        queued = or_left (nat_eq t (token_of s)) (list_any (is_of t) queue) (eq-eqb t (token_of s) same);
        least = λ u above below. none-of (s ∷ queue) u (λ k x there. by k x there u (omega arith));
      }
  | inr before ↦
      let low = leb-false at (token_of s) before in
      let later = from-some queue at t rest (rw before at some) in
      record {
        above = later.above;
        queued = or_right (nat_eq t (token_of s)) (list_any (is_of t) queue) later.queued;
        least = λ u above below. or_from (nat_eq u (token_of s)) (list_any (is_of u) queue) (ne_eqb u (token_of s) (λ same. absurd (omega arith))) (later.least u above below);
      }
]
  where
    by : (k : ℕ) (x : Sub) → slice_get (s ∷ queue) k ≡ Some x → (u : ℕ) → u < token_of s → u ≢ token_of x
    by zero x there u below same = (let one : s ≡ x = (let e : Some s ≡ Some x = there in cc) in let token = ap token_of one in absurd (omega arith))
    by (suc k) x there u below same = (let more : token_of s ≤ token_of x = first k x there in absurd (omega arith))

pub queued-below : (queue : List Sub) (n u : ℕ) → AreBelow n queue → list_any (is_of u) queue ≡ true → u < n
unfolding AreBelow is_of
queued-below [] n u below any = cc
queued-below (s ∷ queue) n u (first, rest) any = elim (or_cases (nat_eq u (token_of s)) (list_any (is_of u) queue) any) [
  | inl here ↦ (let same = eqb-true u (token_of s) here in omega arith)
  | inr later ↦ queued-below queue n u rest later
]

-- ---- the walk over the tokens that are meant

-- no token from `from` on and before `at` has a unit and is meant
abbrev pub NoneMeant : Core → Meant → ℕ → ℕ → Type 0
NoneMeant c meant from at = (u : ℕ) → from ≤ u → u < at → is_queued_meant c meant u ≡ false

pub meant-next : (c : Core) (meant : Meant) (from at t : ℕ) → NoneMeant c meant from at → IsLeastQueued c.queue at t → is_some_meant meant (request_at c.tokens t) ≡ false → NoneMeant c meant from (t + 1)
meant-next c meant from at t none least isnt u above below = elim (cases_lt u at) [
  | inl before ↦ none u above before
  | inr after ↦ elim (cases_eq u t) [
    | inl same ↦ and_right (is_queued c u) (is_some_meant meant (request_at c.tokens u)) (ap (λ v. is_some_meant meant (request_at c.tokens v)) same ∙ isnt)
    | inr other ↦ and_left (is_queued c u) (is_some_meant meant (request_at c.tokens u)) (least.least u after (omega (arith, other)))
  ]
]

pub meant-found : (c : Core) (meant : Meant) (from at t : ℕ) → from ≤ at → NoneMeant c meant from at → IsLeastQueued c.queue at t → is_some_meant meant (request_at c.tokens t) ≡ true → IsNextMeant c meant from (Some t)
meant-found c meant from at t order none least is = (
  (let above = least.above in omega arith),
  and_from (is_queued c t) (is_some_meant meant (request_at c.tokens t)) least.queued is,
  λ u above below. elim (cases_lt u at) [
    | inl before ↦ none u above before
    | inr after ↦ and_left (is_queued c u) (is_some_meant meant (request_at c.tokens u)) (least.least u after below)
  ],
)

pub meant-none : (c : Core) (meant : Meant) (from at : ℕ) → NoneMeant c meant from at → ((u : ℕ) → at ≤ u → list_any (is_of u) c.queue ≡ false) → IsNextMeant c meant from None
meant-none c meant from at none empty u above = elim (cases_lt u at) [
  | inl before ↦ none u above before
  | inr after ↦ and_left (is_queued c u) (is_some_meant meant (request_at c.tokens u)) (empty u after)
]

pub meant-over : (c : Core) (meant : Meant) (from at n : ℕ) → AreBelow n c.queue → n ≤ at → NoneMeant c meant from at → IsNextMeant c meant from None
meant-over c meant from at n below over none =
    meant-none c meant from at none (λ u above. false_from_ne_true (list_any (is_of u) c.queue) (λ any. (let low = queued-below c.queue n u below any in absurd (omega arith))))
