-- When a unit is finished, and that a token is complete exactly where all its units are.
use Rattle.std.proofs.Common.{◌≡◌, ◌≢◌, ◌⊎◌, ℕ, zero, suc, ◌-◌, ◌<◌, inl, inr, Bool, true, false, ◌&&◌, ◌||◌, if◌then◌else◌, List, [], ◌∷◌, slice_get, Option, None, Some, option_map, refl, sym, ◌∙◌, ap, arith}
use Rattle.std.specs.List.{list_all, list_any}
use Rattle.std.proofs.lemmas.Bool.{cases_Bool, cases_eq, or_left}
use Rattle.std.proofs.lemmas.List.Folds.{list_all-map}
use Rattle.std.proofs.lemmas.Option.{slice_get-map}
use Rattle.efi_status.specs.declared.Status.TheVariants.{Success}
use Rattle.disk_split.specs.declared.span.Span.{Span}
use Rattle.disk_split.specs.Units.{IsUnit, units_of}
use Rattle.disk_split.proofs.Shared.{are-get, units-same}
use Rattle.disk_split.proofs.Tiling.{tile-units}
use Rattle.disk_split.proofs.Units.{units-are}
use Rattle.history.specs.declared.entry.Command.{Command}
use Rattle.history.specs.declared.entry.Entry.{Entry}
use Rattle.history.specs.declared.entry.Entry.TheVariants.{Accept, Done}
use Rattle.history.specs.Setup.{Setup, IsSetup}
use Rattle.history.specs.Tokens.{Request, token_count, request, is_flush, from_of, until_of}
use Rattle.history.specs.Commands.{is_transfer, is_sync, moves, done_commands, has_done, is_moved}
use Rattle.history.specs.Marks.{all_from, is_request_complete, is_complete, mark_of, status_if}
use Rattle.history.specs.Rules.{IsLegal}
use Rattle.history.specs.Tasks.{Task, Moves, Syncs, tasks_of, is_finished}
use Rattle.history_laws.specs.Units.{IsUnitCommand}
use Rattle.history_laws.specs.TokenFacts.{is_done}
use Rattle.history_laws.proofs.CountLemmas.{accepted-none, accepted-more, accepted-same}
use Rattle.history_laws.proofs.TokenLemmas.{has_done-stays, done_commands-same, done_commands-other, done-concerns, request-kept, request-same}
use Rattle.history_laws.proofs.EndLemmas.{mark-accept, mark-before, mark-done}
use Rattle.history_laws.proofs.ScanLemmas.{all_from-tiles}
use Rattle.history_laws.proofs.UnitLemmas.{is_within, within-from, within-parts, unit-inside, moved-more, moved-alike}

-- a request that moves bytes is complete where each of them is moved
pub complete-moved : (S : Setup) (H : List Entry) (t : ℕ) (r : Request) → request H t ≡ Some r → is_flush r.asked.kind ≡ false → is_complete S H t ≡ all_from (is_moved S H t) (from_of S r) r.asked.length
unfolding is_complete
complete-moved S H t r named moving = rw (named, moving)

-- a flush is complete where its sync was done
pub complete-flush : (S : Setup) (H : List Entry) (t : ℕ) (r : Request) → request H t ≡ Some r → is_flush r.asked.kind ≡ true → is_complete S H t ≡ has_done is_sync H t
unfolding is_complete
complete-flush S H t r named flush = rw (named, flush)

-- one unit of a request's cut
pub unit-of : (S : Setup) (r : Request) (k : ℕ) (u : Span) → IsSetup S → slice_get (units_of S.geometry (from_of S r) (until_of S r)) k ≡ Some u → IsUnit S.geometry (from_of S r) (until_of S r) u
unit-of S r k u is there = are-get S.geometry (from_of S r) (until_of S r) (units_of S.geometry (from_of S r) (until_of S r)) k u (units-are S.geometry (from_of S r) (until_of S r) is.geometry) there

and-true : (p : Bool) → (p && true) ≡ p
and-true true = refl
and-true false = refl

-- a token is complete exactly where all its units are finished
pub complete-tasks : (S : Setup) (H : List Entry) (t : ℕ) (r : Request) → IsSetup S → IsLegal S H → request H t ≡ Some r → is_complete S H t ≡ list_all (is_finished S H t) (tasks_of S r)
complete-tasks S H t r is legal named = elim (cases_Bool (is_flush r.asked.kind)) [
  | inl flush ↦ rw flush (complete-flush S H t r named flush ∙ sym (and-true (has_done is_sync H t)))
  | inr moving ↦
      let us : List Span = units_of S.geometry (from_of S r) (until_of S r) in
      let long : until_of S r - from_of S r ≡ r.asked.length = omega arith in
      let tiles : all_from (is_moved S H t) (from_of S r) (until_of S r - from_of S r) ≡ list_all (λ u. is_moved S H t u.low) us =
      all_from-tiles (is_moved S H t) (from_of S r) (until_of S r) us (tile-units S.geometry (from_of S r) (until_of S r) is.geometry (omega arith))
      (λ k x u there from until. moved-alike S H t r u x is legal named (unit-of S r k u is there) from until) in
      complete-moved S H t r named moving ∙ (rw long at tiles ∙ rw moving (sym (list_all-map (is_finished S H t) Moves us)))
]

-- a done transfer finishes its unit
pub finished-now : (S : Setup) (H : List Entry) (t : ℕ) (r : Request) (c : Command) (u : Span) → IsUnitCommand S r c u → is_transfer c ≡ true → is_finished S (Done t c ∷ H) t (Moves u) ≡ true
finished-now S H t r c u of transfer =
    let (lo, hi) = unit-inside S.geometry (from_of S r) (until_of S r) u.low u of.unit (omega arith) (omega (arith, of.unit.some)) in
    moved-more S H t r c u u.low of transfer lo hi ∙ or_left (is_within u u.low) (is_moved S H t u.low) (within-from u u.low (omega arith) (omega (arith, of.unit.some)))

-- and no other
pub finished-other : (S : Setup) (H : List Entry) (t : ℕ) (r : Request) (c : Command) (u v : Span) → IsSetup S → IsUnitCommand S r c u → is_transfer c ≡ true → IsUnit S.geometry (from_of S r) (until_of S r) v
    → (v ≡ u → ⊥) → is_finished S (Done t c ∷ H) t (Moves v) ≡ is_finished S H t (Moves v)
finished-other S H t r c u v is of transfer unit other =
    let (lo, hi) = unit-inside S.geometry (from_of S r) (until_of S r) v.low v unit (omega arith) (omega (arith, unit.some)) in
    moved-more S H t r c u v.low of transfer lo hi ∙ ap (λ now. now || is_moved S H t v.low) (outside (cases_Bool (is_within u v.low)))
  where
    outside : (is_within u v.low ≡ true) ⊎ (is_within u v.low ≡ false) → is_within u v.low ≡ false
    outside (inr not_in) = not_in
    outside (inl in_) =
        let (lo, hi) = within-parts u v.low in_ in
        absurd (other (units-same S.geometry (from_of S r) (until_of S r) v.low v u is.geometry unit of.unit (omega arith) (omega (arith, unit.some)) lo hi))

-- what is finished stays finished
pub finished-stays : (S : Setup) (H : List Entry) (e : Entry) (t : ℕ) (task : Task) → is_finished S H t task ≡ true → is_finished S (e ∷ H) t task ≡ true
finished-stays S H e t (Moves u) was = has_done-stays (moves S u.low) H e t was
finished-stays S H e t Syncs was = has_done-stays is_sync H e t was

unended : (complete : Bool) → status_if complete Success ≡ None → complete ≡ false
unended true e = cc
unended false e = refl

request-complete-same : (S : Setup) (H H' : List Entry) (t : ℕ) (o : Option Request) → done_commands H' t ≡ done_commands H t → is_request_complete S H' t o ≡ is_request_complete S H t o
unfolding has_done
request-complete-same S H H' t None same = refl
request-complete-same S H H' t (Some r) same =
    ap (λ cs. if is_flush r.asked.kind then list_any is_sync cs else all_from (λ x. list_any (moves S x) cs) (from_of S r) r.asked.length) same

-- histories that tell the same request and done commands of a token tell the same of its completeness
pub complete-same : (S : Setup) (H H' : List Entry) (t : ℕ) → request H' t ≡ request H t → done_commands H' t ≡ done_commands H t → is_complete S H' t ≡ is_complete S H t
unfolding is_complete
complete-same S H H' t named same = ap (is_request_complete S H' t) named ∙ request-complete-same S H H' t (request H t) same

-- an entry that is no done command leaves what is complete of the tokens before it
pub complete-kept : (S : Setup) (H : List Entry) (e : Entry) (t : ℕ) → is_done e ≡ false → t ≢ token_count H → is_complete S (e ∷ H) t ≡ is_complete S H t
complete-kept S H e t isnt old = complete-same S H (e ∷ H) t (request-kept H e t old) (done_commands-same H e t isnt)

-- so does a done command of another token
pub complete-done-other : (S : Setup) (H : List Entry) (u t : ℕ) (c : Command) → u ≢ t → is_complete S (Done u c ∷ H) t ≡ is_complete S H t
complete-done-other S H u t c other =
    complete-same S H (Done u c ∷ H) t (request-same H (Done u c) t refl) (done_commands-other S H (Done u c) t (done-concerns H u t c other))

-- a token is open only where it is not complete
pub open-incomplete : (S : Setup) (H : List Entry) (t : ℕ) → IsLegal S H → t < token_count H → mark_of S H t ≡ None → is_complete S H t ≡ false
unfolding IsLegal
open-incomplete S [] t legal token unmarked = absurd (omega (arith, accepted-none))
open-incomplete S (Accept tag view asked bytes ∷ H) t (legal, may) token unmarked = elim (cases_eq t (token_count H)) [
  | inl new ↦
      let own : mark_of S (Accept tag view asked bytes ∷ H) (token_count H) ≡ None = rw (← new) unmarked in
      rw new (unended (is_complete S (Accept tag view asked bytes ∷ H) (token_count H)) (sym (mark-accept S H tag view asked bytes legal) ∙ own))
  | inr old ↦
      let below : t < token_count H = omega (arith, old, accepted-more H (Accept tag view asked bytes) refl) in
      complete-kept S H (Accept tag view asked bytes) t refl old ∙ open-incomplete S H t legal below (mark-before S H (Accept tag view asked bytes) t unmarked)
]
open-incomplete S (Done u c ∷ H) t (legal, may) token unmarked = elim (cases_eq u t) [
  | inl same ↦ unended (is_complete S (Done u c ∷ H) t) (sym (rw same (mark-done S H t c (mark-before S H (Done t c) t (rw same at unmarked)))) ∙ unmarked)
  | inr other ↦
      let below : t < token_count H = omega (arith, accepted-same H (Done u c) refl) in
      complete-done-other S H u t c other ∙ open-incomplete S H t legal below (mark-before S H (Done u c) t unmarked)
]
open-incomplete S (e ∷ H) t (legal, may) token unmarked =
    let below : t < token_count H = omega (arith, accepted-same H e refl) in
    complete-kept S H e t refl (λ same. absurd (omega (arith, same, below))) ∙ open-incomplete S H t legal below (mark-before S H e t unmarked)

flush-one : (u : Span) (k : ℕ) → slice_get (Syncs ∷ []) k ≡ Some (Moves u) → ⊥
flush-one u zero e = cc
flush-one u (suc k) e = cc

-- a part or a run of a request's list is a unit of its range
pub task-unit : (S : Setup) (r : Request) (k : ℕ) (u : Span) → IsSetup S → slice_get (tasks_of S r) k ≡ Some (Moves u) → IsUnit S.geometry (from_of S r) (until_of S r) u
task-unit S r k u is there = elim (cases_Bool (is_flush r.asked.kind)) [
  | inl flush ↦ absurd (flush-one u k (rw flush at there))
  | inr moving ↦
      let listed : option_map Moves (slice_get (units_of S.geometry (from_of S r) (until_of S r)) k) ≡ Some (Moves u) =
      sym (slice_get-map Moves (units_of S.geometry (from_of S r) (until_of S r)) k) ∙ rw moving at there in
      unit-of S r k u is (by (slice_get (units_of S.geometry (from_of S r) (until_of S r)) k) listed)
]
  where
    by : (o : Option Span) → option_map Moves o ≡ Some (Moves u) → o ≡ Some u
    by None e = cc
    by (Some v) e = cc

-- and its request no flush
pub task-moving : (S : Setup) (r : Request) (k : ℕ) (u : Span) → slice_get (tasks_of S r) k ≡ Some (Moves u) → is_flush r.asked.kind ≡ false
task-moving S r k u there = elim (cases_Bool (is_flush r.asked.kind)) [
  | inr moving ↦ moving
  | inl flush ↦ absurd (flush-one u k (rw flush at there))
]

-- a sync is the unit of a flush
pub task-sync : (S : Setup) (r : Request) (k : ℕ) → slice_get (tasks_of S r) k ≡ Some Syncs → is_flush r.asked.kind ≡ true
task-sync S r k there = elim (cases_Bool (is_flush r.asked.kind)) [
  | inl flush ↦ flush
  | inr moving ↦
      absurd (by (slice_get (units_of S.geometry (from_of S r) (until_of S r)) k) (sym (slice_get-map Moves (units_of S.geometry (from_of S r) (until_of S r)) k) ∙ rw moving at there))
]
  where
    by : (o : Option Span) → option_map Moves o ≡ Some Syncs → ⊥
    by None e = cc
    by (Some v) e = cc
