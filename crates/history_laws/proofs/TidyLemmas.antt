-- Tidy histories, in which the commands of each token are of its units: there an open token has a command that comes next. The plain
-- schedule keeps a history tidy, whatever the outcomes are; it need not be legal, since an outcome may be none that a command can have.
use Rattle.std.proofs.Common.{◌≡◌, ℕ, ◌-◌, ◌<◌, ◌≤◌, inl, inr, Bool, true, false, not, ◌&&◌, if◌then◌else◌, find, List, [], ◌∷◌, None, Some, refl, sym, ◌∙◌, subst, arith}
use Rattle.std.specs.List.{list_all, list_any}
use Rattle.std.proofs.lemmas.Bool.{cases_Bool, cases_eq, eq-eqb}
use Rattle.std.proofs.lemmas.List.Folds.{list_all-map}
use Rattle.efi_status.specs.declared.Status.TheVariants.{Success}
use Rattle.disk_split.specs.declared.span.Span.{Span}
use Rattle.disk_split.specs.Units.{IsUnit, units_of, IsKind}
use Rattle.disk_split.proofs.Tiling.{tile-units}
use Rattle.history.specs.declared.entry.View.{View}
use Rattle.history.specs.declared.entry.Asked.{Asked}
use Rattle.history.specs.declared.entry.Kind.{Kind}
use Rattle.history.specs.declared.entry.Kind.TheVariants.{Read, Write, Flush, Erase}
use Rattle.history.specs.declared.entry.Command.{Command}
use Rattle.history.specs.declared.entry.Command.TheVariants.{Fetch, Store}
use Rattle.history.specs.declared.entry.Entry.{Entry}
use Rattle.history.specs.declared.entry.Entry.TheVariants.{Accept, Done, Fault}
use Rattle.history.specs.Setup.{Setup, IsSetup}
use Rattle.history.specs.Tokens.{Request, is_accept, token_count, request, is_flush, from_of, until_of}
use Rattle.history.specs.Commands.{is_sync, moves, done_commands, has_done, is_moved}
use Rattle.history.specs.Marks.{all_from, is_complete, ending, mark_of, status_if, was_fetched}
use Rattle.history.specs.Rules.{IsLegal}
use Rattle.history.specs.Tasks.{Task, Moves, Syncs, tasks_of, is_finished, span_command, task_command}
use Rattle.history.specs.Next.{first_open, next_task, Turn, next_turn, Outcome, Made, Failed, entry_of}
use Rattle.history_laws.specs.TokenFacts.{is_done}
use Rattle.history_laws.specs.Units.{IsUnitCommand, IsTaskCommand, AreTaskCommands}
use Rattle.history_laws.proofs.CountLemmas.{accepted-none, accepted-more, accepted-same}
use Rattle.history_laws.proofs.EndLemmas.{mark-before, mark-next, mark-done, open-request, unaccepted, untold-done}
use Rattle.history_laws.proofs.NextLemmas.{first-open-some, next-task-some, next-turn-is}
use Rattle.history_laws.proofs.PlainLemmas.{task-unit, task-sync, IsTurnOf, turn-of}
use Rattle.history_laws.proofs.ScanLemmas.{all_from-tiles}
use Rattle.history_laws.proofs.TaskLemmas.{complete-moved, complete-flush, unit-of, complete-kept, complete-done-other}
use Rattle.history_laws.proofs.TokenLemmas.{request-kept, request-same, done-concerns, done_commands-done, done_commands-other, done_commands-same}
use Rattle.history_laws.proofs.UnitLemmas.{moves-alike, done-tasks}

pub record IsTidy (S : Setup) (H : List Entry) : Type 0 where
  pub commands : (t : ℕ) (r : Request) → request H t ≡ Some r → AreTaskCommands S r (done_commands H t)
  pub none : (t : ℕ) → token_count H ≤ t → done_commands H t ≡ []

-- a legal history is tidy
pub tidy-legal : (S : Setup) (H : List Entry) → IsSetup S → IsLegal S H → IsTidy S H
tidy-legal S H is legal = record {
  commands = λ t r named. done-tasks S H t r is legal named;
  none = λ t past. untold-done S H t (unaccepted S H t legal past);
}

-- and stays so with an entry that is no accept and no done command
pub tidy-quiet : (S : Setup) (H : List Entry) (e : Entry) → is_accept e ≡ false → is_done e ≡ false → IsTidy S H → IsTidy S (e ∷ H)
tidy-quiet S H e other quiet tidy = record {
  commands = λ t r named. rw (done_commands-same H e t quiet) (tidy.commands t r (sym (request-same H e t other) ∙ named));
  none = λ t past. done_commands-same H e t quiet ∙ tidy.none t (omega (arith, past, accepted-same H e other));
}

no-commands : (S : Setup) (r : Request) (cs : List Command) → cs ≡ [] → AreTaskCommands S r cs
unfolding AreTaskCommands
no-commands S r cs none = rw none tt

-- with an accept
pub tidy-accept : (S : Setup) (H : List Entry) (tag : ℕ) (view : View) (asked : Asked) (bytes : List ℕ) → IsTidy S H → IsTidy S (Accept tag view asked bytes ∷ H)
tidy-accept S H tag view asked bytes tidy = record {
  commands = λ t r named. elim (cases_eq t (token_count H)) [
    | inl new ↦ no-commands S r (done_commands (Accept tag view asked bytes ∷ H) t) (done_commands-same H (Accept tag view asked bytes) t refl ∙ tidy.none t (omega (arith, new)))
    | inr old ↦ rw (done_commands-same H (Accept tag view asked bytes) t refl) (tidy.commands t r (sym (request-kept H (Accept tag view asked bytes) t old) ∙ named))
  ];
  none = λ t past. done_commands-same H (Accept tag view asked bytes) t refl ∙ tidy.none t (omega (arith, past, accepted-more H (Accept tag view asked bytes) refl));
}

-- the command of a unit is of that unit
unit-command : (S : Setup) (H : List Entry) (t : ℕ) (r : Request) (u : Span) (kind : Kind) → IsUnit S.geometry (from_of S r) (until_of S r) u → r.asked.kind ≡ kind → is_flush kind ≡ false
    → IsUnitCommand S r (span_command H t kind u.whole u.block u.count) u
unit-command S H t r u Read unit same moving = record { unit = unit; block = refl; count = refl; kind = rw same refl }
unit-command S H t r u Flush unit same moving = cc
unit-command S H t r u Write unit same moving = by u.whole refl
  where
    part : u.whole ≡ false → IsKind S.geometry (from_of S r) (until_of S r) false u.block u.count → (f : Bool) → IsUnitCommand S r (if f then Store u.block else Fetch u.block) u
    part is (group, count) true = record { unit = unit; block = refl; count = sym count; kind = rw (same, is) refl }
    part is (group, count) false = record { unit = unit; block = refl; count = sym count; kind = rw (same, is) refl }

    by : (w : Bool) → u.whole ≡ w → IsUnitCommand S r (span_command H t Write w u.block u.count) u
    by true is = record { unit = unit; block = refl; count = refl; kind = rw (same, is) refl }
    by false is = part is (rw is at unit.kind) (was_fetched H t u.block)
unit-command S H t r u Erase unit same moving = by u.whole refl
  where
    part : u.whole ≡ false → IsKind S.geometry (from_of S r) (until_of S r) false u.block u.count → (f : Bool) → IsUnitCommand S r (if f then Store u.block else Fetch u.block) u
    part is (group, count) true = record { unit = unit; block = refl; count = sym count; kind = rw (same, is) refl }
    part is (group, count) false = record { unit = unit; block = refl; count = sym count; kind = rw (same, is) refl }

    by : (w : Bool) → u.whole ≡ w → IsUnitCommand S r (span_command H t Erase w u.block u.count) u
    by true is = record { unit = unit; block = refl; count = refl; kind = rw (same, is) refl }
    by false is = part is (rw is at unit.kind) (was_fetched H t u.block)

next-command : (S : Setup) (H : List Entry) (t : ℕ) (r : Request) (task : Task) → IsSetup S → next_task S H t r ≡ Some task → IsTaskCommand S r (task_command H t r.asked.kind task)
next-command S H t r Syncs is next = let (k, there, unfinished) = next-task-some S H t r Syncs next in inr (refl, task-sync S r k there)
next-command S H t r (Moves u) is next =
    let (k, there, unfinished) = next-task-some S H t r (Moves u) next in
    let (moving, listed) = task-unit S r k u there in
    inl (u, unit-command S H t r u r.asked.kind (unit-of S r k u is listed) refl moving)

more-commands : (S : Setup) (r : Request) (c : Command) (cs : List Command) → IsTaskCommand S r c → AreTaskCommands S r cs → AreTaskCommands S r (c ∷ cs)
unfolding AreTaskCommands
more-commands S r c cs one others = (one, others)

-- with the command that comes next, done
tidy-done : (S : Setup) (H : List Entry) (t : ℕ) (r : Request) (c : Command) → request H t ≡ Some r → t < token_count H → IsTaskCommand S r c → IsTidy S H → IsTidy S (Done t c ∷ H)
tidy-done S H t r c named there of tidy = record {
  commands = λ u q is. elim (cases_eq t u) [
    | inl same ↦
        let own : request H t ≡ Some q = rw (← same, request-same H (Done t c) t refl) at is in
        let r-is : r ≡ q = alike r q (sym named ∙ own) in
        rw (← same, done_commands-done H t c) (more-commands S q c (done_commands H t) (rw r-is at of) (tidy.commands t q own))
    | inr other ↦ rw (done_commands-other S H (Done t c) u (done-concerns H t u c other)) (tidy.commands u q (sym (request-same H (Done t c) u refl) ∙ is))
  ];
  none = λ u past.
      let below : token_count H ≤ u = omega (arith, past, accepted-same H (Done t c) refl) in
      done_commands-other S H (Done t c) u (done-concerns H t u c (λ same. absurd (omega (arith, same, below, there)))) ∙ tidy.none u below;
}
  where
    alike : (r q : Request) → Some r ≡ Some q → r ≡ q
    alike r q is = cc

-- or failed
pub tidy-turn : (S : Setup) (H : List Entry) (turn : Turn) (outcome : Outcome) → IsSetup S → next_turn S H ≡ Some turn → IsTidy S H → IsTidy S (entry_of turn outcome ∷ H)
tidy-turn S H turn outcome is next tidy = by (turn-of S H turn next) outcome
  where
    by : (t : ℕ) × (r : Request) × (task : Task) × IsTurnOf S H turn t r task → (o : Outcome) → IsTidy S (entry_of turn o ∷ H)
    by of (Failed done) = tidy-quiet S H (Fault turn.token turn.command done) refl refl tidy
    by (t, r, task, of) Made = subst (λ (v : Turn). IsTidy S (Done v.token v.command ∷ H)) of.is (tidy-done S H t r (task_command H t r.asked.kind task) of.named of.open_.token (next-command S H t r task is of.next) tidy)

list-alike : (S : Setup) (r : Request) (cs : List Command) (v : Span) (x : ℕ) → IsSetup S → AreTaskCommands S r cs → IsUnit S.geometry (from_of S r) (until_of S r) v → v.low ≤ x → x < v.high
    → list_any (moves S x) cs ≡ list_any (moves S v.low) cs
unfolding AreTaskCommands
list-alike S r [] v x is all unit from until = refl
list-alike S r (c ∷ cs) v x is (one, others) unit from until = rw (moves-alike S r c v x is one unit from until, list-alike S r cs v x is others unit from until) refl

moved-together : (S : Setup) (H : List Entry) (t : ℕ) (r : Request) (v : Span) (x : ℕ) → IsSetup S → IsTidy S H → request H t ≡ Some r → IsUnit S.geometry (from_of S r) (until_of S r) v → v.low ≤ x → x < v.high
    → is_moved S H t x ≡ is_moved S H t v.low
unfolding has_done
moved-together S H t r v x is tidy named unit from until = list-alike S r (done_commands H t) v x is (tidy.commands t r named) unit from until

and-true : (p : Bool) → (p && true) ≡ p
and-true true = refl
and-true false = refl

-- a token is complete where all its units are finished
complete-units : (S : Setup) (H : List Entry) (t : ℕ) (r : Request) → IsSetup S → IsTidy S H → request H t ≡ Some r → is_complete S H t ≡ list_all (is_finished S H t) (tasks_of S r)
complete-units S H t r is tidy named = elim (cases_Bool (is_flush r.asked.kind)) [
  | inl flush ↦ rw flush (complete-flush S H t r named flush ∙ sym (and-true (has_done is_sync H t)))
  | inr moving ↦
      let us : List Span = units_of S.geometry (from_of S r) (until_of S r) in
      let long : until_of S r - from_of S r ≡ r.asked.length = omega arith in
      let tiles : all_from (is_moved S H t) (from_of S r) (until_of S r - from_of S r) ≡ list_all (λ u. is_moved S H t u.low) us =
      all_from-tiles (is_moved S H t) (from_of S r) (until_of S r) us (tile-units S.geometry (from_of S r) (until_of S r) is.geometry (omega arith))
      (λ k x u there from until. moved-together S H t r u x is tidy named (unit-of S r k u is there) from until) in
      complete-moved S H t r named moving ∙ (rw long at tiles ∙ rw moving (sym (list_all-map (is_finished S H t) Moves us)))
]

unended : (complete : Bool) → status_if complete Success ≡ None → complete ≡ false
unended true e = cc
unended false e = refl

accept-incomplete : (S : Setup) (H : List Entry) (tag : ℕ) (view : View) (asked : Asked) (bytes : List ℕ) (t : ℕ) → t ≡ token_count H → ending S H (Accept tag view asked bytes) t ≡ None
    → is_complete S (Accept tag view asked bytes ∷ H) t ≡ false
unfolding ending
accept-incomplete S H tag view asked bytes t new none = unended (is_complete S (Accept tag view asked bytes ∷ H) t) (rw (eq-eqb t (token_count H) new) at none)

-- a token is open only where it is not complete
open-incomplete : (S : Setup) (H : List Entry) (t : ℕ) → t < token_count H → mark_of S H t ≡ None → is_complete S H t ≡ false
open-incomplete S [] t token unmarked = absurd (omega (arith, token, accepted-none))
open-incomplete S (Accept tag view asked bytes ∷ H) t token unmarked = elim (cases_eq t (token_count H)) [
  | inl new ↦ accept-incomplete S H tag view asked bytes t new (sym (mark-next S H (Accept tag view asked bytes) t (mark-before S H (Accept tag view asked bytes) t unmarked)) ∙ unmarked)
  | inr old ↦
      complete-kept S H (Accept tag view asked bytes) t refl old
      ∙ open-incomplete S H t (omega (arith, token, old, accepted-more H (Accept tag view asked bytes) refl)) (mark-before S H (Accept tag view asked bytes) t unmarked)
]
open-incomplete S (Done u c ∷ H) t token unmarked = elim (cases_eq u t) [
  | inl same ↦ unended (is_complete S (Done u c ∷ H) t) (sym (rw same (mark-done S H t c (mark-before S H (Done t c) t (rw same at unmarked)))) ∙ unmarked)
  | inr other ↦ complete-done-other S H u t c other ∙ open-incomplete S H t (omega (arith, token, accepted-same H (Done u c) refl)) (mark-before S H (Done u c) t unmarked)
]
open-incomplete S (e ∷ H) t token unmarked =
    let below : t < token_count H = omega (arith, token, accepted-same H e refl) in
    complete-kept S H e t refl (λ same. absurd (omega (arith, same, below))) ∙ open-incomplete S H t below (mark-before S H e t unmarked)

-- a list of which not all pass has one that fails
find-unfinished : {X : Type 0} (test : X → Bool) (xs : List X) → list_all test xs ≡ false → (x : X) × (find (λ y. not (test y)) xs ≡ Some x)
find-unfinished test [] some = cc
find-unfinished test (x ∷ xs) some = elim (cases_Bool (test x)) [
  | inl passes ↦
      let rest : list_all test xs ≡ false = rw passes at some in
      let (y, is) = find-unfinished test xs rest in
      (y, rw passes is)
  | inr fails ↦ (x, rw fails refl)
]

-- where a token is open, a command comes next
pub tidy-next : (S : Setup) (H : List Entry) (t : ℕ) → IsSetup S → IsTidy S H → first_open S H ≡ Some t → (turn : Turn) × (next_turn S H ≡ Some turn)
unfolding next_task
tidy-next S H t is tidy first =
    let (open_, before) = first-open-some S H t first in
    let (r, named) = open-request S H t open_ in
    let incomplete : list_all (is_finished S H t) (tasks_of S r) ≡ false = sym (complete-units S H t r is tidy named) ∙ open-incomplete S H t open_.token open_.unmarked in
    let (task, next) = find-unfinished (is_finished S H t) (tasks_of S r) incomplete in
    (record { token = t; command = task_command H t r.asked.kind task }, next-turn-is S H t r task first named next)
