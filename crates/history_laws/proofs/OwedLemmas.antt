-- What each entry does to the entries that are owed, and that a token makes few commands.
use Rattle.std.proofs.Common.{◌≡◌, ℕ, zero, suc, ◌+◌, ◌*◌, ◌≤◌, inl, inr, Bool, true, false, not, ◌&&◌, List, [], ◌∷◌, slice_get, Some, option_map, refl, sym, ◌∙◌, ap, arith}
use Rattle.std.specs.List.{list_any, sum_by}
use Rattle.std.proofs.lemmas.Bool.{cases_Bool, eq-eqb, or_left}
use Rattle.std.proofs.lemmas.List.Sums.{sum_by-cons, sum_by-le-sum_by}
use Rattle.std.proofs.lemmas.Option.{slice_get-map}
use Rattle.std.proofs.Math.Nat.{mul-div_left}
use Rattle.disk_split.specs.declared.geometry.Geometry.{Geometry}
use Rattle.disk_split.specs.declared.span.Span.{Span}
use Rattle.disk_split.specs.Units.{IsGeometry, IsGroupPart, units_of, group_start}
use Rattle.disk_split.proofs.Shared.{unit-listed}
use Rattle.history.specs.declared.entry.Kind.{Kind}
use Rattle.history.specs.declared.entry.Kind.TheVariants.{Read, Write, Flush, Erase}
use Rattle.history.specs.declared.entry.Command.{Command}
use Rattle.history.specs.declared.entry.Command.TheVariants.{Fetch, Store, Put, Get, Wipe, Sync}
use Rattle.history.specs.declared.entry.Entry.{Entry}
use Rattle.history.specs.declared.entry.Entry.TheVariants.{Done}
use Rattle.history.specs.Setup.{Setup, IsSetup}
use Rattle.history.specs.Tokens.{Request, request, is_read, is_write, is_flush, is_erase, changes_bytes, from_of, until_of}
use Rattle.history.specs.Commands.{first_block, is_fetch, is_store, is_put, is_get, is_wipe, is_sync, is_at, done_commands, has_done}
use Rattle.history.specs.Marks.{was_fetched, was_stored, Holds, IsOutstanding}
use Rattle.history.specs.Rules.{MayFetch, MayCommand, IsLegal}
use Rattle.history.specs.Tasks.{Task, Moves, Syncs, tasks_of}
use Rattle.history.specs.Room.{part_owed, one_unless, span_owed, task_owed, commands_owed}
use Rattle.history_laws.specs.Units.{is_span_command, IsUnitCommand, IsTaskCommand}
use Rattle.history_laws.proofs.TokenLemmas.{has_done-done, has_done-stays}
use Rattle.history_laws.proofs.EndLemmas.{command-open}
use Rattle.history_laws.proofs.UnitLemmas.{legal-task}
use Rattle.history_laws.proofs.TaskLemmas.{complete-flush, open-incomplete}

one_unless-less : (p q : Bool) → (p ≡ true → q ≡ true) → one_unless q ≤ one_unless p
one_unless-less true true stays = omega arith
one_unless-less true false stays = let no_way : false ≡ true = stays refl in cc
one_unless-less false true stays = omega arith
one_unless-less false false stays = omega arith

part_owed-few : (f s : Bool) → part_owed f s ≤ 2
part_owed-few f true = omega arith
part_owed-few true false = omega arith
part_owed-few false false = omega arith

part_owed-less : (f f' s s' : Bool) → (f ≡ true → f' ≡ true) → (s ≡ true → s' ≡ true) → part_owed f' s' ≤ part_owed f s
part_owed-less f f' s true fetched stored = omega arith
part_owed-less f f' true false fetched stored = let no_way : false ≡ true = stored refl in cc
part_owed-less true true false false fetched stored = omega arith
part_owed-less true false false false fetched stored = let no_way : false ≡ true = fetched refl in cc
part_owed-less false f' false false fetched stored = part_owed-few f' false

-- what a unit owes never rises
span-stays : (kind : Kind) (H : List Entry) (e : Entry) (t : ℕ) (whole : Bool) (b : ℕ) → span_owed kind (e ∷ H) t whole b ≤ span_owed kind H t whole b
span-stays Read H e t whole b = one_unless-less _ _ (has_done-stays (is_at is_get b) H e t)
span-stays Write H e t true b = one_unless-less _ _ (has_done-stays (is_at is_put b) H e t)
span-stays Write H e t false b = part_owed-less _ _ _ _ (has_done-stays (is_at is_fetch b) H e t) (has_done-stays (is_at is_store b) H e t)
span-stays Erase H e t true b = one_unless-less _ _ (has_done-stays (is_at is_wipe b) H e t)
span-stays Erase H e t false b = part_owed-less _ _ _ _ (has_done-stays (is_at is_fetch b) H e t) (has_done-stays (is_at is_store b) H e t)
span-stays Flush H e t whole b = omega arith

pub task-stays : (kind : Kind) (H : List Entry) (e : Entry) (t : ℕ) (task : Task) → task_owed kind (e ∷ H) t task ≤ task_owed kind H t task
task-stays kind H e t (Moves u) = span-stays kind H e t u.whole u.block
task-stays kind H e t Syncs = one_unless-less _ _ (has_done-stays is_sync H e t)

-- what a request owes never rises
pub commands-stay : (S : Setup) (H : List Entry) (e : Entry) (t : ℕ) (r : Request) → commands_owed S (e ∷ H) t r ≤ commands_owed S H t r
unfolding commands_owed
commands-stay S H e t r = sum_by-le-sum_by _ _ (tasks_of S r) (task-stays r.asked.kind H e t)

span-same : (kind : Kind) (H H' : List Entry) (t : ℕ) (whole : Bool) (b : ℕ) → done_commands H' t ≡ done_commands H t → span_owed kind H' t whole b ≡ span_owed kind H t whole b
unfolding has_done
span-same Read H H' t whole b same = ap (λ cs. one_unless (list_any (is_at is_get b) cs)) same
span-same Write H H' t true b same = ap (λ cs. one_unless (list_any (is_at is_put b) cs)) same
span-same Write H H' t false b same = ap (λ cs. part_owed (list_any (is_at is_fetch b) cs) (list_any (is_at is_store b) cs)) same
span-same Erase H H' t true b same = ap (λ cs. one_unless (list_any (is_at is_wipe b) cs)) same
span-same Erase H H' t false b same = ap (λ cs. part_owed (list_any (is_at is_fetch b) cs) (list_any (is_at is_store b) cs)) same
span-same Flush H H' t whole b same = refl

task-same : (kind : Kind) (H H' : List Entry) (t : ℕ) → done_commands H' t ≡ done_commands H t → (task : Task) → task_owed kind H' t task ≡ task_owed kind H t task
unfolding has_done
task-same kind H H' t same (Moves u) = span-same kind H H' t u.whole u.block same
task-same kind H H' t same Syncs = ap (λ cs. one_unless (list_any is_sync cs)) same

-- histories that tell the same done commands of a token tell the same of what its request owes
pub commands-same : (S : Setup) (H H' : List Entry) (t : ℕ) (r : Request) → done_commands H' t ≡ done_commands H t → commands_owed S H' t r ≡ commands_owed S H t r
unfolding commands_owed
commands-same S H H' t r same = ap (λ (f : Task → ℕ). sum_by f (tasks_of S r)) (λ i task. task-same r.asked.kind H H' t same task i)

-- a sum falls where one of its terms does and none rises
pub sum_by-falls : {X : Type 0} (f g : X → ℕ) (xs : List X) (k : ℕ) (x : X) → ((y : X) → f y ≤ g y) → slice_get xs k ≡ Some x → f x + 1 ≤ g x → sum_by f xs + 1 ≤ sum_by g xs
sum_by-falls f g [] k x less there falls = cc
sum_by-falls f g (y ∷ xs) zero x less there falls =
    let same : y ≡ x = cc in
    let here : f y + 1 ≤ g y = rw same falls in
    omega (arith, here, sum_by-cons f y xs, sum_by-cons g y xs, sum_by-le-sum_by f g xs less)
sum_by-falls f g (y ∷ xs) (suc k) x less there falls =
    omega (arith, less y, sum_by-cons f y xs, sum_by-cons g y xs, sum_by-falls f g xs k x less there falls)

-- a group's first block is its own group's
pub group-start-part : (G : Geometry) (a z b : ℕ) → IsGeometry G → IsGroupPart G a z b → group_start G b ≡ b
group-start-part G a z b is part = rw part.begins (ap (λ n. n * G.per) (mul-div_left part.number (omega (arith, is.per_some))))

-- a token that may fetch a group has not fetched it
pub fetch-unfetched : (S : Setup) (H : List Entry) (t b : ℕ) (r : Request) → IsSetup S → MayFetch S H t b r → was_fetched H t b ≡ false
fetch-unfetched S H t b r is may = elim (cases_Bool (was_fetched H t b)) [
  | inr unfetched ↦ unfetched
  | inl fetched ↦
      let holds : Holds S H t b = record { outstanding = may.at.outstanding; fetched = fetched; unstored = may.unstored } in
      absurd (may.free t (rw (group-start-part S.geometry (from_of S r) (until_of S r) b is.geometry may.part) holds))
]

now : (test : Command → Bool) (H : List Entry) (t : ℕ) (c : Command) → test c ≡ true → has_done test (Done t c ∷ H) t ≡ true
now test H t c passes = has_done-done test H t c ∙ or_left (test c) (has_done test H t) passes

fetch-falls : (kind : Kind) (whole : Bool) (H : List Entry) (t b : ℕ) → (changes_bytes kind && not whole) ≡ true → was_fetched H t b ≡ false → was_stored H t b ≡ false
    → span_owed kind (Done t (Fetch b) ∷ H) t whole b + 1 ≤ span_owed kind H t whole b
fetch-falls kind whole H t b is unfetched unstored = by kind whole is
  where
    fetched : was_fetched (Done t (Fetch b) ∷ H) t b ≡ true
    fetched = now (is_at is_fetch b) H t (Fetch b) (eq-eqb b b refl)

    stored : was_stored (Done t (Fetch b) ∷ H) t b ≡ false
    stored = has_done-done (is_at is_store b) H t (Fetch b) ∙ unstored

    by : (kind : Kind) (whole : Bool) → (changes_bytes kind && not whole) ≡ true → span_owed kind (Done t (Fetch b) ∷ H) t whole b + 1 ≤ span_owed kind H t whole b
    by Write false is = rw (fetched, stored, unfetched, unstored) (omega arith)
    by Erase false is = rw (fetched, stored, unfetched, unstored) (omega arith)
    by Write true is = cc
    by Erase true is = cc
    by Read whole is = cc
    by Flush whole is = cc

store-falls : (kind : Kind) (whole : Bool) (H : List Entry) (t b : ℕ) → (changes_bytes kind && not whole) ≡ true → was_fetched H t b ≡ true → was_stored H t b ≡ false
    → span_owed kind (Done t (Store b) ∷ H) t whole b + 1 ≤ span_owed kind H t whole b
store-falls kind whole H t b is fetched unstored = by kind whole is
  where
    stored : was_stored (Done t (Store b) ∷ H) t b ≡ true
    stored = now (is_at is_store b) H t (Store b) (eq-eqb b b refl)

    by : (kind : Kind) (whole : Bool) → (changes_bytes kind && not whole) ≡ true → span_owed kind (Done t (Store b) ∷ H) t whole b + 1 ≤ span_owed kind H t whole b
    by Write false is = rw (stored, fetched, unstored) (omega arith)
    by Erase false is = rw (stored, fetched, unstored) (omega arith)
    by Write true is = cc
    by Erase true is = cc
    by Read whole is = cc
    by Flush whole is = cc

put-falls : (kind : Kind) (whole : Bool) (H : List Entry) (t b n : ℕ) → (is_write kind && whole) ≡ true → has_done (is_at is_put b) H t ≡ false
    → span_owed kind (Done t (Put b n) ∷ H) t whole b + 1 ≤ span_owed kind H t whole b
put-falls Write true H t b n is undone = rw (now (is_at is_put b) H t (Put b n) (eq-eqb b b refl), undone) (omega arith)
put-falls Write false H t b n is undone = cc
put-falls Erase whole H t b n is undone = cc
put-falls Read whole H t b n is undone = cc
put-falls Flush whole H t b n is undone = cc

wipe-falls : (kind : Kind) (whole : Bool) (H : List Entry) (t b n : ℕ) → (is_erase kind && whole) ≡ true → has_done (is_at is_wipe b) H t ≡ false
    → span_owed kind (Done t (Wipe b n) ∷ H) t whole b + 1 ≤ span_owed kind H t whole b
wipe-falls Erase true H t b n is undone = rw (now (is_at is_wipe b) H t (Wipe b n) (eq-eqb b b refl), undone) (omega arith)
wipe-falls Erase false H t b n is undone = cc
wipe-falls Write whole H t b n is undone = cc
wipe-falls Read whole H t b n is undone = cc
wipe-falls Flush whole H t b n is undone = cc

get-falls : (kind : Kind) (whole : Bool) (H : List Entry) (t b n : ℕ) → is_read kind ≡ true → has_done (is_at is_get b) H t ≡ false
    → span_owed kind (Done t (Get b n) ∷ H) t whole b + 1 ≤ span_owed kind H t whole b
get-falls Read whole H t b n is undone = rw (now (is_at is_get b) H t (Get b n) (eq-eqb b b refl), undone) (omega arith)
get-falls Erase whole H t b n is undone = cc
get-falls Write whole H t b n is undone = cc
get-falls Flush whole H t b n is undone = cc

span-falls : (S : Setup) (H : List Entry) (t : ℕ) (c : Command) (kind : Kind) (whole : Bool) → IsSetup S → MayCommand S H t c → is_span_command kind whole c ≡ true
    → span_owed kind (Done t c ∷ H) t whole (first_block c) + 1 ≤ span_owed kind H t whole (first_block c)
unfolding MayCommand
span-falls S H t (Fetch b) kind whole is (r, may) of = fetch-falls kind whole H t b of (fetch-unfetched S H t b r is may) may.unstored
span-falls S H t (Store b) kind whole is holds of = store-falls kind whole H t b of holds.fetched holds.unstored
span-falls S H t (Put b n) kind whole is (r, may) of = put-falls kind whole H t b n of may.undone
span-falls S H t (Wipe b n) kind whole is (r, may) of = wipe-falls kind whole H t b n of may.undone
span-falls S H t (Get b n) kind whole is (r, may) of = get-falls kind whole H t b n of may.undone
span-falls S H t Sync kind whole is (r, may) of = cc

-- a request with such a unit is no flush
pub span-moving : (kind : Kind) (whole : Bool) (c : Command) → is_span_command kind whole c ≡ true → is_flush kind ≡ false
span-moving Read whole c of = refl
span-moving Write whole c of = refl
span-moving Erase whole c of = refl
span-moving Flush whole (Fetch b) of = cc
span-moving Flush whole (Store b) of = cc
span-moving Flush whole (Put b n) of = cc
span-moving Flush whole (Get b n) of = cc
span-moving Flush whole (Wipe b n) of = cc
span-moving Flush whole Sync of = cc

-- the unit of a command stands in its request's list
pub unit-task : (S : Setup) (r : Request) (c : Command) (u : Span) → IsSetup S → IsUnitCommand S r c u → (k : ℕ) × (slice_get (tasks_of S r) k ≡ Some (Moves u))
unit-task S r c u is of =
    let (k, there) = unit-listed S.geometry (from_of S r) (until_of S r) u is.geometry of.unit in
    (k, rw (span-moving r.asked.kind u.whole c of.kind) (slice_get-map Moves (units_of S.geometry (from_of S r) (until_of S r)) k ∙ ap (option_map Moves) there))

-- a done command lowers what its request owes
pub command-lowers : (S : Setup) (H : List Entry) (t : ℕ) (c : Command) (r : Request) → IsSetup S → IsLegal S H → request H t ≡ Some r → MayCommand S H t c
    → commands_owed S (Done t c ∷ H) t r + 1 ≤ commands_owed S H t r
unfolding commands_owed
command-lowers S H t c r is legal named may = by (legal-task S H t c r is legal named may)
  where
    token : IsOutstanding S H t
    token = command-open S H t c may

    by : IsTaskCommand S r c → sum_by (task_owed r.asked.kind (Done t c ∷ H) t) (tasks_of S r) + 1 ≤ sum_by (task_owed r.asked.kind H t) (tasks_of S r)
    by (inl (u, of)) =
        let (k, there) = unit-task S r c u is of in
        sum_by-falls (task_owed r.asked.kind (Done t c ∷ H) t) (task_owed r.asked.kind H t) (tasks_of S r) k (Moves u) (task-stays r.asked.kind H (Done t c) t) there
        (rw (← of.block) (span-falls S H t c r.asked.kind u.whole is may of.kind))
    by (inr (sync, flush)) =
        let unsynced : has_done is_sync H t ≡ false = sym (complete-flush S H t r named flush) ∙ open-incomplete S H t legal token.token token.unmarked in
        let synced : has_done is_sync (Done t c ∷ H) t ≡ true = now is_sync H t c (rw sync refl) in
        rw (flush, synced, unsynced) (omega arith)
