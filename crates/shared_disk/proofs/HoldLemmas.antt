-- What a hold of the lock of a shared disk adds to its log.
use Rattle.std.proofs.Common.{◌≡◌, ℕ, ◌+◌, ◌≤◌, ◌<◌, ◌^◌, inl, inr, Bool, true, false, List, [], ◌∷◌, ◌++◌, length, reverse, Option, None, Some, refl, sym, ap, subst, ◌∙◌, arith}
use Rattle.std.specs.Prelude.{sum_by, slice_get, IsSome}
use Rattle.std.proofs.lemmas.List.{length-reverse}
use Rattle.std.proofs.lemmas.Option.{slice_get_past}
use mathlib.Core.List.{reverse-cons}
use Rattle.history.specs.declared.entry.Entry.{Entry}
use Rattle.history.specs.Setup.{Setup}
use Rattle.history.specs.Rules.{IsLegal}
use Rattle.history.specs.Next.{entry_of}
use Rattle.disk_core.specs.State.{State}
use Rattle.disk_core.specs.Facts.{AreFacts}
use Rattle.shared_disk.specs.declared.log_rule.Item.{Item}
use Rattle.shared_disk.specs.declared.log_rule.Item.TheVariants.{Happened}
use Rattle.shared_disk.specs.Lines.{with_line_entry}
use Rattle.shared_disk.specs.Script.{Script, places_at, next_order}
use Rattle.shared_disk.specs.Desk.{DeskState, Keeps, HasNoLine, HasLine}
use Rattle.shared_disk.specs.Log.{logged_entries, line_count_of, IsOld}
use Rattle.atomic_table.specs.Seated.{TableId}
use Rattle.shared_disk.specs.Pens.{PenEnd}
use Rattle.shared_disk.specs.Plate.{IsLogOf}
use Rattle.shared_disk.specs.Seats.{LockState, IsShared, IsDeskAt, Sees, entry_items, own_items, IsOverBy, IsLeftBy}
use Rattle.shared_disk.specs.Holding.{Grows, HasLogged, Logs, IsCounted}
use Rattle.shared_disk.proofs.DeskLemmas.{Moves}

get-push : {X : Type 0} (xs : List X) (x : X) → slice_get (xs ++ x ∷ []) (length xs) ≡ Some x
get-push [] x = refl
get-push (y ∷ xs) x = get-push xs x

-- the newest entry stands last
newest : {X : Type 0} (x : X) (H : List X) → slice_get (reverse (x ∷ H)) (length H) ≡ Some x
newest x H = ap (λ l. slice_get l (length H)) (reverse-cons x H) ∙ subst (λ n. slice_get (reverse H ++ x ∷ []) n ≡ Some x) (length-reverse H) (get-push (reverse H) x)

none-past : {X : Type 0} (H : List X) → slice_get (reverse H) (length H) ≡ None
none-past H = slice_get_past (reverse H) (length H) (omega (arith, length-reverse H))

-- the entry that the history has more
pub log-some : (H H' : List Entry) (log : List Item) (n : ℕ) (x : Entry) → n ≡ length H → Grows H H' → Some x ≡ slice_get (reverse H') n → HasLogged H log H' (Happened x ∷ log)
log-some H H' log n x is (None, grown) there =
    let bad : Some x ≡ None = there ∙ (rw (is, grown) (none-past H)) in cc
log-some H H' log n x is (Some e, grown) there =
    let same : Some x ≡ Some e = there ∙ (rw (is, grown) (newest e H)) in
    record { entry = Some x; history = grown ∙ (ap (λ o. with_line_entry o H) (sym same)); items = refl }

pub log-none : (H H' : List Entry) (log : List Item) (n : ℕ) → n ≡ length H → Grows H H' → None ≡ slice_get (reverse H') n → HasLogged H log H' log
log-none H H' log n is (None, grown) there = record { entry = None; history = grown; items = refl }
log-none H H' log n is (Some e, grown) there =
    let bad : None ≡ Some e = there ∙ (rw (is, grown) (newest e H)) in cc

pub grows-log : (old new : DeskState) (log : List Item) (H : List Entry) → IsLogOf old log → H ≡ new.disk.entries → Grows old.disk.entries new.disk.entries → Grows (logged_entries log) H
grows-log old new log H is same grows = (grows.0, same ∙ (grows.1 ∙ ap (λ es. with_line_entry grows.0 es) (sym is.entries)))

pub moves-grow : (old new : State) → Moves old new → Grows old.entries new.entries
moves-grow old new (inl still) = (None, still.1)
moves-grow old new (inr made) = (Some (entry_of (record { token = made.0; command = made.1 }) made.2), made.3.entries)

pub moves-setup : (old new : State) → Moves old new → new.setup ≡ old.setup
moves-setup old new (inl still) = still.0
moves-setup old new (inr made) = made.3.setup

-- room in the word of the log
pub has-room : (s : DeskState) (log : List Item) (n : ℕ) → IsLogOf s log → sum_by length s.places ≤ 2 ^ 32 → n ≡ length s.disk.entries → n < 2 ^ 63 → length log + 2 < 2 ^ 64
has-room s log n is few same less = let long = is.long in omega (arith, long, few, same, less)

pub log-of-entry : (old new : DeskState) (log : List Item) (e : Option Entry) → IsLogOf old log → new.disk.entries ≡ with_line_entry e (logged_entries log) → new.places ≡ old.places → IsLogOf new (entry_items e ++ log)
unfolding logged_entries line_count_of
log-of-entry old new log None is entries places = record {
  entries = sym entries;
  lines = λ i. is.lines i ∙ ap (λ p. length (places_at p i)) (sym places);
  long = rw (places, entries, is.entries) is.long;
}
log-of-entry old new log (Some x) is entries places = record {
  entries = sym entries;
  lines = λ i. is.lines i ∙ ap (λ p. length (places_at p i)) (sym places);
  long = let long = is.long in rw (places, entries, is.entries) (omega (arith, long));
}

-- a call that does no line
pub logs-entry : (old new : DeskState) (log log' : List Item) (H : List Entry) → IsLogOf old log → HasLogged (logged_entries log) log H log' → H ≡ new.disk.entries → new.script ≡ old.script → new.places ≡ old.places → new.disk.setup ≡ old.disk.setup
    → AreFacts old.disk → AreFacts new.disk → Logs old log None new log'
logs-entry old new log log' H is logged same script places setup before after = record {
  entry = logged.entry;
  own = logged.items;
  is_log = subst (λ l. IsLogOf new l) (sym logged.items) (log-of-entry old new log logged.entry is (sym same ∙ logged.history) places);
  setup = setup;
  script = script;
  facts_before = before;
  facts = after;
}

-- what lies behind the lock after the call
pub shared-on : (S : Setup) (d : Script) (s s' : LockState) (line : Option ℕ) → IsShared S d s → Logs s.desk s.log line s'.desk s'.log → s'.count ≡ s.count → (Keeps s.desk → Keeps s'.desk) → IsShared S d s'
shared-on S d s s' line shared logs same keeps = record {
  setup = logs.setup ∙ shared.setup;
  script = logs.script ∙ shared.script;
  is_log = logs.is_log;
  keeps = λ none. keeps (shared.keeps (sym same ∙ none));
}

-- what a call's caller has seen
pub sees-on : (S : Setup) (d : Script) (s : LockState) (after : DeskState) (log' : List Item) (old : List Item) (line : Option ℕ) (Says : DeskState → DeskState → Type 0) → IsShared S d s → IsOld old s.log → Logs s.desk s.log line after log' → Says s.desk after → Sees S d old line log' Says
sees-on S d s after log' old line Says shared older logs says = record {
  log = s.log;
  older = older;
  entry = logs.entry;
  own = logs.own;
  before = s.desk;
  began = record { setup = shared.setup; script = shared.script; is_log = shared.is_log; facts = logs.facts_before };
  after = after;
  ended = record { setup = logs.setup ∙ shared.setup; script = logs.script ∙ shared.script; is_log = logs.is_log; facts = logs.facts };
  says = says;
}

append-again : (xs ys zs : List Item) → (xs ++ ys) ++ zs ≡ xs ++ (ys ++ zs)
append-again [] ys zs = refl
append-again (x ∷ xs) ys zs = ap (λ l. x ∷ l) (append-again xs ys zs)

pub sees-older : (S : Setup) (d : Script) (old : List Item) (line : Option ℕ) (new : List Item) (Says : DeskState → DeskState → Type 0) → Sees S d old line new Says → IsOld old new
sees-older S d old line new Says sees = record { more = own_items sees.entry line ++ sees.older.more; is = sees.own ∙ (ap (λ l. own_items sees.entry line ++ l) sees.older.is ∙ sym (append-again (own_items sees.entry line) sees.older.more old)) }

pub sees-legal : (S : Setup) (d : Script) (old : List Item) (line : Option ℕ) (new : List Item) (Says : DeskState → DeskState → Type 0) → Sees S d old line new Says → IsLegal S (logged_entries new)
sees-legal S d old line new Says sees = subst (λ T. IsLegal T (logged_entries new)) sees.ended.setup (subst (λ H. IsLegal sees.after.disk.setup H) (sym sees.ended.is_log.entries) sees.ended.facts.legal)

entries-own : (e : Option Entry) (line : Option ℕ) (log : List Item) → logged_entries (own_items e line ++ log) ≡ with_line_entry e (logged_entries log)
unfolding logged_entries
entries-own None None log = refl
entries-own None (Some k) log = refl
entries-own (Some x) None log = refl
entries-own (Some x) (Some k) log = refl

-- the history after the call
pub logs-grow : (old new : DeskState) (log : List Item) (line : Option ℕ) (log' : List Item) → IsLogOf old log → (logs : Logs old log line new log') → new.disk.entries ≡ with_line_entry logs.entry old.disk.entries
logs-grow old new log line log' is logs = sym logs.is_log.entries ∙ (ap logged_entries logs.own ∙ (entries-own logs.entry line log ∙ ap (λ H. with_line_entry logs.entry H) is.entries))

longer : (e : Option Entry) (H H' : List Entry) → H' ≡ with_line_entry e H → length H ≤ length H'
longer None H H' is = rw is (omega arith)
longer (Some x) H H' is = rw is (omega arith)

-- nothing was counted
pub counted-on : (sum parts amount : ℕ) (s s' : LockState) (line : Option ℕ) → IsLogOf s.desk s.log → IsCounted sum parts amount s → Logs s.desk s.log line s'.desk s'.log → s'.count ≡ s.count → IsCounted sum parts amount s'
counted-on sum parts amount s s' line is counted logs same = record {
  total = counted.total ∙ sym same;
  one_part = counted.one_part;
  none = counted.none;
  few = let more = longer logs.entry s.desk.disk.entries s'.desk.disk.entries (logs-grow s.desk s'.desk s.log line s'.log is logs) in let few = counted.few in omega (arith, more, few, same);
}

-- whether lines are left, by the log
pub over-by : (S : Setup) (d : Script) (log : List Item) (s : DeskState) → IsDeskAt S d log s → (b : Bool) → (b ≡ true → HasNoLine s) → b ≡ true → IsOverBy d log
over-by S d log s at b over is = λ i. rw (at.is_log.lines i) (subst (λ (e : Script). next_order e.roles i (length (places_at s.places i)) ≡ None) at.script (over is i))

pub left-by : (S : Setup) (d : Script) (log : List Item) (s : DeskState) → IsDeskAt S d log s → (b : Bool) → (b ≡ false → HasLine s) → b ≡ false → IsLeftBy d log
left-by S d log s at b left is =
    let there = left is in (there.0, rw (at.is_log.lines there.0) (subst (λ (e : Script). IsSome (next_order e.roles there.0 (length (places_at s.places there.0)))) at.script there.1))

-- what holds of the desk and the pen behind the lock
abbrev pub IsBehindLock : TableId → Setup → Script → ℕ → ℕ → ℕ → DeskState → PenEnd → ℕ → Type 0
IsBehindLock T S d sum parts amount desk pen count = (pen.table ≡ T) × IsShared S d (record { desk = desk; log = pen.log; count = count }) × IsCounted sum parts amount (record { desk = desk; log = pen.log; count = count })

-- it still holds after a call that was not counted; a note was renewed before it and after it
pub stays-behind : (T : TableId) (S : Setup) (d : Script) (sum parts amount : ℕ) (desk desk' : DeskState) (p q r t : PenEnd) (count : ℕ) (line : Option ℕ) → IsBehindLock T S d sum parts amount desk p count
    → q ≡ p → Logs desk q.log line desk' r.log → r.table ≡ q.table → t ≡ r → (Keeps desk → Keeps desk') → IsBehindLock T S d sum parts amount desk' t count
stays-behind T S d sum parts amount desk desk' p q r t count line behind same logs table again keeps =
    let logs_p : Logs desk p.log line desk' r.log = subst (λ (x : PenEnd). Logs desk x.log line desk' r.log) same logs in
    let logs_t : Logs desk p.log line desk' t.log = subst (λ (x : PenEnd). Logs desk p.log line desk' x.log) (sym again) logs_p in (
      ap (λ (x : PenEnd). x.table) again ∙ (table ∙ (ap (λ (x : PenEnd). x.table) same ∙ behind.0)),
      shared-on S d (record { desk = desk; log = p.log; count = count }) (record { desk = desk'; log = t.log; count = count }) line behind.1 logs_t refl keeps,
      counted-on sum parts amount (record { desk = desk; log = p.log; count = count }) (record { desk = desk'; log = t.log; count = count }) line behind.1.is_log behind.2 logs_t refl,
    )

-- and its caller has seen it
pub sees-behind : (T : TableId) (S : Setup) (d : Script) (sum parts amount : ℕ) (desk desk' : DeskState) (p q r : PenEnd) (count : ℕ) (line : Option ℕ) (old new : List Item) (Says : DeskState → DeskState → Type 0)
    → IsBehindLock T S d sum parts amount desk p count → q ≡ p → IsOld old p.log → Logs desk q.log line desk' r.log → new ≡ r.log → Says desk desk' → Sees S d old line new Says
sees-behind T S d sum parts amount desk desk' p q r count line old new Says behind same older logs seen says =
    subst (λ l. Sees S d old line l Says) (sym seen)
    (sees-on S d (record { desk = desk; log = p.log; count = count }) desk' r.log old line Says behind.1 older (subst (λ (x : PenEnd). Logs desk x.log line desk' r.log) same logs) says)
