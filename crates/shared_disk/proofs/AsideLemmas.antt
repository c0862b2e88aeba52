-- Calls of the disk that are no line's.
use Rattle.std.proofs.Common.{◌≡◌, ℕ, zero, suc, ◌+◌, ◌≤◌, ◌∷◌, true, List, length, Option, None, Some, IsSome, Result, Ok, Err, refl, sym, ap, subst, ◌∙◌, arith}
use Rattle.history.specs.declared.entry.View.{View}
use Rattle.history.specs.declared.entry.Entry.{Entry}
use Rattle.history.specs.declared.entry.Entry.TheVariants.{Accept, Refuse, Collect, Cancel}
use Rattle.token_table.specs.declared.record.NotThere.{NotThere}
use Rattle.token_table.specs.declared.record.NotThere.TheVariants as not_there
use Rattle.disk_core.specs.declared.answers.Ask.{Ask}
use Rattle.disk_core.specs.declared.answers.Refused.{Refused}
use Rattle.disk_core.specs.declared.answers.Why.{Why}
use Rattle.disk_core.specs.declared.answers.Why.TheVariants as why
use Rattle.disk_core.specs.declared.answers.Token.{Token}
use Rattle.disk_core.specs.State.{State}
use Rattle.disk_core.specs.Calls.{asked_of, bytes_of, buffer_of, RefusesFor, SubmitSays, CollectSays, EndSays}
use Rattle.disk_core.specs.GoingOn.{GoesOn}
use Rattle.disk_core.proofs.GoingOn.{submit_goes_on, end_goes_on}
use Rattle.shared_disk.specs.declared.books.Books.{Books}
use Rattle.history.specs.Tokens.{token_count, was_collected}
use Rattle.token_table.specs.declared.record.Done.{Done}
use Rattle.atomic_table.specs.Seated.{TableId}
use Rattle.history.specs.Setup.{Setup}
use Rattle.shared_disk.specs.Pens.{PenEnd}
use Rattle.shared_disk.specs.Holding.{Logs}
use Rattle.shared_disk.proofs.HoldLemmas.{IsBehindLock, logs-grow}
use Rattle.shared_disk.specs.Lines.{with_line_entry}
use Rattle.shared_disk.specs.Script.{Script}
use Rattle.shared_disk.specs.Desk.{DeskState, Keeps}
use Rattle.shared_disk.specs.Seats.{BesideLines, submit_count, refusal_entries, collect_count, cancel_count}
use Rattle.shared_disk.specs.Inside.{AreBooksOf, AreBooksSound, AreSame, IsRoomy, ChangesCourse, AddsToken, DoesOn, desk_state}
use Rattle.shared_disk.proofs.DoneLemmas.{roomy-sound, roomy-same, does-accept, does-refuse, does-nothing, does-entry}
use Rattle.shared_disk.proofs.LineLemmas.{opening-same}

beside-does : (old new : State) (b b' : Books) (e : Option Entry) (token : Option Token) (Says : State → State → Type 0) → AreBooksOf old b → DoesOn old b new b' e token → Says old new → BesideLines (desk_state old b) (desk_state new b') Says
unfolding desk_state
beside-does old new b b' e token Says sound does says = record {
  says = says;
  script = rw (does.entries, does.opened, does.clients, opening-same b.opened old.entries e sound.opened) refl;
  places = does.places;
  given = does.given;
}

beside-same : (old new : State) (b b' : Books) (Says : State → State → Type 0) → AreSame b b' → new ≡ old → Says old new → BesideLines (desk_state old b) (desk_state new b') Says
unfolding desk_state
beside-same old new b b' Says same still says = record {
  says = says;
  script = rw (still, same.opened, same.clients) refl;
  places = same.places;
  given = λ t. rw same.given refl;
}

-- the desk after a call of the disk beside the lines
pub record CallsBeside (old : State) (b : Books) (new : State) (b' : Books) (Says : State → State → Type 0) : Type 0 where
  pub beside : BesideLines (desk_state old b) (desk_state new b') Says
  pub sound : AreBooksOf new b'

by-does : (old new : State) (b b' : Books) (e : Option Entry) (token : Option Token) (Says : State → State → Type 0) → AreBooksOf old b → DoesOn old b new b' e token → Says old new → CallsBeside old b new b' Says
by-does old new b b' e token Says sound does says = record { beside = beside-does old new b b' e token Says sound does says; sound = does.sound }

by-same : (old new : State) (b b' : Books) (place : ℕ) (Says : State → State → Type 0) → AreBooksOf old b → ChangesCourse b place IsRoomy b' → new ≡ old → Says old new → CallsBeside old b new b' Says
by-same old new b b' place Says sound change still says = record {
  beside = beside-same old new b b' Says (roomy-same b b' place change) still says;
  sound = subst (λ (s : State). AreBooksSound s.setup s.entries b') (sym still) (roomy-sound old.setup old.entries b b' place sound change);
}

module _ (old new : State) (b roomy : Books) (place tag : ℕ) (view : View) (media_id : ℕ) (ask : Ask) (tagged : tag ≡ place + 1) (sound : AreBooksOf old b) (change : ChangesCourse b place IsRoomy roomy) where
  abbrev pub SaysOf : Result Token Refused → State → State → Type 0
  SaysOf result a c = SubmitSays a tag view media_id ask result c

  pub accepted-beside : (b' : Books) (token : Token) → SubmitSays old tag view media_id ask (Ok token) new → AddsToken roomy place tag token.number b' → CallsBeside old b new b' (SaysOf (Ok token))
  unfolding SubmitSays
  accepted-beside b' token says adds = by-does old new b b' _ (Some token) (SaysOf (Ok token)) sound
      (does-accept old new b roomy b' place tag view media_id (asked_of ask) (bytes_of ask) (buffer_of ask) token tagged sound change says (submit_goes_on old new tag view media_id ask (Ok token) says) adds) says

  pub refused-beside : (refused : Refused) → SubmitSays old tag view media_id ask (Err refused) new → CallsBeside old b new roomy (SaysOf (Err refused))
  unfolding SubmitSays
  refused-beside refused says = by refused.why says
    where
      goes : GoesOn old new
      goes = submit_goes_on old new tag view media_id ask (Err refused) says

      by : (w : Why) → RefusesFor old tag view media_id (asked_of ask) (buffer_of ask) w refused.buffer.items new → CallsBeside old b new roomy (SaysOf (Err refused))
      by (why.Status status) refuses = by-does old new b roomy _ None (SaysOf (Err refused)) sound
          (does-refuse old new b roomy place tag view media_id (asked_of ask) (bytes_of ask) (buffer_of ask) refused.buffer.items status sound change refuses goes) says
      by why.Memory forgets = by-same old new b roomy place (SaysOf (Err refused)) sound change forgets.same says

-- no memory was left for the books
pub wanted-beside : (old : State) (b roomy : Books) (place tag : ℕ) (view : View) (media_id : ℕ) (ask : Ask) (refused : Refused) → AreBooksOf old b → ChangesCourse b place IsRoomy roomy → refused.why ≡ why.Memory → refused.buffer.items ≡ buffer_of ask
    → CallsBeside old b old roomy (λ a c. SubmitSays a tag view media_id ask (Err refused) c)
unfolding SubmitSays
wanted-beside old b roomy place tag view media_id ask refused sound change memory back = by-same old old b roomy place (λ a c. SubmitSays a tag view media_id ask (Err refused) c) sound change refl (rw memory (record { same = refl; handed_back = back }))

pub cancelled-beside : (old new : State) (b : Books) (tag : ℕ) (view : View) (count : ℕ) → AreBooksOf old b → EndSays old (Cancel tag view) count new → CallsBeside old b new b (λ a c. EndSays a (Cancel tag view) count c)
unfolding EndSays
cancelled-beside old new b tag view zero sound says = by-does old new b b None None (λ a c. EndSays a (Cancel tag view) zero c) sound (does-nothing old new b sound says.1 (end_goes_on old new (Cancel tag view) zero says)) says
cancelled-beside old new b tag view (suc n) sound says = by-does old new b b (Some (Cancel tag view)) None (λ a c. EndSays a (Cancel tag view) (suc n) c) sound
    (does-entry old new b (Cancel tag view) sound refl (λ t. refl) refl says.setup says.entries says.legal says.devices says.gates (end_goes_on old new (Cancel tag view) (suc n) says)) says

pub uncollected-beside : (old new : State) (b : Books) (tag number : ℕ) (fault : NotThere) → AreBooksOf old b → CollectSays old tag number (Err fault) new → CallsBeside old b new b (λ a c. CollectSays a tag number (Err fault) c)
unfolding CollectSays
uncollected-beside old new b tag number not_there.Outstanding sound says = record {
  beside = beside-same old new b b (λ a c. CollectSays a tag number (Err not_there.Outstanding) c) (record { opened = refl; clients = refl; places = refl; given = refl }) says.2 says;
  sound = subst (λ (s : State). AreBooksSound s.setup s.entries b) (sym says.2) sound;
}
uncollected-beside old new b tag number not_there.Unknown sound says = record {
  beside = beside-same old new b b (λ a c. CollectSays a tag number (Err not_there.Unknown) c) (record { opened = refl; clients = refl; places = refl; given = refl }) says.1 says;
  sound = subst (λ (s : State). AreBooksSound s.setup s.entries b) (sym says.1) sound;
}

-- so many entries more, at most one
pub record AddsSome (H : List Entry) (n : ℕ) (H' : List Entry) : Type 0 where
  pub entry : Option Entry
  pub history : H' ≡ with_line_entry entry H
  pub count : length H' ≡ length H + n

adds-none : (H H' : List Entry) → H' ≡ H → AddsSome H 0 H'
adds-none H H' same = record { entry = None; history = same; count = rw same (omega arith) }

adds-one : (H H' : List Entry) (e : Entry) → H' ≡ e ∷ H → AddsSome H 1 H'
adds-one H H' e more = record { entry = Some e; history = more; count = rw more (omega arith) }

pub submit-adds : (old new : State) (tag : ℕ) (view : View) (media_id : ℕ) (ask : Ask) (result : Result Token Refused) → SubmitSays old tag view media_id ask result new → AddsSome old.entries (submit_count result) new.entries
unfolding SubmitSays
submit-adds old new tag view media_id ask (Ok token) says = adds-one old.entries new.entries (Accept tag view (asked_of ask) (bytes_of ask)) (ap (λ (s : State). s.entries) says.new_is)
submit-adds old new tag view media_id ask (Err refused) says = by refused.why says
  where
    by : (w : Why) → RefusesFor old tag view media_id (asked_of ask) (buffer_of ask) w refused.buffer.items new → AddsSome old.entries (refusal_entries w) new.entries
    by (why.Status status) refuses = adds-one old.entries new.entries (Refuse tag view (asked_of ask) media_id status) (ap (λ (s : State). s.entries) refuses.new_is)
    by why.Memory forgets = adds-none old.entries new.entries (ap (λ (s : State). s.entries) forgets.same)

pub collect-adds : (old new : State) (tag number : ℕ) (result : Result Done NotThere) → CollectSays old tag number result new → AddsSome old.entries (collect_count result) new.entries
unfolding CollectSays
collect-adds old new tag number (Ok done) says = adds-one old.entries new.entries (Collect tag number) (ap (λ (s : State). s.entries) says.2.new_is)
collect-adds old new tag number (Err not_there.Outstanding) says = adds-none old.entries new.entries (ap (λ (s : State). s.entries) says.2)
collect-adds old new tag number (Err not_there.Unknown) says = adds-none old.entries new.entries (ap (λ (s : State). s.entries) says.1)

pub cancel-adds : (old new : State) (tag : ℕ) (view : View) (count : ℕ) → EndSays old (Cancel tag view) count new → AddsSome old.entries (cancel_count count) new.entries
unfolding EndSays
cancel-adds old new tag view zero says = adds-none old.entries new.entries (ap (λ (s : State). s.entries) says.1)
cancel-adds old new tag view (suc n) says = adds-one old.entries new.entries (Cancel tag view) says.entries

-- a call that adds none lets the desk keep its script
pub beside-keeps : (old new : DeskState) (Says : State → State → Type 0) → BesideLines old new Says → new.disk.setup ≡ old.disk.setup → new.disk.entries ≡ old.disk.entries → Keeps old → Keeps new
beside-keeps old new Says beside setup entries keeps = record {
  script = rw (setup, entries, beside.script, beside.places) keeps.script;
  buffers = λ t later was. subst IsSome (sym (beside.given t)) (keeps.buffers t (subst (λ (d : Script). token_count d.opening ≤ t) beside.script later) (subst (λ H. was_collected H t ≡ true) entries was));
}

no-more : (H H' : List Entry) (e : Option Entry) → H' ≡ with_line_entry e H → length H' ≡ length H + 0 → H' ≡ H
no-more H H' None is long = is
no-more H H' (Some x) is long = absurd (let more : length H' ≡ length H + 1 = rw is (omega arith) in omega (arith, more, long))

-- what holds behind the lock after a call that was counted; a note was renewed before it and after it
pub counts-behind : (T : TableId) (S : Setup) (d : Script) (sum sum' parts amount : ℕ) (desk desk' : DeskState) (p q r t : PenEnd) (count n : ℕ) (Says : State → State → Type 0) → IsBehindLock T S d sum parts amount desk p count
    → q ≡ p → Logs desk q.log None desk' r.log → r.table ≡ q.table → t ≡ r → BesideLines desk desk' Says → length desk'.disk.entries ≡ length desk.disk.entries + n → sum' ≡ sum + n → IsBehindLock T S d sum' parts amount desk' t (count + n)
counts-behind T S d sum sum' parts amount desk desk' p q r t count n Says behind same logs table again beside long added =
    let logs_p : Logs desk p.log None desk' r.log = subst (λ (x : PenEnd). Logs desk x.log None desk' r.log) same logs in
    let logs_t : Logs desk p.log None desk' t.log = subst (λ (x : PenEnd). Logs desk p.log None desk' x.log) (sym again) logs_p in
    let grows = logs-grow desk desk' p.log None t.log behind.1.is_log logs_t in
    let total = behind.2.total in
    let few = behind.2.few in (
      ap (λ (x : PenEnd). x.table) again ∙ (table ∙ (ap (λ (x : PenEnd). x.table) same ∙ behind.0)),
      record {
        setup = logs_t.setup ∙ behind.1.setup;
        script = logs_t.script ∙ behind.1.script;
        is_log = logs_t.is_log;
        keeps = λ none. beside-keeps desk desk' Says beside logs_t.setup (no-more desk.disk.entries desk'.disk.entries logs_t.entry grows (omega (arith, long, none))) (behind.1.keeps (omega (arith, none)));
      },
      record { total = omega (arith, total, added); one_part = behind.2.one_part; none = behind.2.none; few = omega (arith, few, long) },
    )
