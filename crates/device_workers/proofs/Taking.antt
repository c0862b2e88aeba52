-- A client takes its next line: what the desk's answers are in the schedule.
use Rattle.std.proofs.Common.{◌≡◌, ◌≢◌, ℕ, zero, suc, ◌+◌, ◌<◌, ◌≤◌, ◌⊎◌, inl, inr, Bool, true, false, List, [], ◌∷◌, ◌++◌, length, drop, slice_get, slice_set, Option, None, Some, IsSome, is_some, refl, sym, ◌∙◌, ap, subst, arith, get_or-set_same, get_or-set_other}
use Rattle.std.proofs.lemmas.List.{length-append}
use Rattle.std.proofs.lemmas.Option.{slice_get_within}
use Rattle.efi_status.specs.declared.Status.{Status}
use Rattle.history.specs.declared.entry.Entry.{Entry}
use Rattle.history.specs.declared.entry.Entry.TheVariants as entry
use Rattle.history.specs.declared.order.Order.{Order}
use Rattle.history.specs.declared.order.Order.TheVariants as order
use Rattle.history.specs.Eras.{is_present, media_id_of}
use Rattle.history.specs.Setup.{Setup}
use Rattle.history.specs.Rules.{IsLegal, refusal_of}
use Rattle.history.specs.Room.{owed_entries}
use Rattle.history.specs.Next.{first_open, Outcome}
use Rattle.history_laws.proofs.SpareLemmas.{entries-collect}
use Rattle.disk_core.specs.State.{State}
use Rattle.disk_core.specs.declared.answers.Token.{Token}
use Rattle.disk_core.specs.Turns.{IsIdle}
use Rattle.disk_core.proofs.IdleLemmas.{idle-stays}
use Rattle.shared_disk.specs.declared.clients.Stand.{Stand}
use Rattle.shared_disk.specs.declared.answers.Line.TheVariants as answer
use Rattle.shared_disk.specs.Lines.{Role, view_of, payload_bytes, answer_of, is_view_open, is_insertable, entry_if, line_entry, with_line_entry, first_own_open}
use Rattle.shared_disk.specs.Script.{order_at, next_order, places_at, AreOwnOver, DoesNext}
use Rattle.shared_disk.specs.Desk.{DeskState, done_of, next_of, Keeps, DoesLine, TakesBack, LineSays, wants_memory}
use Rattle.device_workers.specs.Plain.{outcomes_onto, with_own_collects, is_wait}
use Rattle.device_workers.specs.Leading.{TakesBy}
use Rattle.device_workers.specs.Serving.{lefts_from, lefts_of, KeepsScriptAndGates, WantsMemory, TakesLine, Untaken}
use Rattle.device_workers.proofs.Gathering.{own-next, own-over, own-open-collect}
use Rattle.device_workers.proofs.Leading.{takes-none, takes-stay, takes-wait, takes-line}
use Rattle.device_workers.proofs.Lefts.{left_after, lefts-get, lefts-next, drop-at, drop-none}

wait-or-not : (line : Order) → (line ≡ order.Wait) ⊎ (is_wait line ≡ false)
wait-or-not (order.Request asked payload k) = inr refl
wait-or-not order.Wait = inl refl
wait-or-not (order.Cancel k) = inr refl
wait-or-not order.Reset = inr refl
wait-or-not order.Eject = inr refl
wait-or-not order.Insert = inr refl
wait-or-not (order.Protect on) = inr refl

-- a line's entry is no command
quiet : (S : Setup) (H : List Entry) (tag : ℕ) (stand : Stand) (line : Order) (more : List Outcome) → outcomes_onto (with_line_entry (line_entry S H tag stand line) H) more ≡ outcomes_onto H more
unfolding line_entry outcomes_onto
quiet S H tag stand (order.Request asked payload k) more = by (refusal_of S H (view_of S stand k) asked k)
  where
    by : (refusal : Option Status) → outcomes_onto (answer_of tag (view_of S stand k) asked (payload_bytes asked.length payload) k refusal ∷ H) more ≡ outcomes_onto H more
    by None = refl
    by (Some status) = refl
quiet S H tag stand order.Wait more = refl
quiet S H tag stand (order.Cancel k) more = by (is_view_open S H (view_of S stand k))
  where
    by : (b : Bool) → outcomes_onto (with_line_entry (entry_if b (entry.Cancel tag (view_of S stand k))) H) more ≡ outcomes_onto H more
    by true = refl
    by false = refl
quiet S H tag stand order.Reset more = by (first_open S H)
  where
    by : (o : Option ℕ) → outcomes_onto (with_line_entry (entry_if (is_some o) (entry.Reset tag)) H) more ≡ outcomes_onto H more
    by None = refl
    by (Some t) = refl
quiet S H tag stand order.Eject more = by (is_present H)
  where
    by : (b : Bool) → outcomes_onto (with_line_entry (entry_if b (entry.Eject tag)) H) more ≡ outcomes_onto H more
    by true = refl
    by false = refl
quiet S H tag stand order.Insert more = by (is_insertable S H)
  where
    by : (b : Bool) → outcomes_onto (with_line_entry (entry_if b (entry.Insert tag (media_id_of H + 1))) H) more ≡ outcomes_onto H more
    by true = refl
    by false = refl
quiet S H tag stand (order.Protect on) more = refl

entry-none : (S : Setup) (H : List Entry) (tag : ℕ) (stand : Stand) → line_entry S H tag stand order.Wait ≡ None
unfolding line_entry
entry-none S H tag stand = refl

-- a client's next line is one of its role's
next-role : (roles : List Role) (i n : ℕ) (line : Order) → next_order roles i n ≡ Some line → (role : Role) × (slice_get roles i ≡ Some role) × (slice_get role.orders n ≡ Some line)
next-role roles i n line next = by (slice_get roles i) refl next
  where
    by : (o : Option Role) → slice_get roles i ≡ o → order_at o n ≡ Some line → (role : Role) × (slice_get roles i ≡ Some role) × (slice_get role.orders n ≡ Some line)
    by None there at = cc
    by (Some role) there at = (role, there, at)

-- the client waits, and none of its tokens was or is outstanding
pub record IsWaiting (S : Setup) (old : DeskState) (i : ℕ) (H : List Entry) : Type 0 where
  pub next : next_of old i ≡ Some order.Wait
  pub before : first_own_open S old.disk.entries (i + 1) ≡ None
  pub now : first_own_open S H (i + 1) ≡ None

-- client i has done nothing, or handed back some of its tokens at a wait
pub record CollectsBack (old : DeskState) (i : ℕ) (new : DeskState) : Type 0 where
  pub stays : KeepsScriptAndGates old new
  pub places : new.places ≡ old.places
  pub own : with_own_collects new.disk.entries (i + 1) ≡ with_own_collects old.disk.entries (i + 1)
  pub began : (new.disk.entries ≡ old.disk.entries) ⊎ IsWaiting old.disk.setup old i new.disk.entries

pub taking-none : (old : DeskState) (i : ℕ) → CollectsBack old i old
taking-none old i = record {
  stays = record { disk = record { setup = refl; gates = refl }; script = refl };
  places = refl;
  own = refl;
  began = inl refl;
}

pub stays-on : (old mid new : DeskState) → KeepsScriptAndGates old mid → KeepsScriptAndGates mid new → KeepsScriptAndGates old new
stays-on old mid new first more = record {
  disk = record { setup = more.disk.setup ∙ first.disk.setup; gates = more.disk.gates ∙ first.disk.gates };
  script = more.script ∙ first.script;
}

-- a token was handed back
pub takes-stays : (mid new : DeskState) (tag t : ℕ) → TakesBack mid tag t new → KeepsScriptAndGates mid new
takes-stays mid new tag t takes = record {
  disk = record { setup = ap (λ (s : State). s.setup) takes.collects.new_is; gates = ap (λ (s : State). s.gates) takes.collects.new_is };
  script = takes.script;
}

pub takes-entries : (mid new : DeskState) (tag t : ℕ) → TakesBack mid tag t new → new.disk.entries ≡ entry.Collect tag t ∷ mid.disk.entries
takes-entries mid new tag t takes = ap (λ (s : State). s.entries) takes.collects.new_is

-- so less is owed
pub takes-owed : (mid new : DeskState) (tag t : ℕ) → TakesBack mid tag t new → owed_entries new.disk.setup new.disk.entries + 1 ≤ owed_entries mid.disk.setup mid.disk.entries
unfolding IsLegal
takes-owed mid new tag t takes =
    let setup : new.disk.setup ≡ mid.disk.setup = ap (λ (s : State). s.setup) takes.collects.new_is in
    let entries : new.disk.entries ≡ entry.Collect tag t ∷ mid.disk.entries = takes-entries mid new tag t takes in
    let legal : IsLegal mid.disk.setup (entry.Collect tag t ∷ mid.disk.entries) = subst (λ S. IsLegal S (entry.Collect tag t ∷ mid.disk.entries)) setup (subst (λ H. IsLegal new.disk.setup H) entries takes.collects.legal) in
    rw (setup, entries) (entries-collect mid.disk.setup mid.disk.entries tag t legal.0 legal.1)

-- one more of the client's tokens was handed back
pub taking-more : (old mid new : DeskState) (i t : ℕ) → CollectsBack old i mid → LineSays mid i (answer.Collected t) new → CollectsBack old i new
unfolding LineSays
taking-more old mid new i t taking (at, takes) =
    let entries : new.disk.entries ≡ entry.Collect (i + 1) t ∷ mid.disk.entries = takes-entries mid new (i + 1) t takes in
    let ended : first_own_open old.disk.setup mid.disk.entries (i + 1) ≡ None = rw taking.stays.disk.setup at at.ended in
    record {
      stays = stays-on old mid new taking.stays (takes-stays mid new (i + 1) t takes);
      places = takes.places ∙ taking.places;
      own = rw entries (own-next mid.disk.entries (i + 1) t at.least) ∙ taking.own;
      began = inr (record {
        next = rw (taking.stays.script, taking.places) at at.next;
        before = before ended taking.began;
        now = rw entries (own-open-collect old.disk.setup mid.disk.entries (i + 1) t (i + 1) ∙ ended);
      });
    }
  where
    before : first_own_open old.disk.setup mid.disk.entries (i + 1) ≡ None → (mid.disk.entries ≡ old.disk.entries) ⊎ IsWaiting old.disk.setup old i mid.disk.entries → first_own_open old.disk.setup old.disk.entries (i + 1) ≡ None
    before ended (inl same) = rw same at ended
    before ended (inr waiting) = waiting.before

-- the same lines are left
pub same-lefts : (old new : DeskState) → new.script ≡ old.script → new.places ≡ old.places → lefts_of new ≡ lefts_of old
same-lefts old new script places = rw (script, places) refl

-- what a client has left
lefts-here : (old : DeskState) (i : ℕ) (role : Role) → slice_get old.script.roles i ≡ Some role → slice_get (lefts_of old) i ≡ Some (left_after (done_of old i) role)
lefts-here old i role there = let e : 0 + i ≡ i = omega arith in rw e at (lefts-get (done_of old) 0 old.script.roles i role there)

get-there : {X : Type 0} (xs : List X) (i : ℕ) → i < length xs → slice_get xs i ≡ None → ⊥
get-there [] i less out = absurd (omega arith)
get-there (x ∷ xs) zero less out = cc
get-there (x ∷ xs) (suc i) less out = get-there xs i (omega (arith, less)) out

-- no line is left
pub taken-ended : (old mid new : DeskState) (i : ℕ) → i < length old.script.roles → CollectsBack old i mid → LineSays mid i answer.Ended new → KeepsScriptAndGates old new × TakesLine old i new
unfolding LineSays
taken-ended old mid new i there taking (next, same) = (rw same taking.stays, by taking.began)
  where
    none : next_of old i ≡ None
    none = rw (taking.stays.script, taking.places) at next

    lefts : lefts_of new ≡ lefts_of old
    lefts = same-lefts old new (ap (λ (d : DeskState). d.script) same ∙ taking.stays.script) (ap (λ (d : DeskState). d.places) same ∙ taking.places)

    role : (o : Option Role) → slice_get old.script.roles i ≡ o → order_at o (done_of old i) ≡ None → TakesBy old.disk.setup i old.disk.entries (lefts_of old) old.disk.entries (lefts_of old)
    role None out at = absurd (get-there old.script.roles i there out)
    role (Some r) in_ at = takes-none old.disk.setup i old.disk.entries (lefts_of old) (left_after (done_of old i) r) (lefts-here old i r in_) (drop-none r.orders (done_of old i) at)

    by : (mid.disk.entries ≡ old.disk.entries) ⊎ IsWaiting old.disk.setup old i mid.disk.entries → TakesLine old i new
    by (inl entries) = rw (lefts, ap (λ (d : DeskState). d.disk.entries) same ∙ entries) (role (slice_get old.script.roles i) refl none)
    by (inr waiting) = let no_way : Some order.Wait ≡ None = sym waiting.next ∙ none in cc

some-none : (o : Option ℕ) → o ≡ None → IsSome o → ⊥
some-none None none is = cc
some-none (Some t) none is = cc

-- a wait, and a token of the client is outstanding
pub taken-stay : (old mid new : DeskState) (i : ℕ) → CollectsBack old i mid → LineSays mid i answer.NotYet new → KeepsScriptAndGates old new × TakesLine old i new
unfolding LineSays
taken-stay old mid new i taking (next, open_, same) = (rw same taking.stays, by taking.began)
  where
    waits : next_of old i ≡ Some order.Wait
    waits = rw (taking.stays.script, taking.places) at next

    opened : IsSome (first_own_open old.disk.setup mid.disk.entries (i + 1))
    opened = rw taking.stays.disk.setup at open_

    lefts : lefts_of new ≡ lefts_of old
    lefts = same-lefts old new (ap (λ (d : DeskState). d.script) same ∙ taking.stays.script) (ap (λ (d : DeskState). d.places) same ∙ taking.places)

    role : (o : Option ℕ) → first_own_open old.disk.setup old.disk.entries (i + 1) ≡ o → IsSome o → (r : Role) × (slice_get old.script.roles i ≡ Some r) × (slice_get r.orders (done_of old i) ≡ Some order.Wait)
        → TakesBy old.disk.setup i old.disk.entries (lefts_of old) old.disk.entries (lefts_of old)
    role None is there at = cc
    role (Some t) is there (r, client, line) =
        takes-stay old.disk.setup i old.disk.entries (lefts_of old) (left_after (done_of old i) r) order.Wait (drop (done_of old i + 1) r.orders) t (lefts-here old i r client) (drop-at r.orders (done_of old i) order.Wait line) refl is

    by : (mid.disk.entries ≡ old.disk.entries) ⊎ IsWaiting old.disk.setup old i mid.disk.entries → TakesLine old i new
    by (inl entries) =
        rw (lefts, ap (λ (d : DeskState). d.disk.entries) same ∙ entries)
        (role (first_own_open old.disk.setup old.disk.entries (i + 1)) refl (rw entries at opened) (next-role old.script.roles i (done_of old i) order.Wait waits))
    by (inr waiting) = absurd (some-none (first_own_open old.disk.setup mid.disk.entries (i + 1)) waiting.now opened)

-- want of memory
pub wants : (mid new : DeskState) (i : ℕ) → LineSays mid i answer.Memory new → KeepsScriptAndGates mid new × WantsMemory new
unfolding LineSays
wants mid new i (line, next, wanting, same) = (rw same (stays-same mid), (i, line, rw same next, wanting))
  where
    stays-same : (d : DeskState) → KeepsScriptAndGates d d
    stays-same d = record { disk = record { setup = refl; gates = refl }; script = refl }

same-line : (one other : Order) → Some one ≡ Some other → one ≡ other
same-line one other is = cc

-- the line is then still to be done, and nothing was handed back
wanting-wait : (line : Order) → line ≡ order.Wait → wants_memory line ≡ true → ⊥
wanting-wait line is wanting = let no_way : wants_memory order.Wait ≡ true = rw is at wanting in cc

pub untaken : (old mid new : DeskState) (i : ℕ) → CollectsBack old i mid → LineSays mid i answer.Memory new → Untaken old new
unfolding LineSays
untaken old mid new i taking (line, next, wanting, same) = by taking.began
  where
    here : next_of old i ≡ Some line
    here = rw (taking.stays.script, taking.places) at next

    by : (mid.disk.entries ≡ old.disk.entries) ⊎ IsWaiting old.disk.setup old i mid.disk.entries → Untaken old new
    by (inl entries) = record { entries = ap (λ (d : DeskState). d.disk.entries) same ∙ entries; places = ap (λ (d : DeskState). d.places) same ∙ taking.places }
    by (inr waiting) = absurd (wanting-wait line (same-line line order.Wait (sym here ∙ waiting.next)) wanting)

-- the places after a line was done
placed-here : (places : List (List ℕ)) (i n : ℕ) → i < length places → length (places_at (slice_set places i (places_at places i ++ n ∷ [])) i) ≡ length (places_at places i) + 1
placed-here places i n there = ap length (get_or-set_same places i (places_at places i ++ n ∷ []) [] there) ∙ length-append (places_at places i) (n ∷ [])

placed-other : (places : List (List ℕ)) (i n k : ℕ) → k ≢ i → length (places_at (slice_set places i (places_at places i ++ n ∷ [])) k) ≡ length (places_at places k)
placed-other places i n k other = ap length (get_or-set_other places i k (places_at places i ++ n ∷ []) [] other)

-- a client has one line less
next-lefts : (old mid new : DeskState) (i : ℕ) (role : Role) (line : Order) (place : ℕ) → KeepsScriptAndGates old mid → mid.places ≡ old.places → i < length mid.places → new.script ≡ mid.script
    → new.places ≡ slice_set mid.places i (places_at mid.places i ++ place ∷ []) → slice_get old.script.roles i ≡ Some role
    → lefts_of new ≡ slice_set (lefts_of old) i (left_after (done_of old i + 1) role)
next-lefts old mid new i role line place stays places there script placed client =
    let e : 0 + i ≡ i = omega arith in
    let here : done_of new i ≡ done_of old i + 1 = ap (λ ps. length (places_at ps i)) placed ∙ (placed-here mid.places i place there ∙ ap (λ ps. length (places_at ps i) + 1) places) in
    let others : (k : ℕ) → k ≢ 0 + i → done_of new k ≡ done_of old k = λ k other. ap (λ ps. length (places_at ps k)) placed ∙ (placed-other mid.places i place k (λ is. other (is ∙ sym e)) ∙ ap (λ ps. length (places_at ps k)) places) in
    let roles : lefts_of new ≡ lefts_from (done_of new) 0 old.script.roles = ap (λ d. lefts_from (done_of new) 0 d.roles) (script ∙ stays.script) in
    roles ∙ (lefts-next (done_of old) (done_of new) 0 old.script.roles i role client others ∙ ap (λ n. slice_set (lefts_of old) i (left_after n role)) (ap (done_of new) e ∙ here))

some-line : (role : Role) (n : ℕ) (line other : Order) → slice_get role.orders n ≡ Some line → slice_get role.orders n ≡ Some other → line ≡ other
some-line role n line other is is' = by (sym is ∙ is')
  where
    by : Some line ≡ Some other → line ≡ other
    by same = cc

-- the same over equal entries and lines
moved-to : (S : Setup) (i : ℕ) (H : List Entry) (lefts : List Role) (G : List Entry) (between : List Role) (H' : List Entry) (lefts' : List Role) → H' ≡ G → lefts' ≡ between → TakesBy S i H lefts G between → TakesBy S i H lefts H' lefts'
moved-to S i H lefts G between H' lefts' same same' takes = rw (same, same') takes

-- the line was done
module _ (old mid new : DeskState) (i : ℕ) (taking : CollectsBack old i mid) (keeps : Keeps mid) (token : Option Token) (e : Option Entry) (does : DoesLine mid i token new e) where
  -- what it does, over the desk at the beginning
  next : DoesNext old.disk.setup old.script.roles mid.disk.entries i (done_of old i) e
  next = rw (taking.stays.disk.setup, taking.stays.script, taking.places) at does.does

  lefts : lefts_of new ≡ slice_set (lefts_of old) i (left_after (done_of old i + 1) next.role)
  lefts =
      let within : i < length old.script.roles = slice_get_within old.script.roles i next.role next.client in
      let count : length mid.places ≡ length old.script.roles = keeps.script.count ∙ ap (λ d. length d.roles) taking.stays.script in
      next-lefts old mid new i next.role next.order (length mid.disk.entries) taking.stays taking.places (omega (arith, within, count)) does.script does.places next.client

  there : slice_get (lefts_of old) i ≡ Some (left_after (done_of old i) next.role)
  there = lefts-here old i next.role next.client

  rest : drop (done_of old i) next.role.orders ≡ next.order ∷ drop (done_of old i + 1) next.role.orders
  rest = drop-at next.role.orders (done_of old i) next.order next.next

  -- a wait
  did-wait : next.order ≡ order.Wait → TakesLine old i new
  did-wait is =
      let over : AreOwnOver old.disk.setup mid.disk.entries (i + 1) = rw is at next.may in
      let none : e ≡ None = next.entry ∙ wait-entry next.role.stand next.order is in
      let entries : new.disk.entries ≡ with_own_collects old.disk.entries (i + 1) = does.entries ∙ (ap (λ o. with_line_entry o mid.disk.entries) none ∙ (sym (own-over mid.disk.entries (i + 1) over.collected) ∙ taking.own)) in
      let ended : first_own_open old.disk.setup old.disk.entries (i + 1) ≡ None = before over.ended taking.began in
      moved-to old.disk.setup i old.disk.entries (lefts_of old) (with_own_collects old.disk.entries (i + 1)) (slice_set (lefts_of old) i (left_after (done_of old i + 1) next.role)) new.disk.entries (lefts_of new) entries lefts
      (takes-wait old.disk.setup i old.disk.entries (lefts_of old) (left_after (done_of old i) next.role) next.order (drop (done_of old i + 1) next.role.orders) there rest (ap is_wait is) ended)
    where
      wait-entry : (stand : Stand) (line : Order) → line ≡ order.Wait → line_entry old.disk.setup mid.disk.entries (i + 1) stand line ≡ None
      wait-entry stand line same = rw same (entry-none old.disk.setup mid.disk.entries (i + 1) stand)

      before : first_own_open old.disk.setup mid.disk.entries (i + 1) ≡ None → (mid.disk.entries ≡ old.disk.entries) ⊎ IsWaiting old.disk.setup old i mid.disk.entries → first_own_open old.disk.setup old.disk.entries (i + 1) ≡ None
      before ended (inl same) = subst (λ H. first_own_open old.disk.setup H (i + 1) ≡ None) same ended
      before ended (inr waiting) = waiting.before

  -- another line
  did-other : is_wait next.order ≡ false → TakesLine old i new
  did-other other = by taking.began
    where
      by : (mid.disk.entries ≡ old.disk.entries) ⊎ IsWaiting old.disk.setup old i mid.disk.entries → TakesLine old i new
      by (inl same) =
          let made : e ≡ line_entry old.disk.setup old.disk.entries (i + 1) next.role.stand next.order = subst (λ H. e ≡ line_entry old.disk.setup H (i + 1) next.role.stand next.order) same next.entry in
          let entries : new.disk.entries ≡ with_line_entry (line_entry old.disk.setup old.disk.entries (i + 1) next.role.stand next.order) old.disk.entries = does.entries ∙ (ap (with_line_entry e) same ∙ ap (λ o. with_line_entry o old.disk.entries) made) in
          moved-to old.disk.setup i old.disk.entries (lefts_of old) (with_line_entry (line_entry old.disk.setup old.disk.entries (i + 1) next.role.stand next.order) old.disk.entries) (slice_set (lefts_of old) i (left_after (done_of old i + 1) next.role)) new.disk.entries (lefts_of new) entries lefts
          (takes-line old.disk.setup i old.disk.entries (lefts_of old) (left_after (done_of old i) next.role) next.order (drop (done_of old i + 1) next.role.orders) there rest other
          (quiet old.disk.setup old.disk.entries (i + 1) next.role.stand next.order))
      by (inr waiting) =
          let at : slice_get next.role.orders (done_of old i) ≡ Some order.Wait = rw next.client at waiting.next in
          let is : next.order ≡ order.Wait = some-line next.role (done_of old i) next.order order.Wait next.next at in
          let wait : is_wait next.order ≡ true = ap is_wait is in
          cc

  taken-did-line : TakesLine old i new
  taken-did-line = elim (wait-or-not next.order) [ inl is ↦ did-wait is | inr other ↦ did-other other ]

  taken-did-stays : IsIdle mid.disk.gates → KeepsScriptAndGates old new
  taken-did-stays idle = stays-on old mid new taking.stays (record {
    disk = record { setup = does.goes_on.setup; gates = idle-stays mid.disk.gates new.disk.gates idle does.gates };
    script = does.script;
  })

pub taken-did : (old mid new : DeskState) (i : ℕ) (token : Option Token) → IsIdle old.disk.gates → CollectsBack old i mid → Keeps mid → LineSays mid i (answer.Did token) new → KeepsScriptAndGates old new × TakesLine old i new
unfolding LineSays
taken-did old mid new i token idle taking keeps (e, does) =
    (taken-did-stays old mid new i taking keeps token e does (rw taking.stays.disk.gates idle), taken-did-line old mid new i taking keeps token e does)

pub collected-owed : (mid new : DeskState) (i t : ℕ) → LineSays mid i (answer.Collected t) new → owed_entries new.disk.setup new.disk.entries + 1 ≤ owed_entries mid.disk.setup mid.disk.entries
unfolding LineSays
collected-owed mid new i t (at, takes) = takes-owed mid new (i + 1) t takes
