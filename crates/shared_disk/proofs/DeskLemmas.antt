-- The desk keeps its script.
use Rattle.std.proofs.Common.{◌≡◌, ◌≢◌, ◌∙◌, ℕ, zero, suc, ◌+◌, ◌≤◌, ◌⊎◌, inl, inr, Bool, true, false, List, [], ◌∷◌, length, map, slice_get, Option, None, Some, Ok, Err, IsSome, IfSome, is_some, Result, refl, sym, ap, subst}
use Rattle.std.proofs.lemmas.Bool.{cases_eq}
use Rattle.std.proofs.lemmas.List.{length-map}
use Rattle.efi_status.specs.declared.Status.{Status}
use Rattle.history.specs.declared.entry.Command.{Command}
use Rattle.history.specs.declared.entry.Entry.{Entry}
use Rattle.history.specs.declared.entry.Entry.TheVariants.{Collect, Cancel, Reset, Eject, Insert, Protect}
use Rattle.history.specs.declared.order.Order.{Order}
use Rattle.history.specs.declared.order.Order.TheVariants as order
use Rattle.history.specs.declared.entry.View.{View}
use Rattle.history.specs.declared.entry.Asked.{Asked}
use Rattle.history.specs.Eras.{media_id_of}
use Rattle.history.specs.Setup.{Setup}
use Rattle.disk_core.specs.declared.answers.Token.{Token}
use Rattle.history.specs.Marks.{mark_of}
use Rattle.history.specs.Tokens.{Request, token_count, is_accept, is_collect_of, was_collected}
use Rattle.history.specs.Next.{Outcome, Made, Failed, entry_of}
use Rattle.history.specs.Rules.{MayFollow, IsLegal}
use Rattle.history_laws.proofs.EndLemmas.{unaccepted, untold-collected}
use Rattle.history_laws.proofs.QuietLemmas.{other-collect}
use Rattle.history_laws.proofs.TokenLemmas.{collected-same}
use Rattle.block_gate.specs.Works.{Lent}
use Rattle.disk_core.specs.declared.answers.Step.{Step}
use Rattle.disk_core.specs.declared.answers.Step.TheVariants as step
use Rattle.disk_core.specs.declared.answers.Stored.{Stored}
use Rattle.disk_core.specs.declared.answers.Stored.TheVariants as stored
use Rattle.disk_core.specs.declared.answers.HeldStored.{HeldStored}
use Rattle.disk_core.specs.declared.answers.HeldStored.TheVariants as held_stored
use Rattle.disk_core.specs.State.{State}
use Rattle.disk_core.specs.Calls.{Makes, StepSays, StoreSays, HeldStoreSays, RefitSays}
use Rattle.shared_disk.specs.declared.answers.Line.{Line}
use Rattle.shared_disk.specs.declared.answers.Line.TheVariants as line
use Rattle.shared_disk.specs.declared.books.Books.{Books}
use Rattle.shared_disk.specs.declared.books.Buffer.{Buffer}
use Rattle.shared_disk.specs.declared.books.Buffer.TheVariants.{Awaited, Kept, Gone}
use Rattle.shared_disk.specs.declared.books.Slot.{Slot}
use Rattle.shared_disk.specs.declared.clients.Stand.{Stand}
use Rattle.shared_disk.specs.Lines.{Role, role_of, line_entry, answer_of, entry_if, with_line_entry, view_of}
use Rattle.shared_disk.specs.Script.{Script, IsOpening, MayComeNext, KeepsScript, places_at}
use Rattle.shared_disk.specs.Desk.{DeskState, AreGivenBack, IsHandedBack, desk_over, given_at, Keeps, DoesLine, TakesBack, OnDisk, LineSays, LastSays}
use Rattle.shared_disk.specs.Inside.{first_entries, buffer_in, end_in, slot_end, end_at, given_in, desk_state, IsBufferOf, IsSlot, AreBooksSound, AreBooksOf}
use Rattle.shared_disk.proofs.KeptLemmas.{keeps-enters, keeps-does, keeps-nothing}
use Rattle.shared_disk.proofs.OpeningLemmas.{later-open}
use Rattle.shared_disk.proofs.SoundLemmas.{first-entries-more, sound-entry}
use Rattle.history_laws.proofs.ClosedLemmas.{legal-last, legal-before, made-open}
use Rattle.shared_disk.proofs.TakingLemmas.{given-at, given-past}

keeps-to : (S S' : Setup) (d d' : Script) (p p' : List (List ℕ)) (H H' : List Entry) → S' ≡ S → d' ≡ d → p' ≡ p → H' ≡ H → KeepsScript S d p H → KeepsScript S' d' p' H'
keeps-to S S' d d' p p' H H' s is at h keeps = rw (s, is, at, h) keeps

-- no line hands a token back
if-no-collect : (t : ℕ) (b : Bool) (e x : Entry) → is_collect_of t e ≡ false → entry_if b e ≡ Some x → is_collect_of t x ≡ false
if-no-collect t true e x no_collect is = let same : e ≡ x = cc in rw (← same) no_collect
if-no-collect t false e x no_collect is = cc

answer-no-collect : (t tag : ℕ) (view : View) (asked : Asked) (bytes : List ℕ) (k : ℕ) (o : Option Status) → is_collect_of t (answer_of tag view asked bytes k o) ≡ false
answer-no-collect t tag view asked bytes k None = refl
answer-no-collect t tag view asked bytes k (Some status) = refl

line-no-collect : (S : Setup) (H : List Entry) (t tag : ℕ) (stand : Stand) (l : Order) (x : Entry) → line_entry S H tag stand l ≡ Some x → is_collect_of t x ≡ false
unfolding line_entry
line-no-collect S H t tag stand (order.Request asked payload k) x is = if-no-collect t true _ x (answer-no-collect t tag _ asked _ k _) is
line-no-collect S H t tag stand order.Wait x is = cc
line-no-collect S H t tag stand (order.Cancel k) x is = if-no-collect t _ (Cancel tag (view_of S stand k)) x refl is
line-no-collect S H t tag stand order.Reset x is = if-no-collect t _ (Reset tag) x refl is
line-no-collect S H t tag stand order.Eject x is = if-no-collect t _ (Eject tag) x refl is
line-no-collect S H t tag stand order.Insert x is = if-no-collect t _ (Insert tag (media_id_of H + 1)) x refl is
line-no-collect S H t tag stand (order.Protect on) x is = if-no-collect t true (Protect tag on) x refl is

does-no-collect : (H : List Entry) (t : ℕ) (e : Option Entry) → ((x : Entry) → e ≡ Some x → is_collect_of t x ≡ false) → was_collected (with_line_entry e H) t ≡ was_collected H t
does-no-collect H t None none = refl
does-no-collect H t (Some x) none = collected-same H x t (none x refl)

-- a line that was done
pub did-keeps : (old new : DeskState) (i : ℕ) (token : Option Token) (e : Option Entry) → DoesLine old i token new e → Keeps old → Keeps new
did-keeps old new i token e does keeps = record {
  script = keeps-to old.disk.setup new.disk.setup old.script new.script _ new.places _ new.disk.entries does.goes_on.setup does.script does.places does.entries (keeps-does old.disk.setup old.script old.places old.disk.entries i e keeps.script does.does);
  buffers = λ t later was.
      let same : was_collected new.disk.entries t ≡ was_collected old.disk.entries t = rw does.entries (does-no-collect old.disk.entries t e (λ x is. line-no-collect old.disk.setup old.disk.entries t (i + 1) does.does.role.stand does.does.order x (sym does.does.entry ∙ is))) in
      subst IsSome (sym (does.given t)) (keeps.buffers t (subst (λ (d : Script). token_count d.opening ≤ t) does.script later) (sym same ∙ was));
}

-- a token that was handed back
pub takes-keeps : (old new : DeskState) (tag t : ℕ) → TakesBack old tag t new → ((done : ℕ → ℕ) → ((i : ℕ) → done i ≡ length (places_at old.places i)) → MayComeNext old.disk.setup old.script old.disk.entries done (Collect tag t)) → Keeps old → Keeps new
takes-keeps old new tag t takes may keeps = record {
  script = keeps-to old.disk.setup new.disk.setup old.script new.script old.places new.places _ new.disk.entries (ap (λ (s : State). s.setup) takes.collects.new_is) takes.script takes.places entries (keeps-enters old.disk.setup old.script old.places old.disk.entries (Collect tag t) keeps.script may);
  buffers = λ u later was. by u (subst (λ (d : Script). token_count d.opening ≤ u) takes.script later) (subst (λ H. was_collected H u ≡ true) entries was) (cases_eq u t);
}
  where
    entries : new.disk.entries ≡ Collect tag t ∷ old.disk.entries
    entries = ap (λ (s : State). s.entries) takes.collects.new_is

    by : (u : ℕ) → token_count old.script.opening ≤ u → was_collected (Collect tag t ∷ old.disk.entries) u ≡ true → (u ≡ t) ⊎ (u ≢ t) → IsSome (given_at new.given u)
    by u later was (inl same) = rw (same, takes.kept) refl
    by u later was (inr other) = subst IsSome (sym (takes.others u other)) (keeps.buffers u later (sym (other-collect old.disk.entries tag t u (λ e. other (sym e))) ∙ was))

pub line-keeps : (old new : DeskState) (i : ℕ) (result : Line) → LineSays old i result new → Keeps old → Keeps new
unfolding LineSays
line-keeps old new i (line.Did token) says keeps = did-keeps old new i token says.0 says.1 keeps
line-keeps old new i (line.Collected t) says keeps = takes-keeps old new (i + 1) t says.1 (λ done is. inl (i, refl, rw (is i) (says.0))) keeps
line-keeps old new i line.NotYet says keeps = subst Keeps (sym says.2) keeps
line-keeps old new i line.Ended says keeps = subst Keeps (sym says.1) keeps
line-keeps old new i line.Memory says keeps = subst Keeps (sym says.3) keeps

pub last-keeps : (old new : DeskState) (result : Option ℕ) → LastSays old result new → Keeps old → Keeps new
unfolding LastSays
last-keeps old new (Some t) says keeps = takes-keeps old new says.0 t says.2 (λ done is. inr (record { over = λ i. rw (is i) (says.1.over i); ended = says.1.ended; least = says.1.least; own = says.1.own })) keeps
last-keeps old new None says keeps = subst Keeps (sym says.1) keeps

-- the disk made one command, or none
abbrev pub Moves : State → State → Type 0
Moves old new = ((new.setup ≡ old.setup) × (new.entries ≡ old.entries)) ⊎ ((t : ℕ) × (c : Command) × (outcome : Outcome) × Makes old t c outcome new)

pub step-moves : (old new : State) (result : Step) → StepSays old result new → Moves old new
unfolding StepSays
step-moves old new (step.Lent w) says = inr (_, _, _, says.2.makes.makes)
step-moves old new step.Did says = inr (_, _, _, says.2.makes.makes)
step-moves old new step.Idle says = inl (ap (λ (s : State). s.setup) says.0, ap (λ (s : State). s.entries) says.0)
step-moves old new step.Drained says = inl (ap (λ (s : State). s.setup) says.0, ap (λ (s : State). s.entries) says.0)

pub store-moves : (old new : State) (w : Lent) (result : Stored) → StoreSays old w result new → Moves old new
unfolding StoreSays
store-moves old new w (stored.Foreign back) says = inl (ap (λ (s : State). s.setup) says.2, ap (λ (s : State). s.entries) says.2)
store-moves old new w stored.Stale says = inl (ap (λ (s : State). s.setup) says.2, ap (λ (s : State). s.entries) says.2)
store-moves old new w (stored.Strange back place expected found) says = inl (ap (λ (s : State). s.setup) says.2, ap (λ (s : State). s.entries) says.2)
store-moves old new w stored.Did says = inr (_, _, _, says.1.4.stores.makes)

pub held-moves : (old new : State) (ticket : ℕ) (result : HeldStored) → HeldStoreSays old ticket result new → Moves old new
unfolding HeldStoreSays
held-moves old new ticket held_stored.Stale says = inl (ap (λ (s : State). s.setup) says.1, ap (λ (s : State). s.entries) says.1)
held-moves old new ticket held_stored.Did says = inr (_, _, _, says.4.makes)

pub refit-moves : {E : Type 0} (old new : State) (result : Result ℕ E) → RefitSays old result new → Moves old new
unfolding RefitSays
refit-moves old new (Ok count) says =
    let (all, same, some) = says in
    inl (ap (λ (s : State). s.setup) same, ap (λ (s : State). s.entries) same)
refit-moves old new (Err e) says =
    let (same, left) = says in
    inl (ap (λ (s : State). s.setup) same, ap (λ (s : State). s.entries) same)

made-accept : (t : ℕ) (c : Command) (outcome : Outcome) → is_accept (entry_of (record { token = t; command = c }) outcome) ≡ false
made-accept t c Made = refl
made-accept t c (Failed done) = refl

made-collect : (u t : ℕ) (c : Command) (outcome : Outcome) → is_collect_of u (entry_of (record { token = t; command = c }) outcome) ≡ false
made-collect u t c Made = refl
made-collect u t c (Failed done) = refl

made-enters : (S : Setup) (d : Script) (H : List Entry) (done : ℕ → ℕ) (t : ℕ) (c : Command) (outcome : Outcome) → token_count d.opening ≤ t → MayComeNext S d H done (entry_of (record { token = t; command = c }) outcome)
made-enters S d H done t c Made later = later
made-enters S d H done t c (Failed n) later = later

module _ (old new : State) (t : ℕ) (c : Command) (outcome : Outcome) (makes : Makes old t c outcome new) where
  legal : IsLegal old.setup (entry_of (record { token = t; command = c }) outcome ∷ old.entries)
  legal = subst (λ S. IsLegal S (entry_of (record { token = t; command = c }) outcome ∷ old.entries)) makes.setup (subst (λ H. IsLegal new.setup H) makes.entries makes.legal)

  may : MayFollow old.setup old.entries (entry_of (record { token = t; command = c }) outcome)
  may = legal-last old.setup old.entries (entry_of (record { token = t; command = c }) outcome) legal

  made-sound : (b : Books) → AreBooksOf old b → AreBooksOf new b
  made-sound b sound = subst (λ S. AreBooksSound S new.entries b) (sym makes.setup) (subst (λ H. AreBooksSound old.setup H b) (sym makes.entries)
      (sound-entry old.setup old.entries (entry_of (record { token = t; command = c }) outcome) b may (made-accept t c outcome) (λ u. made-collect u t c outcome) sound))

  made-script : (d : Script) (places : List (List ℕ)) → KeepsScript old.setup d places old.entries → KeepsScript new.setup d places new.entries
  made-script d places keeps = keeps-to old.setup new.setup d d places places _ new.entries makes.setup refl refl makes.entries
      (keeps-enters old.setup d places old.entries (entry_of (record { token = t; command = c }) outcome) keeps
      (λ done is. made-enters old.setup d old.entries done t c outcome (later-open old.setup d places old.entries t (legal-before old.setup old.entries _ legal) keeps (made-open old.setup old.entries t c outcome may))))

  made-collected : (u : ℕ) → was_collected new.entries u ≡ was_collected old.entries u
  made-collected u = rw makes.entries (collected-same old.entries (entry_of (record { token = t; command = c }) outcome) u (made-collect u t c outcome))

  made-opening : (n : ℕ) → n ≤ length old.entries → first_entries n new.entries ≡ first_entries n old.entries
  made-opening n le = rw makes.entries (first-entries-more n old.entries (entry_of (record { token = t; command = c }) outcome) le)

pub moved-sound : (old new : State) (b : Books) → Moves old new → AreBooksOf old b → AreBooksOf new b
moved-sound old new b (inl same) sound = subst (λ S. AreBooksSound S new.entries b) (sym same.0) (subst (λ H. AreBooksSound old.setup H b) (sym same.1) sound)
moved-sound old new b (inr made) sound = made-sound old new made.0 made.1 made.2 made.3 b sound

pub moved-says : (old new : State) (b : Books) (Says : State → State → Type 0) → Moves old new → AreBooksOf old b → Says old new → OnDisk (desk_state old b) (desk_state new b) Says
unfolding desk_state
moved-says old new b Says moves sound says = record { says = says; script = rw (by moves) refl; places = refl; given = refl }
  where
    by : Moves old new → first_entries b.opened new.entries ≡ first_entries b.opened old.entries
    by (inl same) = ap (first_entries b.opened) same.1
    by (inr made) = made-opening old new made.0 made.1 made.2 made.3 b.opened sound.opened

pub moved-keeps : (old new : DeskState) (Says : State → State → Type 0) → Moves old.disk new.disk → OnDisk old new Says → Keeps old → Keeps new
moved-keeps old new Says moves on keeps = record {
  script = rw (on.script, on.places) (script moves);
  buffers = λ t later was. rw on.given (keeps.buffers t (subst (λ (d : Script). token_count d.opening ≤ t) on.script later) (sym (collected moves t) ∙ was));
}
  where
    script : Moves old.disk new.disk → KeepsScript new.disk.setup old.script old.places new.disk.entries
    script (inl same) = rw (same.0, same.1) (keeps.script)
    script (inr made) = made-script old.disk new.disk made.0 made.1 made.2 made.3 old.script old.places keeps.script

    collected : Moves old.disk new.disk → (u : ℕ) → was_collected new.disk.entries u ≡ was_collected old.disk.entries u
    collected (inl same) u = rw (same.1) refl
    collected (inr made) u = made-collected old.disk new.disk made.0 made.1 made.2 made.3 u

-- how many clients there are
pub roles-count : (disk : State) (b : Books) → length (desk_state disk b).script.roles ≡ length b.clients.items
unfolding desk_state
roles-count disk b = length-map b.clients.items role_of

-- each buffer that is kept is what its token gave back
pub given-back : (disk : State) (b : Books) → AreBooksOf disk b → AreGivenBack (desk_state disk b)
unfolding desk_state
given-back disk b sound t bytes is = by (slice_get b.slots.items t) refl
  where
    kept : (s : Slot) → IsSlot disk.setup disk.entries t s → (x : Buffer) → s.buffer ≡ x → buffer_in x ≡ Some bytes → (q : Request) × (status : Status) × IsHandedBack disk.setup disk.entries t bytes q status
    kept s slot Awaited same none = cc
    kept s slot (Kept done) same some =
        let one : done.buffer ≡ bytes = cc in
        let given : IsBufferOf disk.setup disk.entries t (Kept done) = rw same at slot.buffer in
        subst (λ x. (q : Request) × (status : Status) × IsHandedBack disk.setup disk.entries t x q status) one (given.0, done.status, given.1)
    kept s slot Gone same none = cc

    by : (o : Option Slot) → slice_get b.slots.items t ≡ o → (q : Request) × (status : Status) × IsHandedBack disk.setup disk.entries t bytes q status
    by None none = let bad : None ≡ Some bytes = sym (given-past b.slots.items t none) ∙ is in cc
    by (Some s) at = kept s (sound.slots t s at) s.buffer refl (sym (given-at b.slots.items t s at) ∙ is)

-- a token whose buffer is kept ended so
pub ended-so : (disk : State) (b : Books) → AreBooksOf disk b → (t : ℕ) (status : Status) → end_at b t ≡ Some status → mark_of disk.setup disk.entries t ≡ Some status
ended-so disk b sound t status is = by (slice_get b.slots.items t) refl is
  where
    kept : (s : Slot) → IsSlot disk.setup disk.entries t s → (x : Buffer) → s.buffer ≡ x → end_in x ≡ Some status → mark_of disk.setup disk.entries t ≡ Some status
    kept s slot Awaited same none = cc
    kept s slot (Kept done) same some =
        let one : done.status ≡ status = cc in
        let given : IsBufferOf disk.setup disk.entries t (Kept done) = rw same at slot.buffer in
        given.1.marked ∙ ap Some one
    kept s slot Gone same none = cc

    by : (o : Option Slot) → slice_get b.slots.items t ≡ o → slot_end o ≡ Some status → mark_of disk.setup disk.entries t ≡ Some status
    by None none some = cc
    by (Some s) at some = kept s (sound.slots t s at) s.buffer refl some

pub ended-tells : (disk : State) (b : Books) → AreBooksOf disk b → (t : ℕ) (o : Option Status) → o ≡ end_at b t
    → IfSome o (λ status. mark_of (desk_state disk b).disk.setup (desk_state disk b).disk.entries t ≡ Some status)
unfolding desk_state
ended-tells disk b sound t None is = tt
ended-tells disk b sound t (Some status) is = ended-so disk b sound t status (sym is)

-- and it has a status exactly where its buffer is kept
pub ended-where : (disk : State) (b : Books) (t : ℕ) → is_some (end_at b t) ≡ is_some (given_at (desk_state disk b).given t)
unfolding desk_state
ended-where disk b t = by (slice_get b.slots.items t) refl
  where
    alike : (x : Buffer) → is_some (end_in x) ≡ is_some (buffer_in x)
    alike Awaited = refl
    alike (Kept done) = refl
    alike Gone = refl

    by : (o : Option Slot) → slice_get b.slots.items t ≡ o → is_some (slot_end o) ≡ is_some (given_at (given_in b) t)
    by None none = rw (given-past b.slots.items t none) refl
    by (Some s) at = rw (given-at b.slots.items t s at) (alike s.buffer)

empty-places : (roles : List Role) (i : ℕ) → places_at (map (λ role. []) roles) i ≡ []
empty-places [] i = refl
empty-places (role ∷ roles) zero = refl
empty-places (role ∷ roles) (suc i) = empty-places roles i

-- a new desk keeps its script
pub new-keeps : (disk : State) (roles : List Role) → IsLegal disk.setup disk.entries → IsOpening disk.entries → Keeps (desk_over disk roles)
new-keeps disk roles legal opening = record {
  script = keeps-nothing disk.setup (record { opening = disk.entries; roles = roles }) (map (λ role. []) roles) opening (length-map roles (λ role. [])) (empty-places roles);
  buffers = λ t later was. absurd (clash (sym (untold-collected disk.setup disk.entries t (unaccepted disk.setup disk.entries t legal later)) ∙ was));
}
  where
    clash : false ≡ true → ⊥
    clash e = cc
