-- What a line does, as callers of the desk see it.
use Rattle.std.proofs.Common.{◌≡◌, ◌∙◌, ℕ, ◌+◌, ◌<◌, ◌≤◌, Bool, true, false, not, ◌&&◌, List, [], ◌∷◌, length, slice_get, Option, None, Some, Err, IsSome, is_some, option_map, refl, sym, ap, subst, arith, vec_len, vec_capacity}
use Rattle.std.proofs.lemmas.Option.{slice_get-map, slice_get_within, get_or_from_slice_get}
use Rattle.std.proofs.lemmas.List.{length-append}
use Rattle.std.specs.Global.{Vec}
use Rattle.history.specs.declared.entry.Entry.{Entry}
use Rattle.history.specs.declared.order.Order.{Order}
use Rattle.history.specs.declared.order.Order.TheVariants as order
use Rattle.history.specs.Setup.{Setup}
use Rattle.history.specs.Tokens.{token_count, request, was_collected}
use Rattle.disk_core.specs.declared.answers.Token.{Token}
use Rattle.disk_core.specs.State.{State}
use Rattle.disk_core.specs.GoingOn.{GoesOn}
use Rattle.disk_core.specs.Calls.{ProtectSays}
use Rattle.disk_core.proofs.GoingOn.{protect_goes_on}
use Rattle.shared_disk.specs.declared.clients.Client.{Client}
use Rattle.shared_disk.specs.declared.books.Books.{Books}
use Rattle.shared_disk.specs.declared.books.Course.{Course}
use Rattle.shared_disk.specs.Lines.{role_of, line_entry, with_line_entry, has_tag, first_own_open, first_own_left}
use Rattle.shared_disk.specs.Script.{AreOwnOver, DoesNext, CollectsAtWait}
use Rattle.shared_disk.specs.Desk.{done_of, DoesLine, TakesBack, LineSays}
use Rattle.shared_disk.specs.declared.answers.Line.TheVariants as line
use Rattle.history.specs.Marks.{is_outstanding}
use Rattle.history_laws.proofs.ScanLemmas.{first_from-some, first_from-fails}
use Rattle.shared_disk.specs.Inside.{first_entries, roles_in, places_in, done_in, order_in, desk_state, IsCourse, AreBooksSound, AreBooksOf, AreSame, ChangesCourse, HasLineMore, DoesOn, DoesOrder, MayWantMemory}
use Rattle.shared_disk.proofs.CourseLemmas.{more-places}
use Rattle.shared_disk.proofs.SoundLemmas.{first-entries-more, sound-changes}
use Rattle.shared_disk.proofs.DoneLemmas.{revokes-same}
use Rattle.shared_disk.proofs.EntryLemmas.{next-is}

some-same : {X : Type 0} (x y : X) → Some x ≡ Some y → x ≡ y
some-same x y e = cc

-- what callers see stays where the books are the same
pub state-same : (disk : State) (b b' : Books) → AreSame b b' → desk_state disk b' ≡ desk_state disk b
unfolding desk_state
state-same disk b b' same = rw (same.opened, same.clients, same.places, same.given) refl

pub same-twice : (a b c : Books) → AreSame a b → AreSame b c → AreSame a c
same-twice a b c one other = record {
  opened = other.opened ∙ one.opened;
  clients = other.clients ∙ one.clients;
  places = other.places ∙ one.places;
  given = other.given ∙ one.given;
}

-- the opening history stays
pub opening-same : (n : ℕ) (H : List Entry) (e : Option Entry) → n ≤ length H → first_entries n (with_line_entry e H) ≡ first_entries n H
opening-same n H None le = refl
opening-same n H (Some e) le = first-entries-more n H e le

-- a client with a line left
pub left-client : (b : Books) (i : ℕ) (line : Order) → order_in b i ≡ Some line → (client : Client) × (slice_get b.clients.items i ≡ Some client) × (slice_get client.orders.items (done_in b i) ≡ Some line)
left-client b i line next = by (slice_get b.clients.items i) refl
  where
    by : (o : Option Client) → slice_get b.clients.items i ≡ o → (client : Client) × (slice_get b.clients.items i ≡ Some client) × (slice_get client.orders.items (done_in b i) ≡ Some line)
    by None none =
        let role : slice_get (roles_in b) i ≡ None = slice_get-map role_of b.clients.items i ∙ ap (option_map role_of) none in
        let bad : None ≡ Some line = rw role at next in
        cc
    by (Some client) at =
        let role : slice_get (roles_in b) i ≡ Some (role_of client) = slice_get-map role_of b.clients.items i ∙ ap (option_map role_of) at in
        (client, at, rw role at next)

-- its course has a place for the line
done-is : (b : Books) (i : ℕ) (c : Course) → slice_get b.courses.items i ≡ Some c → done_in b i ≡ length c.places.items
done-is b i c there = ap length (get_or_from_slice_get (places_in b) i c.places.items [] (slice_get-map (λ (x : Course). x.places.items) b.courses.items i ∙ ap (option_map (λ (x : Course). x.places.items)) there))

pub room-left : (S : Setup) (H : List Entry) (b : Books) (i : ℕ) (line : Order) → AreBooksSound S H b → order_in b i ≡ Some line → (c : Course) → slice_get b.courses.items i ≡ Some c → vec_len c.places < vec_capacity c.places
room-left S H b i line sound next c there =
    let left = left-client b i line next in
    let course : IsCourse S H (i + 1) (length left.0.orders.items) c = sound.courses i left.0 c left.1 there in
    omega (arith, course.room, slice_get_within left.0.orders.items (done_in b i) line left.2, done-is b i c there)

-- the books after the line is noted
pub place-sound : (S : Setup) (H : List Entry) (b b' : Books) (i before : ℕ) (line : Order) → AreBooksSound S H b → (order_in b i ≡ Some line) → ChangesCourse b i (HasLineMore before) b' → AreBooksSound S H b'
place-sound S H b b' i before line sound next change = sound-changes S H b i (HasLineMore before) b' sound change (λ client at course.
    let left = left-client b i line next in
    let same : left.0 ≡ client = some-same left.0 client (sym left.1 ∙ at) in
    let lt : length change.was.places.items < length client.orders.items = omega (arith, slice_get_within left.0.orders.items (done_in b i) line left.2, done-is b i change.was change.there, ap (λ (x : Client). length x.orders.items) same) in
    record {
      few = omega (arith, lt, ap length change.changes.places, length-append change.was.places.items (before ∷ []));
      room = rw change.changes.room (course.room);
      own = ap (λ (v : Vec ℕ). v.items) change.changes.tokens ∙ course.own;
      ended_few = rw (change.changes.tokens, change.changes.ended) (course.ended_few);
      collected_few = rw (change.changes.tokens, change.changes.collected) (course.collected_few);
      ended = λ j t less there. course.ended j t (rw change.changes.ended at less) (rw change.changes.tokens at there);
      collected = λ j t less there. course.collected j t (rw change.changes.collected at less) (rw change.changes.tokens at there);
    })

-- the books after the disk did a line still have it next
order-same : (b b' : Books) (i : ℕ) → b'.clients ≡ b.clients → places_in b' ≡ places_in b → order_in b' i ≡ order_in b i
order-same b b' i clients places = rw (clients, places) refl

pub order-still : (b b' : Books) (i : ℕ) (line : Order) → b'.clients ≡ b.clients → places_in b' ≡ places_in b → order_in b i ≡ Some line → order_in b' i ≡ Some line
order-still b b' i line clients places next = order-same b b' i clients places ∙ next

-- a line was done and noted
pub line-did : (old new : State) (b b1 b' : Books) (i before : ℕ) (e : Option Entry) (token : Option Token) → before ≡ length old.entries → b.opened ≤ length old.entries → DoesNext old.setup (roles_in b) old.entries i (done_in b i) e → DoesOn old b new b1 e token
    → ChangesCourse b1 i (HasLineMore before) b' → DoesLine (desk_state old b) i token (desk_state new b') e
unfolding desk_state
line-did old new b b1 b' i before e token is opened next does change = record {
  does = next;
  entries = does.entries;
  accepts = does.accepts;
  numbered = does.numbered;
  goes_on = does.goes_on;
  devices = does.devices;
  gates = does.gates;
  script = rw (does.entries, change.opened, does.opened, change.clients, does.clients, opening-same b.opened old.entries e opened) refl;
  places = more-places b1 b' i before change ∙ (rw (does.places, is) refl);
  given = λ t. rw change.slots (does.given t);
}

-- nothing was done, and the books are the same
pub does-same : (old : State) (b b' : Books) → AreSame b b' → AreBooksOf old b' → DoesOn old b old b' None None
unfolding ProtectSays
does-same old b b' same sound = record {
  entries = refl;
  accepts = refl;
  numbered = tt;
  goes_on = goes old;
  devices = refl;
  gates = revokes-same old.gates old.gates refl;
  opened = same.opened;
  clients = same.clients;
  places = same.places;
  given = λ t. rw same.given refl;
  sound = sound;
}
  where
    goes : (s : State) → GoesOn s s
    goes s = protect_goes_on s s 0 true (Err (record {})) refl

-- a wait is done
pub wait-did : (old : State) (b b1 b' : Books) (i before : ℕ) → before ≡ length old.entries → AreBooksOf old b → AreBooksOf old b1 → AreSame b b1 → order_in b i ≡ Some order.Wait → AreOwnOver old.setup old.entries (i + 1) → ChangesCourse b1 i (HasLineMore before) b'
    → DoesLine (desk_state old b) i None (desk_state old b') None
unfolding line_entry
wait-did old b b1 b' i before is sound sound1 same next own change =
    let left = left-client b i order.Wait next in
    line-did old old b b1 b' i before None None is sound.opened (next-is old.setup old.entries b i left.0 order.Wait left.1 next own) (does-same old b b1 same sound1) change

and-first : (a b : Bool) → (a && b) ≡ true → a ≡ true
and-first true b is = refl
and-first false b is = cc

and-second : (a b : Bool) → (a && b) ≡ true → b ≡ true
and-second true b is = is
and-second false b is = cc

is-none : {X : Type 0} (o : Option X) → false ≡ is_some o → o ≡ None
is-none None is = refl
is-none (Some x) is = cc

is-true : {X : Type 0} (o : Option X) → true ≡ is_some o → IsSome o
is-true None is = cc
is-true (Some x) is = refl

-- a token of a waiting client is outstanding
pub wait-not-yet : (disk : State) (b b' : Books) (i : ℕ) → AreSame b b' → order_in b i ≡ Some order.Wait → true ≡ is_some (first_own_open disk.setup disk.entries (i + 1)) → LineSays (desk_state disk b) i line.NotYet (desk_state disk b')
unfolding LineSays desk_state
wait-not-yet disk b b' i same next waits = (next, is-true (first_own_open disk.setup disk.entries (i + 1)) waits, state-same disk b b' same)

-- the least uncollected token of a client none of whose tokens is outstanding
pub own-left : (S : Setup) (H : List Entry) (tag t : ℕ) → Some t ≡ first_own_left H tag → false ≡ is_some (first_own_open S H tag) → (t < token_count H) × (was_collected H t ≡ false) × (is_outstanding S H t ≡ false)
unfolding first_own_left first_own_open
own-left S H tag t least none =
    let found = first_from-some (λ u. not (was_collected H u) && has_tag tag (request H u)) 0 (token_count H) t (sym least) in
    let own : has_tag tag (request H t) ≡ true = and-second (not (was_collected H t)) (has_tag tag (request H t)) found.2 in
    let left : not (was_collected H t) ≡ true = and-first (not (was_collected H t)) (has_tag tag (request H t)) found.2 in
    let fails : (is_outstanding S H t && has_tag tag (request H t)) ≡ false = first_from-fails (λ u. is_outstanding S H u && has_tag tag (request H u)) 0 (token_count H) t (is-none _ none) (omega arith) (omega (arith, found.1)) in
    (omega (arith, found.1), not-true (was_collected H t) left, and-one (is_outstanding S H t) (rw own at fails))
  where
    not-true : (b : Bool) → not b ≡ true → b ≡ false
    not-true true is = cc
    not-true false is = refl

    and-one : (b : Bool) → (b && true) ≡ false → b ≡ false
    and-one true is = cc
    and-one false is = refl

collects-at : (old : State) (b : Books) (i t : ℕ) → order_in b i ≡ Some order.Wait → false ≡ is_some (first_own_open old.setup old.entries (i + 1)) → Some t ≡ first_own_left old.entries (i + 1) → CollectsAtWait old.setup (desk_state old b).script.roles old.entries i (done_of (desk_state old b) i) t
unfolding desk_state
collects-at old b i t next none least = record { next = next; ended = is-none _ none; least = sym least }

-- it was handed back
pub wait-collected : (old new : State) (b b1 b' : Books) (i tag t : ℕ) → tag ≡ i + 1 → AreSame b b1 → order_in b i ≡ Some order.Wait → false ≡ is_some (first_own_open old.setup old.entries (i + 1)) → Some t ≡ first_own_left old.entries (i + 1)
    → TakesBack (desk_state old b1) tag t (desk_state new b') → LineSays (desk_state old b) i (line.Collected t) (desk_state new b')
unfolding LineSays desk_state
wait-collected old new b b1 b' i tag t tagged same next none least takes =
    (collects-at old b i t next none least, subst (λ n. TakesBack (desk_state old b) n t (desk_state new b')) tagged (subst (λ s. TakesBack s tag t (desk_state new b')) (state-same old b b1 same) takes))

-- all of them were
pub wait-done : (old : State) (b b1 b' : Books) (i before : ℕ) → before ≡ length old.entries → AreBooksOf old b → AreBooksOf old b1 → AreSame b b1 → order_in b i ≡ Some order.Wait → false ≡ is_some (first_own_open old.setup old.entries (i + 1)) → None ≡ first_own_left old.entries (i + 1)
    → ChangesCourse b1 i (HasLineMore before) b' → LineSays (desk_state old b) i (line.Did None) (desk_state old b')
unfolding LineSays
wait-done old b b1 b' i before is sound sound1 same next none least change = (None, wait-did old b b1 b' i before is sound sound1 same next (record { ended = is-none _ none; collected = sym least }) change)

does-order : (S : Setup) (H : List Entry) (b : Books) (i : ℕ) (e : Option Entry) (next : DoesNext S (roles_in b) H i (done_in b i) e) → order_in b i ≡ Some next.order
does-order S H b i e next = rw next.client (next.next)

pub order-left : (old new : State) (b b' : Books) (i : ℕ) (token : Option Token) (does : DoesOrder old b i new b' token) → order_in b' i ≡ Some does.next.order
order-left old new b b' i token does = order-still b b' i does.next.order does.does.clients does.does.places (does-order old.setup old.entries b i does.entry does.next)

-- a line was done and noted
pub took-line : (old new : State) (b b1 b' : Books) (i before : ℕ) (token : Option Token) → before ≡ length old.entries → AreBooksOf old b → DoesOrder old b i new b1 token → ChangesCourse b1 i (HasLineMore before) b' → LineSays (desk_state old b) i (line.Did token) (desk_state new b')
unfolding LineSays
took-line old new b b1 b' i before token is sound does change = (does.entry, line-did old new b b1 b' i before does.entry token is sound.opened does.next does.does change)

-- memory ran out
pub took-nothing : (old new : State) (b b' : Books) (i : ℕ) → MayWantMemory (order_in b i) → new ≡ old → AreSame b b' → LineSays (desk_state old b) i line.Memory (desk_state new b')
unfolding LineSays desk_state
took-nothing old new b b' i wants disk same = by (order_in b i) refl wants
  where
    now : desk_state new b' ≡ desk_state old b
    now = ap (λ (d : State). desk_state d b') disk ∙ state-same old b b' same

    by : (o : Option Order) → order_in b i ≡ o → MayWantMemory o → LineSays (desk_state old b) i line.Memory (desk_state new b')
    by None is wants = absurd wants
    by (Some order) is wants = (order, is, wants, now)

-- no line is left
pub took-none : (disk : State) (b : Books) (i : ℕ) → None ≡ order_in b i → LineSays (desk_state disk b) i line.Ended (desk_state disk b)
unfolding LineSays desk_state
took-none disk b i none = (sym none, refl)
