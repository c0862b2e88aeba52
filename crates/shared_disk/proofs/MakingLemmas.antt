-- What a new desk begins with.
use Rattle.std.proofs.Common.{◌≡◌, ◌∙◌, ℕ, ◌+◌, ◌<◌, Bool, true, false, List, [], ◌∷◌, ◌++◌, reverse, length, count_by, slice_get, Some, refl, sym, ap, cond, arith, map, replicate, zero, suc, Option, None, Some, nat_eq, ◌-◌, All}
use Rattle.std.proofs.lemmas.Grind.{reverse_onto}
use Rattle.std.proofs.lemmas.Bool.{eq-eqb, ne_eqb}
use Rattle.std.proofs.lemmas.List.{length-replicate}
use Rattle.std.proofs.lemmas.List.Elements.{All-head, All-tail}
use Rattle.history.specs.declared.entry.Entry.TheVariants.{Accept}
use Rattle.std.specs.Global.{Vec}
use Rattle.history.specs.declared.entry.Entry.{Entry}
use Rattle.history.specs.Setup.{Setup}
use Rattle.history.specs.Tokens.{Request, token_count, request}
use Rattle.disk_core.specs.State.{State}
use Rattle.shared_disk.specs.declared.clients.Client.{Client}
use Rattle.shared_disk.specs.declared.books.Buffer.TheVariants.{Gone}
use Rattle.shared_disk.specs.declared.books.Course.{Course}
use Rattle.shared_disk.specs.declared.books.Slot.{Slot}
use Rattle.shared_disk.specs.Lines.{roles_of, has_tag, own_before}
use Rattle.shared_disk.specs.Script.{IsOpening, tag_of}
use Rattle.shared_disk.specs.Desk.{AreDeskClients, desk_over}
use Rattle.shared_disk.specs.Inside.{first_entries, buffer_in, desk_state, IsSlot, AreBooksSound, IsNewCourse, AreNew}
use Rattle.history_laws.proofs.TokenLemmas.{request-some}
use Rattle.std.proofs.lemmas.List.Sums.{sum_by-append}

some-same : {X : Type 0} (x y : X) → Some x ≡ Some y → x ≡ y
some-same x y e = cc

pub count_by-reverse : {X : Type 0} (test : X → Bool) (xs : List X) → count_by test (reverse xs) ≡ count_by test xs
count_by-reverse test [] = refl
count_by-reverse test (x ∷ xs) =
    let e : reverse (x ∷ xs) ≡ reverse xs ++ x ∷ [] = reverse_onto xs x [] in
    let back : count_by test (reverse xs ++ x ∷ []) ≡ count_by test (reverse xs) + count_by test (x ∷ []) = sum_by-append (λ e. cond (test e) 1 0) (reverse xs) (x ∷ []) in
    let front : count_by test (x ∷ xs) ≡ count_by test (x ∷ []) + count_by test xs = sum_by-append (λ e. cond (test e) 1 0) (x ∷ []) xs in
    rw e (omega (arith, back, front, count_by-reverse test xs))

-- a new desk's opening history is all that there is
pub first-all : (H : List Entry) (n : ℕ) → n ≡ length H → first_entries n H ≡ H
unfolding first_entries
first-all H n is = let e : length H - n ≡ 0 = omega (arith, is) in rw e refl

no-places : (clients : List Client) (courses : List Course) → AreNew clients courses → map (λ (c : Course). c.places.items) courses ≡ map (λ role. []) (roles_of clients)
no-places [] [] new = refl
no-places [] (c ∷ courses) new = absurd (omega (arith, new.count))
no-places (client ∷ clients) [] new = absurd (omega (arith, new.count))
no-places (client ∷ clients) (c ∷ courses) new =
    let first : IsNewCourse client c = new.each 0 client c refl refl in
    rw (first.places, no-places clients courses (record { count = omega (arith, new.count); each = λ i cl co at there. new.each (suc i) cl co at there })) refl

none-given : (n : ℕ) (slots : List Slot) → slots ≡ replicate n (record { tag = 0; buffer = Gone }) → map (λ (s : Slot). buffer_in s.buffer) slots ≡ replicate n None
none-given n slots is = rw is (by n)
  where
    by : (n : ℕ) → map (λ (s : Slot). buffer_in s.buffer) (replicate n (record { tag = 0; buffer = Gone })) ≡ replicate n None
    by zero = refl
    by (suc n) = ap (λ xs. None ∷ xs) (by n)

pub state-new : (disk : State) (clients : Vec Client) (courses : Vec Course) (slots : Vec Slot) (n : ℕ) → n ≡ length disk.entries → AreNew clients.items courses.items → slots.items ≡ replicate (token_count disk.entries) (record { tag = 0; buffer = Gone })
    → desk_state disk (record { opened = n; clients = clients; courses = courses; slots = slots; ended = 0; collected = 0 }) ≡ desk_over disk (roles_of clients.items)
unfolding desk_state
state-new disk clients courses slots n is new gone = rw (first-all disk.entries n is, no-places clients.items courses.items new, none-given (token_count disk.entries) slots.items gone) refl

-- no token of an opening has the tag of a client
pub opening-tag : (H : List Entry) (t : ℕ) (r : Request) → All (λ e. tag_of e ≡ 0) H → request H t ≡ Some r → r.tag ≡ 0
unfolding request
opening-tag [] t r tags named = cc
opening-tag (Accept tag view asked bytes ∷ H) t r tags named = by (nat_eq t (token_count H)) refl (λ there. opening-tag H t r (All-tail (λ e. tag_of e ≡ 0) _ H tags) there)
  where
    by : (b : Bool) → nat_eq t (token_count H) ≡ b → (request H t ≡ Some r → r.tag ≡ 0) → r.tag ≡ 0
    by true is later = let same : tag ≡ r.tag = (let named : Some (record { tag = tag; view = view; asked = asked; bytes = bytes }) ≡ Some r = rw is at named in cc) in sym same ∙ All-head (λ e. tag_of e ≡ 0) _ H tags
    by false is later = later (rw is at named)
opening-tag (e ∷ H) t r tags named = opening-tag H t r (All-tail (λ e. tag_of e ≡ 0) _ H tags) named

untagged : (tag : ℕ) (o : Option Request) → ((r : Request) → o ≡ Some r → r.tag ≡ 0) → has_tag (tag + 1) o ≡ false
untagged tag None none = refl
untagged tag (Some r) none = ne_eqb r.tag (tag + 1) (λ same. absurd (omega (arith, same, none r refl)))

tagged : (o : Option Request) → ((r : Request) → o ≡ Some r → r.tag ≡ 0) → (r : Request) → o ≡ Some r → has_tag 0 o ≡ true
tagged None none r is = cc
tagged (Some q) none r is = eq-eqb q.tag 0 (none q refl)

opening-own : (H : List Entry) (tag n : ℕ) → IsOpening H → own_before H (tag + 1) n ≡ []
unfolding own_before
opening-own H tag zero opening = refl
opening-own H tag (suc n) opening = rw (untagged tag (request H n) (λ r. opening-tag H n r opening.tags)) (opening-own H tag n opening)

past-slot : (n t : ℕ) (s : Slot) → slice_get (replicate n (record { tag = 0; buffer = Gone })) t ≡ Some s → (t < n) × (s ≡ record { tag = 0; buffer = Gone })
past-slot zero t s at = cc
past-slot (suc n) zero s at = (omega arith, sym (some-same (record { tag = 0; buffer = Gone }) s at))
past-slot (suc n) (suc t) s at = let before : (t < n) × (s ≡ record { tag = 0; buffer = Gone }) = past-slot n t s at in (omega (arith, before.0), before.1)

pub sound-new : (S : Setup) (H : List Entry) (clients : Vec Client) (courses : Vec Course) (slots : Vec Slot) (n : ℕ) → n ≡ length H → AreDeskClients clients.items → IsOpening H → AreNew clients.items courses.items → slots.items ≡ replicate (token_count H) (record { tag = 0; buffer = Gone })
    → AreBooksSound S H (record { opened = n; clients = clients; courses = courses; slots = slots; ended = 0; collected = 0 })
sound-new S H clients courses slots n is are opening new gone = record {
  opened = omega (arith, is);
  opening = rw (first-all H n is) opening;
  few = are.few;
  orders = are.orders;
  lines = are.lines;
  paired = new.count;
  courses = λ i client c at there.
      let course : IsNewCourse client c = new.each i client c at there in
      record {
        few = rw course.places (omega arith);
        room = course.room;
        own = course.tokens ∙ sym (opening-own H i (token_count H) opening);
        ended_few = rw course.ended (omega arith);
        collected_few = rw course.collected (omega arith);
        ended = λ j t lt. absurd (omega (arith, rw course.ended at lt));
        collected = λ j t lt. absurd (omega (arith, rw course.collected at lt));
      };
  counted = ap length gone ∙ length-replicate (token_count H) (record { tag = 0; buffer = Gone });
  slots = λ t s at. past t s (past-slot (token_count H) t s (rw gone at at));
  ended_few = omega arith;
  collected_few = omega arith;
  ended = λ t lt. absurd (omega (arith, lt));
  collected = λ t lt. absurd (omega (arith, lt));
}
  where
    past : (t : ℕ) (s : Slot) → (t < token_count H) × (s ≡ record { tag = 0; buffer = Gone }) → IsSlot S H t s
    past t s there =
        let r : (r : Request) × (request H t ≡ Some r) = request-some H t there.0 in
        rw (there.1) (record { tagged = tagged (request H t) (λ q. opening-tag H t q opening.tags) r.0 r.1; buffer = opening.collected t there.0 })
