-- The text that a number makes is a script.
use Rattle.std.proofs.Common.{◌≡◌, ℕ, zero, suc, ◌+◌, ◌-◌, ◌*◌, ◌/◌, ◌%◌, ◌^◌, ◌<◌, ◌≤◌, Bool, true, false, not, ◌&&◌, nat_eq, nat_lt, nat_le, le-leb, lt-ltb, if◌then◌else◌, List, [], ◌∷◌, ◌++◌, length, codes, decimal, refl, ap, sym, subst, ◌∙◌, Some, None, Ok, is_none, length-append, add-one, arith}
use Rattle.std.specs.List.{list_all}
use Rattle.std.proofs.lemmas.Fmt.{length-decimal-le}
use Rattle.std.proofs.lemmas.List.{append-nil}
use Rattle.std.proofs.lemmas.List.Folds.{list_all-append}
use Rattle.std.proofs.lemmas.Nat.{xor_lt}
use Rattle.rand_xoshiro.specs.SplitMix64.{mix_u64, fold_mul, next_state}
use Rattle.history.specs.declared.entry.Kind.TheVariants.{Read, Write, Flush}
use Rattle.history.specs.declared.entry.UnitKind.TheVariants.{Bytes}
use Rattle.history.specs.declared.order.Order.{Order}
use Rattle.history.specs.declared.order.Order.TheVariants as order
use Rattle.history.specs.declared.order.Payload.TheVariants.{Fill, Nothing}
use Rattle.script_text.specs.declared.language.line.Line.{Line}
use Rattle.script_text.specs.declared.language.line.Line.TheVariants.{Disk, Client, Asks}
use Rattle.script_text.specs.declared.language.plans.DiskPlan.{DiskPlan}
use Rattle.script_text.specs.declared.language.plans.ClientPlan.{ClientPlan}
use Rattle.script_text.specs.Last.{on_last, last_is, has_some}
use Rattle.script_text.specs.Limits.{most_script_bytes, most_request_bytes, most_requested_bytes, most_clients}
use Rattle.script_text.specs.Planned.{new_client, add_client, add_order, add_last_order, asked_bytes, has_client, total_asked_bytes, plans_behind, planned_disk, planned_client, planned_order}
use Rattle.script_text.specs.Tables.{digits_of}
use Rattle.script_text.specs.Text.{line_of}
use Rattle.script_text.specs.Whole.{line_says, lines_say, script_of}
use Rattle.script_text.specs.Wording.{request_order, line_of_kind, line_of_bytes, line_of_words}
use Rattle.script_text.specs.Words.{lines_of, words_of, is_comment}
use Rattle.script_text.proofs.Chains.{both_true}
use Rattle.script_text.proofs.LastLemmas.{length_on_last}
use Rattle.script_text.proofs.Pieces.{last_said, short_says}
use Rattle.script_text.proofs.PlannedSums.{requested_order, requested_client}
use Rattle.stack_run.specs.Generated.{Made, place_of, length_of, drawn_byte, fill_text, read_text, request_text, with_text, with_request, with_line, with_lines, with_client, with_clients, opening, generated_text, are_whole, generated_disk, IsGeneratedScript}
use Rattle.stack_run.proofs.Drafts.{lines-next, clients-next}
use Rattle.stack_run.proofs.Spaced.{IsWord, AreWords, spaced, ReadsPlans, reads-line}
use Rattle.stack_run.proofs.WordsOf.{SaysNumber, SaysByte, decimal-says, byte-says, fill-kind, read-kind, flush-kind, wait-kind, client-kind, disk-kind}

-- the plans of the clients so far
abbrev plans_of : List ClientPlan → List DiskPlan
plans_of clients = generated_disk clients ∷ []

-- a text of so many clients and lines is a script so far
record IsDraft (d : Made) (c r : ℕ) : Type 0 where
  pub number : ℕ
  pub clients : List ClientPlan
  pub reads : ReadsPlans d.text number (plans_of clients)
  pub count : length clients ≡ c
  pub whole : are_whole clients ≡ true
  pub asked : total_asked_bytes (plans_of clients) ≤ 2048 * r
  pub short : length d.text ≤ 13 + 7 * c + 21 * r

-- a line of a client: how many bytes it asks for, and how long it is
record IsLineOf (text : List ℕ) (one : Order) : Type 0 where
  pub first : List ℕ
  pub rest : List (List ℕ)
  pub is : text ≡ line_of (first ∷ rest)
  pub word : IsWord first
  pub words : AreWords rest
  pub plain : is_comment (spaced first rest) ≡ false
  pub kind : line_of_kind first rest ≡ Ok (Asks one None)
  pub few : asked_bytes one ≤ 2048
  pub short : length text ≤ 21

-- a word is a number of 64 bits
fold-short : (z k m : ℕ) → fold_mul z k m < 2 ^ 64
fold-short z k m = omega arith

word-short : (x : ℕ) → (mix_u64 x).0 < 2 ^ 64
word-short x =
    let z = fold_mul (fold_mul (next_state x) 30 0xbf58476d1ce4e5b9) 27 0x94d049bb133111eb in
    let short : z < 2 ^ 64 = fold-short (fold_mul (next_state x) 30 0xbf58476d1ce4e5b9) 27 0x94d049bb133111eb in
    xor_lt 64 z (z / 2 ^ 31) short (omega arith)

long-three : (w a c h : List ℕ) (n m : ℕ) → length w ≡ 4 → length a ≤ 7 → length c ≤ 4 → length h ≡ 2 → length (line_of (w ∷ a ∷ c ∷ h ∷ [])) ≤ 21
unfolding line_of
long-three w a c h n m one two three four = simp length-append (omega arith)

long-two : (w a c : List ℕ) → length w ≡ 4 → length a ≤ 7 → length c ≤ 4 → length (line_of (w ∷ a ∷ c ∷ [])) ≤ 21
unfolding line_of
long-two w a c one two three = simp length-append (omega arith)

place-short : (w : ℕ) → place_of w < 2 ^ 64
place-short w = omega arith

length-short : (w : ℕ) → length_of w < 2 ^ 64
length-short w = omega arith

fill-line : (w : ℕ) → w < 2 ^ 64 → IsLineOf (fill_text w) (request_order Write Bytes (place_of w) (length_of w) (Fill (drawn_byte w)) 1)
fill-line w short =
    let at = decimal-says (place_of w) (place-short w) in
    let count = decimal-says (length_of w) (length-short w) in
    let byte = byte-says (drawn_byte w) (omega arith) in
    let seven : length (decimal (place_of w)) ≤ 7 = length-decimal-le 7 (place_of w) (omega arith) (omega arith) (place-short w) in
    let four : length (decimal (length_of w)) ≤ 4 = length-decimal-le 4 (length_of w) (omega arith) (omega arith) (length-short w) in
    record {
      first = codes "fill";
      rest = decimal (place_of w) ∷ decimal (length_of w) ∷ digits_of 2 (drawn_byte w) ∷ [];
      is = refl;
      word = record { some = omega arith; clean = refl };
      words = (at.word, (count.word, (byte.word, tt)));
      plain = refl;
      kind = fill-kind (decimal (place_of w)) (decimal (length_of w)) (digits_of 2 (drawn_byte w)) (place_of w) (length_of w) (drawn_byte w) at count byte;
      few = omega arith;
      short = long-three (codes "fill") (decimal (place_of w)) (decimal (length_of w)) (digits_of 2 (drawn_byte w)) 0 0 refl seven four byte.long;
    }

read-line : (w : ℕ) → IsLineOf (read_text w) (request_order Read Bytes (place_of w) (length_of w) Nothing 1)
read-line w =
    let at = decimal-says (place_of w) (place-short w) in
    let count = decimal-says (length_of w) (length-short w) in
    let seven : length (decimal (place_of w)) ≤ 7 = length-decimal-le 7 (place_of w) (omega arith) (omega arith) (place-short w) in
    let four : length (decimal (length_of w)) ≤ 4 = length-decimal-le 4 (length_of w) (omega arith) (omega arith) (length-short w) in
    record {
      first = codes "read";
      rest = decimal (place_of w) ∷ decimal (length_of w) ∷ [];
      is = refl;
      word = record { some = omega arith; clean = refl };
      words = (at.word, (count.word, tt));
      plain = refl;
      kind = read-kind (decimal (place_of w)) (decimal (length_of w)) (place_of w) (length_of w) at count;
      few = omega arith;
      short = long-two (codes "read") (decimal (place_of w)) (decimal (length_of w)) refl seven four;
    }

flush-line : IsLineOf (line_of (codes "flush" ∷ [])) (request_order Flush Bytes 0 0 Nothing 1)
unfolding line_of
flush-line = record { first = codes "flush"; rest = []; is = refl; word = record { some = omega arith; clean = refl }; words = tt; plain = refl; kind = flush-kind; few = omega arith; short = omega arith }

wait-line : IsLineOf (line_of (codes "wait" ∷ [])) order.Wait
unfolding line_of
wait-line = record { first = codes "wait"; rest = []; is = refl; word = record { some = omega arith; clean = refl }; words = tt; plain = refl; kind = wait-kind; few = omega arith; short = omega arith }

-- the line of a word that is drawn
record IsSomeLine (text : List ℕ) : Type 0 where
  pub order : Order
  pub line : IsLineOf text order

some-read : (w : ℕ) (b : Bool) → IsSomeLine (if b then read_text w else line_of (codes "flush" ∷ []))
some-read w true = record { order = _; line = read-line w }
some-read w false = record { order = _; line = flush-line }

some-fill : (w : ℕ) (b : Bool) → w < 2 ^ 64 → IsSomeLine (if b then fill_text w else if nat_lt (w % 8) 7 then read_text w else line_of (codes "flush" ∷ []))
some-fill w true short = record { order = _; line = fill-line w short }
some-fill w false short = some-read w (nat_lt (w % 8) 7)

request-line : (w : ℕ) → w < 2 ^ 64 → IsSomeLine (request_text w)
unfolding request_text
request-line w short = some-fill w (nat_lt (w % 8) 4) short

-- the last of some clients gets a line
whole-last : (one : Order) (clients : List ClientPlan) → are_whole clients ≡ true → are_whole (on_last (add_order one) clients) ≡ true
unfolding on_last
whole-last one [] whole = whole
whole-last one (x ∷ []) whole = whole
whole-last one (x ∷ y ∷ more) whole =
    let (first, rest) = both_true (is_none x.part) (are_whole (y ∷ more)) whole in
    rw (first, whole-last one (y ∷ more) rest) refl

has-clients : (clients : List ClientPlan) → 0 < length clients → has_client (plans_of clients) ≡ true
unfolding last_is
has-clients [] some = absurd (omega arith)
has-clients (x ∷ clients) some = refl

plan-order : (n : ℕ) (one : Order) (clients : List ClientPlan) → has_client (plans_of clients) ≡ true → asked_bytes one ≤ 2048 → total_asked_bytes (plans_of clients) + 2048 ≤ most_requested_bytes → plans_behind n (plans_of clients) (Asks one None) ≡ Ok (on_last (add_last_order one) (plans_of clients))
unfolding plans_behind planned_order
plan-order n one clients has few room =
    let most : asked_bytes one ≤ most_request_bytes = omega arith in
    let all : total_asked_bytes (plans_of clients) + asked_bytes one ≤ most_requested_bytes = omega arith in
    rw (has, le-leb (asked_bytes one) most_request_bytes most, le-leb (total_asked_bytes (plans_of clients) + asked_bytes one) most_requested_bytes all) refl

last-order : (one : Order) (clients : List ClientPlan) → on_last (add_last_order one) (plans_of clients) ≡ plans_of (on_last (add_order one) clients)
unfolding on_last
last-order one clients = refl

-- a line more
draft-line : (text : List ℕ) (state : ℕ) (d : Made) (c r : ℕ) → IsDraft d c r → 0 < c → r < 100000 → IsSomeLine text → IsDraft (record { text = d.text ++ text; state = state }) c (r + 1)
draft-line text state d c r draft some few line =
    let one = line.order in
    let l = line.line in
    let grown = draft.clients in
    let there : 0 < length draft.clients = omega (arith, draft.count) in
    let has = has-clients draft.clients there in
    let room : total_asked_bytes (plans_of draft.clients) + 2048 ≤ most_requested_bytes = omega (arith, draft.asked) in
    let plan = plan-order draft.number one draft.clients has l.few room ∙ ap Ok (last-order one draft.clients) in
    let read = reads-line d.text draft.number (plans_of draft.clients) (plans_of (on_last (add_order one) draft.clients)) l.first l.rest (Asks one None) draft.reads l.word l.words l.plain l.kind plan in
    let more = requested_order one (plans_of draft.clients) has in
    let same : total_asked_bytes (on_last (add_last_order one) (plans_of draft.clients)) ≡ total_asked_bytes (plans_of (on_last (add_order one) draft.clients)) = ap total_asked_bytes (last-order one draft.clients) in
    record {
      number = draft.number + 1;
      clients = on_last (add_order one) draft.clients;
      reads = rw l.is read;
      count = length_on_last (add_order one) draft.clients ∙ draft.count;
      whole = whole-last one draft.clients draft.whole;
      asked = omega (arith, more, same, draft.asked, l.few);
      short = omega (arith, length-append d.text text, draft.short, l.short);
    }

line-at : (l : ℕ) (d : Made) (c r : ℕ) (b : Bool) → IsDraft d c r → 0 < c → r < 100000 → IsDraft (if b then with_text (line_of (codes "wait" ∷ [])) d else with_request d) c (r + 1)
line-at l d c r true draft some few = draft-line (line_of (codes "wait" ∷ [])) d.state d c r draft some few (record { order = _; line = wait-line })
line-at l d c r false draft some few = draft-line (request_text (mix_u64 d.state).0) (mix_u64 d.state).1 d c r draft some few (request-line (mix_u64 d.state).0 (word-short d.state))

one-line-more : (l : ℕ) (d : Made) (c r : ℕ) → IsDraft d c r → 0 < c → r < 100000 → IsDraft (with_line l d) c (r + 1)
unfolding with_line
one-line-more l d c r draft some few = line-at l d c r (nat_eq (l % 16) 0) draft some few

all-lines : (n : ℕ) (d : Made) (c r : ℕ) → IsDraft d c r → 0 < c → r + n ≤ 100000 → IsDraft (with_lines n d) c (r + n)
unfolding with_lines
all-lines zero d c r draft some few = let same : r + zero ≡ r = omega arith in rw same draft
all-lines (suc n) d c r draft some few =
    let same : r + suc n ≡ r + n + 1 = omega arith in
    rw same (one-line-more (n + 1) (with_lines n d) c (r + n) (all-lines n d c r draft some (omega arith)) some (omega arith))

-- a client more
plan-client : (n : ℕ) (clients : List ClientPlan) → length clients < most_clients → plans_behind n (plans_of clients) (Client None) ≡ Ok (plans_of (clients ++ new_client None n ∷ []))
unfolding plans_behind planned_client on_last last_is
plan-client n clients room = rw (lt-ltb (length clients) most_clients room) refl

last-client : (one : ClientPlan) (clients : List ClientPlan) → on_last (add_client one) (plans_of clients) ≡ plans_of (clients ++ one ∷ [])
unfolding on_last
last-client one clients = refl

draft-client : (d : Made) (c r : ℕ) → IsDraft d c r → c < 64 → IsDraft (with_text (line_of (codes "client" ∷ [])) d) (c + 1) r
unfolding line_of
draft-client d c r draft few =
    let client = new_client None draft.number in
    let room : length draft.clients < most_clients = omega (arith, draft.count) in
    let read = reads-line d.text draft.number (plans_of draft.clients) (plans_of (draft.clients ++ client ∷ [])) (codes "client") [] (Client None) draft.reads (record { some = omega arith; clean = refl }) tt refl client-kind (plan-client draft.number draft.clients room) in
    let same : total_asked_bytes (plans_of (draft.clients ++ client ∷ [])) ≡ total_asked_bytes (plans_of draft.clients) = sym (ap total_asked_bytes (last-client client draft.clients)) ∙ requested_client client (plans_of draft.clients) refl refl in
    record {
      number = draft.number + 1;
      clients = draft.clients ++ client ∷ [];
      reads = read;
      count = length-append draft.clients (client ∷ []) ∙ ap (λ n. n + 1) draft.count;
      whole = list_all-append (λ c. is_none c.part) draft.clients (client ∷ []) ∙ rw draft.whole refl;
      asked = omega (arith, same, draft.asked);
      short = omega (arith, length-append d.text (line_of (codes "client" ∷ [])), draft.short);
    }

all-clients : (lines n : ℕ) (d : Made) → IsDraft d 0 0 → n ≤ 64 → n * lines ≤ 100000 → IsDraft (with_clients lines n d) n (n * lines)
unfolding with_clients
all-clients lines zero d draft few all = let none : 0 * lines ≡ 0 = omega arith in rw none draft
all-clients lines (suc n) d draft few all =
    let before = all-clients lines n d draft (omega arith) (omega arith) in
    let next = draft-client (with_clients lines n d) n (n * lines) before (omega arith) in
    let number : suc n ≡ n + 1 = omega arith in
    let count : suc n * lines ≡ n * lines + lines = omega arith in
    let whole = all-lines lines _ (n + 1) (n * lines) next (omega arith) (omega arith) in
    let P : ℕ → ℕ → Type 0 = λ c r. IsDraft (with_client lines (with_clients lines n d)) c r in
    subst (λ (c : ℕ). P c (suc n * lines)) (sym number) (subst (λ (r : ℕ). P (n + 1) r) (sym count) whole)

plan-disk : plans_behind 1 [] (Disk (codes "g") 512 1 (record { cached = false; protected = false; physical = 1 })) ≡ Ok (plans_of [])
unfolding plans_behind planned_disk
plan-disk = refl

begins : (number : ℕ) → IsDraft (opening number) 0 0
unfolding line_of total_asked_bytes
begins number = record {
  number = 2;
  clients = [];
  reads = reads-line [] 1 [] (plans_of []) (codes "disk") (codes "g" ∷ codes "512" ∷ codes "1" ∷ []) _ (record { said = λ more. refl }) (record { some = omega arith; clean = refl })
      (record { some = omega arith; clean = refl }, (record { some = omega arith; clean = refl }, (record { some = omega arith; clean = refl }, tt))) refl disk-kind plan-disk;
  count = refl;
  whole = refl;
  asked = omega arith;
  short = omega arith;
}

-- the text ends behind a line
blank-says : (n : ℕ) (plans : List DiskPlan) → lines_say n plans (lines_of []) ≡ Ok plans
unfolding lines_say line_says lines_of words_of line_of_bytes line_of_words
blank-says n plans = refl

ends : (d : Made) (c r : ℕ) → IsDraft d c r → c ≤ 64 → r ≤ 100000 → IsGeneratedScript d.text
ends d c r draft clients lines =
    let few : length d.text ≤ most_script_bytes = omega (arith, draft.short) in
    let says = draft.reads.said [] ∙ blank-says draft.number (plans_of draft.clients) in
    record {
      clients = draft.clients;
      says = short_says d.text _ few (rw append-nil at says);
      whole = draft.whole;
    }

-- the text that a number makes is a script of one disk
pub generated-script : (number clients lines : ℕ) → clients ≤ 64 → clients * lines ≤ 100000 → IsGeneratedScript (generated_text number clients lines)
generated-script number clients lines few all = ends _ clients (clients * lines) (all-clients lines clients (opening number) (begins number) few all) few all
