-- What the open tokens can still need: each of them one command, and for each byte that is not moved one more, or two where its group is not fetched.
use Rattle.std.proofs.Common.{◌≡◌, ℕ, zero, suc, ◌+◌, ◌-◌, ◌*◌, ◌/◌, ◌<◌, ◌≤◌, ◌⊎◌, inl, inr, Bool, true, false, List, [], ◌∷◌, Option, None, Some, refl, sym, ◌∙◌, ap, subst, arith, if◌then◌else◌, nat_lt, nat_le, min}
use Rattle.std.proofs.lemmas.Bool.{cases_eq, and_from, or_left, eq-eqb, le-leb, lt-ltb}
use Rattle.std.proofs.lemmas.Nat.{div-mul-add}
use Rattle.std.proofs.Math.Nat.{add-mul}
use Rattle.efi_status.specs.declared.Status.{Status}
use Rattle.efi_status.specs.declared.Status.TheVariants.{Success, DeviceError}
use Rattle.disk_split.specs.declared.geometry.Geometry.{Geometry}
use Rattle.disk_split.specs.declared.span.Span.{Span}
use Rattle.disk_split.specs.Units.{IsKind, IsUnit, group_size}
use Rattle.disk_split.proofs.Shared.{part-bytes}
use Rattle.history.specs.declared.entry.View.{View}
use Rattle.history.specs.declared.entry.Asked.{Asked}
use Rattle.history.specs.declared.entry.Kind.{Kind}
use Rattle.history.specs.declared.entry.Kind.TheVariants.{Read, Write, Flush, Erase}
use Rattle.history.specs.declared.entry.Command.{Command}
use Rattle.history.specs.declared.entry.Command.TheVariants.{Fetch, Store, Sync}
use Rattle.history.specs.declared.entry.Entry.{Entry}
use Rattle.history.specs.declared.entry.Entry.TheVariants.{Accept, Refuse, Done, Fault, Collect}
use Rattle.history.specs.Setup.{Setup, size_of, per_of, IsSetup}
use Rattle.history.specs.Tokens.{Request, is_accept, token_count, request, is_flush, from_of, until_of}
use Rattle.history.specs.Commands.{is_fetch, is_sync, is_at, moves, lies_in, done_commands, has_done, is_moved}
use Rattle.history.specs.Marks.{mark_of, status_if, is_complete, was_fetched}
use Rattle.history.specs.Tasks.{Task, Moves, Syncs, span_command, task_command}
use Rattle.history.specs.Next.{first_open, next_task, Turn, next_turn, Outcome, Made, Failed, entry_of}
use Rattle.history_laws.specs.TokenFacts.{concerns}
use Rattle.history_laws.proofs.CountLemmas.{accepted-none, accepted-more, accepted-same}
use Rattle.history_laws.proofs.TokenLemmas.{request-accept, accept-concerns, request-other, mark-other, done_commands-other, has_done-done, has_done-stays, done_commands-same, request-same}
use Rattle.history_laws.proofs.EndLemmas.{mark-stays, mark-done, mark-fault}
use Rattle.history_laws.proofs.TaskLemmas.{complete-flush, unit-of}
use Rattle.history_laws.proofs.NextLemmas.{next-task-some, first-open-fails}
use Rattle.history_laws.proofs.PlainLemmas.{task-unit, task-sync, IsTurnOf, turn-of, turn-concerns, turn-accepted, mark-collect}

-- the sum of n values from number a on
sum_from : (ℕ → ℕ) → ℕ → ℕ → ℕ
sum_from f a zero = 0
sum_from f a (suc n) = f a + sum_from f (a + 1) n

sum-below : (f g : ℕ → ℕ) (a n : ℕ) → ((x : ℕ) → a ≤ x → x < a + n → f x ≤ g x) → sum_from f a n ≤ sum_from g a n
unfolding sum_from
sum-below f g a zero less = omega arith
sum-below f g a (suc n) less =
    omega (arith, less a (omega arith) (omega arith), sum-below f g (a + 1) n (λ x lo hi. less x (omega arith) (omega arith)))

-- a sum falls where one of its values does and none rises
sum-falls : (f g : ℕ → ℕ) (a n k : ℕ) → ((x : ℕ) → a ≤ x → x < a + n → f x ≤ g x) → a ≤ k → k < a + n → f k + 1 ≤ g k → sum_from f a n + 1 ≤ sum_from g a n
unfolding sum_from
sum-falls f g a zero k less from until falls = absurd (omega arith)
sum-falls f g a (suc n) k less from until falls =
    elim (cases_eq a k) [
      | inl same ↦
          let here : f a + 1 ≤ g a = rw same falls in
          omega (arith, here, sum-below f g (a + 1) n (λ x lo hi. less x (omega arith) (omega arith)))
      | inr other ↦
          omega (arith, less a (omega arith) (omega arith), sum-falls f g (a + 1) n k (λ x lo hi. less x (omega arith) (omega arith)) (omega (arith, other)) (omega arith) falls)
    ]

sum-most : (f : ℕ → ℕ) (a n m : ℕ) → ((x : ℕ) → f x ≤ m) → sum_from f a n ≤ m * n
unfolding sum_from
sum-most f a zero m most = omega arith
sum-most f a (suc n) m most = omega (arith, most a, sum-most f (a + 1) n m most)

sum-last : (f : ℕ → ℕ) (a n : ℕ) → sum_from f a (n + 1) ≡ sum_from f a n + f (a + n)
unfolding sum_from
sum-last f a zero = let e : a ≡ a + 0 = omega arith in omega (arith, ap f e)
sum-last f a (suc n) =
    let e : suc n + 1 ≡ suc (n + 1) = omega arith in
    let g : a + 1 + n ≡ a + suc n = omega arith in
    rw e (omega (arith, sum-last f (a + 1) n, ap f g))

-- the commands that a byte can still need: none where it is moved, one where its block is fetched
abbrev byte_weight : Bool → Bool → ℕ
byte_weight true fetched = 0
byte_weight false true = 1
byte_weight false false = 2

-- the first block of the group of a byte
abbrev byte_group : Setup → ℕ → ℕ
byte_group S x = x / group_size S.geometry * per_of S

abbrev weight_at : Setup → List Entry → ℕ → ℕ → ℕ
weight_at S H t x = byte_weight (is_moved S H t x) (was_fetched H t (byte_group S x))

abbrev request_weight : Setup → List Entry → ℕ → Option Request → Option Status → ℕ
request_weight S H t None mark = 0
request_weight S H t (Some r) (Some status) = 0
request_weight S H t (Some r) None = 1 + sum_from (weight_at S H t) (from_of S r) r.asked.length

token_weight : Setup → List Entry → ℕ → ℕ
token_weight S H t = request_weight S H t (request H t) (mark_of S H t)

pub weight : Setup → List Entry → ℕ
weight S H = sum_from (token_weight S H) 0 (token_count H)

byte-less : (m m' f f' : Bool) → (m ≡ true → m' ≡ true) → (f ≡ true → f' ≡ true) → byte_weight m' f' ≤ byte_weight m f
byte-less m true f f' moved fetched = omega arith
byte-less true false f f' moved fetched = let no_way : false ≡ true = moved refl in cc
byte-less false false f true moved fetched = some f
  where
    some : (f : Bool) → 1 ≤ byte_weight false f
    some true = omega arith
    some false = omega arith
byte-less false false true false moved fetched = let no_way : false ≡ true = fetched refl in cc
byte-less false false false false moved fetched = omega arith

byte-most : (m f : Bool) → byte_weight m f ≤ 2
byte-most true f = omega arith
byte-most false true = omega arith
byte-most false false = omega arith

-- a request weighs at most one, and two for each of its bytes
request-most : (S : Setup) (H : List Entry) (t : ℕ) (r : Request) (mark : Option Status) → request_weight S H t (Some r) mark ≤ 1 + 2 * r.asked.length
request-most S H t r (Some status) = omega arith
request-most S H t r None =
    omega (arith, sum-most (weight_at S H t) (from_of S r) r.asked.length 2 (λ x. byte-most (is_moved S H t x) (was_fetched H t (byte_group S x))))

-- histories that tell the same request, end and done commands of a token give it the same weight
same-weight : (S : Setup) (H H' : List Entry) (t : ℕ) → request H' t ≡ request H t → mark_of S H' t ≡ mark_of S H t → done_commands H' t ≡ done_commands H t → token_weight S H' t ≡ token_weight S H t
unfolding token_weight has_done
same-weight S H H' t named marked done = rw (named, marked) (by (request H t) (mark_of S H t))
  where
    at : (x : ℕ) → weight_at S H' t x ≡ weight_at S H t x
    at x = rw done

    by : (r : Option Request) (mark : Option Status) → request_weight S H' t r mark ≡ request_weight S H t r mark
    by None mark = refl
    by (Some r) (Some status) = refl
    by (Some r) None = ap (λ f. 1 + sum_from f (from_of S r) r.asked.length) (λ i x. at x i)

-- an entry that does not concern a token leaves its weight
other-weight : (S : Setup) (H : List Entry) (e : Entry) (t : ℕ) → concerns H e t ≡ false → token_weight S (e ∷ H) t ≡ token_weight S H t
other-weight S H e t other = same-weight S H (e ∷ H) t (request-other S H e t other) (mark-other S H e t other) (done_commands-other S H e t other)

-- a collect leaves the weight of all
pub weight-collect : (S : Setup) (H : List Entry) (tag t : ℕ) → weight S (Collect tag t ∷ H) ≡ weight S H
unfolding weight
weight-collect S H tag t = rw (accepted-same H (Collect tag t) refl) (ap (λ f. sum_from f 0 (token_count H)) (λ i u. each u i))
  where
    each : (u : ℕ) → token_weight S (Collect tag t ∷ H) u ≡ token_weight S H u
    each u = same-weight S H (Collect tag t ∷ H) u (request-same H (Collect tag t) u refl) (mark-collect S H tag t u) (done_commands-same H (Collect tag t) u refl)

-- nothing weighs nothing
pub weight-none : (S : Setup) → weight S [] ≡ 0
unfolding weight sum_from
weight-none S = rw accepted-none refl

-- an entry that is no accept makes no byte and no token heavier
byte-later : (S : Setup) (H : List Entry) (e : Entry) (t x : ℕ) → weight_at S (e ∷ H) t x ≤ weight_at S H t x
byte-later S H e t x =
    byte-less (is_moved S H t x) (is_moved S (e ∷ H) t x) (was_fetched H t (byte_group S x)) (was_fetched (e ∷ H) t (byte_group S x))
    (has_done-stays (moves S x) H e t) (has_done-stays (is_at is_fetch (byte_group S x)) H e t)

token-later : (S : Setup) (H : List Entry) (e : Entry) (t : ℕ) → is_accept e ≡ false → token_weight S (e ∷ H) t ≤ token_weight S H t
unfolding token_weight
token-later S H e t other = rw (request-same H e t other) (by (request H t) (mark_of S H t) (mark_of S (e ∷ H) t) refl refl)
  where
    by : (r : Option Request) (was mark : Option Status) → mark_of S H t ≡ was → mark_of S (e ∷ H) t ≡ mark → request_weight S (e ∷ H) t r mark ≤ request_weight S H t r was
    by None was mark before after = omega arith
    by (Some r) was (Some status) before after = omega arith
    by (Some r) None None before after =
        omega (arith, sum-below (weight_at S (e ∷ H) t) (weight_at S H t) (from_of S r) r.asked.length (λ x lo hi. byte-later S H e t x))
    by (Some r) (Some status) None before after = let ended : mark_of S (e ∷ H) t ≡ Some status = mark-stays S H e t status before in cc

pub weight-later : (S : Setup) (H : List Entry) (e : Entry) → is_accept e ≡ false → weight S (e ∷ H) ≤ weight S H
unfolding weight
weight-later S H e other =
    rw (accepted-same H e other) (sum-below (token_weight S (e ∷ H)) (token_weight S H) 0 (token_count H) (λ t lo hi. token-later S H e t other))

-- where no token is open, nothing weighs
weight-ended : (S : Setup) (H : List Entry) (t : ℕ) → (mark_of S H t ≡ None → ⊥) → token_weight S H t ≤ 0
unfolding token_weight
weight-ended S H t ended = by (request H t) (mark_of S H t) refl
  where
    by : (r : Option Request) (mark : Option Status) → mark_of S H t ≡ mark → request_weight S H t r mark ≤ 0
    by None mark is = omega arith
    by (Some r) (Some status) is = omega arith
    by (Some r) None is = absurd (ended is)

sum-zero : (f : ℕ → ℕ) (a n : ℕ) → ((x : ℕ) → a ≤ x → x < a + n → f x ≤ 0) → sum_from f a n ≤ 0
unfolding sum_from
sum-zero f a zero none = omega arith
sum-zero f a (suc n) none = omega (arith, none a (omega arith) (omega arith), sum-zero f (a + 1) n (λ x lo hi. none x (omega arith) (omega arith)))

pub weight-drained : (S : Setup) (H : List Entry) → first_open S H ≡ None → weight S H ≡ 0
unfolding weight
weight-drained S H none =
    omega (arith, sum-zero (token_weight S H) 0 (token_count H) (λ t lo hi. weight-ended S H t (λ unmarked. first-open-fails S H t none (record { token = omega arith; unmarked = unmarked }))))

-- the new token weighs at most one, and two for each of its bytes
weight-new : (S : Setup) (H : List Entry) (tag : ℕ) (view : View) (asked : Asked) (bytes : List ℕ) → token_weight S (Accept tag view asked bytes ∷ H) (token_count H) ≤ 1 + 2 * asked.length
unfolding token_weight
weight-new S H tag view asked bytes =
    rw (request-accept H tag view asked bytes)
    (request-most S (Accept tag view asked bytes ∷ H) (token_count H) (record { tag = tag; view = view; asked = asked; bytes = bytes }) (mark_of S (Accept tag view asked bytes ∷ H) (token_count H)))

-- so an accept adds no more
pub weight-accept : (S : Setup) (H : List Entry) (tag : ℕ) (view : View) (asked : Asked) (bytes : List ℕ) → weight S (Accept tag view asked bytes ∷ H) ≤ weight S H + (1 + 2 * asked.length)
unfolding weight
weight-accept S H tag view asked bytes =
    let e : Entry = Accept tag view asked bytes in
    let own : token_weight S (e ∷ H) (0 + token_count H) ≤ 1 + 2 * asked.length = (let first : 0 + token_count H ≡ token_count H = omega arith in rw first (weight-new S H tag view asked bytes)) in
    rw (accepted-more H e refl) (omega (
      arith,
      sum-last (token_weight S (e ∷ H)) 0 (token_count H),
      own,
      sum-below (token_weight S (e ∷ H)) (token_weight S H) 0 (token_count H) (λ u lo hi. omega (arith, other-weight S H e u (accept-concerns H tag view asked bytes u (λ same. absurd (omega (arith, same)))))),
    ))

-- a refusal adds nothing
pub weight-refuse : (S : Setup) (H : List Entry) (tag : ℕ) (view : View) (asked : Asked) (k : ℕ) (status : Status) → weight S (Refuse tag view asked k status ∷ H) ≤ weight S H
unfolding weight
weight-refuse S H tag view asked k status =
    let e : Entry = Refuse tag view asked k status in
    rw (accepted-same H e refl) (sum-below (token_weight S (e ∷ H)) (token_weight S H) 0 (token_count H) (λ u lo hi. omega (arith, other-weight S H e u refl)))

-- a command makes a byte of its token lighter: it moves the byte, or it fetches the byte's group for the first time
abbrev Lightens : Setup → List Entry → ℕ → ℕ → Command → Type 0
Lightens S H t x c = (moves S x c ≡ true) ⊎ ((b : ℕ) × (c ≡ Fetch b) × (b ≡ byte_group S x) × (was_fetched H t b ≡ false))

-- a done command makes no byte heavier
byte-stays : (S : Setup) (H : List Entry) (t : ℕ) (c : Command) (x : ℕ) → weight_at S (Done t c ∷ H) t x ≤ weight_at S H t x
byte-stays S H t c x =
    byte-less (is_moved S H t x) (is_moved S (Done t c ∷ H) t x) (was_fetched H t (byte_group S x)) (was_fetched (Done t c ∷ H) t (byte_group S x))
    (has_done-stays (moves S x) H (Done t c) t) (has_done-stays (is_at is_fetch (byte_group S x)) H (Done t c) t)

byte-falls : (S : Setup) (H : List Entry) (t : ℕ) (c : Command) (x : ℕ) → is_moved S H t x ≡ false → Lightens S H t x c → weight_at S (Done t c ∷ H) t x + 1 ≤ weight_at S H t x
byte-falls S H t c x unmoved (inl moving) =
    let moved : is_moved S (Done t c ∷ H) t x ≡ true = has_done-done (moves S x) H t c ∙ or_left (moves S x c) (is_moved S H t x) moving in
    rw (moved, unmoved) (some (was_fetched H t (byte_group S x)))
  where
    some : (f : Bool) → 0 + 1 ≤ byte_weight false f
    some true = omega arith
    some false = omega arith
byte-falls S H t c x unmoved (inr (b, is, at, unfetched)) =
    let before : was_fetched H t (byte_group S x) ≡ false = rw at at unfetched in
    let passes : is_at is_fetch (byte_group S x) c ≡ true = rw is (eq-eqb b (byte_group S x) at) in
    let now : was_fetched (Done t c ∷ H) t (byte_group S x) ≡ true = has_done-done (is_at is_fetch (byte_group S x)) H t c ∙ or_left (is_at is_fetch (byte_group S x) c) (was_fetched H t (byte_group S x)) passes in
    rw (now, unmoved, before) (one (is_moved S (Done t c ∷ H) t x))
  where
    one : (m : Bool) → byte_weight m true + 1 ≤ 2
    one true = omega arith
    one false = omega arith

-- the first byte of a unit lies in its blocks
unit-in : (S : Setup) (a z : ℕ) (u : Span) → IsUnit S.geometry a z u → lies_in S u.block u.count u.low ≡ true
unit-in S a z u unit =
    and_from (nat_le (u.block * size_of S) u.low) (nat_lt u.low ((u.block + u.count) * size_of S))
    (le-leb (u.block * size_of S) u.low (omega (arith, unit.low)))
    (lt-ltb u.low ((u.block + u.count) * size_of S) (omega (arith, unit.high, unit.some)))

-- a part's block is that of the group of its first byte
low-group : (G : Geometry) (a z : ℕ) (u : Span) → IsUnit G a z u → u.whole ≡ false → u.block ≡ u.low / group_size G * G.per
low-group G a z u unit part = by (rw part at unit.kind)
  where
    by : IsKind G a z false u.block u.count → u.block ≡ u.low / group_size G * G.per
    by (group, count) =
        let (begins, ends) = part-bytes G a z u.block group in
        let high : u.high ≡ min z ((u.block + G.per) * G.size) = rw count at unit.high in
        let from : group.number * group_size G ≤ u.low = omega (arith, unit.low, begins) in
        let until : u.low - group.number * group_size G < group_size G = omega (arith, high, unit.some, ends, from, add-mul group.number 1 (group_size G)) in
        let e : group.number * group_size G + (u.low - group.number * group_size G) ≡ u.low = omega (arith, from) in
        let number : u.low / group_size G ≡ group.number = sym (ap (λ n. n / group_size G) e) ∙ div-mul-add group.number (group_size G) (u.low - group.number * group_size G) until in
        rw number group.begins

-- the bytes of a part lie in its group
stored-in : (S : Setup) (a z : ℕ) (u : Span) → IsUnit S.geometry a z u → u.whole ≡ false → lies_in S u.block (per_of S) u.low ≡ true
stored-in S a z u unit part = by (rw part at unit.kind)
  where
    by : IsKind S.geometry a z false u.block u.count → lies_in S u.block (per_of S) u.low ≡ true
    by (group, count) = rw (← count) (unit-in S a z u unit)

-- the command of a unit makes its first byte lighter
lightens : (S : Setup) (a z : ℕ) (H : List Entry) (t : ℕ) (kind : Kind) (u : Span) → IsUnit S.geometry a z u → is_flush kind ≡ false → Lightens S H t u.low (span_command H t kind u.whole u.block u.count)
lightens S a z H t Read u unit moving = inl (unit-in S a z u unit)
lightens S a z H t Flush u unit moving = cc
lightens S a z H t Write u unit moving = by u.whole refl
  where
    part : u.whole ≡ false → (f : Bool) → was_fetched H t u.block ≡ f → Lightens S H t u.low (if f then Store u.block else Fetch u.block)
    part is true fetched = inl (stored-in S a z u unit is)
    part is false unfetched = inr (u.block, refl, low-group S.geometry a z u unit is, unfetched)

    by : (whole : Bool) → u.whole ≡ whole → Lightens S H t u.low (span_command H t Write whole u.block u.count)
    by true is = inl (unit-in S a z u unit)
    by false is = part is (was_fetched H t u.block) refl
lightens S a z H t Erase u unit moving = by u.whole refl
  where
    part : u.whole ≡ false → (f : Bool) → was_fetched H t u.block ≡ f → Lightens S H t u.low (if f then Store u.block else Fetch u.block)
    part is true fetched = inl (stored-in S a z u unit is)
    part is false unfetched = inr (u.block, refl, low-group S.geometry a z u unit is, unfetched)

    by : (whole : Bool) → u.whole ≡ whole → Lightens S H t u.low (span_command H t Erase whole u.block u.count)
    by true is = inl (unit-in S a z u unit)
    by false is = part is (was_fetched H t u.block) refl

-- an open token's weight
open-weight : (S : Setup) (H : List Entry) (t : ℕ) (r : Request) → request H t ≡ Some r → mark_of S H t ≡ None → token_weight S H t ≡ 1 + sum_from (weight_at S H t) (from_of S r) r.asked.length
unfolding token_weight
open-weight S H t r named unmarked = rw (named, unmarked)

ended-weight : (S : Setup) (H : List Entry) (t : ℕ) (r : Request) (status : Status) → request H t ≡ Some r → mark_of S H t ≡ Some status → token_weight S H t ≡ 0
unfolding token_weight
ended-weight S H t r status named marked = rw (named, marked)

-- a failed command takes its token's weight away
fault-weight : (S : Setup) (H : List Entry) (t : ℕ) (c : Command) (done : ℕ) (r : Request) → request H t ≡ Some r → mark_of S H t ≡ None → token_weight S (Fault t c done ∷ H) t + 1 ≤ token_weight S H t
fault-weight S H t c done r named unmarked =
    omega (arith, open-weight S H t r named unmarked, ended-weight S (Fault t c done ∷ H) t r DeviceError (request-same H (Fault t c done) t refl ∙ named) (mark-fault S H t c done unmarked))

-- a done command that makes a byte of the range lighter makes its token lighter
done-weight : (S : Setup) (H : List Entry) (t : ℕ) (c : Command) (x : ℕ) (r : Request) → request H t ≡ Some r → mark_of S H t ≡ None
    → from_of S r ≤ x → x < until_of S r → is_moved S H t x ≡ false → Lightens S H t x c → token_weight S (Done t c ∷ H) t + 1 ≤ token_weight S H t
done-weight S H t c x r named unmarked from until unmoved lighter = after (mark_of S (Done t c ∷ H) t) refl
  where
    named' : request (Done t c ∷ H) t ≡ Some r
    named' = request-same H (Done t c) t refl ∙ named

    after : (m : Option Status) → mark_of S (Done t c ∷ H) t ≡ m → token_weight S (Done t c ∷ H) t + 1 ≤ token_weight S H t
    after (Some status) marked = omega (arith, open-weight S H t r named unmarked, ended-weight S (Done t c ∷ H) t r status named' marked)
    after None open_ =
        omega (
          arith,
          open-weight S H t r named unmarked,
          open-weight S (Done t c ∷ H) t r named' open_,
          sum-falls (weight_at S (Done t c ∷ H) t) (weight_at S H t) (from_of S r) r.asked.length x (λ y lo hi. byte-stays S H t c y) from until (byte-falls S H t c x unmoved lighter),
        )

-- a done flush ends its token
sync-weight : (S : Setup) (H : List Entry) (t : ℕ) (r : Request) → request H t ≡ Some r → is_flush r.asked.kind ≡ true → mark_of S H t ≡ None → token_weight S (Done t Sync ∷ H) t + 1 ≤ token_weight S H t
sync-weight S H t r named flush unmarked =
    let named' : request (Done t Sync ∷ H) t ≡ Some r = request-same H (Done t Sync) t refl ∙ named in
    let complete : is_complete S (Done t Sync ∷ H) t ≡ true = complete-flush S (Done t Sync ∷ H) t r named' flush ∙ has_done-done is_sync H t Sync in
    omega (arith, open-weight S H t r named unmarked, ended-weight S (Done t Sync ∷ H) t r Success named' (mark-done S H t Sync unmarked ∙ ap (λ b. status_if b Success) complete))

-- the command of the next unit makes its token lighter
task-weight : (S : Setup) (H : List Entry) (t : ℕ) (r : Request) (task : Task) → IsSetup S → request H t ≡ Some r → mark_of S H t ≡ None → next_task S H t r ≡ Some task
    → token_weight S (Done t (task_command H t r.asked.kind task) ∷ H) t + 1 ≤ token_weight S H t
task-weight S H t r Syncs is named unmarked next =
    let (k, there, unfinished) = next-task-some S H t r Syncs next in
    sync-weight S H t r named (task-sync S r k there) unmarked
task-weight S H t r (Moves u) is named unmarked next =
    let (k, there, unfinished) = next-task-some S H t r (Moves u) next in
    let (moving, listed) = task-unit S r k u there in
    let unit : IsUnit S.geometry (from_of S r) (until_of S r) u = unit-of S r k u is listed in
    done-weight S H t (span_command H t r.asked.kind u.whole u.block u.count) u.low r named unmarked (omega (arith, unit.low)) (omega (arith, unit.high, unit.some)) unfinished
    (lightens S (from_of S r) (until_of S r) H t r.asked.kind u unit moving)

-- the command that comes next makes the open tokens lighter, however it ends
pub turn-falls : (S : Setup) (H : List Entry) (turn : Turn) (outcome : Outcome) → IsSetup S → next_turn S H ≡ Some turn → weight S (entry_of turn outcome ∷ H) + 1 ≤ weight S H
unfolding weight
turn-falls S H turn outcome is next = by (turn-of S H turn next)
  where
    own : (t : ℕ) (r : Request) (task : Task) → IsTurnOf S H turn t r task → (o : Outcome) → token_weight S (entry_of (record { token = t; command = task_command H t r.asked.kind task }) o ∷ H) t + 1 ≤ token_weight S H t
    own t r task of Made = task-weight S H t r task is of.named of.open_.unmarked of.next
    own t r task of (Failed done) = fault-weight S H t (task_command H t r.asked.kind task) done r of.named of.open_.unmarked

    by : (t : ℕ) × (r : Request) × (task : Task) × IsTurnOf S H turn t r task → sum_from (token_weight S (entry_of turn outcome ∷ H)) 0 (token_count (entry_of turn outcome ∷ H)) + 1 ≤ sum_from (token_weight S H) 0 (token_count H)
    by (t, r, task, of) =
        let falls : token_weight S (entry_of turn outcome ∷ H) t + 1 ≤ token_weight S H t = subst (λ (v : Turn). token_weight S (entry_of v outcome ∷ H) t + 1 ≤ token_weight S H t) of.is (own t r task of outcome) in
        let token : t ≡ turn.token = ap (λ (v : Turn). v.token) of.is in
        let each : (u : ℕ) → 0 ≤ u → u < 0 + token_count H → token_weight S (entry_of turn outcome ∷ H) u ≤ token_weight S H u =
        λ u lo hi. elim (cases_eq t u) [
          | inl same ↦ rw (← same) (omega (arith, falls))
          | inr other ↦ omega (arith, other-weight S H (entry_of turn outcome) u (turn-concerns H turn outcome u (λ e. other (token ∙ e))))
        ] in
        rw (turn-accepted H turn outcome) (sum-falls (token_weight S (entry_of turn outcome ∷ H)) (token_weight S H) 0 (token_count H) t each (omega arith) (omega (arith, of.open_.token)) falls)
