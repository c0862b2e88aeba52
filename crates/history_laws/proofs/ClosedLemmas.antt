-- What is outstanding, and what a cancel and a reset end.
use Rattle.std.proofs.Common.{◌≡◌, ℕ, ◌<◌, ◌≤◌, Bool, true, false, ◌&&◌, nat_lt, List, [], ◌∷◌, ◌++◌, slice_get, Option, None, Some, IsSome, refl, sym, ◌∙◌, ap, arith}
use Rattle.std.proofs.lemmas.Bool.{lt-ltb}
use Rattle.efi_status.specs.declared.Status.{Status}
use Rattle.history.specs.declared.entry.View.{View}
use Rattle.history.specs.declared.entry.Command.{Command}
use Rattle.history.specs.declared.entry.Entry.{Entry}
use Rattle.history.specs.declared.entry.Entry.TheVariants.{Cancel, Reset}
use Rattle.history.specs.Setup.{Setup}
use Rattle.history.specs.Tokens.{token_count, request}
use Rattle.history.specs.Marks.{first_from, has_view, mark_of, is_outstanding, IsOutstanding, ending}
use Rattle.history.specs.Rules.{MayFollow, IsLegal}
use Rattle.history.specs.Tasks.{Todo, units_left}
use Rattle.history.specs.Next.{first_open, Outcome, Made, Failed, entry_of}
use Rattle.history_laws.specs.Left.{end_count}
use Rattle.history_laws.proofs.EndLemmas.{mark-stays, command-open}
use Rattle.history_laws.proofs.EndedLemmas.{ended-some, ended-no}
use Rattle.history_laws.specs.Serving.{AreWhileOpen}
use Rattle.history_laws.proofs.PendingLemmas.{pending-is}
use Rattle.history_laws.proofs.PlainLemmas.{turn-request}
use Rattle.history_laws.proofs.NextLemmas.{outstanding-test, outstanding-from, first-open-some, first-open-fails}
use Rattle.history_laws.proofs.ScanLemmas.{first_from-some, first_from-none, first_from-fails}

-- the last entry of a legal history may follow those before it
pub legal-last : (S : Setup) (H : List Entry) (e : Entry) → IsLegal S (e ∷ H) → MayFollow S H e
unfolding IsLegal
legal-last S H e legal = legal.1

-- which are a legal history
pub legal-before : (S : Setup) (H : List Entry) (e : Entry) → IsLegal S (e ∷ H) → IsLegal S H
unfolding IsLegal
legal-before S H e legal = legal.0

-- and so is each beginning of it
pub legal-tail : (S : Setup) (newer H : List Entry) → IsLegal S (newer ++ H) → IsLegal S H
unfolding IsLegal
legal-tail S [] H legal = legal
legal-tail S (e ∷ newer) H legal = legal-tail S newer H legal.0

-- where a token is outstanding, some token is the first one
pub open-first : (S : Setup) (H : List Entry) (t : ℕ) → is_outstanding S H t ≡ true → IsSome (first_open S H)
open-first S H t is = by (first_open S H) refl
  where
    by : (o : Option ℕ) → first_open S H ≡ o → IsSome o
    by None none = absurd (first-open-fails S H t none (outstanding-from S H t is))
    by (Some u) some = refl

-- and where none is there is no first one
pub closed-first : (S : Setup) (H : List Entry) → ((t : ℕ) → t < token_count H → is_outstanding S H t ≡ false) → first_open S H ≡ None
unfolding first_open
closed-first S H closed = first_from-none (is_outstanding S H) 0 (token_count H) (λ t le lt. closed t (omega (arith, lt)))

-- an accepted token that is not outstanding stays so
pub closed-stays : (S : Setup) (H : List Entry) (e : Entry) (t : ℕ) → t < token_count H → is_outstanding S H t ≡ false → is_outstanding S (e ∷ H) t ≡ false
closed-stays S H e t lt closed = by (mark_of S H t) refl
  where
    and-false : (b : Bool) → (b && false) ≡ false
    and-false true = refl
    and-false false = refl

    by : (o : Option Status) → mark_of S H t ≡ o → is_outstanding S (e ∷ H) t ≡ false
    by None is = let bad : true ≡ false = rw (lt-ltb t (token_count H) lt, is) at closed in cc
    by (Some status) is = rw (mark-stays S H e t status is) (and-false (nat_lt t (token_count (e ∷ H))))

-- the command that is entered is of an outstanding token
pub made-open : (S : Setup) (H : List Entry) (t : ℕ) (c : Command) (outcome : Outcome) → MayFollow S H (entry_of (record { token = t; command = c }) outcome) → IsOutstanding S H t
unfolding MayFollow
made-open S H t c Made may = command-open S H t c may
made-open S H t c (Failed done) may = command-open S H t c may.0

and-first : (a b : Bool) → (a && b) ≡ true → a ≡ true
and-first true b is = refl
and-first false b is = cc

and-second : (a b : Bool) → (a && b) ≡ true → b ≡ true
and-second true b is = is
and-second false b is = cc

-- a cancel ends a token exactly where one of its view is outstanding
pub cancel-some : (S : Setup) (H : List Entry) (tag : ℕ) (view : View) (t : ℕ) → first_from (λ t. is_outstanding S H t && has_view view (request H t)) 0 (token_count H) ≡ Some t → 1 ≤ end_count S H (Cancel tag view)
unfolding ending
cancel-some S H tag view t some =
    let found = first_from-some (λ t. is_outstanding S H t && has_view view (request H t)) 0 (token_count H) t some in
    let viewed : has_view view (request H t) ≡ true = and-second (is_outstanding S H t) (has_view view (request H t)) found.2 in
    ended-some S H (Cancel tag view) t Status.Aborted (outstanding-from S H t (and-first (is_outstanding S H t) (has_view view (request H t)) found.2)) (rw viewed refl)

pub cancel-none : (S : Setup) (H : List Entry) (tag : ℕ) (view : View) → first_from (λ t. is_outstanding S H t && has_view view (request H t)) 0 (token_count H) ≡ None → end_count S H (Cancel tag view) ≡ 0
unfolding ending
cancel-none S H tag view none = ended-no S H (Cancel tag view) (λ t there.
    let fails : (is_outstanding S H t && has_view view (request H t)) ≡ false = first_from-fails (λ t. is_outstanding S H t && has_view view (request H t)) 0 (token_count H) t none (omega arith) (omega (arith, there.token)) in
    let viewed : has_view view (request H t) ≡ false = rw (outstanding-test S H t there) at fails in
    rw viewed refl)

-- so a reset, where any is
pub reset-some : (S : Setup) (H : List Entry) (tag t : ℕ) → first_open S H ≡ Some t → 1 ≤ end_count S H (Reset tag)
unfolding ending
reset-some S H tag t some =
    let found = first-open-some S H t some in
    let there : IsOutstanding S H t = found.0 in
    ended-some S H (Reset tag) t Status.Aborted there (rw (lt-ltb t (token_count H) there.token) refl)

pub reset-none : (S : Setup) (H : List Entry) (tag : ℕ) → first_open S H ≡ None → end_count S H (Reset tag) ≡ 0
reset-none S H tag none = ended-no S H (Reset tag) (λ t there. absurd (first-open-fails S H t none there))

-- where no token is outstanding no unit is unfinished
pub drained-pending : (S : Setup) (H : List Entry) → first_open S H ≡ None → units_left S H ≡ []
drained-pending S H drained = by (units_left S H) refl
  where
    by : (ts : List Todo) → units_left S H ≡ ts → units_left S H ≡ []
    by [] same = same
    by (d ∷ ts) same =
        let (r, left) = pending-is S H 0 d (ap (λ xs. slice_get xs 0) same) in
        absurd (first-open-fails S H d.token drained left.outstanding)

-- commands change no request
pub while-request : (S : Setup) (t : ℕ) (H cs : List Entry) (u : ℕ) → AreWhileOpen S H t cs → request (cs ++ H) u ≡ request H u
unfolding AreWhileOpen
while-request S t H [] u all = refl
while-request S t H (e ∷ cs) u (next, all) = rw next.entry (turn-request (cs ++ H) next.turn next.outcome u ∙ while-request S t H cs u all)
