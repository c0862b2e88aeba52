-- How tokens end, and what stays of one that has ended or is not yet accepted.
use Rattle.std.proofs.Common.{◌≡◌, ℕ, ◌≤◌, Bool, true, false, List, [], ◌∷◌, Option, None, Some, is_some, refl, sym, ◌∙◌, ap, arith}
use Rattle.std.proofs.lemmas.Bool.{ne_eqb, eq-eqb, le-ltb, and_right}
use Rattle.efi_status.specs.declared.Status.{Status}
use Rattle.efi_status.specs.declared.Status.TheVariants.{Success, DeviceError}
use Rattle.history.specs.declared.entry.View.{View}
use Rattle.history.specs.declared.entry.Asked.{Asked}
use Rattle.history.specs.declared.entry.Command.{Command}
use Rattle.history.specs.declared.entry.Command.TheVariants.{Fetch, Store, Put, Get, Wipe, Sync}
use Rattle.history.specs.declared.entry.Entry.{Entry}
use Rattle.history.specs.declared.entry.Entry.TheVariants.{Accept, Refuse, Done, Fault, Collect, Cancel, Reset, Eject, Insert, Protect}
use Rattle.history.specs.Setup.{Setup}
use Rattle.history.specs.Tokens.{Request, token_count, request, was_collected}
use Rattle.history.specs.Commands.{done_commands, has_done}
use Rattle.history.specs.Contents.{bytes_read}
use Rattle.history.specs.Marks.{mark_of, ending, status_if, or_else, is_complete, is_some_change, has_view, ticket_of, IsOutstanding}
use Rattle.history.specs.Room.{commands_of}
use Rattle.history.specs.Rules.{IsLegal, MayFollow, MayCommand}
use Rattle.history_laws.specs.TokenFacts.{TokenFacts, facts_of, IsUntold, concerns}
use Rattle.history_laws.proofs.CountLemmas.{accepted-more, accepted-same}
use Rattle.history_laws.proofs.TokenLemmas.{facts_of-other, bytes_read-other, ticket_of-other, request-some}

-- an ended token stays as it ended
pub mark-stays : (S : Setup) (H : List Entry) (e : Entry) (t : ℕ) (status : Status) → mark_of S H t ≡ Some status → mark_of S (e ∷ H) t ≡ Some status
unfolding mark_of
mark-stays S H e t status was = rw was

-- a token that is open after an entry was open before it
pub mark-before : (S : Setup) (H : List Entry) (e : Entry) (t : ℕ) → mark_of S (e ∷ H) t ≡ None → mark_of S H t ≡ None
unfolding mark_of
mark-before S H e t unmarked = by (mark_of S H t) unmarked
  where
    by : (m : Option Status) → or_else m (ending S H e t) ≡ None → m ≡ None
    by None is = refl
    by (Some s) is = cc

-- an entry marks an open token as it ends it
pub mark-next : (S : Setup) (H : List Entry) (e : Entry) (t : ℕ) → mark_of S H t ≡ None → mark_of S (e ∷ H) t ≡ ending S H e t
unfolding mark_of
mark-next S H e t unmarked = rw unmarked

-- the mark of an open token after a done command of it
pub mark-done : (S : Setup) (H : List Entry) (t : ℕ) (c : Command) → mark_of S H t ≡ None → mark_of S (Done t c ∷ H) t ≡ status_if (is_complete S (Done t c ∷ H) t) Success
unfolding mark_of ending
mark-done S H t c unmarked = rw (unmarked, eq-eqb t t refl)

-- a failed command ends an open token
pub mark-fault : (S : Setup) (H : List Entry) (t : ℕ) (c : Command) (done : ℕ) → mark_of S H t ≡ None → mark_of S (Fault t c done ∷ H) t ≡ Some DeviceError
unfolding mark_of ending
mark-fault S H t c done unmarked = rw (unmarked, eq-eqb t t refl)

-- a command is made for an open token
pub command-open : (S : Setup) (H : List Entry) (t : ℕ) (c : Command) → MayCommand S H t c → IsOutstanding S H t
unfolding MayCommand
command-open S H t (Fetch b) (r, may) = may.at.outstanding
command-open S H t (Store b) holds = holds.outstanding
command-open S H t (Put b n) (r, may) = may.at.outstanding
command-open S H t (Get b n) (r, may) = may.at.outstanding
command-open S H t (Wipe b n) (r, may) = may.at.outstanding
command-open S H t Sync (r, may) = may.outstanding

-- an open token has a request
pub open-request : (S : Setup) (H : List Entry) (t : ℕ) → IsOutstanding S H t → (r : Request) × (request H t ≡ Some r)
open-request S H t is = request-some H t is.token

some-none : (m : Option Status) → is_some m ≡ true → m ≡ None → ⊥
some-none m some none = clash (rw none at some)
  where
    clash : false ≡ true → ⊥
    clash e = cc

-- no entry concerns a token that it does not make
unconcerned : (S : Setup) (H : List Entry) (e : Entry) (t : ℕ) → MayFollow S H e → request H t ≡ None → mark_of S H t ≡ None → token_count (e ∷ H) ≤ t → concerns H e t ≡ false
unfolding MayFollow
unconcerned S H (Accept tag view asked bytes) t may unnamed unmarked past = ne_eqb t (token_count H) (λ same. absurd (omega (arith, accepted-more H (Accept tag view asked bytes) refl, past)))
unconcerned S H (Refuse tag view asked media_id status) t may unnamed unmarked past = refl
unconcerned S H (Done u c) t may unnamed unmarked past = ne_eqb u t (λ same. absurd (omega (arith, (command-open S H u c may).token, accepted-same H (Done u c) refl, past)))
unconcerned S H (Fault u c done) t may unnamed unmarked past = ne_eqb u t (λ same. absurd (omega (arith, (command-open S H u c may.0).token, accepted-same H (Fault u c done) refl, past)))
unconcerned S H (Collect tag u) t may unnamed unmarked past = ne_eqb u t (λ same. some-none (mark_of S H t) (rw same at may.0) unmarked)
unconcerned S H (Cancel tag view) t may unnamed unmarked past = ap (has_view view) unnamed
unconcerned S H (Reset tag) t may unnamed unmarked past = le-ltb t (token_count H) (omega (arith, accepted-same H (Reset tag) refl, past))
unconcerned S H (Eject tag) t may unnamed unmarked past = le-ltb t (token_count H) (omega (arith, accepted-same H (Eject tag) refl, past))
unconcerned S H (Insert tag media_id) t may unnamed unmarked past = refl
unconcerned S H (Protect tag on) t may unnamed unmarked past = and_right on (is_some_change (request H t)) (ap is_some_change unnamed)

-- tokens stay accepted
pub accepted-rises : (H : List Entry) (e : Entry) → token_count H ≤ token_count (e ∷ H)
accepted-rises H (Accept a b c d) = omega (arith, accepted-more H (Accept a b c d) refl)
accepted-rises H e = omega (arith, accepted-same H e refl)

untold-other : (S : Setup) (H : List Entry) (e : Entry) (t : ℕ) → concerns H e t ≡ false → IsUntold S H t → IsUntold S (e ∷ H) t
untold-other S H e t other is = record {
  told = facts_of-other S H e t other ∙ is.told;
  unread = λ x. bytes_read-other S H e t x other ∙ is.unread x;
  unticketed = λ b. ticket_of-other H e t b other ∙ is.unticketed b;
}

-- the parts of what is told of a token that is not yet accepted
pub untold-request : (S : Setup) (H : List Entry) (t : ℕ) → IsUntold S H t → request H t ≡ None
unfolding facts_of
untold-request S H t is = ap (λ (s : TokenFacts). s.named) is.told

pub untold-mark : (S : Setup) (H : List Entry) (t : ℕ) → IsUntold S H t → mark_of S H t ≡ None
unfolding facts_of
untold-mark S H t is = ap (λ (s : TokenFacts). s.mark) is.told

pub untold-collected : (S : Setup) (H : List Entry) (t : ℕ) → IsUntold S H t → was_collected H t ≡ false
unfolding facts_of
untold-collected S H t is = ap (λ (s : TokenFacts). s.collected) is.told

pub untold-done : (S : Setup) (H : List Entry) (t : ℕ) → IsUntold S H t → done_commands H t ≡ []
unfolding facts_of
untold-done S H t is = ap (λ (s : TokenFacts). s.done) is.told

pub untold-has_done : (S : Setup) (test : Command → Bool) (H : List Entry) (t : ℕ) → IsUntold S H t → has_done test H t ≡ false
unfolding has_done
untold-has_done S test H t is = rw (untold-done S H t is)

pub untold-commands : (S : Setup) (H : List Entry) (t : ℕ) → IsUntold S H t → commands_of H t ≡ 0
unfolding facts_of
untold-commands S H t is = ap (λ (s : TokenFacts). s.made) is.told

untold-none : (S : Setup) (t : ℕ) → IsUntold S [] t
unfolding facts_of request mark_of was_collected done_commands commands_of bytes_read ticket_of
untold-none S t = record { told = refl; unread = λ x. refl; unticketed = λ b. refl }

-- nothing is told of a token that is not yet accepted
pub unaccepted : (S : Setup) (H : List Entry) (t : ℕ) → IsLegal S H → token_count H ≤ t → IsUntold S H t
unfolding IsLegal
unaccepted S [] t legal past = untold-none S t
unaccepted S (e ∷ H) t (legal, may) past =
    let before : IsUntold S H t = unaccepted S H t legal (omega (arith, accepted-rises H e, past)) in
    untold-other S H e t (unconcerned S H e t may (untold-request S H t before) (untold-mark S H t before) past) before

-- a new token ends at once where it is complete
pub mark-accept : (S : Setup) (H : List Entry) (tag : ℕ) (view : View) (asked : Asked) (bytes : List ℕ) → IsLegal S H
    → mark_of S (Accept tag view asked bytes ∷ H) (token_count H) ≡ status_if (is_complete S (Accept tag view asked bytes ∷ H) (token_count H)) Success
unfolding mark_of ending
mark-accept S H tag view asked bytes legal =
    rw (untold-mark S H (token_count H) (unaccepted S H (token_count H) legal (omega arith)), eq-eqb (token_count H) (token_count H) refl)

-- a legal command is of no ended token
pub command-other : (S : Setup) (H : List Entry) (u t : ℕ) (c : Command) (status : Status) → MayCommand S H u c → mark_of S H t ≡ Some status → u ≡ t → ⊥
command-other S H u t c status may marked same = clash (sym marked ∙ rw same at (command-open S H u c may).unmarked)
  where
    clash : Some status ≡ None → ⊥
    clash e = cc

-- an ended token keeps its done commands
pub ended-done : (S : Setup) (H : List Entry) (e : Entry) (t : ℕ) (status : Status) → MayFollow S H e → mark_of S H t ≡ Some status → done_commands (e ∷ H) t ≡ done_commands H t
unfolding MayFollow done_commands
ended-done S H (Done u c) t status may marked = rw (ne_eqb u t (command-other S H u t c status may marked))
ended-done S H e t status may marked = refl

-- and what it read
pub ended-read : (S : Setup) (H : List Entry) (e : Entry) (t : ℕ) (status : Status) (x : ℕ) → MayFollow S H e → mark_of S H t ≡ Some status → bytes_read S (e ∷ H) t x ≡ bytes_read S H t x
unfolding MayFollow bytes_read
ended-read S H (Done u c) t status x may marked = rw (ne_eqb u t (command-other S H u t c status may marked))
ended-read S H e t status x may marked = refl
