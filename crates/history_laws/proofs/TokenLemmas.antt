-- What an entry tells of a token: nothing new where it does not concern it.
use Rattle.std.proofs.Common.{◌≡◌, ◌≢◌, ℕ, ◌<◌, inl, inr, Bool, true, false, ◌&&◌, ◌||◌, List, [], ◌∷◌, Option, None, Some, refl, sym, ap, ◌∙◌, arith, nat_eq}
use Rattle.std.specs.List.{list_any}
use Rattle.std.proofs.lemmas.Bool.{cases_eq, cases_Bool, ne_eqb, eq-eqb, or_right}
use Rattle.efi_status.specs.declared.Status.{Status}
use Rattle.history.specs.declared.entry.View.{View}
use Rattle.history.specs.declared.entry.Asked.{Asked}
use Rattle.history.specs.declared.entry.Command.{Command}
use Rattle.history.specs.declared.entry.Entry.{Entry}
use Rattle.history.specs.declared.entry.Entry.TheVariants.{Accept, Refuse, Done, Fault, Collect, Insert}
use Rattle.history.specs.Setup.{Setup}
use Rattle.history.specs.Eras.{media_id_of}
use Rattle.history.specs.Tokens.{Request, is_accept, token_count, request, is_collect_of, was_collected}
use Rattle.history.specs.Commands.{first_block, block_count, is_get, lies_in, done_commands, has_done}
use Rattle.history.specs.Contents.{contents, byte_at, bytes_read}
use Rattle.history.specs.Marks.{mark_of, ending, or_else, ticket_of}
use Rattle.history.specs.Room.{commands_of}
use Rattle.history_laws.specs.TokenFacts.{is_done, TokenFacts, facts_of, concerns}
use Rattle.history_laws.proofs.CountLemmas.{accepted-none, accepted-more, accepted-same}

-- an end that is none leaves the mark
pub or_else-none : (m : Option Status) → or_else m None ≡ m
or_else-none None = refl
or_else-none (Some s) = refl

-- an entry that does not concern a token does not end it
pub ending-other : (S : Setup) (H : List Entry) (e : Entry) (t : ℕ) → concerns H e t ≡ false → ending S H e t ≡ None
unfolding ending
ending-other S H (Refuse tag view asked media_id status) t other = refl
ending-other S H (Collect tag u) t other = refl
ending-other S H (Insert tag media_id) t other = refl
ending-other S H e t other = rw other

-- it leaves the mark
pub mark-other : (S : Setup) (H : List Entry) (e : Entry) (t : ℕ) → concerns H e t ≡ false → mark_of S (e ∷ H) t ≡ mark_of S H t
unfolding mark_of
mark-other S H e t other = rw (ending-other S H e t other) (or_else-none (mark_of S H t))

-- it leaves all that is told of the token
pub facts_of-other : (S : Setup) (H : List Entry) (e : Entry) (t : ℕ) → concerns H e t ≡ false → facts_of S (e ∷ H) t ≡ facts_of S H t
unfolding facts_of request was_collected done_commands commands_of
facts_of-other S H (Accept tag view asked bytes) t other = rw (other, mark-other S H (Accept tag view asked bytes) t other)
facts_of-other S H (Done u c) t other = rw (other, mark-other S H (Done u c) t other)
facts_of-other S H (Fault u c done) t other = rw (other, mark-other S H (Fault u c done) t other)
facts_of-other S H (Collect tag u) t other = rw (other, mark-other S H (Collect tag u) t other)
facts_of-other S H e t other = rw (mark-other S H e t other)

pub request-other : (S : Setup) (H : List Entry) (e : Entry) (t : ℕ) → concerns H e t ≡ false → request (e ∷ H) t ≡ request H t
unfolding facts_of
request-other S H e t other = ap (λ (s : TokenFacts). s.named) (facts_of-other S H e t other)

pub done_commands-other : (S : Setup) (H : List Entry) (e : Entry) (t : ℕ) → concerns H e t ≡ false → done_commands (e ∷ H) t ≡ done_commands H t
unfolding facts_of
done_commands-other S H e t other = ap (λ (s : TokenFacts). s.done) (facts_of-other S H e t other)

pub has_done-other : (S : Setup) (test : Command → Bool) (H : List Entry) (e : Entry) (t : ℕ) → concerns H e t ≡ false → has_done test (e ∷ H) t ≡ has_done test H t
unfolding has_done
has_done-other S test H e t other = ap (list_any test) (done_commands-other S H e t other)

-- nor does it change what the token read
pub bytes_read-other : (S : Setup) (H : List Entry) (e : Entry) (t x : ℕ) → concerns H e t ≡ false → bytes_read S (e ∷ H) t x ≡ bytes_read S H t x
unfolding bytes_read
bytes_read-other S H (Done u c) t x other = rw other
bytes_read-other S H e t x other = refl

-- nor the tickets of its fetches
pub ticket_of-other : (H : List Entry) (e : Entry) (t b : ℕ) → concerns H e t ≡ false → ticket_of (e ∷ H) t b ≡ ticket_of H t b
unfolding ticket_of
ticket_of-other H (Done u c) t b other = rw other
ticket_of-other H e t b other = refl

-- an entry of token u does not concern another
pub done-concerns : (H : List Entry) (u t : ℕ) (c : Command) → u ≢ t → concerns H (Done u c) t ≡ false
done-concerns H u t c other = ne_eqb u t other

pub fault-concerns : (H : List Entry) (u t : ℕ) (c : Command) (done : ℕ) → u ≢ t → concerns H (Fault u c done) t ≡ false
fault-concerns H u t c done other = ne_eqb u t other

-- an accept does not concern the tokens before it
pub accept-concerns : (H : List Entry) (tag : ℕ) (view : View) (asked : Asked) (bytes : List ℕ) (t : ℕ) → t ≢ token_count H → concerns H (Accept tag view asked bytes) t ≡ false
accept-concerns H tag view asked bytes t other = ne_eqb t (token_count H) other

-- a new token has its request
pub request-accept : (H : List Entry) (tag : ℕ) (view : View) (asked : Asked) (bytes : List ℕ)
    → request (Accept tag view asked bytes ∷ H) (token_count H) ≡ Some (record { tag = tag; view = view; asked = asked; bytes = bytes })
unfolding request
request-accept H tag view asked bytes = rw (eq-eqb (token_count H) (token_count H) refl)

-- every other token keeps its own
pub request-kept : (H : List Entry) (e : Entry) (t : ℕ) → t ≢ token_count H → request (e ∷ H) t ≡ request H t
unfolding request
request-kept H (Accept tag view asked bytes) t other = rw (ne_eqb t (token_count H) other)
request-kept H e t other = refl

-- an entry that is no accept names no token
pub request-same : (H : List Entry) (e : Entry) (t : ℕ) → is_accept e ≡ false → request (e ∷ H) t ≡ request H t
unfolding request
request-same H (Accept tag view asked bytes) t other = cc
request-same H e t other = refl

-- a token with a request was accepted
pub request-accepted : (H : List Entry) (t : ℕ) (r : Request) → request H t ≡ Some r → t < token_count H
unfolding request
request-accepted [] t r named = cc
request-accepted (Accept tag view asked bytes ∷ H) t r named = elim (cases_eq t (token_count H)) [
  | inl same ↦ omega (arith, accepted-more H (Accept tag view asked bytes) refl)
  | inr other ↦
      let before : request H t ≡ Some r = rw (ne_eqb t (token_count H) other) at named in
      omega (arith, accepted-more H (Accept tag view asked bytes) refl, request-accepted H t r before)
]
request-accepted (e ∷ H) t r named = omega (arith, accepted-same H e refl, request-accepted H t r named)

-- it keeps it
pub request-stays : (H : List Entry) (e : Entry) (t : ℕ) (r : Request) → request H t ≡ Some r → request (e ∷ H) t ≡ Some r
request-stays H e t r named = request-kept H e t (λ same. absurd (omega (arith, request-accepted H t r named))) ∙ named

newest-request : (H : List Entry) (e : Entry) → is_accept e ≡ true → (r : Request) × (request (e ∷ H) (token_count H) ≡ Some r)
newest-request H (Accept tag view asked bytes) is = (record { tag = tag; view = view; asked = asked; bytes = bytes }, request-accept H tag view asked bytes)
newest-request H e is = cc

older-request : (H : List Entry) (e : Entry) (t : ℕ) → (r : Request) × (request H t ≡ Some r) → (r : Request) × (request (e ∷ H) t ≡ Some r)
older-request H e t (r, named) = (r, request-stays H e t r named)

-- an accepted token has a request
pub request-some : (H : List Entry) (t : ℕ) → t < token_count H → (r : Request) × (request H t ≡ Some r)
request-some [] t below = absurd (omega (arith, accepted-none, below))
request-some (e ∷ H) t below = elim (cases_Bool (is_accept e)) [
  | inr isnt ↦ older-request H e t (request-some H t (omega (arith, accepted-same H e isnt, below)))
  | inl is ↦ elim (cases_eq t (token_count H)) [
    | inl same ↦ rw same (newest-request H e is)
    | inr other ↦ older-request H e t (request-some H t (omega (arith, other, accepted-more H e is, below)))
  ]
]

-- a done command of the token stands first
pub done_commands-done : (H : List Entry) (t : ℕ) (c : Command) → done_commands (Done t c ∷ H) t ≡ c ∷ done_commands H t
unfolding done_commands
done_commands-done H t c = rw (eq-eqb t t refl)

-- so a test looks at it first
pub has_done-done : (test : Command → Bool) (H : List Entry) (t : ℕ) (c : Command) → has_done test (Done t c ∷ H) t ≡ (test c || has_done test H t)
unfolding has_done
has_done-done test H t c = ap (list_any test) (done_commands-done H t c)

-- another entry leaves the done commands of every token
pub done_commands-same : (H : List Entry) (e : Entry) (t : ℕ) → is_done e ≡ false → done_commands (e ∷ H) t ≡ done_commands H t
unfolding done_commands
done_commands-same H (Done a b) t isnt = cc
done_commands-same H e t isnt = refl

pub has_done-same : (test : Command → Bool) (H : List Entry) (e : Entry) (t : ℕ) → is_done e ≡ false → has_done test (e ∷ H) t ≡ has_done test H t
unfolding has_done
has_done-same test H e t isnt = ap (list_any test) (done_commands-same H e t isnt)

has_done-unmatched : (test : Command → Bool) (H : List Entry) (u t : ℕ) (c : Command) → nat_eq u t ≡ false → has_done test (Done u c ∷ H) t ≡ has_done test H t
unfolding has_done done_commands
has_done-unmatched test H u t c isnt = rw isnt

-- what was done stays done
pub has_done-stays : (test : Command → Bool) (H : List Entry) (e : Entry) (t : ℕ) → has_done test H t ≡ true → has_done test (e ∷ H) t ≡ true
has_done-stays test H (Done u c) t was = elim (cases_eq u t) [
  | inl same ↦ rw (← same) (has_done-done test H u c ∙ or_right (test c) (has_done test H u) (rw (← same) at was))
  | inr other ↦ has_done-unmatched test H u t c (ne_eqb u t other) ∙ was
]
has_done-stays test H e t was = has_done-same test H e t refl ∙ was

-- a token that is handed back was
pub collected-collect : (H : List Entry) (tag t : ℕ) → was_collected (Collect tag t ∷ H) t ≡ true
unfolding was_collected
collected-collect H tag t = rw (eq-eqb t t refl)

-- only a collect hands a token back
pub collected-same : (H : List Entry) (e : Entry) (t : ℕ) → is_collect_of t e ≡ false → was_collected (e ∷ H) t ≡ was_collected H t
unfolding was_collected
collected-same H e t isnt = rw isnt

-- a done get of the token reads what its medium holds in its blocks
pub bytes_read-get : (S : Setup) (H : List Entry) (t x : ℕ) (c : Command) → is_get c ≡ true → lies_in S (first_block c) (block_count S c) x ≡ true
    → bytes_read S (Done t c ∷ H) t x ≡ byte_at (contents S (media_id_of H) H) x
unfolding bytes_read
bytes_read-get S H t x c get inside = rw (eq-eqb t t refl, get, inside)

-- and nothing elsewhere, as every other command
pub bytes_read-kept : (S : Setup) (H : List Entry) (t x : ℕ) (c : Command) → (is_get c && lies_in S (first_block c) (block_count S c) x) ≡ false → bytes_read S (Done t c ∷ H) t x ≡ bytes_read S H t x
unfolding bytes_read
bytes_read-kept S H t x c outside = rw (eq-eqb t t refl, outside)

-- what was collected stays so
pub collected-stays : (H : List Entry) (e : Entry) (t : ℕ) → was_collected H t ≡ true → was_collected (e ∷ H) t ≡ true
unfolding was_collected
collected-stays H e t was = or_right (is_collect_of t e) _ was

-- and what is not collected was not
pub uncollected-before : (H : List Entry) (e : Entry) (t : ℕ) → was_collected (e ∷ H) t ≡ false → was_collected H t ≡ false
unfolding was_collected
uncollected-before H e t not_it = by (was_collected H t) refl
  where
    by : (b : Bool) → was_collected H t ≡ b → b ≡ false
    by false is = refl
    by true is = other (is_collect_of t e) refl
      where
        other : (c : Bool) → is_collect_of t e ≡ c → true ≡ false
        other true same = rw same at not_it
        other false same = sym is ∙ rw same at not_it
