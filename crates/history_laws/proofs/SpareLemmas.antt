-- What each entry does to all the entries that a history must still have room for.
use Rattle.std.proofs.Common.{◌≡◌, ℕ, zero, suc, ◌+◌, ◌<◌, ◌≤◌, inl, inr, Bool, true, false, List, [], ◌∷◌, length, Option, None, Some, refl, sym, ◌∙◌, arith, is_some}
use Rattle.std.proofs.lemmas.Bool.{cases_eq, cases_lt, cases_Bool, eq-eqb, eqb-true, or_right, lt-ltb}
use Rattle.efi_status.specs.declared.Status.{Status}
use Rattle.efi_status.specs.declared.Status.TheVariants.{Aborted}
use Rattle.history.specs.declared.entry.View.{View}
use Rattle.history.specs.declared.entry.Asked.{Asked}
use Rattle.history.specs.declared.entry.Command.{Command}
use Rattle.history.specs.declared.entry.Entry.{Entry}
use Rattle.history.specs.declared.entry.Entry.TheVariants.{Accept, Refuse, Done, Fault, Collect, Cancel, Reset, Eject, Insert}
use Rattle.history.specs.Setup.{Setup, IsSetup}
use Rattle.history.specs.Eras.{ejects, inserts, is_eject, is_insert, media_id_of}
use Rattle.history.specs.Tokens.{Request, is_accept, token_count, request, is_collect_of, was_collected}
use Rattle.history.specs.Marks.{IsOutstanding, mark_of, ending, or_else, is_same_view}
use Rattle.history.specs.Rules.{MayCommand, MayFollow, IsLegal}
use Rattle.history.specs.Room.{commands_owed, request_owed, token_owed, tokens_owed, media_owed, owed_entries}
use Rattle.history_laws.specs.Laws.{is_owed}
use Rattle.history_laws.proofs.CountLemmas.{inserts-none, accepted-more, accepted-same, ejects-more, ejects-same, inserts-more, inserts-same}
use Rattle.history_laws.proofs.TokenLemmas.{accept-concerns, request-kept, request-same, request-some, collected-collect, collected-stays}
use Rattle.history_laws.proofs.EndLemmas.{mark-stays, mark-next, command-open, unaccepted, untold-mark}
use Rattle.history_laws.proofs.OwedLemmas.{commands-stay}
use Rattle.history_laws.proofs.RoomLemmas.{ended-owed, collected-owed, ended-owed-most, owed-other, tokens-same, tokens-less, tokens-fall, done-owed, fault-owed, command-owed, end-owed}

request_owed-less : (S : Setup) (H H' : List Entry) (t : ℕ) (o : Option Request) (m later : Option Status) (c c' : Bool) → (c ≡ true → c' ≡ true)
    → ((r : Request) → commands_owed S H' t r ≤ commands_owed S H t r) → request_owed S H' t o (or_else m later) c' ≤ request_owed S H t o m c
request_owed-less S H H' t None m later c c' stays less = omega arith
request_owed-less S H H' t (Some r) None None c c' stays less = omega (arith, less r)
request_owed-less S H H' t (Some r) None (Some status) c true stays less = omega arith
request_owed-less S H H' t (Some r) None (Some status) c false stays less = omega arith
request_owed-less S H H' t (Some r) (Some status) later true true stays less = omega arith
request_owed-less S H H' t (Some r) (Some status) later true false stays less = let no_way : false ≡ true = stays refl in cc
request_owed-less S H H' t (Some r) (Some status) later false true stays less = omega arith
request_owed-less S H H' t (Some r) (Some status) later false false stays less = omega arith

-- no entry makes an accepted token owe more
pub owed-stays : (S : Setup) (H : List Entry) (e : Entry) (t : ℕ) → t < token_count H → token_owed S (e ∷ H) t ≤ token_owed S H t
unfolding token_owed mark_of
owed-stays S H e t token =
    rw (request-kept H e t (λ same. absurd (omega (arith, same))))
    (request_owed-less S H (e ∷ H) t (request H t) (mark_of S H t) (ending S H e t) (was_collected H t) (was_collected (e ∷ H) t) (collected-stays H e t) (commands-stay S H e t))

-- an ended token was accepted
pub marked-accepted : (S : Setup) (H : List Entry) (t : ℕ) (status : Status) → IsLegal S H → mark_of S H t ≡ Some status → t < token_count H
marked-accepted S H t status legal marked = elim (cases_lt t (token_count H)) [
  | inl token ↦ token
  | inr past ↦ let unmarked : mark_of S H t ≡ None = untold-mark S H t (unaccepted S H t legal past) in absurd (some-none status (sym marked ∙ unmarked))
]
  where
    some-none : (status : Status) → Some status ≡ None → ⊥
    some-none status e = cc

-- a collect takes one from its token
pub collect-owed : (S : Setup) (H : List Entry) (tag t : ℕ) → IsLegal S H → MayFollow S H (Collect tag t) → token_owed S (Collect tag t ∷ H) t + 1 ≡ token_owed S H t
unfolding MayFollow
collect-owed S H tag t legal (ended, kept) = by (mark_of S H t) refl ended
  where
    by : (m : Option Status) → mark_of S H t ≡ m → is_some m ≡ true → token_owed S (Collect tag t ∷ H) t + 1 ≡ token_owed S H t
    by None is some = cc
    by (Some status) is some =
        let (r, named) = request-some H t (marked-accepted S H t status legal is) in
        let was : token_owed S H t ≡ 1 = ended-owed S H t r status named is kept in
        let none : token_owed S (Collect tag t ∷ H) t ≡ 0 = collected-owed S (Collect tag t ∷ H) t r status (request-same H (Collect tag t) t refl ∙ named) (mark-stays S H (Collect tag t) t status is) (collected-collect H tag t) in
        omega (arith, was, none)

-- a done command that ends its token takes two from it
pub done-end-owed : (S : Setup) (H : List Entry) (t : ℕ) (c : Command) (status : Status) → IsSetup S → IsLegal S H → MayCommand S H t c → mark_of S (Done t c ∷ H) t ≡ Some status → token_owed S (Done t c ∷ H) t + 2 ≤ token_owed S H t
done-end-owed S H t c status is legal may marked = omega (arith, command-owed S H t c is legal may, ended-owed-most S (Done t c ∷ H) t status marked)

-- media come and go by ejections and insertions alone
pub media-same : (S : Setup) (H : List Entry) (e : Entry) → is_eject e ≡ false → is_insert e ≡ false → media_owed S (e ∷ H) ≡ media_owed S H
media-same S H e stays same = rw (ejects-same H e stays, inserts-same H e same)

-- one token's entry takes so many
one-token : (S : Setup) (H : List Entry) (e : Entry) (t paid : ℕ) → is_accept e ≡ false → is_eject e ≡ false → is_insert e ≡ false → t < token_count H → token_owed S (e ∷ H) t + paid ≤ token_owed S H t
    → owed_entries S (e ∷ H) + paid ≤ owed_entries S H
unfolding owed_entries
one-token S H e t paid old stays same token falls =
    rw (accepted-same H e old, media-same S H e stays same) (omega (arith, tokens-fall S H (e ∷ H) (token_count H) t paid token falls (λ u below. owed-stays S H e u below)))

-- a done command takes at least one entry
pub entries-done : (S : Setup) (H : List Entry) (t : ℕ) (c : Command) → IsSetup S → IsLegal S H → MayCommand S H t c → owed_entries S (Done t c ∷ H) + 1 ≤ owed_entries S H
entries-done S H t c is legal may = one-token S H (Done t c) t 1 refl refl refl (command-open S H t c may).token (done-owed S H t c is legal may)

-- and two where it ends its token
pub entries-done-end : (S : Setup) (H : List Entry) (t : ℕ) (c : Command) (status : Status) → IsSetup S → IsLegal S H → MayCommand S H t c → mark_of S (Done t c ∷ H) t ≡ Some status → owed_entries S (Done t c ∷ H) + 2 ≤ owed_entries S H
entries-done-end S H t c status is legal may marked = one-token S H (Done t c) t 2 refl refl refl (command-open S H t c may).token (done-end-owed S H t c status is legal may marked)

-- a failed command takes two
pub entries-fault : (S : Setup) (H : List Entry) (t : ℕ) (c : Command) (done : ℕ) → IsSetup S → IsLegal S H → MayCommand S H t c → owed_entries S (Fault t c done ∷ H) + 2 ≤ owed_entries S H
entries-fault S H t c done is legal may = one-token S H (Fault t c done) t 2 refl refl refl (command-open S H t c may).token (fault-owed S H t c done is legal may)

-- a collect takes one
pub entries-collect : (S : Setup) (H : List Entry) (tag t : ℕ) → IsLegal S H → MayFollow S H (Collect tag t) → owed_entries S (Collect tag t ∷ H) + 1 ≤ owed_entries S H
unfolding MayFollow
entries-collect S H tag t legal may = one-token S H (Collect tag t) t 1 refl refl refl (by (mark_of S H t) refl may.0) (omega (arith, collect-owed S H tag t legal may))
  where
    by : (m : Option Status) → mark_of S H t ≡ m → is_some m ≡ true → t < token_count H
    by None is some = cc
    by (Some status) is some = marked-accepted S H t status legal is

-- a refusal takes none
pub entries-refuse : (S : Setup) (H : List Entry) (tag : ℕ) (view : View) (asked : Asked) (media_id : ℕ) (status : Status) → owed_entries S (Refuse tag view asked media_id status ∷ H) ≡ owed_entries S H
unfolding owed_entries
entries-refuse S H tag view asked media_id status =
    let e : Entry = Refuse tag view asked media_id status in
    rw (accepted-same H e refl, media-same S H e refl refl, tokens-same S H (e ∷ H) (token_count H) (λ t below. owed-other S H e t refl))

tokens-last : (S : Setup) (H : List Entry) (n : ℕ) → tokens_owed S H (suc n) ≡ tokens_owed S H n + token_owed S H n
unfolding tokens_owed
tokens-last S H n = refl

-- an accept adds what its token owes
pub entries-accept : (S : Setup) (H : List Entry) (tag : ℕ) (view : View) (asked : Asked) (bytes : List ℕ)
    → owed_entries S (Accept tag view asked bytes ∷ H) ≡ owed_entries S H + token_owed S (Accept tag view asked bytes ∷ H) (token_count H)
unfolding owed_entries
entries-accept S H tag view asked bytes =
    let e : Entry = Accept tag view asked bytes in
    let older : tokens_owed S (e ∷ H) (token_count H) ≡ tokens_owed S H (token_count H) = tokens-same S H (e ∷ H) (token_count H) (λ t below. owed-other S H e t (accept-concerns H tag view asked bytes t (λ same. absurd (omega (arith, same))))) in
    let more : token_count (e ∷ H) ≡ suc (token_count H) = (let plus : token_count (e ∷ H) ≡ token_count H + 1 = accepted-more H e refl in omega (arith, plus)) in
    rw (more, media-same S H e refl refl) (omega (arith, tokens-last S (e ∷ H) (token_count H), older))

-- an ending of tokens takes one for each of them, so at least one where a token is open that it ends
pub entries-end : (S : Setup) (H : List Entry) (e : Entry) (t : ℕ) (status : Status) → is_accept e ≡ false → is_eject e ≡ false → is_insert e ≡ false → IsOutstanding S H t → ending S H e t ≡ Some status
    → owed_entries S (e ∷ H) + 1 ≤ owed_entries S H
entries-end S H e t status old stays same open_ ends =
    one-token S H e t 1 old stays same open_.token (end-owed S H e t status open_.token open_.unmarked (mark-next S H e t open_.unmarked ∙ ends))

pub same-view : (view : View) → is_same_view view view ≡ true
same-view view = rw (eq-eqb view.start view.start refl, eq-eqb view.length view.length refl, eq-eqb view.media_id view.media_id refl, eq-eqb view.index view.index refl)

pub entries-cancel : (S : Setup) (H : List Entry) (tag : ℕ) (view : View) → MayFollow S H (Cancel tag view) → owed_entries S (Cancel tag view ∷ H) + 1 ≤ owed_entries S H
unfolding MayFollow ending
entries-cancel S H tag view (t, r, open_, named, at) = entries-end S H (Cancel tag view) t Aborted refl refl refl open_ (rw (named, at, same-view view))

pub entries-reset : (S : Setup) (H : List Entry) (tag : ℕ) → MayFollow S H (Reset tag) → owed_entries S (Reset tag ∷ H) + 1 ≤ owed_entries S H
unfolding MayFollow ending
entries-reset S H tag (t, open_) = entries-end S H (Reset tag) t Aborted refl refl refl open_ (rw (lt-ltb t (token_count H) open_.token))

ejects-rise : (H : List Entry) (e : Entry) → ejects H ≤ ejects (e ∷ H)
ejects-rise H e = elim (cases_Bool (is_eject e)) [ inl is ↦ omega (arith, ejects-more H e is) | inr isnt ↦ omega (arith, ejects-same H e isnt) ]

inserts-rise : (H : List Entry) (e : Entry) → inserts H ≤ inserts (e ∷ H)
inserts-rise H e = elim (cases_Bool (is_insert e)) [ inl is ↦ omega (arith, inserts-more H e is) | inr isnt ↦ omega (arith, inserts-same H e isnt) ]

-- no entry but an accept makes a history owe more
pub entries-less : (S : Setup) (H : List Entry) (e : Entry) → is_accept e ≡ false → owed_entries S (e ∷ H) ≤ owed_entries S H
unfolding owed_entries
entries-less S H e old =
    rw (accepted-same H e old)
    (omega (arith, tokens-less S H (e ∷ H) (token_count H) (λ t below. owed-stays S H e t below), ejects-rise H e, inserts-rise H e))

-- media ids are those of media
pub media-within : (S : Setup) (H : List Entry) → 1 ≤ length S.media → IsLegal S H → media_id_of H ≤ length S.media
unfolding IsLegal MayFollow
media-within S [] some legal = rw inserts-none some
media-within S (Insert tag k ∷ H) some (legal, (out, is, within)) = omega (arith, inserts-more H (Insert tag k) refl)
media-within S (e ∷ H) some (legal, may) = omega (arith, inserts-same H e refl, media-within S H some legal)

-- an ejection takes at least one entry
pub entries-eject : (S : Setup) (H : List Entry) (tag : ℕ) → 1 ≤ length S.media → IsLegal S H → MayFollow S H (Eject tag) → owed_entries S (Eject tag ∷ H) + 1 ≤ owed_entries S H
unfolding MayFollow owed_entries
entries-eject S H tag some legal present =
    let level : ejects H ≡ inserts H = eqb-true (ejects H) (inserts H) present in
    rw (accepted-same H (Eject tag) refl)
    (omega (arith, level, media-within S H some legal, tokens-less S H (Eject tag ∷ H) (token_count H) (λ t below. owed-stays S H (Eject tag) t below), ejects-more H (Eject tag) refl, inserts-same H (Eject tag) refl))

-- so does an insertion
pub entries-insert : (S : Setup) (H : List Entry) (tag k : ℕ) → MayFollow S H (Insert tag k) → owed_entries S (Insert tag k ∷ H) + 1 ≤ owed_entries S H
unfolding MayFollow owed_entries
entries-insert S H tag k (out, is, within) =
    rw (accepted-same H (Insert tag k) refl)
    (omega (arith, tokens-less S H (Insert tag k ∷ H) (token_count H) (λ t below. owed-stays S H (Insert tag k) t below), ejects-same H (Insert tag k) refl, inserts-more H (Insert tag k) refl))

-- every entry but an accept, a refusal and a change of protection takes at least one
pub entries-owed : (S : Setup) (H : List Entry) (e : Entry) → IsSetup S → 1 ≤ length S.media → IsLegal S H → MayFollow S H e → is_owed e ≡ true → owed_entries S (e ∷ H) + 1 ≤ owed_entries S H
unfolding MayFollow
entries-owed S H (Done t c) is some legal may owed = entries-done S H t c is legal may
entries-owed S H (Fault t c done) is some legal (may, stops) owed = omega (arith, entries-fault S H t c done is legal may)
entries-owed S H (Collect tag t) is some legal may owed = entries-collect S H tag t legal may
entries-owed S H (Cancel tag view) is some legal may owed = entries-cancel S H tag view may
entries-owed S H (Reset tag) is some legal may owed = entries-reset S H tag may
entries-owed S H (Eject tag) is some legal may owed = entries-eject S H tag some legal may
entries-owed S H (Insert tag k) is some legal may owed = entries-insert S H tag k may
entries-owed S H e is some legal may owed = cc

token-within : (S : Setup) (H : List Entry) (n t : ℕ) → t < n → token_owed S H t ≤ tokens_owed S H n
unfolding tokens_owed
token-within S H zero t lt = absurd (omega arith)
token-within S H (suc n) t lt = elim (cases_eq t n) [
  | inl same ↦ rw same (omega arith)
  | inr other ↦ omega (arith, token-within S H n t (omega (arith, other)))
]

-- what a token owes is among the entries that are owed
pub owed-within : (S : Setup) (H : List Entry) (t : ℕ) → t < token_count H → token_owed S H t ≤ owed_entries S H
unfolding owed_entries
owed-within S H t token = omega (arith, token-within S H (token_count H) t token)
