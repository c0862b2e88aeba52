-- How many commands a token makes, and what each entry does to the entries that are owed.
use Rattle.std.proofs.Common.{◌≡◌, ℕ, zero, suc, ◌+◌, ◌<◌, ◌≤◌, inl, inr, Bool, true, false, not, if◌then◌else◌, List, [], ◌∷◌, length, map, Option, None, Some, refl, sym, ◌∙◌, ap, arith}
use Rattle.std.specs.List.{sum_by, count_by}
use Rattle.std.proofs.lemmas.Bool.{cases_Bool, cases_eq, eq-eqb, ne_eqb}
use Rattle.std.proofs.lemmas.List.Sums.{sum_by-cons}
use Rattle.efi_status.specs.declared.Status.{Status}
use Rattle.efi_status.specs.declared.Status.TheVariants.{DeviceError}
use Rattle.disk_split.specs.declared.span.Span.{Span}
use Rattle.disk_split.specs.Units.{units_of}
use Rattle.disk_split.proofs.Listing.{units-count, parts-count}
use Rattle.history.specs.declared.entry.Kind.{Kind}
use Rattle.history.specs.declared.entry.Kind.TheVariants.{Read, Write, Flush, Erase}
use Rattle.history.specs.declared.entry.Command.{Command}
use Rattle.history.specs.declared.entry.Entry.{Entry}
use Rattle.history.specs.declared.entry.Entry.TheVariants.{Accept, Done, Fault}
use Rattle.history.specs.Setup.{Setup, IsSetup}
use Rattle.history.specs.Tokens.{Request, token_count, request, was_collected, is_flush, from_of, until_of}
use Rattle.history.specs.Commands.{done_commands, has_done, is_sync}
use Rattle.history.specs.Marks.{IsOutstanding, mark_of, ending, or_else}
use Rattle.history.specs.Rules.{MayCommand, MayFollow, IsLegal}
use Rattle.history.specs.Tasks.{Moves}
use Rattle.history.specs.Room.{one_unless, span_owed, task_owed, commands_owed, commands_of, runs_of, AreFewCommands, request_owed, token_owed, tokens_owed}
use Rattle.history_laws.specs.TokenFacts.{TokenFacts, facts_of, concerns}
use Rattle.history_laws.proofs.CountLemmas.{accepted-none, commands_of-more, commands_of-same}
use Rattle.history_laws.proofs.TokenLemmas.{facts_of-other, done_commands-same, done_commands-other, request-kept, request-same, request-accepted, request-stays}
use Rattle.history_laws.proofs.EndLemmas.{mark-fault, command-open, open-request, unaccepted, untold-done, untold-commands}
use Rattle.history_laws.proofs.OwedLemmas.{commands-stay, commands-same, command-lowers}

-- what an open token's commands owe, and nothing where it has ended
abbrev pub while_open : Option Status → ℕ → ℕ
while_open None n = n
while_open (Some status) n = 0

ended-less : (m later : Option Status) (n n' : ℕ) → n' ≤ n → while_open (or_else m later) n' ≤ while_open m n
ended-less None None n n' less = omega arith
ended-less None (Some status) n n' less = omega arith
ended-less (Some status) later n n' less = omega arith

-- an entry lowers what an open token's commands owe, or leaves it
open-stays : (S : Setup) (H : List Entry) (e : Entry) (t : ℕ) (r : Request) → while_open (mark_of S (e ∷ H) t) (commands_owed S (e ∷ H) t r) ≤ while_open (mark_of S H t) (commands_owed S H t r)
unfolding mark_of
open-stays S H e t r = ended-less (mark_of S H t) (ending S H e t) (commands_owed S H t r) (commands_owed S (e ∷ H) t r) (commands-stay S H e t r)

while-most : (m : Option Status) (n : ℕ) → while_open m n ≤ n
while-most None n = omega arith
while-most (Some status) n = omega arith

done_commands-none : (t : ℕ) → done_commands [] t ≡ []
unfolding done_commands
done_commands-none t = refl

one-most : (b : Bool) → one_unless b ≤ 1
one-most true = omega arith
one-most false = omega arith

-- the commands of a token, and those that it owes while it is open, are no more than it owes at the beginning
pub commands-within : (S : Setup) (H : List Entry) (t : ℕ) (r : Request) → IsSetup S → IsLegal S H → request H t ≡ Some r
    → commands_of H t + while_open (mark_of S H t) (commands_owed S H t r) ≤ commands_owed S [] t r
unfolding IsLegal MayFollow
commands-within S [] t r is legal named = let no_token : t < token_count [] = request-accepted [] t r named in absurd (omega (arith, no_token, accepted-none))
commands-within S (Done u c ∷ H) t r is (legal, may) named =
    let before : request H t ≡ Some r = sym (request-same H (Done u c) t refl) ∙ named in
    let within : commands_of H t + while_open (mark_of S H t) (commands_owed S H t r) ≤ commands_owed S [] t r = commands-within S H t r is legal before in
    elim (cases_eq u t) [
      | inl same ↦
          let own : MayCommand S H t c = rw same at may in
          let open_ : mark_of S H t ≡ None = (command-open S H t c own).unmarked in
          let rest : while_open (mark_of S (Done t c ∷ H) t) (commands_owed S (Done t c ∷ H) t r) ≤ commands_owed S (Done t c ∷ H) t r = while-most (mark_of S (Done t c ∷ H) t) (commands_owed S (Done t c ∷ H) t r) in
          let was : while_open (mark_of S H t) (commands_owed S H t r) ≡ commands_owed S H t r = ap (λ m. while_open m (commands_owed S H t r)) open_ in
          rw same (omega (arith, within, rest, was, command-lowers S H t c r is legal before own, commands_of-more H (Done t c) t (eq-eqb t t refl)))
      | inr other ↦ omega (arith, within, open-stays S H (Done u c) t r, commands_of-same H (Done u c) t (ne_eqb u t other))
    ]
commands-within S (Fault u c done ∷ H) t r is (legal, may) named =
    let before : request H t ≡ Some r = sym (request-same H (Fault u c done) t refl) ∙ named in
    let within : commands_of H t + while_open (mark_of S H t) (commands_owed S H t r) ≤ commands_owed S [] t r = commands-within S H t r is legal before in
    elim (cases_eq u t) [
      | inl same ↦
          let own : MayCommand S H t c = rw same at may.0 in
          let open_ : mark_of S H t ≡ None = (command-open S H t c own).unmarked in
          let ended : while_open (mark_of S (Fault t c done ∷ H) t) (commands_owed S (Fault t c done ∷ H) t r) ≡ 0 = ap (λ m. while_open m (commands_owed S (Fault t c done ∷ H) t r)) (mark-fault S H t c done open_) in
          let was : while_open (mark_of S H t) (commands_owed S H t r) ≡ commands_owed S H t r = ap (λ m. while_open m (commands_owed S H t r)) open_ in
          rw same (omega (arith, within, ended, was, command-lowers S H t c r is legal before own, commands_of-more H (Fault t c done) t (eq-eqb t t refl)))
      | inr other ↦ omega (arith, within, open-stays S H (Fault u c done) t r, commands_of-same H (Fault u c done) t (ne_eqb u t other))
    ]
commands-within S (Accept tag view asked bytes ∷ H) t r is (legal, may) named = elim (cases_eq t (token_count H)) [
  | inl new ↦
      let none : commands_of H t ≡ 0 = untold-commands S H t (unaccepted S H t legal (omega (arith, new))) in
      let empty : done_commands (Accept tag view asked bytes ∷ H) t ≡ done_commands [] t = done_commands-same H (Accept tag view asked bytes) t refl ∙ (untold-done S H t (unaccepted S H t legal (omega (arith, new))) ∙ sym (done_commands-none t)) in
      omega (
        arith,
        none,
        commands_of-same H (Accept tag view asked bytes) t refl,
        commands-same S [] (Accept tag view asked bytes ∷ H) t r empty,
        while-most (mark_of S (Accept tag view asked bytes ∷ H) t) (commands_owed S (Accept tag view asked bytes ∷ H) t r),
      )
  | inr old ↦
      omega (
        arith,
        commands-within S H t r is legal (sym (request-kept H (Accept tag view asked bytes) t old) ∙ named),
        open-stays S H (Accept tag view asked bytes) t r,
        commands_of-same H (Accept tag view asked bytes) t refl,
      )
]
commands-within S (e ∷ H) t r is (legal, may) named =
    omega (arith, commands-within S H t r is legal (sym (request-same H e t refl) ∙ named), open-stays S H e t r, commands_of-same H e t refl)

span-most : (kind : Kind) (t : ℕ) (u : Span) → span_owed kind [] t u.whole u.block ≤ 1 + (if not u.whole then 1 else 0)
unfolding has_done done_commands
span-most kind t u = by kind u.whole
  where
    by : (kind : Kind) (whole : Bool) → span_owed kind [] t whole u.block ≤ 1 + (if not whole then 1 else 0)
    by Read true = omega arith
    by Read false = omega arith
    by Write true = omega arith
    by Write false = omega arith
    by Erase true = omega arith
    by Erase false = omega arith
    by Flush true = omega arith
    by Flush false = omega arith

spans-most : (kind : Kind) (t : ℕ) (us : List Span) → sum_by (task_owed kind [] t) (map Moves us) ≤ length us + count_by (λ u. not u.whole) us
spans-most kind t [] = omega arith
spans-most kind t (u ∷ us) =
    omega (
      arith,
      sum_by-cons (task_owed kind [] t) (Moves u) (map Moves us),
      sum_by-cons (λ (v : Span). if not v.whole then 1 else 0) u us,
      span-most kind t u,
      spans-most kind t us,
    )

-- a request costs one command for each of its runs and at most four beside them
pub cost-few : (S : Setup) (t : ℕ) (r : Request) → commands_owed S [] t r ≤ runs_of S r + 4
unfolding commands_owed
cost-few S t r = elim (cases_Bool (is_flush r.asked.kind)) [
  | inl flush ↦ rw flush (omega (arith, one-most (has_done is_sync [] t)))
  | inr moving ↦
      let us : List Span = units_of S.geometry (from_of S r) (until_of S r) in
      rw moving (omega (arith, spans-most r.asked.kind t us, units-count S.geometry (from_of S r) (until_of S r), parts-count S.geometry (from_of S r) (until_of S r)))
]

-- a token costs at most four commands beside one for each of its runs
pub few-commands : (S : Setup) (H : List Entry) → IsSetup S → IsLegal S H → AreFewCommands S H
few-commands S H is legal t r named = omega (arith, commands-within S H t r is legal named, cost-few S t r)

-- an open token owes its commands and two more
pub open-owed : (S : Setup) (H : List Entry) (t : ℕ) (r : Request) → request H t ≡ Some r → mark_of S H t ≡ None → token_owed S H t ≡ commands_owed S H t r + 2
unfolding token_owed
open-owed S H t r named unmarked = rw (named, unmarked)

-- an ended one owes its collect
pub ended-owed : (S : Setup) (H : List Entry) (t : ℕ) (r : Request) (status : Status) → request H t ≡ Some r → mark_of S H t ≡ Some status → was_collected H t ≡ false → token_owed S H t ≡ 1
unfolding token_owed
ended-owed S H t r status named marked kept = rw (named, marked, kept)

-- and nothing where it was collected
pub collected-owed : (S : Setup) (H : List Entry) (t : ℕ) (r : Request) (status : Status) → request H t ≡ Some r → mark_of S H t ≡ Some status → was_collected H t ≡ true → token_owed S H t ≡ 0
unfolding token_owed
collected-owed S H t r status named marked collected = rw (named, marked, collected)

-- it owes at most one entry
pub ended-owed-most : (S : Setup) (H : List Entry) (t : ℕ) (status : Status) → mark_of S H t ≡ Some status → token_owed S H t ≤ 1
unfolding token_owed
ended-owed-most S H t status marked = rw marked (by (request H t) (was_collected H t))
  where
    by : (o : Option Request) (collected : Bool) → request_owed S H t o (Some status) collected ≤ 1
    by None collected = omega arith
    by (Some r) true = omega arith
    by (Some r) false = omega arith

request_owed-same : (S : Setup) (H H' : List Entry) (t : ℕ) (o : Option Request) (m : Option Status) (collected : Bool) → done_commands H' t ≡ done_commands H t → request_owed S H' t o m collected ≡ request_owed S H t o m collected
request_owed-same S H H' t None m collected same = refl
request_owed-same S H H' t (Some r) None collected same = ap (λ n. n + 2) (commands-same S H H' t r same)
request_owed-same S H H' t (Some r) (Some status) true same = refl
request_owed-same S H H' t (Some r) (Some status) false same = refl

-- an entry that does not concern a token leaves what it owes
pub owed-other : (S : Setup) (H : List Entry) (e : Entry) (t : ℕ) → concerns H e t ≡ false → token_owed S (e ∷ H) t ≡ token_owed S H t
unfolding token_owed facts_of
owed-other S H e t other =
    let same : facts_of S (e ∷ H) t ≡ facts_of S H t = facts_of-other S H e t other in
    rw (ap (λ (s : TokenFacts). s.named) same, ap (λ (s : TokenFacts). s.mark) same, ap (λ (s : TokenFacts). s.collected) same)
    (request_owed-same S H (e ∷ H) t (request H t) (mark_of S H t) (was_collected H t) (done_commands-other S H e t other))

-- tokens that each owe the same
pub tokens-same : (S : Setup) (H H' : List Entry) (n : ℕ) → ((t : ℕ) → t < n → token_owed S H' t ≡ token_owed S H t) → tokens_owed S H' n ≡ tokens_owed S H n
unfolding tokens_owed
tokens-same S H H' zero same = refl
tokens-same S H H' (suc n) same =
    let last : token_owed S H' n ≡ token_owed S H n = same n (omega arith) in
    let rest : tokens_owed S H' n ≡ tokens_owed S H n = tokens-same S H H' n (λ t below. same t (omega arith)) in
    cc

-- tokens that each owe no more
pub tokens-less : (S : Setup) (H H' : List Entry) (n : ℕ) → ((t : ℕ) → t < n → token_owed S H' t ≤ token_owed S H t) → tokens_owed S H' n ≤ tokens_owed S H n
unfolding tokens_owed
tokens-less S H H' zero less = omega arith
tokens-less S H H' (suc n) less = omega (arith, less n (omega arith), tokens-less S H H' n (λ t below. less t (omega arith)))

-- one token owes less by so many, and no other owes more
pub tokens-fall : (S : Setup) (H H' : List Entry) (n t paid : ℕ) → t < n → token_owed S H' t + paid ≤ token_owed S H t → ((u : ℕ) → u < n → token_owed S H' u ≤ token_owed S H u) → tokens_owed S H' n + paid ≤ tokens_owed S H n
unfolding tokens_owed
tokens-fall S H H' zero t paid below falls less = absurd (omega arith)
tokens-fall S H H' (suc n) t paid below falls less = elim (cases_eq t n) [
  | inl same ↦
      let own : token_owed S H' n + paid ≤ token_owed S H n = rw same at falls in
      omega (arith, own, tokens-less S H H' n (λ u lt. less u (omega arith)))
  | inr other ↦ omega (arith, less n (omega arith), tokens-fall S H H' n t paid (omega (arith, other)) falls (λ u lt. less u (omega arith)))
]

-- a done command of a token takes at least one from it
pub done-owed : (S : Setup) (H : List Entry) (t : ℕ) (c : Command) → IsSetup S → IsLegal S H → MayCommand S H t c → token_owed S (Done t c ∷ H) t + 1 ≤ token_owed S H t
done-owed S H t c is legal may =
    let token : IsOutstanding S H t = command-open S H t c may in
    let (r, named) = open-request S H t token in
    let lower : commands_owed S (Done t c ∷ H) t r + 1 ≤ commands_owed S H t r = command-lowers S H t c r is legal named may in
    let was : token_owed S H t ≡ commands_owed S H t r + 2 = open-owed S H t r named token.unmarked in
    after r lower was (request-stays H (Done t c) t r named) (mark_of S (Done t c ∷ H) t) refl
  where
    after : (r : Request) → commands_owed S (Done t c ∷ H) t r + 1 ≤ commands_owed S H t r → token_owed S H t ≡ commands_owed S H t r + 2 → request (Done t c ∷ H) t ≡ Some r
        → (m : Option Status) → mark_of S (Done t c ∷ H) t ≡ m → token_owed S (Done t c ∷ H) t + 1 ≤ token_owed S H t
    after r lower was named None unmarked = omega (arith, lower, was, open-owed S (Done t c ∷ H) t r named unmarked)
    after r lower was named (Some status) marked = omega (arith, lower, was, ended-owed-most S (Done t c ∷ H) t status marked)

-- an open token for which a command may be made owes at least three entries
pub command-owed : (S : Setup) (H : List Entry) (t : ℕ) (c : Command) → IsSetup S → IsLegal S H → MayCommand S H t c → 3 ≤ token_owed S H t
command-owed S H t c is legal may =
    let token : IsOutstanding S H t = command-open S H t c may in
    let (r, named) = open-request S H t token in
    omega (arith, command-lowers S H t c r is legal named may, open-owed S H t r named token.unmarked)

-- an entry that ends an open token takes at least one from it, and two where a command may be made for it
pub end-owed : (S : Setup) (H : List Entry) (e : Entry) (t : ℕ) (status : Status) → t < token_count H → mark_of S H t ≡ None → mark_of S (e ∷ H) t ≡ Some status → token_owed S (e ∷ H) t + 1 ≤ token_owed S H t
end-owed S H e t status token unmarked marked =
    let (r, named) = open-request S H t (record { token = token; unmarked = unmarked }) in
    omega (arith, open-owed S H t r named unmarked, ended-owed-most S (e ∷ H) t status marked)

-- a failed command takes two from its token
pub fault-owed : (S : Setup) (H : List Entry) (t : ℕ) (c : Command) (done : ℕ) → IsSetup S → IsLegal S H → MayCommand S H t c → token_owed S (Fault t c done ∷ H) t + 2 ≤ token_owed S H t
fault-owed S H t c done is legal may =
    omega (arith, command-owed S H t c is legal may, ended-owed-most S (Fault t c done ∷ H) t DeviceError (mark-fault S H t c done (command-open S H t c may).unmarked))
