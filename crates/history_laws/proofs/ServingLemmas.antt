-- What commands leave that come next one after the other, and how a token ends that they serve.
use Rattle.std.proofs.Common.{◌≡◌, ◌⊎◌, inl, inr, ℕ, Bool, true, false, nat_eq, ◌&&◌, List, [], ◌∷◌, ◌++◌, None, Some, refl, sym, ◌∙◌, ap, subst, append_assoc, arith}
use Rattle.std.proofs.lemmas.Bool.{cases_eq}
use Rattle.efi_status.specs.declared.Status.{Status}
use Rattle.efi_status.specs.declared.Status.TheVariants.{Success, DeviceError}
use Rattle.history.specs.declared.entry.Command.{Command}
use Rattle.history.specs.declared.entry.Command.TheVariants.{Fetch, Store, Put, Get, Wipe, Sync}
use Rattle.history.specs.declared.entry.Entry.{Entry}
use Rattle.history.specs.declared.entry.Entry.TheVariants.{Done}
use Rattle.history.specs.Setup.{Setup, IsSetup}
use Rattle.history.specs.Eras.{inserts, is_insert}
use Rattle.history.specs.Tokens.{Request, token_count, request, was_collected}
use Rattle.history.specs.Commands.{is_fetch}
use Rattle.history.specs.Marks.{IsOutstanding, ending, is_complete, mark_of, status_if}
use Rattle.history.specs.Rules.{MayFollow, IsLegal}
use Rattle.history.specs.Tasks.{Task}
use Rattle.history.specs.Next.{Turn, next_turn, Outcome, Made, Failed, entry_of}
use Rattle.history_laws.specs.Serving.{Continues, AreWhileOpen, ends_in_fault, Stays}
use Rattle.history_laws.proofs.CountLemmas.{accepted-same, inserts-same}
use Rattle.history_laws.proofs.EndLemmas.{mark-next, mark-stays}
use Rattle.history_laws.proofs.TokenLemmas.{mark-other, done-concerns, bytes_read-other}
use Rattle.history_laws.proofs.PlainLemmas.{IsTurnOf, turn-of, turn-concerns, turn-accepted, turn-request, turn-collected}
use Rattle.history_laws.proofs.TicketLemmas.{fetch-holds-by}

-- commands after commands
pub while-on : (S : Setup) (H : List Entry) (t : ℕ) (first then : List Entry) → AreWhileOpen S H t first → AreWhileOpen S (first ++ H) t then → AreWhileOpen S H t (then ++ first)
unfolding AreWhileOpen
while-on S H t first [] one two = one
while-on S H t first (e ∷ then) one (next, more) = (subst (λ G. Continues S G t e) (sym (append_assoc then first H)) next, while-on S H t first then one more)

-- what a command leaves
module _ (S : Setup) (t : ℕ) where
  pub while-inserts : (H cs : List Entry) → AreWhileOpen S H t cs → inserts (cs ++ H) ≡ inserts H
  unfolding AreWhileOpen
  while-inserts H [] all = refl
  while-inserts H (e ∷ cs) (next, all) = inserts-same (cs ++ H) e (rw next.entry (by next.turn next.outcome)) ∙ while-inserts H cs all
    where
      by : (turn : Turn) (outcome : Outcome) → is_insert (entry_of turn outcome) ≡ false
      by turn Made = refl
      by turn (Failed done) = refl

  pub while-accepted : (H cs : List Entry) → AreWhileOpen S H t cs → token_count (cs ++ H) ≡ token_count H
  unfolding AreWhileOpen
  while-accepted H [] all = refl
  while-accepted H (e ∷ cs) (next, all) = rw next.entry (turn-accepted (cs ++ H) next.turn next.outcome ∙ while-accepted H cs all)

  pub while-collected : (H cs : List Entry) (u : ℕ) → AreWhileOpen S H t cs → was_collected (cs ++ H) u ≡ was_collected H u
  unfolding AreWhileOpen
  while-collected H [] u all = refl
  while-collected H (e ∷ cs) u (next, all) = rw next.entry (turn-collected (cs ++ H) next.turn next.outcome u ∙ while-collected H cs u all)

  pub while-request : (H cs : List Entry) (u : ℕ) → AreWhileOpen S H t cs → request (cs ++ H) u ≡ request H u
  unfolding AreWhileOpen
  while-request H [] u all = refl
  while-request H (e ∷ cs) u (next, all) = rw next.entry (turn-request (cs ++ H) next.turn next.outcome u ∙ while-request H cs u all)

-- a done fetch ends no token
pub fetch-open : (S : Setup) (H : List Entry) (u t : ℕ) (c : Command) → IsSetup S → IsLegal S (Done u c ∷ H) → is_fetch c ≡ true → IsOutstanding S H t → IsOutstanding S (Done u c ∷ H) t
unfolding IsLegal MayFollow
fetch-open S H u t (Fetch b) is (legal, may) fetched open_ = elim (cases_eq u t) [
  | inl same ↦ subst (λ v. IsOutstanding S (Done u (Fetch b) ∷ H) v) same (fetch-holds-by S H u b is legal may).holds.outstanding
  | inr other ↦ record {
    token = omega (arith, open_.token, accepted-same H (Done u (Fetch b)) refl);
    unmarked = mark-other S H (Done u (Fetch b)) t (done-concerns H u t (Fetch b) other) ∙ open_.unmarked;
  }
]
fetch-open S H u t (Store b) is legal fetched open_ = cc
fetch-open S H u t (Put b n) is legal fetched open_ = cc
fetch-open S H u t (Get b n) is legal fetched open_ = cc
fetch-open S H u t (Wipe b n) is legal fetched open_ = cc
fetch-open S H u t Sync is legal fetched open_ = cc

-- it succeeded by a last command that was done, or by its accept; or failed by one that failed
abbrev pub EndsAs : Status → Bool → Type 0
EndsAs status failed = ((status ≡ Success) × (failed ≡ false)) ⊎ ((status ≡ DeviceError) × (failed ≡ true))

-- it is outstanding or has succeeded
abbrev pub IsOpenOrWell : Setup → List Entry → ℕ → Type 0
IsOpenOrWell S H t = (mark_of S H t ≡ None) ⊎ (mark_of S H t ≡ Some Success)

if-status : (b : Bool) (s status : Status) → status_if b s ≡ Some status → status ≡ s
if-status true s status is = cc
if-status false s status is = cc

same-status : (s status : Status) → Some s ≡ Some status → status ≡ s
same-status s status e = cc

no-status : (status : Status) → None ≡ Some status → ⊥
no-status status e = cc

ends-turn : (S : Setup) (G : List Entry) (t : ℕ) (turn : Turn) (outcome : Outcome) (status : Status) (cs : List Entry) → ending S G (entry_of turn outcome) t ≡ Some status → EndsAs status (ends_in_fault (entry_of turn outcome ∷ cs))
unfolding ending
ends-turn S G t turn Made status cs ends = inl (if-status (nat_eq turn.token t && is_complete S (Done turn.token turn.command ∷ G) t) Success status ends, refl)
ends-turn S G t turn (Failed done) status cs ends = inr (if-status (nat_eq turn.token t) DeviceError status ends, refl)

-- how a token has ended that was served
pub ends-so : (S : Setup) (H : List Entry) (t : ℕ) (cs : List Entry) (status : Status) → AreWhileOpen S H t cs → IsOpenOrWell S H t → mark_of S (cs ++ H) t ≡ Some status → EndsAs status (ends_in_fault cs)
unfolding AreWhileOpen
ends-so S H t [] status all (inl none) marked = absurd (no-status status (sym none ∙ marked))
ends-so S H t [] status all (inr well) marked = inl (same-status Success status (sym well ∙ marked), refl)
ends-so S H t (e ∷ cs) status (next, all) well marked =
    let ends : ending S (cs ++ H) e t ≡ Some status = sym (mark-next S (cs ++ H) e t next.outstanding.unmarked) ∙ marked in
    rw next.entry (ends-turn S (cs ++ H) t next.turn next.outcome status cs (rw next.entry at ends))

pub stays-same : (S : Setup) (H : List Entry) → Stays S H H
stays-same S H = record {
  count = refl;
  named = λ t. refl;
  collected = λ t. refl;
  marked = λ t status was. was;
  given = λ t status was x. refl;
}

pub stays-on : (S : Setup) (H G H' : List Entry) → Stays S H G → Stays S G H' → Stays S H H'
stays-on S H G H' first then = record {
  count = then.count ∙ first.count;
  named = λ t. then.named t ∙ first.named t;
  collected = λ t. then.collected t ∙ first.collected t;
  marked = λ t status was. then.marked t status (first.marked t status was);
  given = λ t status was x. then.given t status (first.marked t status was) x ∙ first.given t status was x;
}

pub stays-turn : (S : Setup) (H : List Entry) (turn : Turn) (outcome : Outcome) → next_turn S H ≡ Some turn → Stays S H (entry_of turn outcome ∷ H)
stays-turn S H turn outcome next = by (turn-of S H turn next)
  where
    by : (t : ℕ) × (r : Request) × (task : Task) × IsTurnOf S H turn t r task → Stays S H (entry_of turn outcome ∷ H)
    by (u, r, task, of) = record {
      count = turn-accepted H turn outcome;
      named = turn-request H turn outcome;
      collected = turn-collected H turn outcome;
      marked = λ t status was. mark-stays S H (entry_of turn outcome) t status was;
      given = λ t status was x. bytes_read-other S H (entry_of turn outcome) t x (turn-concerns H turn outcome t (λ same. other t status was same));
    }
      where
        other : (t : ℕ) (status : Status) → mark_of S H t ≡ Some status → turn.token ≡ t → ⊥
        other t status was same =
            let e : u ≡ t = ap (λ (v : Turn). v.token) of.is ∙ same in
            let f : mark_of S H t ≡ None = rw (← e) of.open_.unmarked in
            cc
