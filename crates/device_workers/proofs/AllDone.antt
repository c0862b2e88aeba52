-- After the rounds of the plain schedule every line is done, and each token has ended and was collected, whatever the outcomes are.
use Rattle.std.proofs.Common.{◌≡◌, ℕ, zero, suc, ◌+◌, ◌<◌, ◌≤◌, inl, inr, Bool, true, false, not, nat_eq, ◌&&◌, if◌then◌else◌, is_some, List, [], ◌∷◌, length, slice_get, Option, None, Some, refl, sym, ◌∙◌, ap, arith}
use Rattle.std.proofs.lemmas.Bool.{cases_eq, ne_eqb}
use Rattle.std.specs.List.{list_all}
use Rattle.efi_status.specs.declared.Status.{Status}
use Rattle.history.specs.declared.entry.Entry.{Entry}
use Rattle.history.specs.declared.entry.Entry.TheVariants as entry
use Rattle.history.specs.declared.order.Order.{Order}
use Rattle.history.specs.declared.order.Order.TheVariants as order
use Rattle.history.specs.Eras.{is_present, media_id_of}
use Rattle.history.specs.Setup.{Setup, IsSetup}
use Rattle.history.specs.Tokens.{Request, is_accept, token_count, request, was_collected}
use Rattle.history.specs.Rules.{IsLegal, refusal_of}
use Rattle.history.specs.Next.{first_open, Turn, next_turn, Outcome, entry_of}
use Rattle.history_laws.specs.TokenFacts.{is_done}
use Rattle.history_laws.proofs.CountLemmas.{accepted-same}
use Rattle.history_laws.proofs.PlainLemmas.{first-open-collect, turn-request, turn-collected}
use Rattle.history_laws.proofs.TokenLemmas.{request-same, request-some, collected-collect}
use Rattle.disk_core.specs.Calls.{is_fetched}
use Rattle.shared_disk.specs.declared.clients.Stand.{Stand}
use Rattle.history_laws.proofs.TokenLemmas.{collected-stays, uncollected-before}
use Rattle.shared_disk.specs.Lines.{Role, view_of, payload_bytes, answer_of, is_view_open, is_insertable, entry_if, line_entry, with_line_entry, first_own_open}
use Rattle.shared_disk.specs.Script.{IsOpening}
use Rattle.device_workers.specs.Plain.{Progress, progress, collect_one, with_collect, collects, with_last_collects, is_wait, after_wait, after_lines, after_line_if, after_line_of, after_lines_of_first, next_outcome, after_turn, after_turn_if, after_command, after_follow, after_step_if, after_step, a_round, has_no_order as is_role_done, is_over, after_rounds, rounds, plain_history}
use Rattle.device_workers.specs.Laws.{IsAllDone}
use Rattle.device_workers.proofs.Clients.{IsClients, clients-none, clients-same, clients-line, opening-open}
use Rattle.device_workers.proofs.Collecting.{own-keep, last-keep, collects-keep}
use Rattle.device_workers.proofs.Costs.{cost, Lightens, first-lightens, turned-lightens, step-none}
use Rattle.device_workers.proofs.Enough.{cost-begins}
use Rattle.device_workers.proofs.Leading.{over-parts}
use Rattle.device_workers.proofs.Stills.{lines-fall}
use Rattle.history_laws.proofs.TidyLemmas.{IsTidy, tidy-legal, tidy-quiet, tidy-accept, tidy-turn, tidy-next}

-- what the schedule keeps: commands of units, and no uncollected token but clients'
record IsSoundSchedule (S : Setup) (H : List Entry) : Type 0 where
  tidy : IsTidy S H
  clients : IsClients H

sound-quiet : (S : Setup) (H : List Entry) (e : Entry) → is_accept e ≡ false → is_done e ≡ false → IsSoundSchedule S H → IsSoundSchedule S (e ∷ H)
sound-quiet S H e other quiet sound = record { tidy = tidy-quiet S H e other quiet sound.tidy; clients = clients-same H e other sound.clients }

tidy-if : (S : Setup) (H : List Entry) (b : Bool) (e : Entry) → is_accept e ≡ false → is_done e ≡ false → IsTidy S H → IsTidy S (with_line_entry (entry_if b e) H)
tidy-if S H true e other quiet tidy = tidy-quiet S H e other quiet tidy
tidy-if S H false e other quiet tidy = tidy

tidy-line : (S : Setup) (H : List Entry) (tag : ℕ) (stand : Stand) (line : Order) → IsTidy S H → IsTidy S (with_line_entry (line_entry S H tag stand line) H)
unfolding line_entry
tidy-line S H tag stand (order.Request asked payload k) tidy = by (refusal_of S H (view_of S stand k) asked k)
  where
    by : (refusal : Option Status) → IsTidy S (answer_of tag (view_of S stand k) asked (payload_bytes asked.length payload) k refusal ∷ H)
    by None = tidy-accept S H tag (view_of S stand k) asked (payload_bytes asked.length payload) tidy
    by (Some status) = tidy-quiet S H (entry.Refuse tag (view_of S stand k) asked k status) refl refl tidy
tidy-line S H tag stand order.Wait tidy = tidy
tidy-line S H tag stand (order.Cancel k) tidy = tidy-if S H (is_view_open S H (view_of S stand k)) (entry.Cancel tag (view_of S stand k)) refl refl tidy
tidy-line S H tag stand order.Reset tidy = tidy-if S H (is_some (first_open S H)) (entry.Reset tag) refl refl tidy
tidy-line S H tag stand order.Eject tidy = tidy-if S H (is_present H) (entry.Eject tag) refl refl tidy
tidy-line S H tag stand order.Insert tidy = tidy-if S H (is_insertable S H) (entry.Insert tag (media_id_of H + 1)) refl refl tidy
tidy-line S H tag stand (order.Protect on) tidy = tidy-quiet S H (entry.Protect tag on) refl refl tidy

-- after a client's line
sound-lines : (S : Setup) (H : List Entry) (i : ℕ) (stand : Stand) (orders : List Order) → IsSoundSchedule S H → IsSoundSchedule S (after_lines S H (i + 1) stand orders).history
sound-lines S H i stand [] sound = sound
sound-lines S H i stand (line ∷ rest) sound = by (is_wait line)
  where
    waits : (o : Option ℕ) → IsSoundSchedule S (after_wait o H (i + 1) line rest).history
    waits (Some t) = sound
    waits None = own-keep (IsSoundSchedule S) (λ G tag t kept. sound-quiet S G (entry.Collect tag t) refl refl kept) H (i + 1) sound

    by : (b : Bool) → IsSoundSchedule S (if b then after_wait (first_own_open S H (i + 1)) H (i + 1) line rest else record { history = with_line_entry (line_entry S H (i + 1) stand line) H; left = rest }).history
    by true = waits (first_own_open S H (i + 1))
    by false = record { tidy = tidy-line S H (i + 1) stand line sound.tidy; clients = clients-line S H i stand line sound.clients }

sound-by : (S : Setup) (i : ℕ) (s : Progress) → IsSoundSchedule S s.history → IsSoundSchedule S (after_line_of S i s).history
unfolding after_line_of
sound-by S i s sound = by (slice_get s.lefts i)
  where
    by : (o : Option Role) → IsSoundSchedule S (after_line_if S i s o).history
    by None = sound
    by (Some role) = sound-lines S s.history i role.stand role.orders sound

sound-first : (S : Setup) (n : ℕ) (s : Progress) → IsSoundSchedule S s.history → IsSoundSchedule S (after_lines_of_first S n s).history
unfolding after_lines_of_first
sound-first S zero s sound = sound
sound-first S (suc n) s sound = sound-by S n (after_lines_of_first S n s) (sound-first S n s sound)

-- after a command
clients-turn : (H : List Entry) (turn : Turn) (outcome : Outcome) → IsClients H → IsClients (entry_of turn outcome ∷ H)
clients-turn H turn outcome clients t q named not_it = clients t q (sym (turn-request H turn outcome t) ∙ named) (sym (turn-collected H turn outcome t) ∙ not_it)

sound-turn : (S : Setup) → IsSetup S → (s : Progress) (turn : Turn) → next_turn S s.history ≡ Some turn → IsSoundSchedule S s.history → IsSoundSchedule S (after_turn s turn).history
sound-turn S is s turn next sound = record { tidy = tidy-turn S s.history turn (next_outcome s.outcomes) is next sound.tidy; clients = clients-turn s.history turn (next_outcome s.outcomes) sound.clients }

sound-command : (S : Setup) → IsSetup S → (s : Progress) → IsSoundSchedule S s.history → IsSoundSchedule S (after_command S s).history
unfolding after_command
sound-command S is s sound = by (next_turn S s.history) refl
  where
    by : (o : Option Turn) → next_turn S s.history ≡ o → IsSoundSchedule S (after_turn_if s o).history
    by None next = sound
    by (Some turn) next = sound-turn S is s turn next sound

sound-step : (S : Setup) → IsSetup S → (s : Progress) → IsSoundSchedule S s.history → IsSoundSchedule S (after_step S s).history
unfolding after_step
sound-step S is s sound = by (next_turn S s.history) refl
  where
    follow : (turn : Turn) → IsSoundSchedule S (after_turn s turn).history → (f : Bool) → IsSoundSchedule S (after_follow S f (after_turn s turn)).history
    follow turn kept true = sound-command S is (after_turn s turn) kept
    follow turn kept false = kept

    by : (o : Option Turn) → next_turn S s.history ≡ o → IsSoundSchedule S (after_step_if S s o).history
    by None next = sound
    by (Some turn) next = follow turn (sound-turn S is s turn next sound) (is_fetched turn.command (next_outcome s.outcomes))

sound-round : (S : Setup) → IsSetup S → (s : Progress) → IsSoundSchedule S s.history → IsSoundSchedule S (a_round S s).history
sound-round S is s sound = sound-step S is (after_lines_of_first S (length s.lefts) s) (sound-first S (length s.lefts) s sound)

sound-rounds : (S : Setup) → IsSetup S → (n : ℕ) (s : Progress) → IsSoundSchedule S s.history → IsSoundSchedule S (after_rounds n S s).history
unfolding after_rounds
sound-rounds S is zero s sound = sound
sound-rounds S is (suc n) s sound = by (is_over S s) (sound-rounds S is n (a_round S s) (sound-round S is s sound))
  where
    by : (b : Bool) → IsSoundSchedule S (after_rounds n S (a_round S s)).history → IsSoundSchedule S (if b then s else after_rounds n S (a_round S s)).history
    by true rest = sound
    by false rest = rest

-- a round that is not the last makes the stand lighter
not-over : (S : Setup) (s : Progress) → is_over S s ≡ false → first_open S s.history ≡ None → list_all is_role_done s.lefts ≡ false
not-over S s over none = by (list_all is_role_done s.lefts) (rw none at over)
  where
    by : (b : Bool) → (b && true) ≡ false → b ≡ false
    by true no_way = cc
    by false is = refl

progresses : (S : Setup) → IsSetup S → (s : Progress) → IsSoundSchedule S s.history → is_over S s ≡ false → cost S (a_round S s) + 1 ≤ cost S s
progresses S is s sound over = by (next_turn S lined.history) refl (first-lightens S (length s.lefts) s)
  where
    lined : Progress
    lined = after_lines_of_first S (length s.lefts) s

    drained : (o : Option ℕ) → first_open S lined.history ≡ o → next_turn S lined.history ≡ None → first_open S lined.history ≡ None
    drained None first none = first
    drained (Some t) first none = let (turn, next) = tidy-next S lined.history t is (sound-first S (length s.lefts) s sound).tidy first in let no_way : Some turn ≡ None = sym next ∙ none in cc

    by : (o : Option Turn) → next_turn S lined.history ≡ o → Lightens S s lined → cost S (after_step S lined) + 1 ≤ cost S s
    by (Some turn) next (inl same) = let e : cost S lined ≡ cost S s = ap (cost S) same in omega (arith, e, turned-lightens S is lined turn next)
    by (Some turn) next (inr falls) = omega (arith, falls, turned-lightens S is lined turn next)
    by None next (inr falls) = rw (step-none S lined next) falls
    by None next (inl same) =
        let first : first_open S s.history ≡ None = ap (λ (p : Progress). first_open S p.history) (sym same) ∙ drained (first_open S lined.history) refl next in
        rw (step-none S lined next) (lines-fall S s first (not-over S s over first))

rounds-over : (S : Setup) → IsSetup S → (n : ℕ) (s : Progress) → IsSoundSchedule S s.history → cost S s ≤ n → is_over S (after_rounds n S s) ≡ true
unfolding after_rounds
rounds-over S is zero s sound most = by (is_over S s) refl
  where
    by : (b : Bool) → is_over S s ≡ b → b ≡ true
    by true over = refl
    by false over = absurd (omega (arith, most, progresses S is s sound over))
rounds-over S is (suc n) s sound most = by (is_over S s) refl (λ less. rounds-over S is n (a_round S s) (sound-round S is s sound) less)
  where
    by : (b : Bool) → is_over S s ≡ b → (cost S (a_round S s) ≤ n → is_over S (after_rounds n S (a_round S s)) ≡ true) → is_over S (if b then s else after_rounds n S (a_round S s)) ≡ true
    by true over rest = over
    by false over rest = rest (omega (arith, most, progresses S is s sound over))

-- after the last collects each token was collected
stays-collected : (test : ℕ → Bool) (H : List Entry) (a n t : ℕ) → was_collected H t ≡ true → was_collected (collects test H a n) t ≡ true
stays-collected test H a n t was = collects-keep (λ G. was_collected G t ≡ true) (λ G tag u kept. collected-stays G (entry.Collect tag u) t kept) test H a n was

now-collected : (test : ℕ → Bool) (H : List Entry) (t : ℕ) (q : Request) → request H t ≡ Some q → (was_collected H t ≡ false → test q.tag ≡ true) → was_collected (with_collect test H t) t ≡ true
now-collected test H t q named passes = rw named (by (was_collected H t) refl)
  where
    by : (b : Bool) → was_collected H t ≡ b → was_collected (collect_one test H t (Some q) b) t ≡ true
    by true was = was
    by false was = rw (passes was) (collected-collect H q.tag t)

-- one collect leaves the requests, and takes none back
one-keep : (P : List Entry → Type 0) → ((G : List Entry) (tag t : ℕ) → P G → P (entry.Collect tag t ∷ G)) → (test : ℕ → Bool) (H : List Entry) (a : ℕ) → P H → P (with_collect test H a)
unfolding collects
one-keep P more test H a holds = collects-keep P more test H a 1 holds

one-request : (test : ℕ → Bool) (H : List Entry) (a t : ℕ) → request (with_collect test H a) t ≡ request H t
one-request test H a t = one-keep (λ G. request G t ≡ request H t) (λ G tag u same. request-same G (entry.Collect tag u) t refl ∙ same) test H a refl

one-uncollected : (test : ℕ → Bool) (H : List Entry) (a t : ℕ) → was_collected (with_collect test H a) t ≡ false → was_collected H t ≡ false
one-uncollected test H a t = one-keep (λ G. was_collected G t ≡ false → was_collected H t ≡ false) (λ G tag u before now. before (uncollected-before G (entry.Collect tag u) t now)) test H a (λ was. was)

collects-each : (test : ℕ → Bool) (H : List Entry) (a n t : ℕ) (q : Request) → a ≤ t → t < a + n → request H t ≡ Some q → (was_collected H t ≡ false → test q.tag ≡ true) → was_collected (collects test H a n) t ≡ true
unfolding collects
collects-each test H a zero t q from until named passes = absurd (omega (arith, from, until))
collects-each test H a (suc n) t q from until named passes = elim (cases_eq a t) [
  | inl same ↦ stays-collected test (with_collect test H a) (a + 1) n t (rw (← same) (now-collected test H a q (rw same named) (λ was. passes (rw (← same) was))))
  | inr other ↦
      collects-each test (with_collect test H a) (a + 1) n t q (omega (arith, from, other)) (omega (arith, until)) (one-request test H a t ∙ named) (λ was. passes (one-uncollected test H a t was))
]

last-each : (H : List Entry) (t : ℕ) → IsClients H → t < token_count H → was_collected (with_last_collects H) t ≡ true
unfolding with_last_collects
last-each H t clients less =
    let (q, named) = request-some H t less in
    collects-each (λ tag. not (nat_eq tag 0)) H 0 (token_count H) t q (omega arith) (omega (arith, less)) named (λ was. ap not (ne_eqb q.tag 0 (clients t q named was)))

last-accepted : (H : List Entry) → token_count (with_last_collects H) ≡ token_count H
last-accepted H = last-keep (λ G. token_count G ≡ token_count H) (λ G tag t same. accepted-same G (entry.Collect tag t) refl ∙ same) H refl

last-open : (S : Setup) (H : List Entry) → first_open S (with_last_collects H) ≡ first_open S H
last-open S H = last-keep (λ G. first_open S G ≡ first_open S H) (λ G tag t same. first-open-collect S G tag t ∙ same) H refl

-- whatever the lines and the outcomes are
pub rounds-do-all : (S : Setup) (opening : List Entry) (roles : List Role) (outcomes : List Outcome) → IsSetup S → IsLegal S opening → IsOpening opening
    → IsAllDone S (after_rounds (rounds roles) S (progress opening roles outcomes)) (plain_history S opening roles outcomes)
unfolding plain_history
rounds-do-all S opening roles outcomes is legal opens =
    let sound : IsSoundSchedule S opening = record { tidy = tidy-legal S opening is legal; clients = clients-none opening opens } in
    let begin : Progress = progress opening roles outcomes in
    let end : Progress = after_rounds (rounds roles) S begin in
    let over : is_over S end ≡ true = rounds-over S is (rounds roles) begin sound (cost-begins S opening roles outcomes (opening-open S opening legal opens)) in
    let (lines, ended) = over-parts S end over in
    let kept : IsSoundSchedule S end.history = sound-rounds S is (rounds roles) begin sound in
    record {
      lines = lines;
      ended = last-open S end.history ∙ ended;
      collected = λ t less. last-each end.history t kept.clients (rw (last-accepted end.history) at less);
    }
