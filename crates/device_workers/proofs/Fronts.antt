-- Each part of the plain schedule adds entries and takes none away; so a run that stopped has made a front of a plain history.
use Rattle.std.proofs.Common.{◌≡◌, ℕ, zero, suc, ◌+◌, ◌-◌, ◌≤◌, Bool, true, false, if◌then◌else◌, List, [], ◌∷◌, ◌++◌, length, slice_get, Option, None, Some, refl, sym, ◌∙◌, ap, subst, arith}
use Rattle.std.proofs.lemmas.List.{append_assoc}
use Rattle.history.specs.declared.entry.Entry.{Entry}
use Rattle.history.specs.declared.entry.Entry.TheVariants as entry
use Rattle.history.specs.declared.order.Order.{Order}
use Rattle.history.specs.Setup.{Setup, IsSetup}
use Rattle.history.specs.Next.{first_open, Turn, next_turn, entry_of}
use Rattle.disk_core.specs.Calls.{is_fetched}
use Rattle.shared_disk.specs.declared.clients.Stand.{Stand}
use Rattle.shared_disk.specs.Lines.{Role, line_entry, with_line_entry, first_own_open}
use Rattle.shared_disk.specs.Script.{Script}
use Rattle.device_workers.specs.Plain.{Progress, progress, with_own_collects, with_last_collects, is_wait, after_wait, after_lines, after_taking, after_line_if, after_line_of, after_lines_of_first, next_outcome, after_turn, after_turn_if, after_command, after_follow, after_step_if, after_step, a_round, is_over, after_rounds, rounds, plain_history}
use Rattle.device_workers.specs.Leading.{TakesFirst, LeadsFor, Leads}
use Rattle.device_workers.specs.Serving.{IsPlainFront}
use Rattle.device_workers.proofs.Collecting.{own-keep, last-keep}
use Rattle.device_workers.proofs.Enough.{enough-from, cost-begins}
use Rattle.device_workers.proofs.Leading.{round-on}

-- it begins with that history
abbrev Extends : List Entry → List Entry → Type 0
Extends H H' = (more : List Entry) × (H' ≡ more ++ H)

on-same : (H : List Entry) → Extends H H
on-same H = ([], refl)

on-entry : (H H' : List Entry) (e : Entry) → Extends H H' → Extends H (e ∷ H')
on-entry H H' e (more, is) = (e ∷ more, ap (λ G. e ∷ G) is)

on-on : (H G H' : List Entry) → Extends H G → Extends G H' → Extends H H'
on-on H G H' (few, is) (more, is') = (more ++ few, is' ∙ (ap (λ K. more ++ K) is ∙ sym (append_assoc more few H)))

on-line : (H : List Entry) (o : Option Entry) → Extends H (with_line_entry o H)
on-line H None = on-same H
on-line H (Some e) = on-entry H H e (on-same H)

on-own : (H : List Entry) (tag : ℕ) → Extends H (with_own_collects H tag)
on-own H tag = own-keep (Extends H) (λ G owner t on. on-entry H G (entry.Collect owner t) on) H tag (on-same H)

on-last : (H : List Entry) → Extends H (with_last_collects H)
on-last H = last-keep (Extends H) (λ G owner t on. on-entry H G (entry.Collect owner t) on) H (on-same H)

on-lines : (S : Setup) (H : List Entry) (tag : ℕ) (stand : Stand) (orders : List Order) → Extends H (after_lines S H tag stand orders).history
on-lines S H tag stand [] = on-same H
on-lines S H tag stand (line ∷ rest) = by (is_wait line)
  where
    waits : (o : Option ℕ) → Extends H (after_wait o H tag line rest).history
    waits (Some t) = on-same H
    waits None = on-own H tag

    by : (b : Bool) → Extends H (if b then after_wait (first_own_open S H tag) H tag line rest else after_taking (with_line_entry (line_entry S H tag stand line) H) rest).history
    by true = waits (first_own_open S H tag)
    by false = on-line H (line_entry S H tag stand line)

on-by : (S : Setup) (i : ℕ) (s : Progress) → Extends s.history (after_line_of S i s).history
unfolding after_line_of
on-by S i s = by (slice_get s.lefts i)
  where
    by : (o : Option Role) → Extends s.history (after_line_if S i s o).history
    by None = on-same s.history
    by (Some role) = on-lines S s.history (i + 1) role.stand role.orders

on-first : (S : Setup) (n m : ℕ) (s : Progress) → Extends (after_lines_of_first S n s).history (after_lines_of_first S (n + m) s).history
unfolding after_lines_of_first
on-first S n zero s = let e : n + 0 ≡ n = omega arith in rw e (on-same (after_lines_of_first S n s).history)
on-first S n (suc m) s =
    let e : n + suc m ≡ suc (n + m) = omega arith in
    rw e (on-on (after_lines_of_first S n s).history (after_lines_of_first S (n + m) s).history (after_line_of S (n + m) (after_lines_of_first S (n + m) s)).history (on-first S n m s) (on-by S (n + m) (after_lines_of_first S (n + m) s)))

first-zero : (S : Setup) (s : Progress) → after_lines_of_first S 0 s ≡ s
unfolding after_lines_of_first
first-zero S s = refl

on-command : (S : Setup) (s : Progress) → Extends s.history (after_command S s).history
unfolding after_command
on-command S s = by (next_turn S s.history)
  where
    by : (o : Option Turn) → Extends s.history (after_turn_if s o).history
    by None = on-same s.history
    by (Some turn) = on-entry s.history s.history (entry_of turn (next_outcome s.outcomes)) (on-same s.history)

on-step : (S : Setup) (s : Progress) → Extends s.history (after_step S s).history
unfolding after_step
on-step S s = by (next_turn S s.history)
  where
    turned : (turn : Turn) → Extends s.history (after_turn s turn).history
    turned turn = on-entry s.history s.history (entry_of turn (next_outcome s.outcomes)) (on-same s.history)

    follow : (turn : Turn) (f : Bool) → Extends s.history (after_follow S f (after_turn s turn)).history
    follow turn true = on-on s.history (after_turn s turn).history (after_command S (after_turn s turn)).history (turned turn) (on-command S (after_turn s turn))
    follow turn false = turned turn

    by : (o : Option Turn) → Extends s.history (after_step_if S s o).history
    by None = on-same s.history
    by (Some turn) = follow turn (is_fetched turn.command (next_outcome s.outcomes))

on-round : (S : Setup) (n : ℕ) (s : Progress) → n ≤ length s.lefts → Extends (after_lines_of_first S n s).history (a_round S s).history
on-round S n s within =
    let e : n + (length s.lefts - n) ≡ length s.lefts = omega (arith, within) in
    on-on (after_lines_of_first S n s).history (after_lines_of_first S (length s.lefts) s).history (a_round S s).history (rw e at (on-first S n (length s.lefts - n) s)) (on-step S (after_lines_of_first S (length s.lefts) s))

on-rounds : (S : Setup) (n : ℕ) (s : Progress) → Extends s.history (after_rounds n S s).history
unfolding after_rounds
on-rounds S zero s = on-same s.history
on-rounds S (suc n) s = by (is_over S s) (on-rounds S n (a_round S s))
  where
    by : (b : Bool) → Extends (a_round S s).history (after_rounds n S (a_round S s)).history → Extends s.history (if b then s else after_rounds n S (a_round S s)).history
    by true rest = on-same s.history
    by false rest = on-on s.history (a_round S s).history (after_rounds n S (a_round S s)).history (whole (on-round S 0 s (omega arith))) rest
      where
        whole : Extends (after_lines_of_first S 0 s).history (a_round S s).history → Extends s.history (a_round S s).history
        whole on = subst (λ (p : Progress). Extends p.history (a_round S s).history) (first-zero S s) on

-- rounds from the opening, and then some clients' lines
pub is-front : (S : Setup) (d : Script) (between : List Entry) (lefts : List Role) (H : List Entry) (lefts' : List Role) (n : ℕ) → IsSetup S → first_open S d.opening ≡ None → Leads S d.opening d.roles between lefts
    → n ≤ length lefts → TakesFirst S n between lefts H lefts' → IsPlainFront S d H
unfolding plain_history
is-front S d between lefts H lefts' n is none leads within takes =
    let on : LeadsFor S leads.k d.opening d.roles between lefts (rounds d.roles + 1) [] = leads.on (rounds d.roles + 1) [] in
    let begin : Progress = progress d.opening d.roles on.given in
    let here : Progress = progress between lefts [] in
    let count : rounds d.roles + 1 + leads.k ≡ rounds d.roles + (1 + leads.k) = omega arith in
    let ran : after_rounds (rounds d.roles) S begin ≡ after_rounds (rounds d.roles) S (a_round S here) =
    sym (enough-from S is (rounds d.roles) begin (1 + leads.k) (cost-begins S d.opening d.roles on.given none)) ∙ (ap (λ k. after_rounds k S begin) (sym count) ∙ (on.goes ∙ round-on S (rounds d.roles) here)) in
    let front : Extends H (a_round S here).history = subst (λ (p : Progress). Extends p.history (a_round S here).history) (takes.goes []) (on-round S n here within) in
    let whole : Extends H (after_rounds (rounds d.roles) S (a_round S here)).history = on-on H (a_round S here).history (after_rounds (rounds d.roles) S (a_round S here)).history front (on-rounds S (rounds d.roles) (a_round S here)) in
    let (more, made) = on-on H (after_rounds (rounds d.roles) S (a_round S here)).history (with_last_collects (after_rounds (rounds d.roles) S (a_round S here)).history) whole (on-last (after_rounds (rounds d.roles) S (a_round S here)).history) in
    record { outcomes = on.given; more = more; front = ap (λ (p : Progress). with_last_collects p.history) ran ∙ made }
