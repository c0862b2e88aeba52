-- How the stands of the plain schedule lead on to one another, whatever outcomes are still to come.
use Rattle.std.proofs.Common.{◌≡◌, ℕ, zero, suc, ◌+◌, Bool, true, false, if◌then◌else◌, List, [], ◌∷◌, length, slice_get, slice_set, Option, None, Some, is_none, refl, sym, ◌∙◌, ap, arith}
use Rattle.std.proofs.lemmas.Bool.{and_parts}
use Rattle.history.specs.declared.entry.Entry.{Entry}
use Rattle.history.specs.declared.order.Order.{Order}
use Rattle.history.specs.Setup.{Setup}
use Rattle.history.specs.Next.{first_open, Turn, next_turn, Outcome, Made, Failed, entry_of}
use Rattle.history_laws.proofs.TurnNoneLemmas.{drained-turn}
use Rattle.std.specs.List.{list_all}
use Rattle.shared_disk.specs.Lines.{Role, line_entry, with_line_entry, first_own_open}
use Rattle.device_workers.specs.Plain.{Progress, progress, outcomes_onto, with_own_collects, is_wait, after_taking, put_left, after_line_of, after_lines_of_first, after_step, after_command, a_round, has_none, has_no_order, is_over, after_rounds}
use Rattle.device_workers.specs.Leading.{TakesBy, TakesFirst, StepsOn, IsStep, IsTurned, LeadsFor, Leads}
use Rattle.device_workers.proofs.Collecting.{own-outcomes}
use Rattle.device_workers.proofs.Costs.{put-same, step-none}

onto-entry : (turn : Turn) (outcome : Outcome) (H : List Entry) (more : List Outcome) → outcomes_onto (entry_of turn outcome ∷ H) more ≡ outcomes_onto H (outcome ∷ more)
unfolding outcomes_onto
onto-entry turn Made H more = refl
onto-entry turn (Failed done) H more = refl

-- no token is outstanding
pub step-drained : (S : Setup) (H : List Entry) → next_turn S H ≡ None → IsStep S H H
unfolding after_step
step-drained S H none lefts more = record { given = more; same = refl; goes = rw none refl }

-- a command that was no done fetch
pub step-did : (S : Setup) (H H' : List Entry) → IsTurned S H H' false → IsStep S H H'
unfolding after_step
step-did S H H' t lefts more = record {
  given = t.outcome ∷ more;
  same = rw (t.entries) (onto-entry t.turn t.outcome H more);
  goes = rw (t.next, t.answer, t.entries) refl;
}

-- a done fetch with its store
pub step-fetched : (S : Setup) (H G H' : List Entry) (fetched : Bool) → IsTurned S H G true → IsTurned S G H' fetched → IsStep S H H'
unfolding after_step after_command
step-fetched S H G H' fetched t u lefts more =
    let there : next_turn S (entry_of t.turn t.outcome ∷ H) ≡ Some u.turn = rw (← t.entries) (u.next) in
    record {
      given = t.outcome ∷ u.outcome ∷ more;
      same = rw (u.entries) (onto-entry u.turn u.outcome G more ∙ rw (t.entries) (onto-entry t.turn t.outcome H (u.outcome ∷ more)));
      goes = rw (t.next, t.answer, there, u.entries, t.entries) refl;
    }

-- a client with no line left
pub takes-none : (S : Setup) (i : ℕ) (H : List Entry) (lefts : List Role) (role : Role) → slice_get lefts i ≡ Some role → role.orders ≡ [] → TakesBy S i H lefts H lefts
unfolding after_line_of
takes-none S i H lefts role there none = record {
  goes = λ outcomes. rw (there, none) (ap (λ left. put_left (progress H lefts outcomes) i role (after_taking H left)) (sym none) ∙ put-same (progress H lefts outcomes) i role there);
  same = λ more. refl;
}

-- a wait while a token of its client is outstanding
pub takes-stay : (S : Setup) (i : ℕ) (H : List Entry) (lefts : List Role) (role : Role) (line : Order) (rest : List Order) (t : ℕ) → slice_get lefts i ≡ Some role → role.orders ≡ line ∷ rest → is_wait line ≡ true
    → first_own_open S H (i + 1) ≡ Some t → TakesBy S i H lefts H lefts
unfolding after_line_of
takes-stay S i H lefts role line rest t there next wait open_ = record {
  goes = λ outcomes. rw (there, next, wait, open_) (ap (λ left. put_left (progress H lefts outcomes) i role (after_taking H left)) (sym next) ∙ put-same (progress H lefts outcomes) i role there);
  same = λ more. refl;
}

-- a wait with none
pub takes-wait : (S : Setup) (i : ℕ) (H : List Entry) (lefts : List Role) (role : Role) (line : Order) (rest : List Order) → slice_get lefts i ≡ Some role → role.orders ≡ line ∷ rest → is_wait line ≡ true
    → first_own_open S H (i + 1) ≡ None → TakesBy S i H lefts (with_own_collects H (i + 1)) (slice_set lefts i (record role { orders = rest }))
unfolding after_line_of
takes-wait S i H lefts role line rest there next wait none = record {
  goes = λ outcomes. rw (there, next, wait, none) refl;
  same = λ more. own-outcomes H (i + 1) more;
}

-- another line
pub takes-line : (S : Setup) (i : ℕ) (H : List Entry) (lefts : List Role) (role : Role) (line : Order) (rest : List Order) → slice_get lefts i ≡ Some role → role.orders ≡ line ∷ rest → is_wait line ≡ false
    → ((more : List Outcome) → outcomes_onto (with_line_entry (line_entry S H (i + 1) role.stand line) H) more ≡ outcomes_onto H more)
    → TakesBy S i H lefts (with_line_entry (line_entry S H (i + 1) role.stand line) H) (slice_set lefts i (record role { orders = rest }))
unfolding after_line_of
takes-line S i H lefts role line rest there next other quiet = record {
  goes = λ outcomes. rw (there, next, other) refl;
  same = quiet;
}

pub first-none : (S : Setup) (H : List Entry) (lefts : List Role) → TakesFirst S 0 H lefts H lefts
unfolding after_lines_of_first
first-none S H lefts = record { goes = λ outcomes. refl; same = λ more. refl }

-- one more client
pub first-more : (S : Setup) (n : ℕ) (H : List Entry) (lefts : List Role) (G : List Entry) (between : List Role) (H' : List Entry) (lefts' : List Role)
    → TakesFirst S n H lefts G between → TakesBy S n G between H' lefts' → TakesFirst S (n + 1) H lefts H' lefts'
unfolding after_lines_of_first
first-more S n H lefts G between H' lefts' first after = record {
  goes = λ outcomes. let e : n + 1 ≡ suc n = omega arith in rw e (ap (after_line_of S n) (first.goes outcomes) ∙ after.goes outcomes);
  same = λ more. after.same more ∙ first.same more;
}

-- where all is over a round changes nothing
none-left : (orders : List Order) → has_none orders ≡ true → orders ≡ []
none-left [] is = refl
none-left (line ∷ rest) is = cc

all-at : (lefts : List Role) (i : ℕ) (role : Role) → list_all has_no_order lefts ≡ true → slice_get lefts i ≡ Some role → role.orders ≡ []
all-at [] i role all there = cc
all-at (r ∷ lefts) zero role all there = let same : r ≡ role = cc in rw (← same) (none-left r.orders (and_parts (has_no_order r) (list_all has_no_order lefts) all).0)
all-at (r ∷ lefts) (suc i) role all there = all-at lefts i role (and_parts (has_no_order r) (list_all has_no_order lefts) all).1 there

over-first : (S : Setup) (n : ℕ) (H : List Entry) (lefts : List Role) (outcomes : List Outcome) → list_all has_no_order lefts ≡ true → after_lines_of_first S n (progress H lefts outcomes) ≡ progress H lefts outcomes
unfolding after_lines_of_first after_line_of
over-first S zero H lefts outcomes all = refl
over-first S (suc n) H lefts outcomes all = rw (over-first S n H lefts outcomes all) (by (slice_get lefts n) refl)
  where
    by : (o : Option Role) → slice_get lefts n ≡ o → after_line_of S n (progress H lefts outcomes) ≡ progress H lefts outcomes
    by None there = rw there refl
    by (Some role) there = let none : TakesBy S n H lefts H lefts = takes-none S n H lefts role there (all-at lefts n role all there) in none.goes outcomes

none-is : (o : Option ℕ) → is_none o ≡ true → o ≡ None
none-is None is = refl
none-is (Some t) is = cc

pub over-parts : (S : Setup) (s : Progress) → is_over S s ≡ true → (list_all has_no_order s.lefts ≡ true) × (first_open S s.history ≡ None)
over-parts S s over =
    let parts : (list_all has_no_order s.lefts ≡ true) × (is_none (first_open S s.history) ≡ true) = and_parts (list_all has_no_order s.lefts) (is_none (first_open S s.history)) over in
    (parts.0, none-is (first_open S s.history) parts.1)

over-round : (S : Setup) (s : Progress) → is_over S s ≡ true → a_round S s ≡ s
over-round S s over =
    let (all, none) = over-parts S s over in
    ap (after_step S) (over-first S (length s.lefts) s.history s.lefts s.outcomes all) ∙ step-none S s (drained-turn S s.history none)

-- and no number of rounds does
pub over-stays : (S : Setup) (n : ℕ) (s : Progress) → is_over S s ≡ true → after_rounds n S s ≡ s
unfolding after_rounds
over-stays S zero s over = refl
over-stays S (suc n) s over = rw over refl

-- so a round may always be done
pub round-on : (S : Setup) (n : ℕ) (s : Progress) → after_rounds (n + 1) S s ≡ after_rounds n S (a_round S s)
unfolding after_rounds
round-on S n s = let e : n + 1 ≡ suc n = omega arith in rw e (by (is_over S s) refl)
  where
    by : (b : Bool) → is_over S s ≡ b → (if b then s else after_rounds n S (a_round S s)) ≡ after_rounds n S (a_round S s)
    by true over = sym (ap (after_rounds n S) (over-round S s over) ∙ over-stays S n s over)
    by false more = refl

pub leads-same : (S : Setup) (H : List Entry) (lefts : List Role) → Leads S H lefts H lefts
leads-same S H lefts = record {
  k = 0;
  on = λ n more. record { given = more; same = refl; goes = ap (λ k. after_rounds k S (progress H lefts more)) (omega arith) };
}

pub leads-on : (S : Setup) (H : List Entry) (lefts : List Role) (G : List Entry) (between : List Role) (H' : List Entry) (lefts' : List Role)
    → Leads S H lefts G between → Leads S G between H' lefts' → Leads S H lefts H' lefts'
leads-on S H lefts G between H' lefts' first after = record {
  k = after.k + first.k;
  on = λ n more.
      let later : LeadsFor S after.k G between H' lefts' n more = after.on n more in
      let sooner : LeadsFor S first.k H lefts G between (n + after.k) later.given = first.on (n + after.k) later.given in
      record {
        given = sooner.given;
        same = later.same ∙ sooner.same;
        goes = ap (λ k. after_rounds k S (progress H lefts sooner.given)) (omega arith) ∙ (sooner.goes ∙ later.goes);
      };
}

-- a round: all clients take their lines, and a step follows
pub leads-round : (S : Setup) (H : List Entry) (lefts : List Role) (G : List Entry) (between : List Role) (H' : List Entry)
    → TakesFirst S (length lefts) H lefts G between → IsStep S G H' → Leads S H lefts H' between
leads-round S H lefts G between H' takes step = record {
  k = 1;
  on = λ n more.
      let on : StepsOn S G H' between more = step between more in
      record {
        given = on.given;
        same = on.same ∙ takes.same on.given;
        goes = round-on S n (progress H lefts on.given) ∙ ap (after_rounds n S) (ap (after_step S) (takes.goes on.given) ∙ on.goes);
      };
}
