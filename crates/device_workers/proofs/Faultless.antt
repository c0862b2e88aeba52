-- Without a fault the plain history is that of the script and the setup alone.
use Rattle.std.proofs.Common.{◌≡◌, ℕ, zero, suc, ◌+◌, Bool, true, false, List, [], ◌∷◌, ◌++◌, length, slice_get, Option, None, Some, refl, sym, ◌∙◌, ap, subst, arith, if◌then◌else◌}
use Rattle.history.specs.declared.entry.Entry.{Entry}
use Rattle.history.specs.declared.entry.Entry.TheVariants.{Accept, Refuse, Done, Fault, Collect, Cancel, Reset, Eject, Insert, Protect}
use Rattle.history.specs.Eras.{is_fault}
use Rattle.history.specs.Setup.{Setup}
use Rattle.history.specs.Next.{Turn, next_turn, Outcome, Made, Failed, entry_of}
use Rattle.history.specs.Room.{faults}
use Rattle.history_laws.proofs.CountLemmas.{faults-more, faults-same, faults-both}
use Rattle.disk_core.specs.Calls.{is_fetched}
use Rattle.shared_disk.specs.Lines.{Role}
use Rattle.device_workers.specs.Plain.{outcomes_onto, outcomes_after, Progress, progress, with_last_collects, after_line_if, after_line_of, after_lines_of_first, next_outcome, later_outcomes, after_turn, after_turn_if, after_command, after_follow, after_step_if, after_step, a_round, is_over, after_rounds, rounds, plain_history}

AllMade : List Outcome → Type 0
AllMade [] = Unit {0}
AllMade (Made ∷ more) = AllMade more
AllMade (Failed done ∷ more) = ⊥

-- the stand with no outcomes
abbrev bare : Progress → Progress
bare s = progress s.history s.lefts []

-- what a part of a round makes of a stand without faults is what it makes of the stand without outcomes
record IsAlike (s t : Progress) : Type 0 where
  same : t ≡ bare s
  made : AllMade s.outcomes

made-next : (outcomes : List Outcome) → AllMade outcomes → next_outcome outcomes ≡ Made
unfolding AllMade
made-next [] made = refl
made-next (Made ∷ more) made = refl
made-next (Failed done ∷ more) made = absurd made

made-later : (outcomes : List Outcome) → AllMade outcomes → AllMade (later_outcomes outcomes)
unfolding AllMade
made-later [] made = tt
made-later (Made ∷ more) made = made
made-later (Failed done ∷ more) made = absurd made

after_line_of-alike : (S : Setup) (i : ℕ) (s : Progress) → AllMade s.outcomes → IsAlike (after_line_of S i s) (after_line_of S i (bare s))
unfolding after_line_of
after_line_of-alike S i s made = by (slice_get s.lefts i)
  where
    by : (o : Option Role) → IsAlike (after_line_if S i s o) (after_line_if S i (bare s) o)
    by None = record { same = refl; made = made }
    by (Some role) = record { same = refl; made = made }

first-alike : (S : Setup) (n : ℕ) (s : Progress) → AllMade s.outcomes → IsAlike (after_lines_of_first S n s) (after_lines_of_first S n (bare s))
unfolding after_lines_of_first
first-alike S zero s made = record { same = refl; made = made }
first-alike S (suc n) s made =
    let first : IsAlike (after_lines_of_first S n s) (after_lines_of_first S n (bare s)) = first-alike S n s made in
    let second : IsAlike (after_line_of S n (after_lines_of_first S n s)) (after_line_of S n (bare (after_lines_of_first S n s))) = after_line_of-alike S n (after_lines_of_first S n s) first.made in
    record { same = ap (after_line_of S n) first.same ∙ second.same; made = second.made }

after_turn-alike : (s : Progress) (turn : Turn) → AllMade s.outcomes → IsAlike (after_turn s turn) (after_turn (bare s) turn)
after_turn-alike s turn made = record {
  same = ap (λ (o : Outcome). progress (entry_of turn o ∷ s.history) s.lefts []) (sym (made-next s.outcomes made));
  made = made-later s.outcomes made;
}

after_command-alike : (S : Setup) (s : Progress) → AllMade s.outcomes → IsAlike (after_command S s) (after_command S (bare s))
unfolding after_command
after_command-alike S s made = by (next_turn S s.history)
  where
    by : (o : Option Turn) → IsAlike (after_turn_if s o) (after_turn_if (bare s) o)
    by None = record { same = refl; made = made }
    by (Some turn) = after_turn-alike s turn made

after_step-alike : (S : Setup) (s : Progress) → AllMade s.outcomes → IsAlike (after_step S s) (after_step S (bare s))
unfolding after_step
after_step-alike S s made = by (next_turn S s.history)
  where
    after : (turn : Turn) (f : Bool) → IsAlike (after_follow S f (after_turn s turn)) (after_follow S f (after_turn (bare s) turn))
    after turn false = after_turn-alike s turn made
    after turn true =
        let first : IsAlike (after_turn s turn) (after_turn (bare s) turn) = after_turn-alike s turn made in
        let second : IsAlike (after_command S (after_turn s turn)) (after_command S (bare (after_turn s turn))) = after_command-alike S (after_turn s turn) first.made in
        record { same = ap (after_command S) first.same ∙ second.same; made = second.made }

    by : (o : Option Turn) → IsAlike (after_step_if S s o) (after_step_if S (bare s) o)
    by None = record { same = refl; made = made }
    by (Some turn) =
        let alike : (o : Outcome) → Type 0 = λ o. IsAlike (after_follow S (is_fetched turn.command (next_outcome s.outcomes)) (after_turn s turn)) (after_follow S (is_fetched turn.command o) (after_turn (bare s) turn)) in
        subst alike (made-next s.outcomes made) (after turn (is_fetched turn.command (next_outcome s.outcomes)))

round-alike : (S : Setup) (s : Progress) → AllMade s.outcomes → IsAlike (a_round S s) (a_round S (bare s))
round-alike S s made =
    let first : IsAlike (after_lines_of_first S (length s.lefts) s) (after_lines_of_first S (length s.lefts) (bare s)) = first-alike S (length s.lefts) s made in
    let second : IsAlike (a_round S s) (after_step S (bare (after_lines_of_first S (length s.lefts) s))) = after_step-alike S (after_lines_of_first S (length s.lefts) s) first.made in
    record { same = ap (after_step S) first.same ∙ second.same; made = second.made }

-- after any number of rounds
rounds-alike : (S : Setup) (n : ℕ) (s : Progress) → AllMade s.outcomes → (after_rounds n S s).history ≡ (after_rounds n S (bare s)).history
unfolding after_rounds
rounds-alike S zero s made = refl
rounds-alike S (suc n) s made = by (is_over S s) (round-alike S s made) (λ t. rounds-alike S n t)
  where
    by : (b : Bool) → IsAlike (a_round S s) (a_round S (bare s)) → ((t : Progress) → AllMade t.outcomes → (after_rounds n S t).history ≡ (after_rounds n S (bare t)).history)
        → (if b then s else after_rounds n S (a_round S s)).history ≡ (if b then bare s else after_rounds n S (a_round S (bare s))).history
    by true alike rest = refl
    by false alike rest = rest (a_round S s) alike.made ∙ sym (ap (λ t. (after_rounds n S t).history) alike.same)

made-onto : (H : List Entry) (more : List Outcome) → faults H ≡ 0 → AllMade more → AllMade (outcomes_onto H more)
unfolding outcomes_onto AllMade
made-onto [] more few made = made
made-onto (Done t c ∷ H) more few made = made-onto H (Made ∷ more) (sym (faults-same H (Done t c) refl) ∙ few) made
made-onto (Fault t c done ∷ H) more few made = absurd (omega (arith, few, faults-more H (Fault t c done) refl))
made-onto (Accept p q r s ∷ H) more few made = made-onto H more (sym (faults-same H (Accept p q r s) refl) ∙ few) made
made-onto (Refuse p q r s v ∷ H) more few made = made-onto H more (sym (faults-same H (Refuse p q r s v) refl) ∙ few) made
made-onto (Collect p q ∷ H) more few made = made-onto H more (sym (faults-same H (Collect p q) refl) ∙ few) made
made-onto (Cancel p q ∷ H) more few made = made-onto H more (sym (faults-same H (Cancel p q) refl) ∙ few) made
made-onto (Reset p ∷ H) more few made = made-onto H more (sym (faults-same H (Reset p) refl) ∙ few) made
made-onto (Eject p ∷ H) more few made = made-onto H more (sym (faults-same H (Eject p) refl) ∙ few) made
made-onto (Insert p q ∷ H) more few made = made-onto H more (sym (faults-same H (Insert p q) refl) ∙ few) made
made-onto (Protect p q ∷ H) more few made = made-onto H more (sym (faults-same H (Protect p q) refl) ∙ few) made

-- with no fault since the opening the plain history is a function of the script and the setup alone
pub faultless : (S : Setup) (opening fresh : List Entry) (roles : List Role) → outcomes_after opening (fresh ++ opening) ≡ outcomes_onto fresh [] → fresh ++ opening ≡ plain_history S opening roles (outcomes_after opening (fresh ++ opening))
    → faults (fresh ++ opening) ≡ faults opening → fresh ++ opening ≡ plain_history S opening roles []
unfolding plain_history AllMade
faultless S opening fresh roles after plain few =
    let none : faults fresh ≡ 0 = omega (arith, few, faults-both fresh opening) in
    plain ∙ (ap (plain_history S opening roles) after ∙ ap with_last_collects (rounds-alike S (rounds roles) (progress opening roles (outcomes_onto fresh [])) (made-onto fresh [] none tt)))
