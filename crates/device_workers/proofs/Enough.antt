-- The rounds of the plain schedule are enough: more of them change nothing.
use Rattle.std.proofs.Common.{◌≡◌, ℕ, zero, suc, ◌+◌, ◌≤◌, inl, inr, Bool, true, false, if◌then◌else◌, List, None, refl, sym, ◌∙◌, ap, arith}
use Rattle.history.specs.declared.entry.Entry.{Entry}
use Rattle.history.specs.Setup.{Setup, IsSetup}
use Rattle.history.specs.Next.{first_open, Outcome}
use Rattle.history_laws.proofs.WeightLemmas.{weight-drained}
use Rattle.shared_disk.specs.Lines.{Role}
use Rattle.device_workers.specs.Plain.{Progress, progress, with_last_collects, a_round, is_over, after_rounds, plain_from, rounds, plain_history}
use Rattle.device_workers.proofs.Costs.{cost, Lightens, round-lightens}

-- where a round changes nothing, no number of rounds does
stuck : (S : Setup) (s : Progress) (k : ℕ) → a_round S s ≡ s → after_rounds k S s ≡ s
unfolding after_rounds
stuck S s zero same = refl
stuck S s (suc k) same = by (is_over S s) (stuck S s k same)
  where
    by : (b : Bool) → after_rounds k S s ≡ s → (if b then s else after_rounds k S (a_round S s)) ≡ s
    by true rest = refl
    by false rest = ap (after_rounds k S) same ∙ rest

-- so many rounds as a stand can need are as good as more
pub enough-from : (S : Setup) → IsSetup S → (n : ℕ) (s : Progress) (d : ℕ) → cost S s ≤ n → after_rounds (n + d) S s ≡ after_rounds n S s
unfolding after_rounds
enough-from S some zero s d most = by (round-lightens S some s)
  where
    by : Lightens S s (a_round S s) → after_rounds (0 + d) S s ≡ s
    by (inl same) = stuck S s (0 + d) same
    by (inr falls) = absurd (omega (arith, falls, most))
enough-from S some (suc n) s d most = let e : suc n + d ≡ suc (n + d) = omega arith in rw e (by (is_over S s) (round-lightens S some s) (λ t less. enough-from S some n t d less))
  where
    by : (b : Bool) → Lightens S s (a_round S s) → ((t : Progress) → cost S t ≤ n → after_rounds (n + d) S t ≡ after_rounds n S t)
        → (if b then s else after_rounds (n + d) S (a_round S s)) ≡ (if b then s else after_rounds n S (a_round S s))
    by true lightens rest = refl
    by false (inl same) rest = ap (after_rounds (n + d) S) same ∙ (stuck S s (n + d) same ∙ (sym (stuck S s n same) ∙ sym (ap (after_rounds n S) same)))
    by false (inr falls) rest = rest (a_round S s) (omega (arith, falls, most))

-- what the beginning can need
pub cost-begins : (S : Setup) (opening : List Entry) (roles : List Role) (outcomes : List Outcome) → first_open S opening ≡ None → cost S (progress opening roles outcomes) ≤ rounds roles
cost-begins S opening roles outcomes none = omega (arith, weight-drained S opening none)

-- more rounds than these change nothing, whatever the outcomes are
pub enough : (S : Setup) (opening : List Entry) (roles : List Role) (outcomes : List Outcome) (more : ℕ) → IsSetup S → first_open S opening ≡ None
    → plain_from (rounds roles + more) S (progress opening roles outcomes) ≡ plain_history S opening roles outcomes
unfolding plain_history
enough S opening roles outcomes more some none =
    ap (λ (s : Progress). with_last_collects s.history) (enough-from S some (rounds roles) (progress opening roles outcomes) more (cost-begins S opening roles outcomes none))
