-- Collecting tokens in order of number: what it adds, and what it leaves.
use Rattle.std.proofs.Common.{◌≡◌, ℕ, zero, suc, ◌+◌, Bool, true, false, not, nat_eq, if◌then◌else◌, List, ◌∷◌, Option, None, Some, refl, ◌∙◌}
use Rattle.history.specs.declared.entry.Entry.{Entry}
use Rattle.history.specs.declared.entry.Entry.TheVariants.{Collect}
use Rattle.history.specs.Setup.{Setup}
use Rattle.history.specs.Tokens.{Request, token_count, request, was_collected}
use Rattle.history.specs.Next.{Outcome}
use Rattle.history_laws.proofs.WeightLemmas.{weight, weight-collect}
use Rattle.device_workers.specs.Plain.{outcomes_onto, collect_one, with_collect, collects, with_own_collects, with_last_collects}

-- what holds of a history, and of it with one more collect, holds after all collects
pub collects-keep : (P : List Entry → Type 0) → ((G : List Entry) (tag t : ℕ) → P G → P (Collect tag t ∷ G)) → (test : ℕ → Bool) (H : List Entry) (a n : ℕ) → P H → P (collects test H a n)
unfolding collects
collects-keep P more test H a zero holds = holds
collects-keep P more test H a (suc n) holds = collects-keep P more test (with_collect test H a) (a + 1) n (by (request H a) (was_collected H a))
  where
    by : (r : Option Request) (was : Bool) → P (collect_one test H a r was)
    by None was = holds
    by (Some r) true = holds
    by (Some r) false = tested (test r.tag)
      where
        tested : (b : Bool) → P (if b then Collect r.tag a ∷ H else H)
        tested true = more H r.tag a holds
        tested false = holds

-- the same of a client's own collects
pub own-keep : (P : List Entry → Type 0) → ((G : List Entry) (tag t : ℕ) → P G → P (Collect tag t ∷ G)) → (H : List Entry) (tag : ℕ) → P H → P (with_own_collects H tag)
unfolding with_own_collects
own-keep P more H tag holds = collects-keep P more (λ owner. nat_eq owner tag) H 0 (token_count H) holds

-- and of the last
pub last-keep : (P : List Entry → Type 0) → ((G : List Entry) (tag t : ℕ) → P G → P (Collect tag t ∷ G)) → (H : List Entry) → P H → P (with_last_collects H)
unfolding with_last_collects
last-keep P more H holds = collects-keep P more (λ tag. not (nat_eq tag 0)) H 0 (token_count H) holds

-- they make nothing lighter
pub own-weight : (S : Setup) (H : List Entry) (tag : ℕ) → weight S (with_own_collects H tag) ≡ weight S H
own-weight S H tag = own-keep (λ G. weight S G ≡ weight S H) (λ G tag' t same. weight-collect S G tag' t ∙ same) H tag refl

-- and are no commands
pub own-outcomes : (H : List Entry) (tag : ℕ) (more : List Outcome) → outcomes_onto (with_own_collects H tag) more ≡ outcomes_onto H more
unfolding outcomes_onto
own-outcomes H tag more = own-keep (λ G. outcomes_onto G more ≡ outcomes_onto H more) (λ G tag' t same. same) H tag refl

pub last-outcomes : (H : List Entry) (more : List Outcome) → outcomes_onto (with_last_collects H) more ≡ outcomes_onto H more
unfolding outcomes_onto
last-outcomes H more = last-keep (λ G. outcomes_onto G more ≡ outcomes_onto H more) (λ G tag t same. same) H refl
