-- Which blocks begin a run that is saved by one read, and how many commands are made.
use Rattle.std.proofs.Common.{◌≡◌, ℕ, zero, suc, ◌+◌, ◌-◌, ◌<◌, ◌≤◌, ◌⊎◌, Bool, true, false, cond, ◌||◌, List, Option, None, Some, IsSome, refl, sym, ◌∙◌, ap, subst, arith, inl, inr, Result, Ok, Err}
use Rattle.std.specs.Prelude.{nat_eq, is_some, is_none}
use Rattle.std.specs.Result.{IsErr}
use Rattle.std.proofs.lemmas.Bool.{cases_eq, cases_lt, eq-eqb, ne_eqb}
use Rattle.medium.specs.Cached.{HoldsOthers}
use Rattle.medium.specs.Counts.{capped_sum, Rose}
use Rattle.medium.specs.Device.{Device}
use Rattle.medium.specs.Saving.{begins_run, unsaved_runs, AreSavedTo, HasMade}
use Rattle.medium.specs.declared.block_failed.BlockFailed.{BlockFailed}

none-or-some : (o : Option (List ℕ)) → (o ≡ None) ⊎ IsSome o
none-or-some None = inl refl
none-or-some (Some x) = inr refl

some-none : (o : Option (List ℕ)) → IsSome o → o ≡ None → ⊥
some-none None some none = cc
some-none (Some x) some none = cc

none-is : (o : Option (List ℕ)) → o ≡ None → is_none o ≡ true
none-is o none = rw none refl

some-is : (o : Option (List ℕ)) → IsSome o → is_none o ≡ false
some-is None some = absurd (some-none None some refl)
some-is (Some x) some = refl

-- nothing was saved since then
pub saved-none : (at_first : ℕ → Option (List ℕ)) (first end : ℕ) → AreSavedTo at_first at_first first end first
saved-none at_first first end = record {
  kept = λ b some. some;
  closed = λ b low high some none. absurd (some-none (at_first b) some none);
  fresh = λ b low some none. absurd (some-none (at_first b) some none);
}

-- a block lies in a run, or before or behind it
place : (block run b : ℕ) → ((block ≤ b) × (b < block + run)) ⊎ ((b < block) ⊎ (block + run ≤ b))
place block run b = elim (cases_lt b block) [
  | inl low ↦ inr (inl low)
  | inr from ↦ elim (cases_lt b (block + run)) [ inl before ↦ inl (from, before) | inr behind ↦ inr (inr behind) ]
]

outside : (saved after : ℕ → Option (List ℕ)) (block run b : ℕ) → HoldsOthers block (block + run) saved after → (b < block) ⊎ (block + run ≤ b) → after b ≡ saved b
outside saved after block run b others (inl low) = others.0 b low
outside saved after block run b others (inr high) = others.1 b high

-- block k begins a run exactly where it is not saved once those before it are
pub begins-where : (at_first saved : ℕ → Option (List ℕ)) (first end k : ℕ) → AreSavedTo at_first saved first end k → ((b : ℕ) → first ≤ b → b < k → IsSome (saved b)) → first ≤ k → k < end →
    begins_run at_first first k ≡ is_none (saved k)
unfolding begins_run
begins-where at_first saved first end k are held low high = elim (none-or-some (saved k)) [
  | inl none ↦
      let was : at_first k ≡ None = elim (none-or-some (at_first k)) [ inl is ↦ is | inr is ↦ absurd (some-none (saved k) (are.kept k is) none) ] in
      let edge : (nat_eq k first || is_some (at_first (k - 1))) ≡ true = elim (cases_eq k first) [
        | inl same ↦ rw (eq-eqb k first same) refl
        | inr apart ↦ elim (none-or-some (at_first (k - 1))) [
          | inl open_ ↦
              let next : k - 1 + 1 ≡ k = omega (arith, apart) in
              let closed : IsSome (saved (k - 1 + 1)) = are.closed (k - 1) (omega (arith, apart)) (omega (arith, apart)) (held (k - 1) (omega (arith, apart)) (omega (arith, apart))) open_ in
              absurd (some-none (saved k) (subst (λ n. IsSome (saved n)) next closed) none)
          | inr is ↦ rw (ne_eqb k first apart, is) refl
        ]
      ] in
      rw (was, edge, none) refl
  | inr some ↦ elim (none-or-some (at_first k)) [
    | inl was ↦
        let fresh = are.fresh k (omega arith) some was in
        let apart : k ≡ first → ⊥ = (λ same. (let less = fresh.0 in omega arith)) in
        rw (was, ne_eqb k first apart, fresh.1, some) refl
    | inr is ↦ rw (some-is (at_first k) is, some-is (saved k) some) refl
  ]
]

-- the run at block k was saved too
pub saved-on : (at_first saved after : ℕ → Option (List ℕ)) (first end k : ℕ) → AreSavedTo at_first saved first end k → AreSavedTo saved after k end (k + 1) → HoldsOthers k end saved after → first ≤ k →
    AreSavedTo at_first after first end (k + 1)
saved-on at_first saved after first end k are more others low = record {
  kept = λ b is. more.kept b (are.kept b is);
  closed = λ b from before is was. elim (none-or-some (saved b)) [
    | inl none ↦ elim (cases_lt b k) [
      | inl under ↦ absurd (some-none (saved b) (subst (λ o. IsSome o) (others.0 b under) is) none)
      | inr over ↦ more.closed b over before is none
    ]
    | inr some ↦ more.kept (b + 1) (are.closed b from before some was)
  ];
  fresh = λ b from is was. elim (none-or-some (saved b)) [
    | inl none ↦
        let fresh = more.fresh b from is none in
        let was_none : at_first (b - 1) ≡ None = elim (none-or-some (at_first (b - 1))) [ inl none ↦ none | inr some ↦ absurd (some-none (saved (b - 1)) (are.kept (b - 1) some) fresh.1) ] in
        (omega (arith, fresh.0), was_none)
    | inr some ↦ are.fresh b (omega arith) some was
  ];
}

-- block k is held now too
pub held-on : (saved after : ℕ → Option (List ℕ)) (k b : ℕ) → ((b : ℕ) → IsSome (saved b) → IsSome (after b)) → IsSome (after k) → (b < k → IsSome (saved b)) → b < k + 1 → IsSome (after b)
held-on saved after k b kept here before high = elim (cases_lt b k) [
  | inl low ↦ kept b (before low)
  | inr from ↦ (let same : k ≡ b = omega arith in subst (λ n. IsSome (after n)) same here)
]

-- no command was made inside
pub made-none : (d : Device) (saved : ℕ → Option (List ℕ)) (first n : ℕ) → first + n ≡ first → HasMade d (Ok tt) d (unsaved_runs saved first n)
unfolding unsaved_runs
made-none d saved first n none =
    let is : 0 ≡ n = omega arith in
    subst (λ m. HasMade d (Ok tt) d (unsaved_runs saved first m)) is (record { calls = λ k. ap (capped_sum d.calls) (omega arith); failed = λ k. refl; rose = tt; fault = tt })

-- more commands were made behind done ones
pub made-more : (d e f : Device) (result : Result (Unit {0}) BlockFailed) (m c : ℕ) → HasMade d (Ok tt) e m → HasMade e result f c → HasMade d result f (m + c)
made-more d e f (Ok done) m c made more = record {
  calls = λ k. more.calls k ∙ made.calls (c + k) ∙ ap (capped_sum d.calls) (omega arith);
  failed = λ k. more.failed k ∙ made.failed k;
  rose = tt;
  fault = tt;
}
made-more d e f (Err fault) m c made more = record {
  calls = tt;
  failed = tt;
  rose = (let before = made.calls 1 in let rose = more.rose in omega arith);
  fault = more.fault ∙ made.failed 1;
}

-- where a command failed their number says nothing
pub made-failed : (d f : Device) (result : Result (Unit {0}) BlockFailed) (n : ℕ) → IsErr result → Rose d.calls f.calls → f.failed ≡ capped_sum d.failed 1 → HasMade d result f n
made-failed d f (Ok done) n is rose fault = absurd (cc)
made-failed d f (Err failed) n is rose fault = record { calls = tt; failed = tt; rose = rose; fault = fault }

-- the runs up to block k and the one that begins there
pub runs-on : (d f : Device) (result : Result (Unit {0}) BlockFailed) (saved : ℕ → Option (List ℕ)) (first k n : ℕ) (begins : Bool) → first ≤ k → first + n ≡ k + 1 → begins_run saved first k ≡ begins →
    ((m : ℕ) → first + m ≡ k → HasMade d result f (unsaved_runs saved first m + cond begins 1 0)) → HasMade d result f (unsaved_runs saved first n)
unfolding unsaved_runs
runs-on d f result saved first k zero begins low is same made = absurd (omega arith)
runs-on d f result saved first k (suc n) begins low is same made =
    let here : first + n ≡ k = omega arith in
    subst (λ b. HasMade d result f (unsaved_runs saved first n + cond b 1 0)) (sym same ∙ ap (begins_run saved first) (sym here)) (made n here)
