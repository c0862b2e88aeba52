-- Numbers with one bit set are the powers of two, and from 128 on they are 128 times one.
use Rattle.std.proofs.Common.{◌≡◌, ℕ, zero, suc, ◌+◌, ◌*◌, ◌/◌, ◌%◌, ◌^◌, ◌≤◌, ◌↔◌, inl, inr, ◌-◌, IsTrue, count_ones, eq-eqb, refl, sym, ap, ◌∙◌, arith, pow-add}
use Rattle.std.proofs.Math.Nat.{pow-suc}
use Rattle.std.proofs.lemmas.Bool.{cases_lt, eqb-true}
use Rattle.std.specs.Int.{is_power_of_two}
use Rattle.std.proofs.lemmas.Nat.{zero_from_ones, ones_le_self, pow_below}
use lib.Count.{ones, ones_step}

power_from_ones : (d n : ℕ) → n ≤ d → count_ones n ≡ 1 → (k : ℕ) × (n ≡ 2 ^ k)
power_from_ones zero n small one = absurd (omega (arith, ones_le_self n))
power_from_ones (suc d) n small one =
    elim (cases_lt (n % 2) 1) [
      | inl even ↦
          let half : count_ones (n / 2) ≡ 1 = omega (arith, ones_step n) in
          let found = power_from_ones d (n / 2) (omega arith) half in
          (suc found.0, omega (arith, found.1, pow-suc 2 found.0))
      | inr odd ↦
          let none : n / 2 ≡ 0 = zero_from_ones (n / 2) (omega (arith, ones_step n)) in
          (0, omega arith)
    ]

ones-one : count_ones (2 ^ 0) ≡ 1
unfolding ones
ones-one = refl

ones-power : (k : ℕ) → count_ones (2 ^ k) ≡ 1
ones-power zero = ones-one
ones-power (suc k) =
    let twice : 2 ^ suc k ≡ 2 * 2 ^ k = omega (arith, pow-suc 2 k) in
    let even : 2 ^ suc k % 2 ≡ 0 = omega arith in
    let half : 2 ^ suc k / 2 ≡ 2 ^ k = omega arith in
    omega (arith, ones_step (2 ^ suc k), ap count_ones half, ones-power k)

seven : (k : ℕ) → 2 ^ (7 + k) ≡ 128 * 2 ^ k
seven k = pow-add 2 7 k

-- an entry size is 128 times a power of two
pub power_from_least : (n : ℕ) → 128 ≤ n → IsTrue (is_power_of_two n) ↔ ((k : ℕ) × (n ≡ 128 * 2 ^ k))
power_from_least n large = (found, tested)
  where
    found : IsTrue (is_power_of_two n) → (k : ℕ) × (n ≡ 128 * 2 ^ k)
    found h =
        let power = power_from_ones n n (omega arith) (eqb-true (count_ones n) 1 h) in
        elim (cases_lt power.0 7) [
          | inl few ↦ absurd (omega (arith, pow_below power.0 7 few, power.1))
          | inr many ↦ (power.0 - 7, power.1 ∙ ap (λ j. 2 ^ j) (omega arith) ∙ seven (power.0 - 7))
        ]

    tested : (k : ℕ) × (n ≡ 128 * 2 ^ k) → IsTrue (is_power_of_two n)
    tested power = eq-eqb (count_ones n) 1 (ap count_ones (power.1 ∙ sym (seven power.0)) ∙ ones-power (7 + power.0))
