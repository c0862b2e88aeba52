-- Whether one of some blocks is held, block by block.
use Rattle.std.proofs.Common.{◌≡◌, ℕ, zero, suc, ◌+◌, Bool, true, false, not, ◌&&◌, ◌||◌, List, [], ◌∷◌, eqb, refl, ap, ◌∙◌, arith}
use Rattle.std.specs.Prelude.{nat_le, nat_lt}
use Rattle.std.specs.List.{list_any}
use Rattle.std.proofs.lemmas.Bool.Decides.{nat_tests}
use Rattle.history.specs.Marks.{all_from}
use Rattle.block_gate.specs.Gates.{Gate, is_block_held, is_range_held}

swap-or : (a b c d : Bool) → ((a || b) || (c || d)) ≡ ((a || c) || (b || d))
swap-or true b c d = refl
swap-or false true true d = refl
swap-or false true false d = refl
swap-or false false true d = refl
swap-or false false false d = refl

-- one of two tests passes
any-or : (p q r : Gate → Bool) → ((g : Gate) → r g ≡ (p g || q g)) → (gates : List Gate) → list_any r gates ≡ (list_any p gates || list_any q gates)
any-or p q r is [] = refl
any-or p q r is (g ∷ gates) = rw (is g, any-or p q r is gates) (swap-or (p g) (q g) (list_any p gates) (list_any q gates))

none-in : (r : Gate → Bool) → ((g : Gate) → r g ≡ false) → (gates : List Gate) → list_any r gates ≡ false
none-in r is [] = refl
none-in r is (g ∷ gates) = rw (is g) (none-in r is gates)

in-none : (b x : ℕ) → (nat_le b x && nat_lt x (b + 0)) ≡ false
in-none b x = grind (arith, nat_tests)

in-more : (b x n : ℕ) → (nat_le b x && nat_lt x (b + suc n)) ≡ (eqb x b || (nat_le (b + 1) x && nat_lt x (b + 1 + n)))
in-more b x n = grind (arith, nat_tests)

not-or : (a b : Bool) → not (a || b) ≡ (not a && not b)
not-or true b = refl
not-or false b = refl

-- none of the blocks is held
pub range-free : (held : List Gate) (b count : ℕ) → not (is_range_held held b count) ≡ all_from (λ x. not (is_block_held held x)) b count
unfolding is_range_held is_block_held all_from
range-free held b zero = ap not (none-in (λ g. nat_le b g.block && nat_lt g.block (b + 0)) (λ g. in-none b g.block) held)
range-free held b (suc n) =
    ap not (any-or (λ g. eqb g.block b) (λ g. nat_le (b + 1) g.block && nat_lt g.block (b + 1 + n)) (λ g. nat_le b g.block && nat_lt g.block (b + suc n)) (λ g. in-more b g.block n) held)
    ∙ not-or (list_any (λ g. eqb g.block b) held) (list_any (λ g. nat_le (b + 1) g.block && nat_lt g.block (b + 1 + n)) held)
    ∙ ap (λ v. not (list_any (λ g. eqb g.block b) held) && v) (range-free held (b + 1) n)
