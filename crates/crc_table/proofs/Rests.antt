-- Sums of polynomials, and the rest of a division: long division finds one, and there is no other.
use Rattle.std.proofs.Common.{◌≡◌, ℕ, zero, suc, ◌+◌, ◌≤◌, Bool, true, false, ◌&&◌, List, [], ◌∷◌, ◌++◌, length, refl, sym, ap, ◌∙◌, arith, length-append}
use Rattle.std.proofs.lemmas.List.{length-map, length-replicate}
use Rattle.crc_table.specs.Division.{add, plus, multiple_of, zero_bits, times, IsRest, HasOneRest, rest_of_division}

add_comm : (x y : Bool) → add x y ≡ add y x
add_comm false false = refl
add_comm false true = refl
add_comm true false = refl
add_comm true true = refl

add_assoc : (x y z : Bool) → add (add x y) z ≡ add x (add y z)
add_assoc false y z = refl
add_assoc true false z = refl
add_assoc true true false = refl
add_assoc true true true = refl

add_self : (x : Bool) → add x x ≡ false
add_self false = refl
add_self true = refl

add_product : (x : Bool) → add (add (x && true) false) false ≡ x
add_product false = refl
add_product true = refl

pub plus_comm : (a b : List Bool) → plus a b ≡ plus b a
unfolding plus
plus_comm [] [] = refl
plus_comm [] (y ∷ ys) = refl
plus_comm (x ∷ xs) [] = refl
plus_comm (x ∷ xs) (y ∷ ys) = cc (add_comm x y, plus_comm xs ys)

pub plus_assoc : (a b c : List Bool) → plus (plus a b) c ≡ plus a (plus b c)
unfolding plus
plus_assoc [] b c = refl
plus_assoc (x ∷ xs) [] c = refl
plus_assoc (x ∷ xs) (y ∷ ys) [] = refl
plus_assoc (x ∷ xs) (y ∷ ys) (z ∷ zs) = cc (add_assoc x y z, plus_assoc xs ys zs)

plus_self : (a : List Bool) → plus a a ≡ zero_bits (length a)
unfolding plus
plus_self [] = refl
plus_self (x ∷ xs) = cc (add_self x, plus_self xs)

pub plus-zeros : (n : ℕ) (a : List Bool) → n ≤ length a → plus (zero_bits n) a ≡ a
unfolding plus
plus-zeros zero a within = refl
plus-zeros (suc n) [] within = absurd (omega arith)
plus-zeros (suc n) (x ∷ xs) within = ap (λ l. x ∷ l) (plus-zeros n xs (omega arith))

pub length-plus : (a b : List Bool) → length a ≤ length b → length (plus a b) ≡ length b
unfolding plus
length-plus [] b within = refl
length-plus (x ∷ xs) [] within = absurd (omega arith)
length-plus (x ∷ xs) (y ∷ ys) within = ap suc (length-plus xs ys (omega arith))

-- what is added twice is gone
plus_twice : (a b : List Bool) → length b ≤ length a → plus (plus a b) b ≡ a
plus_twice a b within =
    plus_assoc a b b ∙ ap (plus a) (plus_self b) ∙ plus_comm a (zero_bits (length b)) ∙ plus-zeros (length b) a within

length-padded : (n : ℕ) (r : List Bool) → length (zero_bits n ++ r) ≡ n + length r
length-padded n r = length-append (zero_bits n) r ∙ ap (λ k. k + length r) (length-replicate n false)

length-times : (q t : List Bool) → length (times q (true ∷ t)) ≡ length q + length t
unfolding times
length-times [] t = length-replicate _ false ∙ omega arith
length-times (x ∷ q) t =
    length-plus (multiple_of x (true ∷ t)) (false ∷ times q (true ∷ t)) (omega (arith, length-map (true ∷ t) (λ y. x && y), length-times q t))
    ∙ omega (arith, length-times q t)

-- the quotient times x^k + t, where t has k coefficients, plus the rest
abbrev value : List Bool → List Bool → List Bool → List Bool
value q t r = plus (times q (true ∷ t)) (zero_bits (length q) ++ r)

length-value : (q t r : List Bool) → length r ≡ length t → length (value q t r) ≡ length q + length t
length-value q t r short =
    length-plus (times q (true ∷ t)) (zero_bits (length q) ++ r) (omega (arith, length-times q t, length-padded (length q) r))
    ∙ omega (arith, length-padded (length q) r)

-- one more coefficient of the quotient
value-cons : (x : Bool) (q t r : List Bool) → value (x ∷ q) t r ≡ x ∷ plus (value q t r) (multiple_of x t)
unfolding plus times
value-cons x q t r =
    let product = times q (true ∷ t) in
    let padded = zero_bits (length q) ++ r in
    cc (add_product x, plus_assoc (multiple_of x t) product padded, plus_comm (multiple_of x t) (plus product padded))

length-scaled : (x : Bool) (t : List Bool) → length (multiple_of x t) ≡ length t
length-scaled x t = length-map t (λ y. x && y)

divided-value : (q t r : List Bool) → length r ≡ length t → rest_of_division (length q) t (value q t r) ≡ r
unfolding times rest_of_division
divided-value [] t r short = plus-zeros _ r (omega arith)
divided-value (x ∷ q) t r short =
    ap (rest_of_division (suc (length q)) t) (value-cons x q t r)
    ∙ ap (rest_of_division (length q) t) (plus_twice (value q t r) (multiple_of x t) (omega (arith, length-value q t r short, length-scaled x t)))
    ∙ divided-value q t r short

value-from : (x : Bool) (q t r m : List Bool) → length t ≤ length m → plus m (multiple_of x t) ≡ value q t r → x ∷ m ≡ value (x ∷ q) t r
value-from x q t r m within is =
    sym (value-cons x q t r ∙ ap (λ l. x ∷ plus l (multiple_of x t)) (sym is)
    ∙ ap (λ l. x ∷ l) (plus_twice m (multiple_of x t) (omega (arith, length-scaled x t))))

record Divides (n : ℕ) (t m : List Bool) : Type 0 where
  pub quotient : List Bool
  pub short : length (rest_of_division n t m) ≡ length t
  pub sum : m ≡ value quotient t (rest_of_division n t m)

divided-Divides : (n : ℕ) (t m : List Bool) → length m ≡ n + length t → Divides n t m
unfolding times rest_of_division
divided-Divides zero t m long = record {
  quotient = [];
  short = omega arith;
  sum = sym (plus-zeros _ m (omega arith));
}
divided-Divides (suc n) t [] long = absurd (omega arith)
divided-Divides (suc n) t (x ∷ m) long =
    let kept : length (plus m (multiple_of x t)) ≡ length m =
    ap length (plus_comm m (multiple_of x t)) ∙ length-plus (multiple_of x t) m (omega (arith, length-scaled x t)) in
    let next = divided-Divides n t (plus m (multiple_of x t)) (omega arith) in
    record {
      quotient = x ∷ next.quotient;
      short = next.short;
      sum = value-from x next.quotient t _ m (omega arith) next.sum;
    }

pub divided-HasOneRest : (n : ℕ) (t m : List Bool) → length m ≡ n + length t → HasOneRest m (true ∷ t) (rest_of_division n t m)
divided-HasOneRest n t m long r = (only, found)
  where
    only : IsRest m (true ∷ t) r → r ≡ rest_of_division n t m
    only rest =
        let short : length r ≡ length t = omega (arith, rest.short) in
        let same : n ≡ length rest.quotient = omega (arith, ap length rest.sum ∙ length-value rest.quotient t r short) in
        sym (ap (λ k. rest_of_division k t m) same ∙ ap (rest_of_division (length rest.quotient) t) rest.sum ∙ divided-value rest.quotient t r short)

    found : r ≡ rest_of_division n t m → IsRest m (true ∷ t) r
    found is =
        let division = divided-Divides n t m long in
        record {
          quotient = division.quotient;
          short = omega (arith, ap length is, division.short);
          sum = division.sum ∙ ap (value division.quotient t) (sym is);
        }
