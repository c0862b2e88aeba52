-- Division of polynomials over two-element arithmetic, in which 1 + 1 is 0 (own profile). A coefficient is a `Bool`, and
-- a polynomial is the list of its coefficients, highest power first.
use Rattle.std.specs.Prelude.{◌≡◌, ℕ, zero, suc, ◌+◌, ◌-◌, Bool, true, false, ◌&&◌, not, List, [], ◌∷◌, ◌++◌, length, map, replicate, ◌↔◌}

-- the sum of two coefficients; their product is `&&`
abbrev pub add : Bool → Bool → Bool
add false y = y
add true y = not y

-- the sum of two polynomials whose lists begin at one power; what one list lacks at its end is 0
unfoldable pub plus : List Bool → List Bool → List Bool
plus [] ys = ys
plus (x ∷ xs) [] = x ∷ xs
plus (x ∷ xs) (y ∷ ys) = add x y ∷ plus xs ys

-- a coefficient times a polynomial
abbrev pub multiple_of : Bool → List Bool → List Bool
multiple_of x ys = map (λ y. x && y) ys

abbrev pub zero_bits : ℕ → List Bool
zero_bits n = replicate n false

-- the product of two polynomials: the sum of each coefficient of the first, in its place, times the second
unfoldable pub times : List Bool → List Bool → List Bool
times [] ys = zero_bits (length ys - 1)
times (x ∷ xs) ys = plus (multiple_of x ys) (false ∷ times xs ys)

-- `rest` is a rest of the division: the dividend is a quotient times the divisor, plus the rest, and the rest has one
-- coefficient fewer than the divisor
pub record IsRest (dividend divisor rest : List Bool) : Type 0 where
  pub quotient : List Bool
  pub short : length rest + 1 ≡ length divisor
  pub sum : dividend ≡ plus (times quotient divisor) (zero_bits (length quotient) ++ rest)

-- the division has this rest, and no other
abbrev pub HasOneRest : List Bool → List Bool → List Bool → Type 0
HasOneRest dividend divisor rest = (r : List Bool) → IsRest dividend divisor r ↔ (r ≡ rest)

-- Long division by x^k + `tail`, where `tail` has k coefficients, until `count` coefficients of the quotient are found.
-- The next one is the first coefficient left: so many times the divisor is taken away, which is to add it, and the first
-- coefficient, which is then 0, is dropped.
unfoldable pub rest_of_division : ℕ → List Bool → List Bool → List Bool
rest_of_division zero tail left = left
rest_of_division (suc count) tail [] = []
rest_of_division (suc count) tail (x ∷ left) = rest_of_division count tail (plus left (multiple_of x tail))
