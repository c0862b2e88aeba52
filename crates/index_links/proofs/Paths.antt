-- Paths along the links, and the lists that they make.
use Rattle.std.proofs.Common.{◌≡◌, ℕ, zero, suc, ◌+◌, ◌-◌, ◌<◌, ◌≤◌, true, false, List, [], ◌∷◌, length, eqb, inl, inr, refl, sym, ◌∙◌, ap, subst, arith}
use Rattle.std.specs.List.{IsDistinct, AllByRecursion, list_any}
use Rattle.std.proofs.lemmas.Bool.{eqb-true, lt-ltb, le-ltb, or_cases, or_parts, false_from_ne_true}
use Rattle.std.proofs.lemmas.List.FromFn.{get_or-map-range_with_len}
use Rattle.std.proofs.lemmas.Map.Steps.{length-le_from_distinct_below}
use Rattle.index_links.specs.declared.rings.Link.{Link}
use Rattle.index_links.specs.Lists.{list_at, is_among}
use Rattle.index_links.specs.Rings.{after_at, walk, lists_of, Path, AreRings, AreLinked}

-- a path stays where what comes after each place that leads to its end stays
pub path-kept : (f g : ℕ → ℕ) (k p : ℕ) (xs : List ℕ) (q : ℕ) → ((r : ℕ) (ys : List ℕ) → Path f k r ys q → g r ≡ f r) → Path f k p xs q → Path g k p xs q
unfolding Path
path-kept f g k p [] q same path = same p [] path ∙ path
path-kept f g k p (x ∷ xs) q same path = (same p (x ∷ xs) path ∙ path.0, path-kept f g k (k + x) xs q same path.1)

-- from one place one path leads to a head
pub paths-same : (f : ℕ → ℕ) (k p : ℕ) (xs ys : List ℕ) (q r : ℕ) → q < k → r < k → Path f k p xs q → Path f k p ys r → (q ≡ r) × (xs ≡ ys)
unfolding Path
paths-same f k p [] [] q r q-in r-in one other = (sym one ∙ other, refl)
paths-same f k p [] (y ∷ ys) q r q-in r-in one other = absurd (omega (arith, sym one ∙ other.0))
paths-same f k p (x ∷ xs) [] q r q-in r-in one other = absurd (omega (arith, sym other ∙ one.0))
paths-same f k p (x ∷ xs) (y ∷ ys) q r q-in r-in one other =
    let same : y ≡ x = omega (arith, sym one.0 ∙ other.0) in
    let rest : Path f k (k + x) ys r = subst (λ z. Path f k (k + z) ys r) same other.1 in
    let (ends, nodes) = paths-same f k (k + x) xs ys q r q-in r-in one.1 rest in
    (ends, ap (λ zs. x ∷ zs) nodes ∙ ap (λ z. z ∷ ys) (sym same))

-- a ring alone leads to no head
pub alone-leads : (f : ℕ → ℕ) (k x : ℕ) (xs : List ℕ) (q : ℕ) → q < k → f (k + x) ≡ k + x → Path f k (k + x) xs q → ⊥
unfolding Path
alone-leads f k x [] q q-in alone path = omega (arith, sym path ∙ alone)
alone-leads f k x (y ∷ ys) q q-in alone path =
    let same : y ≡ x = omega (arith, sym path.0 ∙ alone) in
    alone-leads f k x ys q q-in alone (subst (λ z. Path f k (k + z) ys q) same path.1)

-- a walk gives the nodes of a path
pub walk-path : (f : ℕ → ℕ) (k n p : ℕ) (xs : List ℕ) (q : ℕ) → q < k → length xs ≤ n → Path f k p xs q → walk f k n (f p) ≡ xs
unfolding Path walk
walk-path f k zero p [] q q-in fits path = refl
walk-path f k zero p (x ∷ xs) q q-in fits path = absurd (omega arith)
walk-path f k (suc n) p [] q q-in fits path = rw (path, lt-ltb q k q-in) refl
walk-path f k (suc n) p (x ∷ xs) q q-in fits path =
    let here : k + x - k ≡ x = omega arith in
    rw (path.0, le-ltb (k + x) k (omega arith), here) (ap (λ zs. x ∷ zs) (walk-path f k n (k + x) xs q q-in (omega arith) path.1))

-- the path from one of its nodes on, which is shorter
pub path-from : (f : ℕ → ℕ) (k p : ℕ) (xs : List ℕ) (q x : ℕ) → is_among xs x ≡ true → Path f k p xs q → (ys : List ℕ) × (length ys < length xs) × Path f k (k + x) ys q
unfolding Path is_among
path-from f k p [] q x among path = cc
path-from f k p (y ∷ ys) q x among path = elim (or_cases (eqb x y) (list_any (eqb x) ys) among) [
  | inl here ↦ (ys, omega arith, subst (λ z. Path f k (k + z) ys q) (sym (eqb-true x y here)) path.1)
  | inr later ↦ let (zs, less, rest) = path-from f k (k + y) ys q x later path.1 in (zs, omega arith, rest)
]

none-among : (x : ℕ) (xs : List ℕ) → is_among xs x ≡ false → AllByRecursion (λ y. eqb x y ≡ false) xs
unfolding is_among
none-among x [] none = tt
none-among x (y ∷ ys) none = let (here, later) = or_parts (eqb x y) (list_any (eqb x) ys) none in (here, none-among x ys later)

-- no node stands twice on a path
pub path-distinct : (f : ℕ → ℕ) (k p : ℕ) (xs : List ℕ) (q : ℕ) → q < k → Path f k p xs q → IsDistinct eqb xs
unfolding Path IsDistinct
path-distinct f k p [] q q-in path = tt
path-distinct f k p (x ∷ xs) q q-in path =
    let never : is_among xs x ≡ true → ⊥ = λ among.
    let (ys, less, rest) = path-from f k (k + x) xs q x among path.1 in
    let (ends, same) = paths-same f k (k + x) xs ys q q q-in q-in path.1 rest in
    omega (arith, ap length same) in
    (none-among x xs (false_from_ne_true (is_among xs x) never), path-distinct f k (k + x) xs q q-in path.1)

-- a path in a table stays in it
pub path-within : (links : List Link) → AreRings links → (k p : ℕ) (xs : List ℕ) (q x : ℕ) → p < length links → Path (after_at links) k p xs q → is_among xs x ≡ true → k + x < length links
unfolding Path is_among
path-within links r k p [] q x there path among = cc
path-within links r k p (y ∷ ys) q x there path among =
    let inside : k + y < length links = subst (λ z. z < length links) path.0 (r.ahead p there) in
    elim (or_cases (eqb x y) (list_any (eqb x) ys) among) [
      | inl here ↦ omega (arith, eqb-true x y here)
      | inr later ↦ path-within links r k (k + y) ys q x inside path.1 later
    ]

pub path-short : (links : List Link) → AreRings links → (k p : ℕ) (xs : List ℕ) (q : ℕ) → q < k → p < length links → Path (after_at links) k p xs q → length xs ≤ length links - k
unfolding is_among
path-short links r k p xs q q-in there path =
    length-le_from_distinct_below xs (length links - k) (path-distinct (after_at links) k p xs q q-in path)
    (λ x among. let inside : k + x < length links = path-within links r k p xs q x there path among in omega arith)

-- the list of a head is its path
pub list-is : (links : List Link) → AreRings links → (k l : ℕ) (xs : List ℕ) → k ≤ length links → l < k → Path (after_at links) k l xs l → list_at (lists_of links k) l ≡ xs
unfolding list_at lists_of
list-is links r k l xs room l-in path =
    get_or-map-range_with_len (λ l. walk (after_at links) k (length links - k) (after_at links l)) 0 k l l [] l-in (omega arith)
    ∙ walk-path (after_at links) k (length links - k) l xs l l-in (path-short links r k l xs l l-in (omega arith) path) path

pub list-path : (links : List Link) (k l : ℕ) → AreLinked links k → l < k → Path (after_at links) k l (list_at (lists_of links k) l) l
list-path links k l linked l-in =
    let (xs, path) = linked.paths l l-in in
    subst (λ ys. Path (after_at links) k l ys l) (sym (list-is links linked.rings k l xs linked.room l-in path)) path
