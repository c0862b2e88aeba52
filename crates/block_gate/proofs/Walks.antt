-- A walk along a list of sets: what is passed, and what is still to come.
use Rattle.std.proofs.Common.{◌≡◌, ℕ, zero, suc, ◌+◌, ◌<◌, ◌≤◌, Bool, true, false, List, [], ◌∷◌, length, map, drop, slice_get, get_or, Option, None, Some, refl, ◌∙◌, ap, arith}
use Rattle.std.specs.List.{find, filter}
use Rattle.std.proofs.lemmas.List.{get_or_default}
use Rattle.std.proofs.lemmas.Map.Steps.{length-le_from_distinct_below}
use Rattle.index_links.specs.Lists.{LinkedLists, list_at, is_among, is_listed, AreApart}
use Rattle.index_links.proofs.LinkedListsLemmas.{among-at, listed-from}
use Rattle.block_gate.specs.Gates.{Gate, lesser, least_ticket}
use Rattle.block_gate.specs.Sets.{gate_at, gates_in}

pub drop-some : (xs : List ℕ) (i x : ℕ) → slice_get xs i ≡ Some x → drop i xs ≡ x ∷ drop (suc i) xs
drop-some [] i x is = cc
drop-some (y ∷ ys) zero x is = let same : y ≡ x = cc in ap (λ z. z ∷ ys) same
drop-some (y ∷ ys) (suc i) x is = drop-some ys i x is

pub drop-none : (xs : List ℕ) (i : ℕ) → slice_get xs i ≡ None → drop i xs ≡ []
drop-none [] zero is = refl
drop-none [] (suc i) is = refl
drop-none (y ∷ ys) zero is = cc
drop-none (y ∷ ys) (suc i) is = drop-none ys i is

pub drop-past : (xs : List ℕ) (i : ℕ) → length xs ≤ i → drop i xs ≡ []
drop-past [] zero past = refl
drop-past [] (suc i) past = refl
drop-past (y ∷ ys) zero past = absurd (omega arith)
drop-past (y ∷ ys) (suc i) past = drop-past ys i (omega arith)

-- a list has at most as many nodes as there are
pub list-short : (s : LinkedLists) (l : ℕ) → AreApart s → length (list_at s l) ≤ s.nodes
unfolding is_among
list-short s l apart = length-le_from_distinct_below (list_at s l) s.nodes (apart.distinct l) (λ x among. apart.within l x among)

-- the node at which a walk stands
pub node-inside : (s : LinkedLists) (l i x : ℕ) → AreApart s → slice_get (list_at s l) i ≡ Some x → x < s.nodes
node-inside s l i x apart is = apart.within l x (among-at (list_at s l) i x is)

pub node-listed : (s : LinkedLists) (l i x : ℕ) → slice_get (list_at s l) i ≡ Some x → is_listed s x ≡ true
node-listed s l i x is = listed-from s l x (among-at (list_at s l) i x is)

gates-drop : (sets : List Gate) (xs : List ℕ) (i x : ℕ) → slice_get xs i ≡ Some x → gates_in sets (drop i xs) ≡ gate_at sets x ∷ gates_in sets (drop (suc i) xs)
unfolding gates_in
gates-drop sets xs i x is = ap (map (gate_at sets)) (drop-some xs i x is)

pub gates-none : (sets : List Gate) (xs : List ℕ) (i : ℕ) → drop i xs ≡ [] → gates_in sets (drop i xs) ≡ []
unfolding gates_in
gates-none sets xs i is = ap (map (gate_at sets)) is

-- ---- the first that is sought

pub find-here : (p : Gate → Bool) (sets : List Gate) (xs : List ℕ) (i x : ℕ) → slice_get xs i ≡ Some x → p (gate_at sets x) ≡ true → find p (gates_in sets (drop i xs)) ≡ Some (gate_at sets x)
find-here p sets xs i x is is-so = rw (gates-drop sets xs i x is, is-so) refl

pub find-later : (p : Gate → Bool) (sets : List Gate) (xs : List ℕ) (i x : ℕ) → slice_get xs i ≡ Some x → p (gate_at sets x) ≡ false → find p (gates_in sets (drop i xs)) ≡ find p (gates_in sets (drop (suc i) xs))
find-later p sets xs i x is no' = rw (gates-drop sets xs i x is, no') refl

pub find-none : (p : Gate → Bool) (sets : List Gate) (xs : List ℕ) (i : ℕ) → drop i xs ≡ [] → find p (gates_in sets (drop i xs)) ≡ None
find-none p sets xs i is = rw (gates-none sets xs i is) refl

-- ---- the least ticket

-- the least of what was passed and of what is to come
unfoldable pub joined : Option ℕ → Option ℕ → Option ℕ
joined None rest = rest
joined (Some t) rest = lesser t rest

lesser-joined : (t : ℕ) (least rest : Option ℕ) → joined least (lesser t rest) ≡ joined (lesser t least) rest
unfolding joined lesser
lesser-joined t None rest = refl
lesser-joined t (Some u) None = ap Some (omega arith)
lesser-joined t (Some u) (Some v) = ap Some (omega arith)

pub least-later : (sets : List Gate) (xs : List ℕ) (i x : ℕ) (least : Option ℕ) → slice_get xs i ≡ Some x →
    joined least (least_ticket (gates_in sets (drop i xs))) ≡ joined (lesser (gate_at sets x).ticket least) (least_ticket (gates_in sets (drop (suc i) xs)))
unfolding least_ticket
least-later sets xs i x least is =
    ap (λ gs. joined least (least_ticket gs)) (gates-drop sets xs i x is) ∙ lesser-joined (gate_at sets x).ticket least (least_ticket (gates_in sets (drop (suc i) xs)))

pub least-none : (sets : List Gate) (xs : List ℕ) (i : ℕ) (least : Option ℕ) → drop i xs ≡ [] → joined least (least_ticket (gates_in sets (drop i xs))) ≡ least
unfolding joined lesser least_ticket
least-none sets xs i None is = rw (gates-none sets xs i is) refl
least-none sets xs i (Some t) is = rw (gates-none sets xs i is) refl

-- ---- how many

pub count-later : (p : Gate → Bool) (sets : List Gate) (xs : List ℕ) (i x n : ℕ) → slice_get xs i ≡ Some x → p (gate_at sets x) ≡ true →
    n + length (filter p (gates_in sets (drop i xs))) ≡ n + 1 + length (filter p (gates_in sets (drop (suc i) xs)))
count-later p sets xs i x n is is-so = rw (gates-drop sets xs i x is, is-so) (omega arith)

pub count-past : (p : Gate → Bool) (sets : List Gate) (xs : List ℕ) (i x : ℕ) → slice_get xs i ≡ Some x → p (gate_at sets x) ≡ false →
    length (filter p (gates_in sets (drop i xs))) ≡ length (filter p (gates_in sets (drop (suc i) xs)))
count-past p sets xs i x is no' = rw (gates-drop sets xs i x is, no') refl

pub count-none : (p : Gate → Bool) (sets : List Gate) (xs : List ℕ) (i : ℕ) → drop i xs ≡ [] → length (filter p (gates_in sets (drop i xs))) ≡ 0
count-none p sets xs i is = rw (gates-none sets xs i is) refl

-- a set that was read
pub read-is : (sets : List Gate) (n : ℕ) (g : Gate) → n < length sets → g ≡ get_or sets n g → g ≡ gate_at sets n
unfolding gate_at
read-is sets n g there read = read ∙ get_or_default sets n g (record { ticket = 0; block = 0; out = false; copy = [] }) there
