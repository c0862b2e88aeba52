-- What a set's move from one list to another, or a change of a set, makes of the gates.
use Rattle.std.proofs.Common.{◌≡◌, ℕ, ◌-◌, ◌<◌, Bool, true, false, not, ◌||◌, List, [], ◌∷◌, ◌++◌, length, drop, slice_get, set, None, Some, eqb, inl, inr, eq-eqb, refl, sym, ◌∙◌, ap, subst, arith}
use Rattle.std.specs.List.{filter, list_any, AllByRecursion, IsDistinct}
use Rattle.std.proofs.lemmas.Bool.{cases_eq, cases_Bool, ne_eqb, eqb-true, eqb-false, or_cases, or_left, or_right, or_parts}
use Rattle.std.proofs.lemmas.List.{get_or-set_same, get_or-set_other}
use Rattle.index_links.specs.Lists.{is_among, without}
use Rattle.block_gate.specs.Gates.{Gate, gate_of, without_ticket, with_out}
use Rattle.block_gate.specs.Sets.{gate_at, gates_in, tickets_in}

-- ---- lists of nodes

pub without-absent : (x : ℕ) (xs : List ℕ) → is_among xs x ≡ false → without x xs ≡ xs
unfolding is_among without
without-absent x [] none = refl
without-absent x (y ∷ ys) none =
    let (here, later) = or_parts (eqb x y) (list_any (eqb x) ys) none in
    rw here (ap (λ zs. y ∷ zs) (without-absent x ys later))

pub among-from_without : (x y : ℕ) (xs : List ℕ) → is_among (without x xs) y ≡ true → (y ≡ x → ⊥) × (is_among xs y ≡ true)
unfolding is_among without
among-from_without x y [] among = cc
among-from_without x y (z ∷ zs) among = elim (cases_eq x z) [
  | inl same ↦
      let rest : list_any (eqb y) (filter (λ w. not (eqb x w)) zs) ≡ true = rw (eq-eqb x z same) at among in
      let (other, later) = among-from_without x y zs rest in (other, or_right (eqb y z) (list_any (eqb y) zs) later)
  | inr apart ↦
      let split : (eqb y z || list_any (eqb y) (filter (λ w. not (eqb x w)) zs)) ≡ true = rw (ne_eqb x z apart) at among in
      elim (or_cases (eqb y z) (list_any (eqb y) (filter (λ w. not (eqb x w)) zs)) split) [
        | inl here ↦ (λ is. apart (sym is ∙ eqb-true y z here), or_left (eqb y z) (list_any (eqb y) zs) here)
        | inr later ↦ let (other, there) = among-from_without x y zs later in (other, or_right (eqb y z) (list_any (eqb y) zs) there)
      ]
]

absent-distinct : (x : ℕ) (xs : List ℕ) → AllByRecursion (λ y. eqb x y ≡ false) xs → is_among xs x ≡ false
unfolding is_among
absent-distinct x [] all = refl
absent-distinct x (y ∷ ys) all = rw all.0 (absent-distinct x ys all.1)

pub some-long : (xs : List ℕ) (x : ℕ) → is_among xs x ≡ true → 0 < length xs
unfolding is_among
some-long [] x among = cc
some-long (y ∷ ys) x among = omega arith

pub length-without : (x : ℕ) (xs : List ℕ) → IsDistinct eqb xs → is_among xs x ≡ true → length (without x xs) ≡ length xs - 1
unfolding IsDistinct is_among without
length-without x [] distinct among = cc
length-without x (y ∷ ys) distinct among = elim (cases_eq x y) [
  | inl same ↦
      let gone : is_among ys x ≡ false = subst (λ z. is_among ys z ≡ false) (sym same) (absent-distinct y ys distinct.0) in
      rw (eq-eqb x y same) (ap length (without-absent x ys gone) ∙ omega arith)
  | inr other ↦
      let later : is_among ys x ≡ true = rw (ne_eqb x y other) at among in
      rw (ne_eqb x y other) (omega (arith, length-without x ys distinct.1 later, some-long ys x later))
]

-- the first node of a list without it
pub without-first : (x : ℕ) (xs : List ℕ) → IsDistinct eqb xs → slice_get xs 0 ≡ Some x → without x xs ≡ drop 1 xs
unfolding IsDistinct is_among without
without-first x [] distinct is = cc
without-first x (y ∷ ys) distinct is =
    let same : x ≡ y = cc in
    let gone : is_among ys x ≡ false = subst (λ z. is_among ys z ≡ false) (sym same) (absent-distinct y ys distinct.0) in
    rw (eq-eqb x y same) (without-absent x ys gone)

-- ---- what sets of a list hold

pub gate-here : (sets : List Gate) (n : ℕ) (g : Gate) → n < length sets → gate_at (set sets n g) n ≡ g
unfolding gate_at
gate-here sets n g there = get_or-set_same sets n g (record { ticket = 0; block = 0; out = false; copy = [] }) there

pub gate-other : (sets : List Gate) (n m : ℕ) (g : Gate) → (m ≡ n → ⊥) → gate_at (set sets n g) m ≡ gate_at sets m
unfolding gate_at
gate-other sets n m g other = get_or-set_other sets n m g (record { ticket = 0; block = 0; out = false; copy = [] }) other

pub gates-same : (sets sets' : List Gate) (xs : List ℕ) → ((m : ℕ) → is_among xs m ≡ true → gate_at sets' m ≡ gate_at sets m) → gates_in sets' xs ≡ gates_in sets xs
unfolding gates_in is_among
gates-same sets sets' [] same = refl
gates-same sets sets' (x ∷ xs) same =
    ap (λ g. g ∷ gates_in sets' xs) (same x (or_left (eqb x x) (list_any (eqb x) xs) (eq-eqb x x refl)))
    ∙ ap (λ gs. gate_at sets x ∷ gs) (gates-same sets sets' xs (λ m among. same m (or_right (eqb m x) (list_any (eqb m) xs) among)))

pub tickets-same : (sets sets' : List Gate) (xs : List ℕ) → ((m : ℕ) → is_among xs m ≡ true → gate_at sets' m ≡ gate_at sets m) → tickets_in sets' xs ≡ tickets_in sets xs
unfolding tickets_in is_among
tickets-same sets sets' [] same = refl
tickets-same sets sets' (x ∷ xs) same =
    ap (λ (g : Gate). g.ticket ∷ tickets_in sets' xs) (same x (or_left (eqb x x) (list_any (eqb x) xs) (eq-eqb x x refl)))
    ∙ ap (λ ts. (gate_at sets x).ticket ∷ ts) (tickets-same sets sets' xs (λ m among. same m (or_right (eqb m x) (list_any (eqb m) xs) among)))

pub gates-append : (sets : List Gate) (xs : List ℕ) (n : ℕ) → gates_in sets (xs ++ n ∷ []) ≡ gates_in sets xs ++ gate_at sets n ∷ []
unfolding gates_in
gates-append sets [] n = refl
gates-append sets (x ∷ xs) n = ap (λ gs. gate_at sets x ∷ gs) (gates-append sets xs n)

pub tickets-append : (sets : List Gate) (xs : List ℕ) (n : ℕ) → tickets_in sets (xs ++ n ∷ []) ≡ tickets_in sets xs ++ (gate_at sets n).ticket ∷ []
unfolding tickets_in
tickets-append sets [] n = refl
tickets-append sets (x ∷ xs) n = ap (λ ts. (gate_at sets x).ticket ∷ ts) (tickets-append sets xs n)

-- one set of the list alone has the ticket
pub record IsOwner (sets : List Gate) (xs : List ℕ) (n t : ℕ) : Type 0 where
  pub has : (gate_at sets n).ticket ≡ t
  pub only : (m : ℕ) → is_among xs m ≡ true → (gate_at sets m).ticket ≡ t → m ≡ n

owner-rest : (sets : List Gate) (x : ℕ) (xs : List ℕ) (n t : ℕ) → IsOwner sets (x ∷ xs) n t → IsOwner sets xs n t
unfolding is_among
owner-rest sets x xs n t owner = record { has = owner.has; only = λ m among is. owner.only m (or_right (eqb m x) (list_any (eqb m) xs) among) is }

-- the test by ticket and the test by node agree
owner-test : (sets : List Gate) (x : ℕ) (xs : List ℕ) (n t : ℕ) → IsOwner sets (x ∷ xs) n t → eqb n x ≡ eqb t (gate_at sets x).ticket
unfolding is_among
owner-test sets x xs n t owner = elim (cases_eq n x) [
  | inl same ↦ eq-eqb n x same ∙ sym (eq-eqb t (gate_at sets x).ticket (sym owner.has ∙ ap (λ m. (gate_at sets m).ticket) same))
  | inr other ↦ ne_eqb n x other ∙ sym (ne_eqb t (gate_at sets x).ticket (λ is. other (sym (owner.only x (or_left (eqb x x) (list_any (eqb x) xs) (eq-eqb x x refl)) (sym is)))))
]

pub gates-without : (sets : List Gate) (xs : List ℕ) (n t : ℕ) → IsOwner sets xs n t → gates_in sets (without n xs) ≡ without_ticket t (gates_in sets xs)
unfolding gates_in without without_ticket
gates-without sets [] n t owner = refl
gates-without sets (x ∷ xs) n t owner = elim (cases_Bool (eqb n x)) [
  | inl here ↦ rw (here, sym (owner-test sets x xs n t owner) ∙ here) (gates-without sets xs n t (owner-rest sets x xs n t owner))
  | inr other ↦ rw (other, sym (owner-test sets x xs n t owner) ∙ other) (ap (λ gs. gate_at sets x ∷ gs) (gates-without sets xs n t (owner-rest sets x xs n t owner)))
]

pub tickets-without : (sets : List Gate) (xs : List ℕ) (n t : ℕ) → IsOwner sets xs n t → tickets_in sets (without n xs) ≡ without t (tickets_in sets xs)
unfolding tickets_in without
tickets-without sets [] n t owner = refl
tickets-without sets (x ∷ xs) n t owner = elim (cases_Bool (eqb n x)) [
  | inl here ↦ rw (here, sym (owner-test sets x xs n t owner) ∙ here) (tickets-without sets xs n t (owner-rest sets x xs n t owner))
  | inr other ↦ rw (other, sym (owner-test sets x xs n t owner) ∙ other) (ap (λ ts. (gate_at sets x).ticket ∷ ts) (tickets-without sets xs n t (owner-rest sets x xs n t owner)))
]

-- the set's work goes out, or comes in
pub gates-turned : (sets : List Gate) (xs : List ℕ) (n t : ℕ) (out : Bool) → n < length sets → IsOwner sets xs n t →
    gates_in (set sets n (record (gate_at sets n) { out = out })) xs ≡ with_out t out (gates_in sets xs)
unfolding gates_in with_out
gates-turned sets [] n t out there owner = refl
gates-turned sets (x ∷ xs) n t out there owner =
    let rest : gates_in (set sets n (record (gate_at sets n) { out = out })) xs ≡ with_out t out (gates_in sets xs) = gates-turned sets xs n t out there (owner-rest sets x xs n t owner) in
    elim (cases_eq n x) [
      | inl same ↦
          rw (sym (owner-test sets x xs n t owner) ∙ eq-eqb n x same)
          (ap (λ g. g ∷ gates_in (set sets n (record (gate_at sets n) { out = out })) xs)
          (ap (gate_at (set sets n (record (gate_at sets n) { out = out }))) (sym same) ∙ gate-here sets n (record (gate_at sets n) { out = out }) there
          ∙ ap (λ m. record (gate_at sets m) { out = out }) same)
          ∙ ap (λ gs. record (gate_at sets x) { out = out } ∷ gs) rest)
      | inr other ↦
          rw (sym (owner-test sets x xs n t owner) ∙ ne_eqb n x other)
          (ap (λ g. g ∷ gates_in (set sets n (record (gate_at sets n) { out = out })) xs) (gate-other sets n x (record (gate_at sets n) { out = out }) (λ is. other (sym is)))
          ∙ ap (λ gs. gate_at sets x ∷ gs) rest)
    ]

-- ---- gates by their tickets

pub gate-found : (sets : List Gate) (xs : List ℕ) (t : ℕ) (g : Gate) → gate_of (gates_in sets xs) t ≡ Some g →
    (n : ℕ) × (is_among xs n ≡ true) × (g ≡ gate_at sets n) × ((gate_at sets n).ticket ≡ t)
unfolding gates_in gate_of is_among
gate-found sets [] t g is = cc
gate-found sets (x ∷ xs) t g is = elim (cases_Bool (eqb t (gate_at sets x).ticket)) [
  | inl here ↦
      let first : Some (gate_at sets x) ≡ Some g = rw here at is in
      (x, or_left (eqb x x) (list_any (eqb x) xs) (eq-eqb x x refl), cc, sym (eqb-true t (gate_at sets x).ticket here))
  | inr other ↦
      let later : gate_of (gates_in sets xs) t ≡ Some g = rw other at is in
      let (n, among, same, has) = gate-found sets xs t g later in
      (n, or_right (eqb n x) (list_any (eqb n) xs) among, same, has)
]

pub gate-absent : (sets : List Gate) (xs : List ℕ) (t n : ℕ) → gate_of (gates_in sets xs) t ≡ None → is_among xs n ≡ true → (gate_at sets n).ticket ≡ t → ⊥
unfolding gates_in gate_of is_among
gate-absent sets [] t n none among has = cc
gate-absent sets (x ∷ xs) t n none among has = elim (cases_Bool (eqb t (gate_at sets x).ticket)) [
  | inl here ↦ let never : Some (gate_at sets x) ≡ None = rw here at none in cc
  | inr other ↦
      let later : gate_of (gates_in sets xs) t ≡ None = rw other at none in
      elim (or_cases (eqb n x) (list_any (eqb n) xs) among) [
        | inl here ↦ eqb-false t (gate_at sets x).ticket other (sym has ∙ ap (λ m. (gate_at sets m).ticket) (eqb-true n x here))
        | inr there ↦ gate-absent sets xs t n later there has
      ]
]

pub ticket-found : (sets : List Gate) (xs : List ℕ) (t : ℕ) → is_among (tickets_in sets xs) t ≡ true → (n : ℕ) × (is_among xs n ≡ true) × ((gate_at sets n).ticket ≡ t)
unfolding tickets_in is_among
ticket-found sets [] t is = cc
ticket-found sets (x ∷ xs) t is = elim (or_cases (eqb t (gate_at sets x).ticket) (list_any (eqb t) (tickets_in sets xs)) is) [
  | inl here ↦ (x, or_left (eqb x x) (list_any (eqb x) xs) (eq-eqb x x refl), sym (eqb-true t (gate_at sets x).ticket here))
  | inr later ↦ let (n, among, has) = ticket-found sets xs t later in (n, or_right (eqb n x) (list_any (eqb n) xs) among, has)
]

pub ticket-among : (sets : List Gate) (xs : List ℕ) (n : ℕ) → is_among xs n ≡ true → is_among (tickets_in sets xs) (gate_at sets n).ticket ≡ true
unfolding tickets_in is_among
ticket-among sets [] n among = cc
ticket-among sets (x ∷ xs) n among = elim (or_cases (eqb n x) (list_any (eqb n) xs) among) [
  | inl here ↦ or_left (eqb (gate_at sets n).ticket (gate_at sets x).ticket) (list_any (eqb (gate_at sets n).ticket) (tickets_in sets xs))
      (eq-eqb (gate_at sets n).ticket (gate_at sets x).ticket (ap (λ m. (gate_at sets m).ticket) (eqb-true n x here)))
  | inr later ↦ or_right (eqb (gate_at sets n).ticket (gate_at sets x).ticket) (list_any (eqb (gate_at sets n).ticket) (tickets_in sets xs)) (ticket-among sets xs n later)
]
