-- What each step shows of the gates.
use Rattle.std.proofs.Common.{◌≡◌, ℕ, ◌+◌, ◌<◌, Bool, true, false, cond, List, [], ◌∷◌, ◌++◌, length, map, drop, slice_get, set, None, Some, eqb, inl, inr, refl, sym, ◌∙◌, ap, subst, arith}
use Rattle.std.specs.List.{list_any}
use Rattle.std.proofs.lemmas.Bool.{cases_eq, cases_Bool, or_cases, or_parts, eqb-true, eqb-false, false_from_ne_true}
use Rattle.std.proofs.lemmas.List.{length-append}
use Rattle.index_links.specs.Lists.{LinkedLists, list_at, is_among, without, AreApart}
use Rattle.index_links.proofs.LinkedListsLemmas.{among-at, list-exists}
use Rattle.block_gate.specs.Gates.{Gate, Gates, gate_of, is_block_held, with_out, is_lent, with_gate, with_work_out, without_hold, with_work_back, with_new_sets}
use Rattle.block_gate.specs.Sets.{gate_at, gates_in, tickets_in, gates_of, AreSets}
use Rattle.block_gate.proofs.Moves.{without-absent, among-from_without, length-without, without-first, gates-same, tickets-same, gates-append, tickets-append, IsOwner, gates-without, tickets-without, gates-turned, gate-absent, ticket-found, ticket-among}
use Rattle.block_gate.proofs.Steps.{IsMove, KeepsOthers, kept-set, Fits}

pub gates-eq : (a b : Gates) → a.size ≡ b.size → a.held ≡ b.held → a.gone ≡ b.gone → a.free ≡ b.free → a ≡ b
gates-eq a b size held gone free =
    ap (λ n. record { size = n; held = a.held; gone = a.gone; free = a.free }) size
    ∙ ap (λ h. record { size = b.size; held = h; gone = a.gone; free = a.free }) held
    ∙ ap (λ g. record { size = b.size; held = b.held; gone = g; free = a.free }) gone
    ∙ ap (λ f. record { size = b.size; held = b.held; gone = b.gone; free = f }) free

pub inside-of : (sets : List Gate) (L : LinkedLists) (size l n : ℕ) → AreSets sets L size → is_among (list_at L l) n ≡ true → n < length sets
inside-of sets L size l n old among = subst (λ k. n < k) old.nodes (old.apart.within l n among)

pub owner-of : (sets : List Gate) (L : LinkedLists) (size l n t : ℕ) → AreSets sets L size → 0 < l → is_among (list_at L l) n ≡ true → (gate_at sets n).ticket ≡ t → IsOwner sets (list_at L l) n t
owner-of sets L size l n t old some among has = record { has = has; only = λ m there is. old.tickets l l m n some some there among (is ∙ sym has) }

-- lists without set n hold what they held
same-gates : (sets after : List Gate) (L : LinkedLists) (n a c : ℕ) → AreApart L → is_among (list_at L a) n ≡ true → (c ≡ a → ⊥) → KeepsOthers sets after n → gates_in after (list_at L c) ≡ gates_in sets (list_at L c)
same-gates sets after L n a c apart among other kept = gates-same sets after (list_at L c) (λ m there. kept.same m (λ is. other (apart.alone c a n (subst (λ x. is_among (list_at L c) x ≡ true) is there) among)))

same-tickets : (sets after : List Gate) (L : LinkedLists) (n a c : ℕ) → AreApart L → is_among (list_at L a) n ≡ true → (c ≡ a → ⊥) → KeepsOthers sets after n → tickets_in after (list_at L c) ≡ tickets_in sets (list_at L c)
same-tickets sets after L n a c apart among other kept = tickets-same sets after (list_at L c) (λ m there. kept.same m (λ is. other (apart.alone c a n (subst (λ x. is_among (list_at L c) x ≡ true) is there) among)))

append-long : (xs : List ℕ) (n : ℕ) → length (xs ++ n ∷ []) ≡ length xs + 1
append-long xs n = length-append xs (n ∷ [])

-- ---- hold

block-absent : (sets : List Gate) (xs : List ℕ) (b m : ℕ) → is_block_held (gates_in sets xs) b ≡ false → is_among xs m ≡ true → (gate_at sets m).block ≡ b → ⊥
unfolding gates_in is_block_held is_among
block-absent sets [] b m none among has = cc
block-absent sets (x ∷ xs) b m none among has =
    let (here, later) = or_parts (eqb (gate_at sets x).block b) (is_block_held (gates_in sets xs) b) none in
    elim (or_cases (eqb m x) (list_any (eqb m) xs) among) [
      | inl is ↦ eqb-false (gate_at sets x).block b here (ap (λ y. (gate_at sets y).block) (sym (eqb-true m x is)) ∙ has)
      | inr there ↦ block-absent sets xs b m later there has
    ]

-- a new gate fits
pub fits-new : (sets : List Gate) (L : LinkedLists) (size n b t : ℕ) (g : Gate) → AreSets sets L size → is_among (list_at L 0) n ≡ true →
    is_block_held (gates_of sets L size).held b ≡ false → gate_of (gates_of sets L size).held t ≡ None → is_among (gates_of sets L size).gone t ≡ false →
    length g.copy ≡ size → g.ticket ≡ t → g.block ≡ b → Fits sets L size g n 1
unfolding gates_of
fits-new sets L size n b t g old among unheld fresh unknown long ticket block = record {
  long = long;
  free_in = λ is. absurd (omega arith);
  gone_out = λ is. absurd (omega arith);
  ticket = λ some l m l-some there other has. elim (cases_eq l 1) [
    | inl is ↦ gate-absent sets (list_at L 1) t m fresh (subst (λ k. is_among (list_at L k) m ≡ true) is there) (has ∙ ticket)
    | inr not-held ↦
        let below : l < 3 = omega (arith, list-exists L l m there, old.lists) in
        let two : l ≡ 2 = omega arith in
        let known : is_among (tickets_in sets (list_at L 2)) (gate_at sets m).ticket ≡ true = ticket-among sets (list_at L 2) m (subst (λ k. is_among (list_at L k) m ≡ true) two there) in
        let never : is_among (tickets_in sets (list_at L 2)) t ≡ true = subst (λ u. is_among (tickets_in sets (list_at L 2)) u ≡ true) (has ∙ ticket) known in
        cc
  ];
  block = λ is m there other has. block-absent sets (list_at L 1) b m unheld there (has ∙ block);
}

pub shows-held : (sets after : List Gate) (L M : LinkedLists) (size n b t : ℕ) (copy : List ℕ) → AreSets sets L size → is_among (list_at L 0) n ≡ true → IsMove L M n 0 1 → KeepsOthers sets after n →
    gate_at after n ≡ record { ticket = t; block = b; out = false; copy = copy } → gates_of after M size ≡ with_gate (gates_of sets L size) b t copy
unfolding gates_of with_gate
shows-held sets after L M size n b t copy old among move kept is =
    gates-eq (gates_of after M size) (with_gate (gates_of sets L size) b t copy) refl
    (ap (gates_in after) move.there ∙ gates-append after (list_at L 1) n ∙ ap (λ gs. gs ++ gate_at after n ∷ []) (same-gates sets after L n 0 1 old.apart among (λ is. omega arith) kept)
    ∙ ap (λ g. gates_in sets (list_at L 1) ++ g ∷ []) is)
    (ap (tickets_in after) (move.others 2 (λ is. omega arith) (λ is. omega arith)) ∙ same-tickets sets after L n 0 2 old.apart among (λ is. omega arith) kept)
    (ap length move.left ∙ length-without n (list_at L 0) (old.apart.distinct 0) among)

-- ---- lend, and a work of a gate that comes back

pub shows-turned : (sets : List Gate) (L : LinkedLists) (size n t : ℕ) (out : Bool) → AreSets sets L size → is_among (list_at L 1) n ≡ true → (gate_at sets n).ticket ≡ t →
    gates_of (set sets n (record (gate_at sets n) { out = out })) L size ≡ record (gates_of sets L size) { held = with_out t out (gates_of sets L size).held }
unfolding gates_of
shows-turned sets L size n t out old among has =
    let after : List Gate = set sets n (record (gate_at sets n) { out = out }) in
    gates-eq (gates_of after L size) (record (gates_of sets L size) { held = with_out t out (gates_of sets L size).held }) refl
    (gates-turned sets (list_at L 1) n t out (inside-of sets L size 1 n old among) (owner-of sets L size 1 n t old (omega arith) among has))
    (same-tickets sets after L n 1 2 old.apart among (λ is. omega arith) (kept-set sets n (record (gate_at sets n) { out = out })))
    refl

pub shows-lent : (sets : List Gate) (L : LinkedLists) (size n t : ℕ) → AreSets sets L size → is_among (list_at L 1) n ≡ true → (gate_at sets n).ticket ≡ t →
    gates_of (set sets n (record (gate_at sets n) { out = true })) L size ≡ with_work_out (gates_of sets L size) t
unfolding with_work_out
shows-lent sets L size n t old among has = shows-turned sets L size n t true old among has

-- a held ticket is not a revoked one
pub not-gone : (sets : List Gate) (L : LinkedLists) (size n t : ℕ) → AreSets sets L size → is_among (list_at L 1) n ≡ true → (gate_at sets n).ticket ≡ t → is_among (tickets_in sets (list_at L 2)) t ≡ false
not-gone sets L size n t old among has = false_from_ne_true (is_among (tickets_in sets (list_at L 2)) t) (λ gone.
    let (m, m-in, m-has) = ticket-found sets (list_at L 2) t gone in
    let same : m ≡ n = old.tickets 2 1 m n (omega arith) (omega arith) m-in among (m-has ∙ sym has) in
    let lists : 2 ≡ 1 = old.apart.alone 2 1 n (subst (λ x. is_among (list_at L 2) x ≡ true) same m-in) among in
    omega arith)

pub shows-in : (sets : List Gate) (L : LinkedLists) (size n t : ℕ) → AreSets sets L size → is_among (list_at L 1) n ≡ true → (gate_at sets n).ticket ≡ t →
    gates_of (set sets n (record (gate_at sets n) { out = false })) L size ≡ with_work_back (gates_of sets L size) t
unfolding with_work_back gates_of
shows-in sets L size n t old among has =
    let none : is_among (tickets_in sets (list_at L 2)) t ≡ false = not-gone sets L size n t old among has in
    shows-turned sets L size n t false old among has
    ∙ gates-eq (record (gates_of sets L size) { held = with_out t false (gates_of sets L size).held }) (with_work_back (gates_of sets L size) t) refl
    (rw none refl) (sym (without-absent t (tickets_in sets (list_at L 2)) none)) (rw none refl)

-- ---- a work of a revoked ticket that comes back, and new buffers

pub fits-free : (sets : List Gate) (L : LinkedLists) (size n : ℕ) (g : Gate) → length g.copy ≡ size → g.out ≡ false → Fits sets L size g n 0
fits-free sets L size n g long inside = record {
  long = long;
  free_in = λ is. inside;
  gone_out = λ is. absurd (omega arith);
  ticket = λ some. absurd (omega arith);
  block = λ is. absurd (omega arith);
}

shows-freed : (sets after : List Gate) (L M : LinkedLists) (size n : ℕ) → AreSets sets L size → is_among (list_at L 2) n ≡ true → IsMove L M n 2 0 → KeepsOthers sets after n →
    gates_of after M size ≡ record { size = size; held = gates_in sets (list_at L 1); gone = tickets_in sets (without n (list_at L 2)); free = length (list_at L 0) + 1 }
unfolding gates_of
shows-freed sets after L M size n old among move kept =
    gates-eq (gates_of after M size) (record { size = size; held = gates_in sets (list_at L 1); gone = tickets_in sets (without n (list_at L 2)); free = length (list_at L 0) + 1 }) refl
    (ap (gates_in after) (move.others 1 (λ is. omega arith) (λ is. omega arith)) ∙ same-gates sets after L n 2 1 old.apart among (λ is. omega arith) kept)
    (ap (tickets_in after) move.left ∙ tickets-same sets after (without n (list_at L 2)) (λ m there. kept.same m (among-from_without n m (list_at L 2) there).0))
    (ap length move.there ∙ append-long (list_at L 0) n)

pub shows-home : (sets after : List Gate) (L M : LinkedLists) (size n t : ℕ) → AreSets sets L size → is_among (list_at L 2) n ≡ true → (gate_at sets n).ticket ≡ t → IsMove L M n 2 0 → KeepsOthers sets after n →
    gates_of after M size ≡ with_work_back (gates_of sets L size) t
unfolding gates_of with_work_back
shows-home sets after L M size n t old among has move kept =
    let gone : is_among (tickets_in sets (list_at L 2)) t ≡ true = subst (λ u. is_among (tickets_in sets (list_at L 2)) u ≡ true) has (ticket-among sets (list_at L 2) n among) in
    shows-freed sets after L M size n old among move kept
    ∙ gates-eq (record { size = size; held = gates_in sets (list_at L 1); gone = tickets_in sets (without n (list_at L 2)); free = length (list_at L 0) + 1 }) (with_work_back (gates_of sets L size) t) refl
    (rw gone refl) (tickets-without sets (list_at L 2) n t (owner-of sets L size 2 n t old (omega arith) among has)) (rw gone refl)

pub shows-refitted : (sets after : List Gate) (L M : LinkedLists) (size n : ℕ) → AreSets sets L size → slice_get (list_at L 2) 0 ≡ Some n → IsMove L M n 2 0 → KeepsOthers sets after n →
    gates_of after M size ≡ with_new_sets (gates_of sets L size) 1
unfolding gates_of with_new_sets tickets_in
shows-refitted sets after L M size n old first move kept =
    let rest : (xs : List ℕ) → drop 1 (map (λ m. (gate_at sets m).ticket) xs) ≡ map (λ m. (gate_at sets m).ticket) (drop 1 xs) = map-rest (λ m. (gate_at sets m).ticket) in
    shows-freed sets after L M size n old (among-at (list_at L 2) 0 n first) move kept
    ∙ gates-eq (record { size = size; held = gates_in sets (list_at L 1); gone = tickets_in sets (without n (list_at L 2)); free = length (list_at L 0) + 1 }) (with_new_sets (gates_of sets L size) 1) refl
    refl (ap (tickets_in sets) (without-first n (list_at L 2) (old.apart.distinct 2) first) ∙ sym (rest (list_at L 2))) refl
  where
    map-rest : {A B : Type 0} (f : A → B) (xs : List A) → drop 1 (map f xs) ≡ map f (drop 1 xs)
    map-rest f [] = refl
    map-rest f (x ∷ xs) = refl

-- ---- release

pub fits-gone : (sets : List Gate) (L : LinkedLists) (size n : ℕ) → AreSets sets L size → is_among (list_at L 1) n ≡ true → (gate_at sets n).out ≡ true → Fits sets L size (gate_at sets n) n 2
fits-gone sets L size n old among out = record {
  long = old.long n (inside-of sets L size 1 n old among);
  free_in = λ is. absurd (omega arith);
  gone_out = λ is. out;
  ticket = λ some l m l-some there other has. other (old.tickets l 1 m n l-some (omega arith) there among has);
  block = λ is. absurd (omega arith);
}

pub shows-released : (sets : List Gate) (L M : LinkedLists) (size n t b : ℕ) → AreSets sets L size → is_among (list_at L 1) n ≡ true → gate_of (gates_in sets (list_at L 1)) t ≡ Some (gate_at sets n) →
    (gate_at sets n).ticket ≡ t → b ≡ cond (gate_at sets n).out 2 0 → IsMove L M n 1 b → gates_of sets M size ≡ without_hold (gates_of sets L size) t
unfolding gates_of without_hold is_lent
shows-released sets L M size n t b old among gate has to move = elim (cases_Bool (gate_at sets n).out) [
  | inl out ↦
      let two : b ≡ 2 = to ∙ ap (λ o. cond o 2 0) out in
      let lent : is_lent (gate_of (gates_in sets (list_at L 1)) t) ≡ true = ap is_lent gate ∙ out in
      gates-eq (gates_of sets M size) (without_hold (gates_of sets L size) t) refl
      (ap (gates_in sets) move.left ∙ gates-without sets (list_at L 1) n t (owner-of sets L size 1 n t old (omega arith) among has))
      (rw lent (ap (tickets_in sets) (ap (list_at M) (sym two) ∙ move.there ∙ ap (λ c. list_at L c ++ n ∷ []) two) ∙ tickets-append sets (list_at L 2) n
      ∙ ap (λ u. tickets_in sets (list_at L 2) ++ u ∷ []) has))
      (rw lent (ap length (move.others 0 (λ is. omega arith) (λ is. omega (arith, two)))))
  | inr inside ↦
      let none : b ≡ 0 = to ∙ ap (λ o. cond o 2 0) inside in
      let kept : is_lent (gate_of (gates_in sets (list_at L 1)) t) ≡ false = ap is_lent gate ∙ inside in
      gates-eq (gates_of sets M size) (without_hold (gates_of sets L size) t) refl
      (ap (gates_in sets) move.left ∙ gates-without sets (list_at L 1) n t (owner-of sets L size 1 n t old (omega arith) among has))
      (rw kept (ap (tickets_in sets) (move.others 2 (λ is. omega arith) (λ is. omega (arith, none)))))
      (rw kept (ap length (ap (list_at M) (sym none) ∙ move.there ∙ ap (λ c. list_at L c ++ n ∷ []) none) ∙ append-long (list_at L 0) n))
]
