-- What a search among the sets found.
use Rattle.std.proofs.Common.{◌≡◌, ℕ, suc, ◌+◌, Bool, true, false, ◌||◌, ◌&&◌, List, [], ◌∷◌, length, get_or, Option, None, Some, is_some, option_map, eqb, nat_le, nat_lt, inl, inr, IfSome, eq-eqb, refl, sym, ◌∙◌, ap, subst, arith}
use Rattle.std.specs.List.{find, filter, list_any}
use Rattle.std.proofs.lemmas.Bool.{cases_Bool, or_left, or_right, false_from_ne_true}
use Rattle.std.proofs.lemmas.Bool.Decides.{nat_tests}
use Rattle.index_links.specs.Lists.{LinkedLists, list_at, is_among}
use Rattle.block_gate.specs.declared.finding.Sought.TheVariants.{Ticket, Blocks}
use Rattle.block_gate.specs.Gates.{Gate, Gates, gate_of, is_block_held, is_range_held}
use Rattle.block_gate.specs.Sets.{gate_at, gates_in, tickets_in, gates_of, is_sought, is_so, AreSets}
use Rattle.block_gate.proofs.Moves.{gate-found, gate-absent, ticket-found}
use Rattle.block_gate.proofs.Walks.{read-is}
use Rattle.block_gate.proofs.Views.{inside-of}

find-ticket : (gs : List Gate) (t : ℕ) → find (is_sought (Ticket t)) gs ≡ gate_of gs t
unfolding is_sought gate_of
find-ticket gs t = refl

pub record IsFound (sets : List Gate) (xs : List ℕ) (t n : ℕ) : Type 0 where
  pub among : is_among xs n ≡ true
  pub gate : gate_of (gates_in sets xs) t ≡ Some (gate_at sets n)
  pub ticket : (gate_at sets n).ticket ≡ t

pub found : (given sets : List Gate) (xs : List ℕ) (t n : ℕ) (o : Option ℕ) → given ≡ sets → IfSome o (λ m. is_among xs m ≡ true) →
    option_map (gate_at given) o ≡ find (is_sought (Ticket t)) (gates_in given xs) → o ≡ Some n → IsFound sets xs t n
found given sets xs t n o same among value is =
    let gate : gate_of (gates_in sets xs) t ≡ Some (gate_at sets n) =
    sym (find-ticket (gates_in sets xs) t) ∙ ap (λ ss. find (is_sought (Ticket t)) (gates_in ss xs)) (sym same) ∙ sym value ∙ ap (option_map (gate_at given)) is ∙ ap (λ ss. Some (gate_at ss n)) same in
    let (m, m-in, m-is, m-has) = gate-found sets xs t (gate_at sets n) gate in
    record {
      among = subst (λ p. IfSome p (λ m. is_among xs m ≡ true)) is among;
      gate = gate;
      ticket = ap (λ (g : Gate). g.ticket) m-is ∙ m-has;
    }

pub missing : (given sets : List Gate) (xs : List ℕ) (t : ℕ) (o : Option ℕ) → given ≡ sets →
    option_map (gate_at given) o ≡ find (is_sought (Ticket t)) (gates_in given xs) → o ≡ None → gate_of (gates_in sets xs) t ≡ None
missing given sets xs t o same value is =
    sym (find-ticket (gates_in sets xs) t) ∙ ap (λ ss. find (is_sought (Ticket t)) (gates_in ss xs)) (sym same) ∙ sym value ∙ ap (option_map (gate_at given)) is

-- no set has the ticket
pub no-ticket : (sets : List Gate) (xs : List ℕ) (t : ℕ) → gate_of (gates_in sets xs) t ≡ None → is_among (tickets_in sets xs) t ≡ false
no-ticket sets xs t none = false_from_ne_true (is_among (tickets_in sets xs) t) (λ among.
    let (n, n-in, n-has) = ticket-found sets xs t among in gate-absent sets xs t n none n-in n-has)

pub held-is : (sets : List Gate) (L : LinkedLists) (size : ℕ) (now : Gates) → gates_of sets L size ≡ now → gates_in sets (list_at L 1) ≡ now.held
unfolding gates_of
held-is sets L size now is = ap (λ (g : Gates). g.held) is

pub gone-is : (sets : List Gate) (L : LinkedLists) (size : ℕ) (now : Gates) → gates_of sets L size ≡ now → tickets_in sets (list_at L 2) ≡ now.gone
unfolding gates_of
gone-is sets L size now is = ap (λ (g : Gates). g.gone) is

pub free-is : (sets : List Gate) (L : LinkedLists) (size : ℕ) (now : Gates) → gates_of sets L size ≡ now → length (list_at L 0) ≡ now.free
unfolding gates_of
free-is sets L size now is = ap (λ (g : Gates). g.free) is

pub size-is : (sets : List Gate) (L : LinkedLists) (size : ℕ) (now : Gates) → gates_of sets L size ≡ now → size ≡ now.size
unfolding gates_of
size-is sets L size now is = ap (λ (g : Gates). g.size) is

-- a set of a list that was read
pub read-set : (sets : List Gate) (L : LinkedLists) (size l n : ℕ) (g : Gate) → AreSets sets L size → is_among (list_at L l) n ≡ true → g ≡ get_or sets n g → g ≡ gate_at sets n
read-set sets L size l n g old among read = read-is sets n g (inside-of sets L size l n old among) read

-- ---- blocks

any-found : (p : Gate → Bool) (gs : List Gate) → is_some (find p gs) ≡ list_any p gs
any-found p [] = refl
any-found p (g ∷ gs) = elim (cases_Bool (p g)) [ inl here ↦ rw here refl | inr other ↦ rw other (any-found p gs) ]

some-map : {A B : Type 0} (f : A → B) (o : Option A) → is_some (option_map f o) ≡ is_some o
some-map f None = refl
some-map f (Some x) = refl

pub range-found : (given sets : List Gate) (xs : List ℕ) (b count : ℕ) (o : Option ℕ) → given ≡ sets → option_map (gate_at given) o ≡ find (is_sought (Blocks b count)) (gates_in given xs) →
    is_some o ≡ is_range_held (gates_in sets xs) b count
unfolding is_range_held is_sought
range-found given sets xs b count o same value =
    sym (some-map (gate_at given) o) ∙ ap is_some value ∙ any-found (λ g. nat_le b g.block && nat_lt g.block (b + count)) (gates_in given xs)
    ∙ ap (λ ss. list_any (λ g. nat_le b g.block && nat_lt g.block (b + count)) (gates_in ss xs)) same

same-test : (b c : ℕ) → (nat_le b c && nat_lt c (b + 1)) ≡ eqb c b
same-test b c = grind (arith, nat_tests)

pub range-one : (held : List Gate) (b : ℕ) → is_range_held held b 1 ≡ is_block_held held b
unfolding is_range_held is_block_held
range-one [] b = refl
range-one (g ∷ held) b = rw (same-test b g.block) (ap (λ r. eqb g.block b || r) (range-one held b))

-- ---- how many

pub all-so : (out : Bool) (sets : List Gate) (xs : List ℕ) → ((n : ℕ) → is_among xs n ≡ true → is_so out (gate_at sets n) ≡ true) → length (filter (is_so out) (gates_in sets xs)) ≡ length xs
unfolding gates_in is_among
all-so out sets [] all = refl
all-so out sets (x ∷ xs) all =
    rw (all x (or_left (eqb x x) (list_any (eqb x) xs) (eq-eqb x x refl))) (ap suc (all-so out sets xs (λ n among. all n (or_right (eqb n x) (list_any (eqb n) xs) among))))

pub lent-so : (held : List Gate) → length (filter (is_so true) held) ≡ length (filter (λ g. g.out) held)
unfolding is_so
lent-so held = refl

pub tickets-long : (sets : List Gate) (xs : List ℕ) → length (tickets_in sets xs) ≡ length xs
unfolding tickets_in
tickets-long sets [] = refl
tickets-long sets (x ∷ xs) = ap suc (tickets-long sets xs)
