-- What each call of the gates does, from what its parts did.
use Rattle.std.proofs.Common.{◌≡◌, ℕ, zero, suc, ◌+◌, ◌-◌, ◌<◌, ◌≤◌, Bool, true, false, cond, not, List, [], ◌∷◌, ◌++◌, length, drop, slice_get, get_or, set, replicate, None, Some, Result, Ok, Err, OnErr, eqb, inl, inr, eq-eqb, refl, sym, ◌∙◌, ap, subst, arith}
use Rattle.std.specs.List.{refill, length_refill, list_any}
use Rattle.std.proofs.lemmas.Bool.{cases_eq, cases_Bool, cases_lt, or_cases, or_right, and_right, eqb-true, ne_eqb, false_from_ne_true}
use Rattle.std.proofs.lemmas.List.{length-map, length-set, get_or-set_same, set-get_or, length-replicate, get_or-replicate, length-drop}
use Rattle.index_links.specs.Lists.{LinkedLists, list_at, is_among, is_listed, with_node_at_end, without_node, AreApart}
use Rattle.index_links.proofs.LinkedListsLemmas.{past-lists, among-at, among-append, listed-in, list-exists}
use Rattle.block_gate.specs.Gates.{Gate, Gates, gate_of, is_block_held, is_lent, is_out, is_ours, with_gate, with_work_out, without_hold, with_work_back, with_new_sets, with_copy, idle_gates}
use Rattle.block_gate.specs.Works.{Lent}
use Rattle.block_gate.specs.Sets.{gate_at, gates_in, tickets_in, gates_of, is_so, AreSets}
use Rattle.block_gate.proofs.Moves.{gate-here, gate-other}
use Rattle.block_gate.proofs.Steps.{IsMove, relinked, KeepsOthers, kept-set, kept-all, Fits, sets-moved, sets-turned}
use Rattle.block_gate.proofs.Views.{inside-of, fits-new, shows-held, shows-lent, shows-in, fits-free, shows-home, shows-refitted, fits-gone, shows-released, gates-eq}
use Rattle.block_gate.proofs.Found.{gone-is, read-set, tickets-long}
use Rattle.block_gate.proofs.Walks.{list-short}

-- the work of a free set is in
pub free-set : (sets : List Gate) (L : LinkedLists) (size n : ℕ) → AreSets sets L size → is_among (list_at L 0) n ≡ true → is_so false (gate_at sets n) ≡ true
unfolding is_so
free-set sets L size n old among = ap not (old.free_in n among)

-- a set was given the block and the ticket, and its copy filled
pub record HoldsSo (sets : List Gate) (L : LinkedLists) (size : ℕ) (now : Gates) (after : List Gate) (M : LinkedLists) (b t : ℕ) (copy : List ℕ) : Type 0 where
  pub ordered : AreSets after M size
  pub shown : gates_of after M size ≡ with_gate now b t copy

-- the set that was given them, as it is read again
pub mid-read : (sets : List Gate) (n : ℕ) (mid second : Gate) → n < length sets → second ≡ get_or (set sets n mid) n second → second ≡ mid
mid-read sets n mid second there read = read ∙ get_or-set_same sets n mid second there

pub first-free : (L : LinkedLists) (n : ℕ) → slice_get (list_at L 0) 0 ≡ Some n → is_among (list_at L 0) n ≡ true
first-free L n first = among-at (list_at L 0) 0 n first

pub copy-long : (sets : List Gate) (L : LinkedLists) (size n b t : ℕ) (was mid : Gate) → AreSets sets L size → is_among (list_at L 0) n ≡ true → was ≡ get_or sets n was →
    mid ≡ record { ticket = t; block = b; out = was.out; copy = was.copy } → length mid.copy ≡ size
copy-long sets L size n b t was mid old among read mid-is =
    let here : was ≡ gate_at sets n = read-set sets L size 0 n was old among read in
    ap (λ (g : Gate). length g.copy) mid-is ∙ ap (λ (g : Gate). length g.copy) here ∙ old.long n (inside-of sets L size 0 n old among)

pub holds-so : (sets : List Gate) (L M : LinkedLists) (size n b t : ℕ) (now : Gates) (was mid : Gate) (w : List ℕ) → AreSets sets L size → gates_of sets L size ≡ now →
    slice_get (list_at L 0) 0 ≡ Some n → M ≡ with_node_at_end (without_node L n) 1 n → AreApart M →
    is_block_held now.held b ≡ false → gate_of now.held t ≡ None → is_among now.gone t ≡ false →
    was ≡ get_or sets n was → mid ≡ record { ticket = t; block = b; out = was.out; copy = was.copy } →
    HoldsSo sets L size now (set (set sets n mid) n (with_copy mid w)) M b t (refill (length mid.copy) mid.copy w)
unfolding with_copy
holds-so sets L M size n b t now was mid w old is first link apart unheld fresh unknown read mid-is =
    let among : is_among (list_at L 0) n ≡ true = first-free L n first in
    let inside : n < length sets = inside-of sets L size 0 n old among in
    let here : was ≡ gate_at sets n = read-set sets L size 0 n was old among read in
    let out : mid.out ≡ false = ap (λ (g : Gate). g.out) mid-is ∙ ap (λ (g : Gate). g.out) here ∙ old.free_in n among in
    let ticket : mid.ticket ≡ t = ap (λ (g : Gate). g.ticket) mid-is in
    let block : mid.block ≡ b = ap (λ (g : Gate). g.block) mid-is in
    let copy : List ℕ = refill (length mid.copy) mid.copy w in
    let after : List Gate = set (set sets n mid) n (with_copy mid w) in
    let kept : KeepsOthers sets after n = record {
      long = length-set (set sets n mid) n (with_copy mid w) ∙ length-set sets n mid;
      same = λ m other. gate-other (set sets n mid) n m (with_copy mid w) other ∙ gate-other sets n m mid other;
    } in
    let set-is : gate_at after n ≡ with_copy mid w = gate-here (set sets n mid) n (with_copy mid w) (omega (arith, length-set sets n mid)) in
    let move : IsMove L M n 0 1 = relinked L M n 0 1 old.apart apart (omega (arith, old.lists)) among (λ one. omega arith) link in
    let long : length copy ≡ size = sym (length_refill (length mid.copy) mid.copy w refl) ∙ copy-long sets L size n b t was mid old among read mid-is in
    let fits : Fits sets L size (gate_at after n) n 1 =
    fits-new sets L size n b t (gate_at after n) old among (subst (λ (g : Gates). is_block_held g.held b ≡ false) (sym is) unheld) (subst (λ (g : Gates). gate_of g.held t ≡ None) (sym is) fresh)
    (subst (λ (g : Gates). is_among g.gone t ≡ false) (sym is) unknown)
    (ap (λ (g : Gate). length g.copy) set-is ∙ long) (ap (λ (g : Gate). g.ticket) set-is ∙ ticket) (ap (λ (g : Gate). g.block) set-is ∙ block) in
    record {
      ordered = sets-moved sets after L M size n 0 1 old among (λ one. omega arith) move kept fits;
      shown = shows-held sets after L M size n b t copy old among move kept
          (set-is ∙ ap (λ u. record { ticket = u; block = mid.block; out = mid.out; copy = copy }) ticket ∙ ap (λ u. record { ticket = t; block = u; out = mid.out; copy = copy }) block
          ∙ ap (λ u. record { ticket = t; block = b; out = u; copy = copy }) out)
          ∙ ap (λ g. with_gate g b t copy) is;
    }

-- ---- lend, and a work of a gate that comes back

pub record TurnsSo (sets : List Gate) (L : LinkedLists) (size : ℕ) (shown : Gates) : Type 0 where
  pub ordered : AreSets sets L size
  pub shows : gates_of sets L size ≡ shown

turned-set : (sets : List Gate) (L : LinkedLists) (size n : ℕ) (out : Bool) (was new : Gate) → AreSets sets L size → is_among (list_at L 1) n ≡ true → was ≡ get_or sets n was → new ≡ record was { out = out } →
    set sets n new ≡ set sets n (record (gate_at sets n) { out = out })
turned-set sets L size n out was new old among read is =
    ap (set sets n) (is ∙ ap (λ (g : Gate). record g { out = out }) (read-set sets L size 1 n was old among read))

pub lends-so : (sets : List Gate) (L : LinkedLists) (size n t : ℕ) (now : Gates) (was new : Gate) → AreSets sets L size → gates_of sets L size ≡ now → is_among (list_at L 1) n ≡ true →
    (gate_at sets n).ticket ≡ t → was ≡ get_or sets n was → new ≡ record was { out = true } → TurnsSo (set sets n new) L size (with_work_out now t)
lends-so sets L size n t now was new old is among has read new-is =
    let same : set sets n new ≡ set sets n (record (gate_at sets n) { out = true }) = turned-set sets L size n true was new old among read new-is in
    record {
      ordered = subst (λ ss. AreSets ss L size) (sym same) (sets-turned sets L size n true old among);
      shows = ap (λ ss. gates_of ss L size) same ∙ shows-lent sets L size n t old among has ∙ ap (λ g. with_work_out g t) is;
    }

pub in-so : (sets : List Gate) (L : LinkedLists) (size n t : ℕ) (now : Gates) (was new : Gate) → AreSets sets L size → gates_of sets L size ≡ now → is_among (list_at L 1) n ≡ true →
    (gate_at sets n).ticket ≡ t → was ≡ get_or sets n was → new ≡ record was { out = false } → TurnsSo (set sets n new) L size (with_work_back now t)
in-so sets L size n t now was new old is among has read new-is =
    let same : set sets n new ≡ set sets n (record (gate_at sets n) { out = false }) = turned-set sets L size n false was new old among read new-is in
    record {
      ordered = subst (λ ss. AreSets ss L size) (sym same) (sets-turned sets L size n false old among);
      shows = ap (λ ss. gates_of ss L size) same ∙ shows-in sets L size n t old among has ∙ ap (λ g. with_work_back g t) is;
    }

-- ---- a set whose ticket is revoked

freed-fits : (sets : List Gate) (L : LinkedLists) (size n : ℕ) (was new : Gate) → AreSets sets L size → is_among (list_at L 2) n ≡ true → was ≡ get_or sets n was → new ≡ record was { out = false } →
    Fits sets L size (gate_at (set sets n new) n) n 0
freed-fits sets L size n was new old among read new-is =
    let inside : n < length sets = inside-of sets L size 2 n old among in
    let here : gate_at (set sets n new) n ≡ record was { out = false } = gate-here sets n new inside ∙ new-is in
    fits-free sets L size n (gate_at (set sets n new) n)
    (ap (λ (g : Gate). length g.copy) here ∙ ap (λ (g : Gate). length g.copy) (read-set sets L size 2 n was old among read) ∙ old.long n inside)
    (ap (λ (g : Gate). g.out) here)

pub home-so : (sets : List Gate) (L M : LinkedLists) (size n t : ℕ) (now : Gates) (was new : Gate) → AreSets sets L size → gates_of sets L size ≡ now → is_among (list_at L 2) n ≡ true →
    (gate_at sets n).ticket ≡ t → was ≡ get_or sets n was → new ≡ record was { out = false } → M ≡ with_node_at_end (without_node L n) 0 n → AreApart M → TurnsSo (set sets n new) M size (with_work_back now t)
home-so sets L M size n t now was new old is among has read new-is link apart =
    let move : IsMove L M n 2 0 = relinked L M n 2 0 old.apart apart (omega (arith, old.lists)) among (λ one. omega arith) link in
    record {
      ordered = sets-moved sets (set sets n new) L M size n 2 0 old among (λ one. omega arith) move (kept-set sets n new) (freed-fits sets L size n was new old among read new-is);
      shows = shows-home sets (set sets n new) L M size n t old among has move (kept-set sets n new) ∙ ap (λ g. with_work_back g t) is;
    }

pub refits-so : (sets : List Gate) (L M : LinkedLists) (size n : ℕ) (now : Gates) (was new : Gate) → AreSets sets L size → gates_of sets L size ≡ now → slice_get (list_at L 2) 0 ≡ Some n →
    was ≡ get_or sets n was → new ≡ record was { out = false } → M ≡ with_node_at_end (without_node L n) 0 n → AreApart M → TurnsSo (set sets n new) M size (with_new_sets now 1)
refits-so sets L M size n now was new old is first read new-is link apart =
    let among : is_among (list_at L 2) n ≡ true = among-at (list_at L 2) 0 n first in
    let move : IsMove L M n 2 0 = relinked L M n 2 0 old.apart apart (omega (arith, old.lists)) among (λ one. omega arith) link in
    record {
      ordered = sets-moved sets (set sets n new) L M size n 2 0 old among (λ one. omega arith) move (kept-set sets n new) (freed-fits sets L size n was new old among read new-is);
      shows = shows-refitted sets (set sets n new) L M size n old first move (kept-set sets n new) ∙ ap (λ g. with_new_sets g 1) is;
    }

-- ---- release

pub released-so : (sets : List Gate) (L M : LinkedLists) (size n t b : ℕ) (now : Gates) (was : Gate) → AreSets sets L size → gates_of sets L size ≡ now → is_among (list_at L 1) n ≡ true →
    gate_of (gates_in sets (list_at L 1)) t ≡ Some (gate_at sets n) → (gate_at sets n).ticket ≡ t → was ≡ get_or sets n was → b ≡ cond was.out 2 0 →
    M ≡ with_node_at_end (without_node L n) b n → AreApart M → TurnsSo sets M size (without_hold now t)
released-so sets L M size n t b now was old is among gate has read to link apart =
    let here : was ≡ gate_at sets n = read-set sets L size 1 n was old among read in
    let to' : b ≡ cond (gate_at sets n).out 2 0 = to ∙ ap (λ (g : Gate). cond g.out 2 0) here in
    let fits : (b < 3) × (b ≡ 1 → ⊥) × Fits sets L size (gate_at sets n) n b = elim (cases_Bool (gate_at sets n).out) [
      | inl out ↦
          let two : b ≡ 2 = to' ∙ ap (λ o. cond o 2 0) out in
          (omega arith, λ one. omega arith, subst (λ d. Fits sets L size (gate_at sets n) n d) (sym two) (fits-gone sets L size n old among out))
      | inr inside ↦
          let none : b ≡ 0 = to' ∙ ap (λ o. cond o 2 0) inside in (
            omega arith,
            λ one. omega arith,
            subst (λ d. Fits sets L size (gate_at sets n) n d) (sym none)
                (fits-free sets L size n (gate_at sets n) (old.long n (inside-of sets L size 1 n old among)) inside),
          )
    ] in
    let move : IsMove L M n 1 b = relinked L M n 1 b old.apart apart (omega (arith, old.lists, fits.0)) among fits.1 link in
    record {
      ordered = sets-moved sets sets L M size n 1 b old among fits.1 move (kept-all sets n) fits.2;
      shows = shows-released sets L M size n t b old among gate has to' move ∙ ap (λ g. without_hold g t) is;
    }

-- ---- whose a work is

pub ours-gone : (now : Gates) (w : Lent) (t : ℕ) → t ≡ w.ticket → is_among now.gone t ≡ true → length w.bytes ≡ now.size → is_ours now w ≡ true
unfolding is_ours is_out
ours-gone now w t same gone long = rw (sym same, gone, eq-eqb (length w.bytes) now.size long) refl

pub ours-held : (now : Gates) (w : Lent) (t : ℕ) → t ≡ w.ticket → is_lent (gate_of now.held t) ≡ true → length w.bytes ≡ now.size → is_ours now w ≡ true
unfolding is_ours is_out
ours-held now w t same lent long = rw (sym same, lent, eq-eqb (length w.bytes) now.size long, or_right (is_among now.gone t) true refl) refl

pub not-sized : (now : Gates) (w : Lent) → (length w.bytes ≡ now.size → ⊥) → is_ours now w ≡ false
unfolding is_ours
not-sized now w other = rw (ne_eqb (length w.bytes) now.size other) (and_right (is_out now w.ticket) false refl)

pub not-out : (now : Gates) (w : Lent) (t : ℕ) → t ≡ w.ticket → is_among now.gone t ≡ false → is_lent (gate_of now.held t) ≡ false → is_ours now w ≡ false
unfolding is_ours is_out
not-out now w t same gone lent = rw (sym same, gone, lent) refl

-- ---- refit

pub refitted-none : (s : Gates) → s ≡ with_new_sets s 0
unfolding with_new_sets
refitted-none s = gates-eq s (with_new_sets s 0) refl refl refl (omega arith)

sum-one : (k : ℕ) → suc k + 1 ≡ suc (k + 1)
sum-one k = omega arith

drop-more : (xs : List ℕ) (k : ℕ) → drop 1 (drop k xs) ≡ drop (k + 1) xs
drop-more [] zero = refl
drop-more [] (suc k) = rw (sum-one k) refl
drop-more (x ∷ xs) zero = refl
drop-more (x ∷ xs) (suc k) = rw (sum-one k) (drop-more xs k)

pub refitted-more : (s : Gates) (k : ℕ) → with_new_sets (with_new_sets s k) 1 ≡ with_new_sets s (k + 1)
unfolding with_new_sets
refitted-more s k = gates-eq (with_new_sets (with_new_sets s k) 1) (with_new_sets s (k + 1)) refl refl (drop-more s.gone k) (omega arith)

-- how many revoked tickets are left
pub gone-left : (sets : List Gate) (L : LinkedLists) (size k : ℕ) (now : Gates) → gates_of sets L size ≡ with_new_sets now k → length (list_at L 2) ≡ length now.gone - k
unfolding with_new_sets
gone-left sets L size k now is = sym (tickets-long sets (list_at L 2)) ∙ ap length (gone-is sets L size (with_new_sets now k) is) ∙ length-drop k now.gone

pub gone-few : (sets : List Gate) (L : LinkedLists) (size : ℕ) (now : Gates) → AreSets sets L size → gates_of sets L size ≡ now → length now.gone ≤ length sets
gone-few sets L size now old is =
    omega (arith, list-short L 2 old.apart, old.nodes, sym (tickets-long sets (list_at L 2)) ∙ ap length (gone-is sets L size now is))

pub left-after : (now : Gates) (k : ℕ) → k ≤ length now.gone → with_new_sets now k ≡ with_new_sets now (length now.gone - length (with_new_sets now k).gone)
unfolding with_new_sets
left-after now k fits =
    let left : length now.gone - length (drop k now.gone) ≡ k = omega (arith, length-drop k now.gone) in
    ap (with_new_sets now) (sym left)

pub none-first : (xs : List ℕ) → slice_get xs 0 ≡ None → length xs ≡ 0
none-first [] is = refl
none-first (x ∷ xs) is = cc

pub some-first : (xs : List ℕ) (x : ℕ) → slice_get xs 0 ≡ Some x → 0 < length xs
some-first [] x is = cc
some-first (y ∷ ys) x is = omega arith

-- where no set is held, and none out under a revoked ticket, one is free
pub some-free : (sets : List Gate) (L : LinkedLists) (size : ℕ) → AreSets sets L size → length (list_at L 2) ≡ 0 → (gates_of sets L size).held ≡ [] → 0 < (gates_of sets L size).free
unfolding gates_of gates_in
some-free sets L size old none held =
    let (l, some) = old.some in
    let one : length (list_at L 1) ≡ 0 = sym (length-map (list_at L 1) (gate_at sets)) ∙ ap length held in
    elim (cases_lt l 3) [
      | inl inside ↦ elim (cases_eq l 0) [
        | inl free ↦ subst (λ k. 0 < length (list_at L k)) free some
        | inr other ↦ elim (cases_eq l 1) [
          | inl held_list ↦ let never : 0 < length (list_at L 1) = subst (λ k. 0 < length (list_at L k)) held_list some in omega arith
          | inr more ↦ let two : l ≡ 2 = omega arith in let never : 0 < length (list_at L 2) = subst (λ k. 0 < length (list_at L k)) two some in omega arith
        ]
      ]
      | inr past ↦ let never : length (list_at L l) ≡ 0 = ap length (past-lists L l (omega (arith, old.lists))) in omega arith
    ]

pub gone-some : (sets : List Gate) (L : LinkedLists) (size n : ℕ) → slice_get (list_at L 2) 0 ≡ Some n → 0 < length (gates_of sets L size).gone
unfolding gates_of
gone-some sets L size n there = omega (arith, tickets-long sets (list_at L 2), some-first (list_at L 2) n there)

pub on-err : {T E : Type 0} (r : Result T E) (P : Type 0) → P → OnErr r P
on-err (Ok x) P p = tt
on-err (Err e) P p = p

-- a set that was not refitted
pub kept-get : (sets : List Gate) (n : ℕ) (was new : Gate) → n < length sets → was ≡ get_or sets n was → new ≡ was → set sets n new ≡ sets
kept-get sets n was new there read same = ap (set sets n) (same ∙ read) ∙ set-get_or sets n was

never-among : (x : ℕ) → is_among [] x ≡ true → ⊥
unfolding is_among
never-among x among = cc

-- a node past those that are free is in no list yet
pub unlisted-new : (L : LinkedLists) (n : ℕ) → length L.lists ≡ 3 → list_at L 1 ≡ [] → list_at L 2 ≡ [] → ((x : ℕ) → is_among (list_at L 0) x ≡ true → x < n) → is_listed L n ≡ false
unlisted-new L n lists held gone below = false_from_ne_true (is_listed L n) (λ listed.
    let (l, inside, among) = listed-in L n listed in
    elim (cases_eq l 0) [
      | inl none ↦ let never : n < n = below n (subst (λ k. is_among (list_at L k) n ≡ true) none among) in omega arith
      | inr other ↦ elim (cases_eq l 1) [
        | inl one ↦ never-among n (subst (λ xs. is_among xs n ≡ true) (ap (list_at L) one ∙ held) among)
        | inr more ↦ let two : l ≡ 2 = omega arith in never-among n (subst (λ xs. is_among xs n ≡ true) (ap (list_at L) two ∙ gone) among)
      ]
    ])

pub below-more : (xs : List ℕ) (n x : ℕ) → ((y : ℕ) → is_among xs y ≡ true → y < n) → is_among (xs ++ n ∷ []) x ≡ true → x < n + 1
unfolding is_among
below-more xs n x below among = elim (or_cases (list_any (eqb x) xs) (list_any (eqb x) (n ∷ [])) (sym (among-append xs (n ∷ []) x) ∙ among)) [
  | inl before ↦ omega (arith, below x before)
  | inr last ↦ elim (or_cases (eqb x n) false last) [ inl is ↦ omega (arith, eqb-true x n is) | inr never ↦ cc ]
]

-- ---- make

blank-at : (count n size : ℕ) → n < count → gate_at (replicate count (record { ticket = 0; block = 0; out = false; copy = replicate size 0 })) n ≡ record { ticket = 0; block = 0; out = false; copy = replicate size 0 }
unfolding gate_at
blank-at count n size there = get_or-replicate count n (record { ticket = 0; block = 0; out = false; copy = replicate size 0 }) (record { ticket = 0; block = 0; out = false; copy = [] }) there

pub starts : (sets : List Gate) (L : LinkedLists) (count size : ℕ) → sets ≡ replicate count (record { ticket = 0; block = 0; out = false; copy = replicate size 0 }) → 0 < count → count ≤ 64 →
    L.nodes ≡ count → length L.lists ≡ 3 → length (list_at L 0) ≡ count → list_at L 1 ≡ [] → list_at L 2 ≡ [] → AreApart L → TurnsSo sets L size (idle_gates count size)
unfolding idle_gates gates_of gates_in tickets_in
starts sets L count size is one few nodes lists free held gone apart =
    let long : length sets ≡ count = ap length is ∙ length-replicate count (record { ticket = 0; block = 0; out = false; copy = replicate size 0 }) in
    let blank : (n : ℕ) → n < count → gate_at sets n ≡ record { ticket = 0; block = 0; out = false; copy = replicate size 0 } = λ n there. ap (λ ss. gate_at ss n) is ∙ blank-at count n size there in
    let empty : (l x : ℕ) → 0 < l → is_among (list_at L l) x ≡ true → ⊥ = λ l x some among.
    let inside : l < 3 = omega (arith, list-exists L l x among, lists) in
    elim (cases_eq l 1) [
      | inl one ↦ never-among x (subst (λ xs. is_among xs x ≡ true) (ap (list_at L) one ∙ held) among)
      | inr other ↦ let two : l ≡ 2 = omega arith in never-among x (subst (λ xs. is_among xs x ≡ true) (ap (list_at L) two ∙ gone) among)
    ] in
    record {
      ordered = record {
        nodes = nodes ∙ sym long;
        lists = lists;
        few = omega arith;
        some = (0, omega (arith, free));
        apart = apart;
        long = λ n there. ap (λ (g : Gate). length g.copy) (blank n (omega arith)) ∙ length-replicate size 0;
        free_in = λ n among. ap (λ (g : Gate). g.out) (blank n (subst (λ k. n < k) nodes (apart.within 0 n among)));
        gone_out = λ n among. absurd (empty 2 n (omega arith) among);
        tickets = λ l m a b l-some m-some one other same. absurd (empty l a l-some one);
        blocks = λ a b one other same. absurd (empty 1 a (omega arith) one);
      };
      shows = gates-eq (gates_of sets L size) (idle_gates count size) refl (ap (gates_in sets) held) (ap (tickets_in sets) gone) free;
    }
