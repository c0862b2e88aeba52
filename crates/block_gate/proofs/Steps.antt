-- The gates after each step, and that they stay in order.
use Rattle.std.proofs.Common.{◌≡◌, ℕ, ◌<◌, Bool, true, false, ◌||◌, List, [], ◌∷◌, ◌++◌, length, set, Option, None, Some, eqb, inl, inr, ◌⊎◌, refl, sym, ◌∙◌, ap, subst, arith}
use Rattle.std.proofs.lemmas.Bool.{cases_eq, or_cases, eqb-true, false_from_ne_true}
use Rattle.std.proofs.lemmas.List.{length-set, length-append}
use Rattle.index_links.specs.Lists.{LinkedLists, list_at, is_among, is_listed, without, with_node_at_end, without_node, AreApart}
use Rattle.index_links.proofs.LinkedListsLemmas.{pushed-here, pushed-other, unlinked-at, long-unlinked, long-pushed, nodes-unlinked, nodes-pushed, among-append, listed-in}
use Rattle.block_gate.specs.Gates.{Gate, gate_of, AreSound}
use Rattle.block_gate.specs.Sets.{gate_at, gates_in, gates_of, AreSets}
use Rattle.block_gate.proofs.Moves.{without-absent, among-from_without, gate-here, gate-other, gate-found, ticket-found}

-- ---- a node goes from list a to the end of list b

pub record IsMove (L M : LinkedLists) (n a b : ℕ) : Type 0 where
  pub nodes : M.nodes ≡ L.nodes
  pub lists : length M.lists ≡ length L.lists
  pub apart : AreApart M
  pub there : list_at M b ≡ list_at L b ++ n ∷ []
  pub left : list_at M a ≡ without n (list_at L a)
  pub others : (c : ℕ) → (c ≡ a → ⊥) → (c ≡ b → ⊥) → list_at M c ≡ list_at L c

-- a node of one list is in no other
pub absent : (L : LinkedLists) (n a c : ℕ) → AreApart L → is_among (list_at L a) n ≡ true → (c ≡ a → ⊥) → is_among (list_at L c) n ≡ false
absent L n a c apart among other = false_from_ne_true (is_among (list_at L c) n) (λ also. other (apart.alone c a n also among))

pub relinked : (L M : LinkedLists) (n a b : ℕ) → AreApart L → AreApart M → b < length L.lists → is_among (list_at L a) n ≡ true → (b ≡ a → ⊥) → M ≡ with_node_at_end (without_node L n) b n → IsMove L M n a b
relinked L M n a b apart after there among differ is = record {
  nodes = ap (λ s. s.nodes) is ∙ nodes-pushed (without_node L n) b n ∙ nodes-unlinked L n;
  lists = ap (λ s. length s.lists) is ∙ long-pushed (without_node L n) b n ∙ long-unlinked L n;
  apart = after;
  there = ap (λ s. list_at s b) is ∙ pushed-here (without_node L n) b n (rw long-unlinked there)
      ∙ ap (λ xs. xs ++ n ∷ []) (unlinked-at L n b ∙ without-absent n (list_at L b) (absent L n a b apart among differ));
  left = ap (λ s. list_at s a) is ∙ pushed-other (without_node L n) b n a (λ same. differ (sym same)) ∙ unlinked-at L n a;
  others = λ c not-a not-b. ap (λ s. list_at s c) is ∙ pushed-other (without_node L n) b n c not-b ∙ unlinked-at L n c
      ∙ without-absent n (list_at L c) (absent L n a c apart among not-a);
}

-- a node that was taken out is in no list
pub unlisted : (L : LinkedLists) (n : ℕ) → is_listed (without_node L n) n ≡ false
unlisted L n = false_from_ne_true (is_listed (without_node L n) n) (λ listed.
    let (l, inside, among) = listed-in (without_node L n) n listed in
    (among-from_without n n (list_at L l) (subst (λ xs. is_among xs n ≡ true) (unlinked-at L n l) among)).0 refl)

members : (L M : LinkedLists) (n a b : ℕ) → AreApart L → is_among (list_at L a) n ≡ true → (b ≡ a → ⊥) → IsMove L M n a b →
    (c m : ℕ) → is_among (list_at M c) m ≡ true → ((m ≡ n) × (c ≡ b)) ⊎ ((m ≡ n → ⊥) × (is_among (list_at L c) m ≡ true))
unfolding is_among
members L M n a b apart among differ move c m there =
    let apart-from : (d : ℕ) → (d ≡ a → ⊥) → is_among (list_at L d) m ≡ true → m ≡ n → ⊥ = λ d other inside same.
    other (apart.alone d a n (subst (λ x. is_among (list_at L d) x ≡ true) same inside) among) in
    elim (cases_eq c b) [
      | inl at-b ↦
          let both : (is_among (list_at L b) m || is_among (n ∷ []) m) ≡ true =
          sym (among-append (list_at L b) (n ∷ []) m) ∙ ap (λ xs. is_among xs m) (sym move.there) ∙ ap (λ d. is_among (list_at M d) m) (sym at-b) ∙ there in
          elim (or_cases (is_among (list_at L b) m) (is_among (n ∷ []) m) both) [
            | inl before ↦ inr (apart-from b differ before, subst (λ d. is_among (list_at L d) m ≡ true) (sym at-b) before)
            | inr last ↦ inl (elim (or_cases (eqb m n) false last) [ inl is ↦ eqb-true m n is | inr never ↦ cc ], at-b)
          ]
      | inr not-b ↦ elim (cases_eq c a) [
        | inl at-a ↦
            let (other, inside) = among-from_without n m (list_at L a) (ap (λ xs. is_among xs m) (sym move.left) ∙ ap (λ d. is_among (list_at M d) m) (sym at-a) ∙ there) in
            inr (other, subst (λ d. is_among (list_at L d) m ≡ true) (sym at-a) inside)
        | inr not-a ↦
            let inside : is_among (list_at L c) m ≡ true = ap (λ xs. is_among xs m) (sym (move.others c not-a not-b)) ∙ there in
            inr (apart-from c not-a inside, inside)
      ]
    ]

-- ---- the sets stay in order

-- only set n changed
pub record KeepsOthers (sets after : List Gate) (n : ℕ) : Type 0 where
  pub long : length after ≡ length sets
  pub same : (m : ℕ) → (m ≡ n → ⊥) → gate_at after m ≡ gate_at sets m

pub kept-set : (sets : List Gate) (n : ℕ) (g : Gate) → KeepsOthers sets (set sets n g) n
kept-set sets n g = record { long = length-set sets n g; same = λ m other. gate-other sets n m g other }

pub kept-all : (sets : List Gate) (n : ℕ) → KeepsOthers sets sets n
kept-all sets n = record { long = refl; same = λ m other. refl }

-- a gate fits into list b as set n
pub record Fits (sets : List Gate) (L : LinkedLists) (size : ℕ) (g : Gate) (n b : ℕ) : Type 0 where
  pub long : length g.copy ≡ size
  pub free_in : b ≡ 0 → g.out ≡ false
  pub gone_out : b ≡ 2 → g.out ≡ true
  pub ticket : 0 < b → (l m : ℕ) → 0 < l → is_among (list_at L l) m ≡ true → (m ≡ n → ⊥) → (gate_at sets m).ticket ≡ g.ticket → ⊥
  pub block : b ≡ 1 → (m : ℕ) → is_among (list_at L 1) m ≡ true → (m ≡ n → ⊥) → (gate_at sets m).block ≡ g.block → ⊥

pub sets-moved : (sets after : List Gate) (L M : LinkedLists) (size n a b : ℕ) → AreSets sets L size → is_among (list_at L a) n ≡ true → (b ≡ a → ⊥) → IsMove L M n a b →
    KeepsOthers sets after n → Fits sets L size (gate_at after n) n b → AreSets after M size
sets-moved sets after L M size n a b old among differ move kept fits =
    let split : (c m : ℕ) → is_among (list_at M c) m ≡ true → ((m ≡ n) × (c ≡ b)) ⊎ ((m ≡ n → ⊥) × (is_among (list_at L c) m ≡ true)) = members L M n a b old.apart among differ move in
    record {
      nodes = move.nodes ∙ old.nodes ∙ sym kept.long;
      lists = move.lists ∙ old.lists;
      few = omega (arith, kept.long, old.few);
      some = (b, omega (arith, ap length move.there ∙ length-append (list_at L b) (n ∷ [])));
      apart = move.apart;
      long = λ m inside. elim (cases_eq m n) [
        | inl same ↦ ap (λ x. length (gate_at after x).copy) same ∙ fits.long
        | inr other ↦ ap (λ (g : Gate). length g.copy) (kept.same m other) ∙ old.long m (omega (arith, kept.long))
      ];
      free_in = λ m there. elim (split 0 m there) [
        | inl here ↦ ap (λ x. (gate_at after x).out) here.0 ∙ fits.free_in (sym here.1)
        | inr was ↦ ap (λ (g : Gate). g.out) (kept.same m was.0) ∙ old.free_in m was.1
      ];
      gone_out = λ m there. elim (split 2 m there) [
        | inl here ↦ ap (λ x. (gate_at after x).out) here.0 ∙ fits.gone_out (sym here.1)
        | inr was ↦ ap (λ (g : Gate). g.out) (kept.same m was.0) ∙ old.gone_out m was.1
      ];
      tickets = λ l m x y l-some m-some x-in y-in same. elim (split l x x-in) [
        | inl here ↦ elim (split m y y-in) [
          | inl also ↦ here.0 ∙ sym also.0
          | inr was ↦ absurd (fits.ticket (subst (λ d. 0 < d) here.1 l-some) m y m-some was.1 was.0
              (ap (λ (g : Gate). g.ticket) (sym (kept.same y was.0)) ∙ sym same ∙ ap (λ z. (gate_at after z).ticket) here.0))
        ]
        | inr was ↦ elim (split m y y-in) [
          | inl also ↦ absurd (fits.ticket (subst (λ d. 0 < d) also.1 m-some) l x l-some was.1 was.0
              (ap (λ (g : Gate). g.ticket) (sym (kept.same x was.0)) ∙ same ∙ ap (λ z. (gate_at after z).ticket) also.0))
          | inr too ↦ old.tickets l m x y l-some m-some was.1 too.1
              (ap (λ (g : Gate). g.ticket) (sym (kept.same x was.0)) ∙ same ∙ ap (λ (g : Gate). g.ticket) (kept.same y too.0))
        ]
      ];
      blocks = λ x y x-in y-in same. elim (split 1 x x-in) [
        | inl here ↦ elim (split 1 y y-in) [
          | inl also ↦ here.0 ∙ sym also.0
          | inr was ↦ absurd (fits.block (sym here.1) y was.1 was.0
              (ap (λ (g : Gate). g.block) (sym (kept.same y was.0)) ∙ sym same ∙ ap (λ z. (gate_at after z).block) here.0))
        ]
        | inr was ↦ elim (split 1 y y-in) [
          | inl also ↦ absurd (fits.block (sym also.1) x was.1 was.0
              (ap (λ (g : Gate). g.block) (sym (kept.same x was.0)) ∙ same ∙ ap (λ z. (gate_at after z).block) also.0))
          | inr too ↦ old.blocks x y was.1 too.1
              (ap (λ (g : Gate). g.block) (sym (kept.same x was.0)) ∙ same ∙ ap (λ (g : Gate). g.block) (kept.same y too.0))
        ]
      ];
    }

-- a set that is held changes no more than whether its work is out
pub sets-turned : (sets : List Gate) (L : LinkedLists) (size n : ℕ) (out : Bool) → AreSets sets L size → is_among (list_at L 1) n ≡ true →
    AreSets (set sets n (record (gate_at sets n) { out = out })) L size
sets-turned sets L size n out old among =
    let after : List Gate = set sets n (record (gate_at sets n) { out = out }) in
    let kept : KeepsOthers sets after n = kept-set sets n (record (gate_at sets n) { out = out }) in
    let inside : n < length sets = subst (λ k. n < k) old.nodes (old.apart.within 1 n among) in
    let here : gate_at after n ≡ record (gate_at sets n) { out = out } = gate-here sets n (record (gate_at sets n) { out = out }) inside in
    let ticket : (m : ℕ) → (gate_at after m).ticket ≡ (gate_at sets m).ticket = λ m. elim (cases_eq m n) [
      | inl same ↦ ap (λ x. (gate_at after x).ticket) same ∙ ap (λ (g : Gate). g.ticket) here ∙ ap (λ x. (gate_at sets x).ticket) (sym same)
      | inr other ↦ ap (λ (g : Gate). g.ticket) (kept.same m other)
    ] in
    let block : (m : ℕ) → (gate_at after m).block ≡ (gate_at sets m).block = λ m. elim (cases_eq m n) [
      | inl same ↦ ap (λ x. (gate_at after x).block) same ∙ ap (λ (g : Gate). g.block) here ∙ ap (λ x. (gate_at sets x).block) (sym same)
      | inr other ↦ ap (λ (g : Gate). g.block) (kept.same m other)
    ] in
    let copy : (m : ℕ) → (gate_at after m).copy ≡ (gate_at sets m).copy = λ m. elim (cases_eq m n) [
      | inl same ↦ ap (λ x. (gate_at after x).copy) same ∙ ap (λ (g : Gate). g.copy) here ∙ ap (λ x. (gate_at sets x).copy) (sym same)
      | inr other ↦ ap (λ (g : Gate). g.copy) (kept.same m other)
    ] in
    let apart-from : (l m : ℕ) → (l ≡ 1 → ⊥) → is_among (list_at L l) m ≡ true → m ≡ n → ⊥ = λ l m other there same.
    other (old.apart.alone l 1 n (subst (λ x. is_among (list_at L l) x ≡ true) same there) among) in
    record {
      nodes = old.nodes ∙ sym kept.long;
      lists = old.lists;
      few = omega (arith, kept.long, old.few);
      some = old.some;
      apart = old.apart;
      long = λ m there. ap length (copy m) ∙ old.long m (omega (arith, kept.long));
      free_in = λ m there. ap (λ (g : Gate). g.out) (kept.same m (apart-from 0 m (λ is. omega arith) there)) ∙ old.free_in m there;
      gone_out = λ m there. ap (λ (g : Gate). g.out) (kept.same m (apart-from 2 m (λ is. omega arith) there)) ∙ old.gone_out m there;
      tickets = λ l m x y l-some m-some x-in y-in same. old.tickets l m x y l-some m-some x-in y-in (sym (ticket x) ∙ same ∙ ticket y);
      blocks = λ x y x-in y-in same. old.blocks x y x-in y-in (sym (block x) ∙ same ∙ block y);
    }

-- ---- sound gates

pub sound-of : (sets : List Gate) (L : LinkedLists) (size : ℕ) → AreSets sets L size → AreSound (gates_of sets L size)
unfolding gates_of
sound-of sets L size old = record {
  one_block = λ t u g h one other same.
      let (n, n-in, n-is, n-has) = gate-found sets (list_at L 1) t g one in
      let (m, m-in, m-is, m-has) = gate-found sets (list_at L 1) u h other in
      let nodes : n ≡ m = old.blocks n m n-in m-in (ap (λ (x : Gate). x.block) (sym n-is) ∙ same ∙ ap (λ (x : Gate). x.block) m-is) in
      sym n-has ∙ ap (λ x. (gate_at sets x).ticket) nodes ∙ m-has;
  one_ticket = λ t among.
      let (n, n-in, n-has) = ticket-found sets (list_at L 2) t among in
      none-of (gate_of (gates_in sets (list_at L 1)) t) (λ g is.
      let (m, m-in, m-is, m-has) = gate-found sets (list_at L 1) t g is in
      let same : n ≡ m = old.tickets 2 1 n m (omega arith) (omega arith) n-in m-in (n-has ∙ sym m-has) in
      let lists : 2 ≡ 1 = old.apart.alone 2 1 m (subst (λ x. is_among (list_at L 2) x ≡ true) same n-in) m-in in
      omega arith);
  long = λ t g is.
      let (n, n-in, n-is, n-has) = gate-found sets (list_at L 1) t g is in
      ap (λ (x : Gate). length x.copy) n-is ∙ old.long n (subst (λ k. n < k) old.nodes (old.apart.within 1 n n-in));
} where
  none-of : {A : Type 0} (o : Option A) → ((x : A) → o ≡ Some x → ⊥) → o ≡ None
  none-of None never = refl
  none-of (Some x) never = absurd (never x refl)
