-- Exchanged places, and the table after a splice.
use Rattle.std.proofs.Common.{◌≡◌, ℕ, ◌+◌, ◌<◌, ◌≤◌, cond, List, [], ◌∷◌, ◌++◌, length, get_or, set, inl, inr, eqb, eq-eqb, refl, sym, ◌∙◌, ap, arith}
use Rattle.std.proofs.lemmas.Grind.{get_or-set_at}
use Rattle.std.proofs.lemmas.List.{get_or_default, get_or-set_other, get_or_append_left, length-append}
use Rattle.std.proofs.lemmas.Bool.Decides.{nat_tests}
use Rattle.std.proofs.lemmas.Bool.{cases_eq, cases_lt, cases_order, ne_eqb}
use Rattle.std.proofs.Math.ListN.{get_or-eq_default}
use Rattle.std.proofs.Math.Seq.{get_or-append_seam}
use Rattle.index_links.specs.declared.rings.Link.{Link}
use Rattle.index_links.specs.Rings.{after_at, before_at, exchange, AreRings}

pub exchanged-twice : (a b p : ℕ) → exchange a b (exchange a b p) ≡ p
unfolding exchange
exchanged-twice a b p = grind (arith, nat_tests)

pub exchanged-below : (a b p n : ℕ) → a < n → b < n → p < n → exchange a b p < n
unfolding exchange
exchanged-below a b p n a-in b-in p-in = grind (arith, nat_tests)

pub exchanged-left : (a b : ℕ) → exchange a b a ≡ b
unfolding exchange
exchanged-left a b = rw (eq-eqb a a refl) refl

pub exchanged-right : (a b : ℕ) → exchange a b b ≡ a
unfolding exchange
exchanged-right a b = elim (cases_eq b a) [ inl same ↦ rw (eq-eqb b a same) same | inr other ↦ rw (ne_eqb b a other, eq-eqb b b refl) refl ]

pub exchanged-other : (a b p : ℕ) → (p ≡ a → ⊥) → (p ≡ b → ⊥) → exchange a b p ≡ p
unfolding exchange
exchanged-other a b p na nb = grind (arith, nat_tests)

pub after-read : (links : List Link) (p : ℕ) (d : Link) → p < length links → (get_or links p d).after ≡ after_at links p
unfolding after_at
after-read links p d there = ap (λ (l : Link). l.after) (get_or_default links p d (record { before = p; after = p }) there)

pub before-read : (links : List Link) (p : ℕ) (d : Link) → p < length links → (get_or links p d).before ≡ before_at links p
unfolding before_at
before-read links p d there = ap (λ (l : Link). l.before) (get_or_default links p d (record { before = p; after = p }) there)

-- a table with one link replaced
pub after-set : (links : List Link) (i : ℕ) (l : Link) → i < length links → (p : ℕ) → after_at (set links i l) p ≡ cond (eqb p i) l.after (after_at links p)
unfolding after_at
after-set links i l there p = elim (cases_eq p i) [
  | inl same ↦ rw (eq-eqb p i same) (ap (λ (m : Link). m.after) (get_or-set_at links i p l (record { before = p; after = p }) same there))
  | inr other ↦ rw (ne_eqb p i other) (ap (λ (m : Link). m.after) (get_or-set_other links i p l (record { before = p; after = p }) other))
]

pub before-set : (links : List Link) (i : ℕ) (l : Link) → i < length links → (p : ℕ) → before_at (set links i l) p ≡ cond (eqb p i) l.before (before_at links p)
unfolding before_at
before-set links i l there p = elim (cases_eq p i) [
  | inl same ↦ rw (eq-eqb p i same) (ap (λ (m : Link). m.before) (get_or-set_at links i p l (record { before = p; after = p }) same there))
  | inr other ↦ rw (ne_eqb p i other) (ap (λ (m : Link). m.before) (get_or-set_other links i p l (record { before = p; after = p }) other))
]

-- a write of what a place has already
pub cond-same : (i : ℕ) (f : ℕ → ℕ) (v : ℕ) → v ≡ f i → (p : ℕ) → cond (eqb p i) v (f p) ≡ f p
cond-same i f v is p = elim (cases_eq p i) [
  | inl same ↦ rw (eq-eqb p i same) (is ∙ ap f (sym same))
  | inr other ↦ rw (ne_eqb p i other) refl
]

-- a link that was read, and the table with a link of which one side was written
pub read-after : (links now : List Link) (p : ℕ) (x : Link) → links ≡ now → p < length now → x ≡ get_or links p x → x.after ≡ after_at now p
read-after links now p x is there read = ap (λ (l : Link). l.after) read ∙ after-read links p x (rw is there) ∙ ap (λ ls. after_at ls p) is

pub read-before : (links now : List Link) (p : ℕ) (x : Link) → links ≡ now → p < length now → x ≡ get_or links p x → x.before ≡ before_at now p
read-before links now p x is there read = ap (λ (l : Link). l.before) read ∙ before-read links p x (rw is there) ∙ ap (λ ls. before_at ls p) is

pub after-written : (links now : List Link) (i v : ℕ) (x : Link) → links ≡ now → i < length now → x ≡ get_or links i x → (p : ℕ) →
    after_at (set links i (record { before = x.before; after = v })) p ≡ cond (eqb p i) v (after_at now p)
after-written links now i v x is there read p = after-set links i (record { before = x.before; after = v }) (rw is there) p ∙ ap (λ ls. cond (eqb p i) v (after_at ls p)) is

pub before-kept : (links now : List Link) (i v : ℕ) (x : Link) → links ≡ now → i < length now → x ≡ get_or links i x → (p : ℕ) →
    before_at (set links i (record { before = x.before; after = v })) p ≡ before_at now p
before-kept links now i v x is there read p =
    before-set links i (record { before = x.before; after = v }) (rw is there) p ∙ ap (λ ls. cond (eqb p i) x.before (before_at ls p)) is
    ∙ cond-same i (before_at now) x.before (read-before links now i x is there read) p

pub before-written : (links now : List Link) (i v : ℕ) (x : Link) → links ≡ now → i < length now → x ≡ get_or links i x → (p : ℕ) →
    before_at (set links i (record { before = v; after = x.after })) p ≡ cond (eqb p i) v (before_at now p)
before-written links now i v x is there read p = before-set links i (record { before = v; after = x.after }) (rw is there) p ∙ ap (λ ls. cond (eqb p i) v (before_at ls p)) is

pub after-kept : (links now : List Link) (i v : ℕ) (x : Link) → links ≡ now → i < length now → x ≡ get_or links i x → (p : ℕ) →
    after_at (set links i (record { before = v; after = x.after })) p ≡ after_at now p
after-kept links now i v x is there read p =
    after-set links i (record { before = v; after = x.after }) (rw is there) p ∙ ap (λ ls. cond (eqb p i) x.after (after_at ls p)) is
    ∙ cond-same i (after_at now) x.after (read-after links now i x is there read) p

-- what comes after each place, once two have exchanged it
pub after-exchanged : (f : ℕ → ℕ) (a b v w p : ℕ) → v ≡ f a → w ≡ f b → cond (eqb p b) v (cond (eqb p a) w (f p)) ≡ f (exchange a b p)
unfolding exchange
after-exchanged f a b v w p v-is w-is = elim (cases_eq p b) [
  | inl same ↦ elim (cases_eq p a) [
    | inl also ↦ rw (eq-eqb p b same, eq-eqb p a also) (v-is ∙ ap f (sym also ∙ same))
    | inr other ↦ rw (eq-eqb p b same, ne_eqb p a other) v-is
  ]
  | inr other ↦ elim (cases_eq p a) [
    | inl also ↦ rw (ne_eqb p b other, eq-eqb p a also) w-is
    | inr neither ↦ rw (ne_eqb p b other, ne_eqb p a neither) refl
  ]
]

-- what comes before each place then
pub before-exchanged : (links : List Link) → AreRings links → (a b v w p : ℕ) → v ≡ after_at links a → w ≡ after_at links b →
    cond (eqb p w) a (cond (eqb p v) b (before_at links p)) ≡ exchange a b (before_at links p)
unfolding exchange
before-exchanged links r a b v w p v-is w-is = elim (cases_eq p w) [
  | inl same ↦
      let here : before_at links p ≡ b = ap (before_at links) (same ∙ w-is) ∙ r.back b in
      elim (cases_eq b a) [
        | inl also ↦ rw (eq-eqb p w same, here, eq-eqb b a also) (sym also)
        | inr other ↦ rw (eq-eqb p w same, here, ne_eqb b a other, eq-eqb b b refl) refl
      ]
  | inr other ↦ elim (cases_eq p v) [
    | inl same ↦
        let here : before_at links p ≡ a = ap (before_at links) (same ∙ v-is) ∙ r.back a in
        rw (ne_eqb p w other, eq-eqb p v same, here, eq-eqb a a refl) refl
    | inr neither ↦
        let not-b : before_at links p ≡ b → ⊥ = λ is. other (sym (r.forth p) ∙ ap (after_at links) is ∙ sym w-is) in
        let not-a : before_at links p ≡ a → ⊥ = λ is. neither (sym (r.forth p) ∙ ap (after_at links) is ∙ sym v-is) in
        rw (ne_eqb p w other, ne_eqb p v neither, ne_eqb (before_at links p) a not-a, ne_eqb (before_at links p) b not-b) refl
  ]
]

-- rings stay rings where two places exchange what comes after them
pub rings-exchanged : (old new : List Link) (a b : ℕ) → AreRings old → a < length old → b < length old → length new ≡ length old →
    ((p : ℕ) → after_at new p ≡ after_at old (exchange a b p)) → ((p : ℕ) → before_at new p ≡ exchange a b (before_at old p)) → AreRings new
rings-exchanged old new a b r a-in b-in long after before = record {
  ahead = λ p there. rw (after p, long) (r.ahead (exchange a b p) (exchanged-below a b p (length old) a-in b-in (omega (arith, long))));
  behind = λ p there. rw (before p, long) (exchanged-below a b (before_at old p) (length old) a-in b-in (r.behind p (omega (arith, long))));
  back = λ p. before (after_at new p) ∙ ap (λ q. exchange a b (before_at old q)) (after p) ∙ ap (exchange a b) (r.back (exchange a b p)) ∙ exchanged-twice a b p;
  forth = λ p. after (before_at new p) ∙ ap (λ q. after_at old (exchange a b q)) (before p) ∙ ap (after_at old) (exchanged-twice a b (before_at old p)) ∙ r.forth p;
}

pub after-past : (links : List Link) (p : ℕ) → length links ≤ p → after_at links p ≡ p
unfolding after_at
after-past links p past = ap (λ (l : Link). l.after) (get_or-eq_default links (record { before = p; after = p }) past)

pub before-past : (links : List Link) (p : ℕ) → length links ≤ p → before_at links p ≡ p
unfolding before_at
before-past links p past = ap (λ (l : Link). l.before) (get_or-eq_default links (record { before = p; after = p }) past)

-- a link that is a ring alone reads as what stands past the end
pub read-more : (links : List Link) (n p : ℕ) → length links ≡ n →
    get_or (links ++ record { before = n; after = n } ∷ []) p (record { before = p; after = p }) ≡ get_or links p (record { before = p; after = p })
read-more links n p long = elim (cases_order p n) [
  | inl here ↦
      let alone : ℕ → Link = λ q. record { before = q; after = q } in
      let added : get_or (links ++ alone n ∷ []) p (alone p) ≡ alone n =
      ap (λ q. get_or (links ++ alone n ∷ []) q (alone p)) (here ∙ sym long) ∙ get_or-append_seam links (alone n) [] (alone p) in
      added ∙ ap alone (sym here) ∙ sym (get_or-eq_default links (alone p) (omega arith))
  | inr apart ↦ elim apart [
    | inl inside ↦ get_or_append_left links (record { before = n; after = n } ∷ []) (record { before = p; after = p }) p (omega arith)
    | inr past ↦
        get_or-eq_default (links ++ record { before = n; after = n } ∷ []) (record { before = p; after = p }) (rw length-append (omega arith))
        ∙ sym (get_or-eq_default links (record { before = p; after = p }) (omega arith))
  ]
]

pub after-more : (links : List Link) (n p : ℕ) → length links ≡ n → after_at (links ++ record { before = n; after = n } ∷ []) p ≡ after_at links p
unfolding after_at
after-more links n p long = ap (λ (l : Link). l.after) (read-more links n p long)

pub before-more : (links : List Link) (n p : ℕ) → length links ≡ n → before_at (links ++ record { before = n; after = n } ∷ []) p ≡ before_at links p
unfolding before_at
before-more links n p long = ap (λ (l : Link). l.before) (read-more links n p long)

pub ahead-more : (links : List Link) → AreRings links → (p : ℕ) → p < length links + 1 → after_at links p < length links + 1
ahead-more links r p there = elim (cases_lt p (length links)) [ inl inside ↦ omega (arith, r.ahead p inside) | inr past ↦ rw (after-past links p past) there ]

pub behind-more : (links : List Link) → AreRings links → (p : ℕ) → p < length links + 1 → before_at links p < length links + 1
behind-more links r p there = elim (cases_lt p (length links)) [ inl inside ↦ omega (arith, r.behind p inside) | inr past ↦ rw (before-past links p past) there ]

-- rings stay rings where a place is added that is one alone
pub rings-more : (links : List Link) (n : ℕ) → AreRings links → length links ≡ n → AreRings (links ++ record { before = n; after = n } ∷ [])
rings-more links n r long =
    let after : (p : ℕ) → after_at (links ++ record { before = n; after = n } ∷ []) p ≡ after_at links p = λ p. after-more links n p long in
    let before : (p : ℕ) → before_at (links ++ record { before = n; after = n } ∷ []) p ≡ before_at links p = λ p. before-more links n p long in
    record {
      ahead = λ p there. rw (after p, length-append) (ahead-more links r p (rw length-append at there));
      behind = λ p there. rw (before p, length-append) (behind-more links r p (rw length-append at there));
      back = λ p. before _ ∙ ap (before_at links) (after p) ∙ r.back p;
      forth = λ p. after _ ∙ ap (after_at links) (before p) ∙ r.forth p;
    }

-- no places at all
pub no-rings : AreRings []
no-rings = record {
  ahead = λ p there. absurd (omega arith);
  behind = λ p there. absurd (omega arith);
  back = λ p. ap (before_at []) (after-past [] p (omega arith)) ∙ before-past [] p (omega arith);
  forth = λ p. ap (after_at []) (before-past [] p (omega arith)) ∙ after-past [] p (omega arith);
}
