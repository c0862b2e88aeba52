-- The gates and the holders after those of a token were revoked.
use Rattle.std.proofs.Common.{◌≡◌, ◌≢◌, ℕ, zero, suc, ◌+◌, ◌<◌, ◌≤◌, ◌⊎◌, inl, inr, Bool, true, false, not, nat_eq, cond, ◌&&◌, ◌||◌, List, [], ◌∷◌, ◌++◌, length, map, slice_get, Option, None, Some, is_some, refl, sym, ◌∙◌, ap, subst, arith, eqb}
use Rattle.std.specs.Prelude.{filter, if◌then◌else◌}
use Rattle.std.specs.List.{list_any, find}
use Rattle.std.specs.Option.{option_map}
use Rattle.std.proofs.lemmas.List.{length-append, length-map}
use Rattle.std.proofs.lemmas.Bool.{cases_Bool, cases_eq, eq-eqb, ne_eqb, eqb-true, or_left, or_right, or_cases, and_from, and_parts, both_ways, false_from_ne_true, false≢true}
use Rattle.index_links.proofs.LinkedListsLemmas.{among-append, among-last}
use Rattle.history_laws.proofs.FilterLemmas.{filter-twice, filter-mapped, filter-less}
use Rattle.index_links.specs.Lists.{is_among}
use Rattle.block_gate.specs.Gates.{Gate, Gates, gate_of, is_out, is_lent, without_hold, without_ticket, AreSound, with_out}
use Rattle.block_gate.proofs.GatesLemmas.{gate-without, gate-without-other}
use Rattle.history_laws.specs.Pending.{Ordered}
use Rattle.history_laws.proofs.PendingLemmas.{filter-everything, filter-alike}
use Rattle.disk_core.specs.declared.parts.Holder.{Holder}
use Rattle.disk_core.specs.Parts.{holder_of}
use Rattle.disk_core.specs.Inside.{IsEarlier}
use Rattle.disk_core.specs.Moves.{without_gate, without_gates_of, without_gate_of, others}

-- ---- a ticket more

among-added : (xs : List ℕ) (k j : ℕ) → is_among (xs ++ k ∷ []) j ≡ true → (is_among xs j ≡ true) ⊎ (j ≡ k)
unfolding is_among
among-added xs k j is = elim (or_cases (is_among xs j) (is_among (k ∷ []) j) (sym (among-append xs (k ∷ []) j) ∙ is)) [
  | inl among ↦ inl among
  | inr last ↦ elim (or_cases (nat_eq j k) false last) [ inl same ↦ inr (eqb-true j k same) | inr never ↦ absurd (false≢true never) ]
]

-- ---- one release

pub released-size : (s : Gates) (k : ℕ) → (without_hold s k).size ≡ s.size
unfolding without_hold
released-size s k = refl

pub released-held : (s : Gates) (k : ℕ) → (without_hold s k).held ≡ filter (λ g. not (nat_eq k g.ticket)) s.held
unfolding without_hold without_ticket
released-held s k = refl

among-cond : (b : Bool) (gone : List ℕ) (k j : ℕ) → is_among (cond b (gone ++ k ∷ []) gone) j ≡ true → (is_among gone j ≡ true) ⊎ ((b ≡ true) × (j ≡ k))
among-cond true gone k j is = elim (among-added gone k j is) [ inl among ↦ inl among | inr same ↦ inr (refl, same) ]
among-cond false gone k j is = inl is

pub release-within : (s : Gates) (k j : ℕ) → is_out (without_hold s k) j ≡ true → is_out s j ≡ true
unfolding is_out without_hold is_lent
release-within s k j out = elim (or_cases (is_among (cond (is_lent (gate_of s.held k)) (s.gone ++ k ∷ []) s.gone) j) (is_lent (gate_of (without_ticket k s.held) j)) out) [
  | inl among ↦ elim (among-cond (is_lent (gate_of s.held k)) s.gone k j among) [
    | inl before ↦ or_left (is_among s.gone j) (is_lent (gate_of s.held j)) before
    | inr (lent, same) ↦ or_right (is_among s.gone j) (is_lent (gate_of s.held j)) (ap (λ n. is_lent (gate_of s.held n)) same ∙ lent)
  ]
  | inr lent ↦ elim (cases_eq k j) [
    | inl same ↦ absurd (no-lent (sym (ap is_lent (ap (λ n. gate_of (without_ticket n s.held) j) same ∙ gate-without s.held j)) ∙ lent))
    | inr other ↦ or_right (is_among s.gone j) (is_lent (gate_of s.held j)) (sym (ap is_lent (gate-without-other s.held k j other)) ∙ lent)
  ]
]
  where
    no-lent : false ≡ true → ⊥
    no-lent e = cc

pub release-still : (s : Gates) (k j : ℕ) → is_lent (gate_of s.held k) ≡ true → is_out s j ≡ true → is_out (without_hold s k) j ≡ true
unfolding is_out without_hold
release-still s k j lent out = rw lent (elim (cases_eq k j) [
  | inl same ↦ or_left (is_among (s.gone ++ k ∷ []) j) _ (ap (is_among (s.gone ++ k ∷ [])) (sym same) ∙ among-last s.gone k)
  | inr other ↦ elim (or_cases (is_among s.gone j) (is_lent (gate_of s.held j)) out) [
    | inl gone ↦ or_left (is_among (s.gone ++ k ∷ []) j) _ (among-append s.gone (k ∷ []) j ∙ or_left (is_among s.gone j) (is_among (k ∷ []) j) gone)
    | inr there ↦ or_right (is_among (s.gone ++ k ∷ []) j) _ (ap is_lent (gate-without-other s.held k j other) ∙ there)
  ]
])

without-some : (held : List Gate) (k : ℕ) (g : Gate) → gate_of held k ≡ Some g → length (without_ticket k held) + 1 ≤ length held
unfolding gate_of without_ticket
without-some [] k g is = cc
without-some (h ∷ held) k g is = elim (cases_Bool (nat_eq k h.ticket)) [
  | inl here ↦ rw here (let less = filter-less (λ (x : Gate). not (nat_eq k x.ticket)) held in omega arith)
  | inr other ↦ rw other (let rest = without-some held k g (rw other at is) in omega arith)
]

release-fits : (s : Gates) (k : ℕ) (g : Gate) → gate_of s.held k ≡ Some g
    → length (without_hold s k).held + (length (without_hold s k).gone + (without_hold s k).free) ≤ length s.held + (length s.gone + s.free)
unfolding without_hold
release-fits s k g is = by (is_lent (gate_of s.held k)) (without-some s.held k g is)
  where
    by : (b : Bool) → length (without_ticket k s.held) + 1 ≤ length s.held
        → length (without_ticket k s.held) + (length (cond b (s.gone ++ k ∷ []) s.gone) + cond b s.free (s.free + 1)) ≤ length s.held + (length s.gone + s.free)
    by true less = (let more = length-append s.gone (k ∷ []) in omega arith)
    by false less = omega arith

pub release-gate : (s : Gates) (k j : ℕ) (g : Gate) → gate_of (without_ticket k s.held) j ≡ Some g → gate_of s.held j ≡ Some g
release-gate s k j g is = elim (cases_eq k j) [
  | inl same ↦ absurd (none-some g (sym (ap (λ n. gate_of (without_ticket n s.held) j) same ∙ gate-without s.held j) ∙ is))
  | inr other ↦ sym (gate-without-other s.held k j other) ∙ is
]
  where
    none-some : (g : Gate) → None ≡ Some g → ⊥
    none-some g e = cc

release-sound : (s : Gates) (k : ℕ) → AreSound s → AreSound (without_hold s k)
unfolding without_hold
release-sound s k sound = record {
  one_block = λ t u g h first second same. sound.one_block t u g h (release-gate s k t g first) (release-gate s k u h second) same;
  one_ticket = λ t gone. elim (among-cond (is_lent (gate_of s.held k)) s.gone k t gone) [
    | inl before ↦ elim (cases_eq k t) [
      | inl same ↦ ap (λ n. gate_of (without_ticket n s.held) t) same ∙ gate-without s.held t
      | inr other ↦ gate-without-other s.held k t other ∙ sound.one_ticket t before
    ]
    | inr (lent, same) ↦ ap (λ n. gate_of (without_ticket n s.held) t) (sym same) ∙ gate-without s.held t
  ];
  long = λ t g is. sound.long t g (release-gate s k t g is);
}

-- ---- all of a token

-- the ticket is one of a holder of this token
abbrev pub is_ticket_of : ℕ → List Holder → ℕ → Bool
is_ticket_of token holders k = list_any (λ h. nat_eq token h.token && nat_eq k h.ticket) holders

-- the gates of these tickets are gone
pub record HaveLost (lost : ℕ → Bool) (old new : Gates) : Type 0 where
  pub size : new.size ≡ old.size
  pub held : new.held ≡ filter (λ g. not (lost g.ticket)) old.held
  pub within : (k : ℕ) → is_out new k ≡ true → is_out old k ≡ true
  pub sound : AreSound old → AreSound new
  pub fits : length new.held + (length new.gone + new.free) ≤ length old.held + (length old.gone + old.free)

lose-none : (lost : ℕ → Bool) (s : Gates) → ((k : ℕ) (g : Gate) → slice_get s.held k ≡ Some g → lost g.ticket ≡ false) → HaveLost lost s s
lose-none lost s none = record {
  size = refl;
  held = sym (filter-everything (λ g. not (lost g.ticket)) s.held (λ k g there. ap not (none k g there)));
  within = λ k out. out;
  sound = λ sound. sound;
  fits = omega arith;
}

no-gate : (held : List Gate) (t k : ℕ) (g : Gate) → gate_of held t ≡ None → slice_get held k ≡ Some g → nat_eq t g.ticket ≡ false
unfolding gate_of
no-gate [] t k g none there = cc
no-gate (h ∷ held) t zero g none there = elim (cases_Bool (nat_eq t h.ticket)) [
  | inl here ↦ let never : Some h ≡ None = rw here at none in cc
  | inr other ↦ let same : h ≡ g = (let e : Some h ≡ Some g = there in cc) in ap (λ (x : Gate). nat_eq t x.ticket) (sym same) ∙ other
]
no-gate (h ∷ held) t (suc j) g none there = elim (cases_Bool (nat_eq t h.ticket)) [
  | inl here ↦ let never : Some h ≡ None = rw here at none in cc
  | inr other ↦ no-gate held t j g (rw other at none) there
]

pub lose-held : (t : ℕ) (s : Gates) (g : Gate) → gate_of s.held t ≡ Some g → HaveLost (λ k. nat_eq t k) s (without_hold s t)
lose-held t s g is = record {
  size = released-size s t;
  held = released-held s t;
  within = λ k out. release-within s t k out;
  sound = λ sound. release-sound s t sound;
  fits = release-fits s t g is;
}

lose-one : (t : ℕ) (s : Gates) → HaveLost (λ k. nat_eq t k) s (without_gate s t)
lose-one t s = by (gate_of s.held t) refl
  where
    by : (m : Option Gate) → gate_of s.held t ≡ m → HaveLost (λ k. nat_eq t k) s (if is_some (gate_of s.held t) then without_hold s t else s)
    by None is = subst (λ m. HaveLost (λ k. nat_eq t k) s (if is_some m then without_hold s t else s)) (sym is) (lose-none (λ k. nat_eq t k) s (λ k g there. no-gate s.held t k g is there))
    by (Some g) is = subst (λ m. HaveLost (λ k. nat_eq t k) s (if is_some m then without_hold s t else s)) (sym is) (lose-held t s g is)

lose-both : (p q both : ℕ → Bool) (s mid new : Gates) → ((k : ℕ) → not (both k) ≡ (not (p k) && not (q k))) → HaveLost p s mid → HaveLost q mid new → HaveLost both s new
lose-both p q both s mid new joined first second = record {
  size = second.size ∙ first.size;
  held =
      second.held ∙ (ap (filter (λ g. not (q g.ticket))) first.held ∙ (filter-twice (λ g. not (q g.ticket)) (λ g. not (p g.ticket)) s.held
      ∙ filter-alike (λ g. not (p g.ticket) && not (q g.ticket)) (λ g. not (both g.ticket)) s.held (λ k g there. sym (joined g.ticket))));
  within = λ k out. first.within k (second.within k out);
  sound = λ sound. second.sound (first.sound sound);
  fits = (let one = first.fits in let two = second.fits in omega arith);
}

-- revoking the gates of a token loses those of its holders' tickets
pub revoked-lost : (token : ℕ) (holders : List Holder) (s : Gates) → HaveLost (is_ticket_of token holders) s (without_gates_of token holders s)
unfolding without_gates_of without_gate_of
revoked-lost token [] s = lose-none (λ k. false) s (λ k g there. refl)
revoked-lost token (h ∷ holders) s = elim (cases_Bool (nat_eq token h.token)) [
  | inl same ↦
      rw same (lose-both (λ k. nat_eq h.ticket k) (is_ticket_of token holders) (is_ticket_of token (h ∷ holders)) s (without_gate s h.ticket) (without_gates_of token holders (without_gate s h.ticket))
      (λ k. joined k same) (lose-one h.ticket s) (revoked-lost token holders (without_gate s h.ticket)))
  | inr other ↦
      rw other (lose-both (λ k. false) (is_ticket_of token holders) (is_ticket_of token (h ∷ holders)) s s (without_gates_of token holders s)
      (λ k. rw other refl) (lose-none (λ k. false) s (λ k g there. refl)) (revoked-lost token holders s))
]
  where
    not-or : (a b : Bool) → not (a || b) ≡ (not a && not b)
    not-or true b = refl
    not-or false b = refl

    turn : (a b : ℕ) → nat_eq a b ≡ nat_eq b a
    turn a b = elim (cases_eq a b) [
      | inl same ↦ eq-eqb a b same ∙ sym (eq-eqb b a (sym same))
      | inr other ↦ ne_eqb a b other ∙ sym (ne_eqb b a (λ e. other (sym e)))
    ]

    joined : (k : ℕ) → nat_eq token h.token ≡ true → not (is_ticket_of token (h ∷ holders) k) ≡ (not (nat_eq h.ticket k) && not (is_ticket_of token holders k))
    joined k same = rw (same, turn k h.ticket) (not-or (nat_eq h.ticket k) (is_ticket_of token holders k))

-- a gate that is left was there, under a ticket that is not lost; and one under such a ticket is left
pub left-gate : (lost : ℕ → Bool) (held : List Gate) (k : ℕ) (g : Gate) → gate_of (filter (λ h. not (lost h.ticket)) held) k ≡ Some g → (gate_of held k ≡ Some g) × (lost k ≡ false)
unfolding gate_of
left-gate lost [] k g is = cc
left-gate lost (h ∷ held) k g is = elim (cases_Bool (lost h.ticket)) [
  | inl gone ↦
      let later = left-gate lost held k g (rw gone at is) in
      let apart : k ≢ h.ticket = (λ same. both_ways (lost k) later.1 (ap lost same ∙ gone)) in
      (rw (ne_eqb k h.ticket apart) later.0, later.1)
  | inr kept ↦ elim (cases_Bool (nat_eq k h.ticket)) [
    | inl here ↦ (rw here (rw (kept, here) at is), ap lost (eqb-true k h.ticket here) ∙ kept)
    | inr other ↦ (let later = left-gate lost held k g (rw (kept, other) at is) in (rw other later.0, later.1))
  ]
]

pub gate-left : (lost : ℕ → Bool) (held : List Gate) (k : ℕ) (g : Gate) → gate_of held k ≡ Some g → lost k ≡ false → gate_of (filter (λ h. not (lost h.ticket)) held) k ≡ Some g
unfolding gate_of
gate-left lost [] k g is kept = cc
gate-left lost (h ∷ held) k g is kept = elim (cases_Bool (nat_eq k h.ticket)) [
  | inl here ↦ rw (sym (ap lost (eqb-true k h.ticket here)) ∙ kept, here) (rw here at is)
  | inr other ↦ elim (cases_Bool (lost h.ticket)) [
    | inl gone ↦ rw gone (gate-left lost held k g (rw other at is) kept)
    | inr stays ↦ rw (stays, other) (gate-left lost held k g (rw other at is) kept)
  ]
]

-- ---- holders

pub holder-first : (holders : List Holder) (k t : ℕ) → holder_of holders k ≡ Some t → (i : ℕ) × (h : Holder) × (slice_get holders i ≡ Some h) × (h.ticket ≡ k) × (h.token ≡ t)
unfolding holder_of
holder-first [] k t is = cc
holder-first (h ∷ holders) k t is = elim (cases_Bool (nat_eq k h.ticket)) [
  | inl here ↦ (0, h, refl, sym (eqb-true k h.ticket here), (let same : Some h.token ≡ Some t = rw here at is in cc))
  | inr other ↦ (let (i, g, at_i, ticket, token) = holder-first holders k t (rw other at is) in (suc i, g, at_i, ticket, token))
]

-- where the tickets rise each holder is the one of its ticket
pub holder-at : (holders : List Holder) (i : ℕ) (h : Holder) → Ordered IsEarlier holders → slice_get holders i ≡ Some h → holder_of holders h.ticket ≡ Some h.token
unfolding holder_of Ordered
holder-at [] i h rising there = cc
holder-at (x ∷ holders) zero h rising there =
    let same : x ≡ h = (let e : Some x ≡ Some h = there in cc) in
    subst (λ y. option_map (λ z. z.token) (find (λ z. nat_eq y.ticket z.ticket) (x ∷ holders)) ≡ Some y.token) same (rw (eq-eqb x.ticket x.ticket refl) refl)
holder-at (x ∷ holders) (suc i) h rising there =
    let below : x.ticket < h.ticket = rising.0 i h there in
    rw (ne_eqb h.ticket x.ticket (λ same. absurd (omega arith))) (holder-at holders i h rising.1 there)

ticket-holder : (token : ℕ) (holders : List Holder) (k : ℕ) → Ordered IsEarlier holders → is_ticket_of token holders k ≡ true → holder_of holders k ≡ Some token
unfolding holder_of Ordered
ticket-holder token [] k rising is = cc
ticket-holder token (h ∷ holders) k rising is = elim (or_cases (nat_eq token h.token && nat_eq k h.ticket) (is_ticket_of token holders k) is) [
  | inl here ↦ (let parts = and_parts (nat_eq token h.token) (nat_eq k h.ticket) here in rw parts.1 (ap Some (sym (eqb-true token h.token parts.0))))
  | inr later ↦
      let there = ticket-holder token holders k rising.1 later in
      let (i, g, at_i, ticket, of) = holder-first holders k token there in
      let below : h.ticket < g.ticket = rising.0 i g at_i in
      rw (ne_eqb k h.ticket (λ same. absurd (omega arith))) there
]

holder-ticket : (token : ℕ) (holders : List Holder) (k : ℕ) → holder_of holders k ≡ Some token → is_ticket_of token holders k ≡ true
unfolding holder_of
holder-ticket token [] k is = cc
holder-ticket token (h ∷ holders) k is = elim (cases_Bool (nat_eq k h.ticket)) [
  | inl here ↦ (let same : Some h.token ≡ Some token = rw here at is in let one : token ≡ h.token = cc in or_left _ (is_ticket_of token holders k) (and_from (nat_eq token h.token) (nat_eq k h.ticket) (eq-eqb token h.token one) here))
  | inr other ↦ or_right (nat_eq token h.token && nat_eq k h.ticket) (is_ticket_of token holders k) (holder-ticket token holders k (rw other at is))
]

-- a ticket of another holder is not lost
pub other-ticket : (token t : ℕ) (holders : List Holder) (k : ℕ) → Ordered IsEarlier holders → holder_of holders k ≡ Some t → t ≢ token → is_ticket_of token holders k ≡ false
other-ticket token t holders k rising is other =
    false_from_ne_true (is_ticket_of token holders k) (λ lost. other (let same : Some t ≡ Some token = sym is ∙ ticket-holder token holders k rising lost in cc))

-- and one that is not lost has another holder
pub ticket-other : (token t : ℕ) (holders : List Holder) (k : ℕ) → holder_of holders k ≡ Some t → is_ticket_of token holders k ≡ false → t ≢ token
ticket-other token t holders k is kept same = both_ways (is_ticket_of token holders k) kept (holder-ticket token holders k (is ∙ ap Some same))

pub holder-others : (token t : ℕ) (holders : List Holder) (k : ℕ) → holder_of holders k ≡ Some t → t ≢ token → holder_of (others token holders) k ≡ Some t
unfolding holder_of
holder-others token t [] k is other = cc
holder-others token t (h ∷ holders) k is other = elim (cases_Bool (nat_eq k h.ticket)) [
  | inl here ↦
      let same : Some h.token ≡ Some t = rw here at is in
      let one : h.token ≡ t = cc in
      rw (ne_eqb token h.token (λ e. other (sym (e ∙ one))), here) same
  | inr apart ↦ elim (cases_Bool (nat_eq token h.token)) [
    | inl gone ↦ rw gone (holder-others token t holders k (rw apart at is) other)
    | inr kept ↦ rw (kept, apart) (holder-others token t holders k (rw apart at is) other)
  ]
]

-- the tickets of the holders that are left
pub others-tickets : (token : ℕ) (holders : List Holder) → Ordered IsEarlier holders → map (λ h. h.ticket) (others token holders) ≡ filter (λ k. not (is_ticket_of token holders k)) (map (λ h. h.ticket) holders)
others-tickets token holders rising =
    sym (filter-mapped (λ k. not (is_ticket_of token holders k)) (λ (h : Holder). h.ticket) holders
    ∙ ap (map (λ (h : Holder). h.ticket)) (filter-alike (λ (h : Holder). not (is_ticket_of token holders h.ticket)) (λ (h : Holder). not (nat_eq token h.token)) holders (λ i h there. ap not (same i h there))))
  where
    same : (i : ℕ) (h : Holder) → slice_get holders i ≡ Some h → is_ticket_of token holders h.ticket ≡ nat_eq token h.token
    same i h there = elim (cases_eq h.token token) [
      | inl is ↦ holder-ticket token holders h.ticket (holder-at holders i h rising there ∙ ap Some is) ∙ sym (eq-eqb token h.token (sym is))
      | inr isnt ↦ other-ticket token h.token holders h.ticket rising (holder-at holders i h rising there) isnt ∙ sym (ne_eqb token h.token (λ e. isnt (sym e)))
    ]

pub turned-tickets : (k : ℕ) (out : Bool) (held : List Gate) → map (λ g. g.ticket) (with_out k out held) ≡ map (λ g. g.ticket) held
unfolding with_out
turned-tickets k out [] = refl
turned-tickets k out (g ∷ held) = by (eqb k g.ticket) (turned-tickets k out held)
  where
    by : (b : Bool) → map (λ h. h.ticket) (map (λ h. cond (eqb k h.ticket) (record h { out = out }) h) held) ≡ map (λ h. h.ticket) held
        → map (λ h. h.ticket) (cond b (record g { out = out }) g ∷ map (λ h. cond (eqb k h.ticket) (record h { out = out }) h) held) ≡ map (λ h. h.ticket) (g ∷ held)
    by true rest = ap (λ more. g.ticket ∷ more) rest
    by false rest = ap (λ more. g.ticket ∷ more) rest

pub turned-long : (k : ℕ) (out : Bool) (held : List Gate) → length (with_out k out held) ≡ length held
unfolding with_out
turned-long k out held = length-map held (λ g. cond (eqb k g.ticket) (record g { out = out }) g)
