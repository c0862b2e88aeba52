-- The gates and holders without those of one ticket, whose work may have come back before.
use Rattle.std.proofs.Common.{◌≡◌, ◌≢◌, ℕ, zero, suc, ◌+◌, ◌<◌, ◌≤◌, ◌⊎◌, inl, inr, Bool, true, false, not, List, [], ◌∷◌, ◌++◌, length, map, take, drop, slice_get, get_or, Option, None, Some, refl, sym, ◌∙◌, ap, subst, arith}
use Rattle.std.specs.Prelude.{filter, position, nat_eq, cond, if◌then◌else◌}
use Rattle.std.specs.List.{position_from}
use Rattle.std.proofs.lemmas.List.Quantifiers.{position-Some}
use Rattle.std.proofs.lemmas.Iterator.Adapters.{position_from-zero}
use Rattle.std.proofs.lemmas.Bool.{cases_Bool, cases_eq, or_cases, or_left, or_right, eqb-true, eq-eqb, ne_eqb, true≢false}
use Rattle.index_links.specs.Lists.{is_among, without}
use Rattle.history_laws.specs.Pending.{Ordered}
use Rattle.history_laws.proofs.OrderLemmas.{ordered-filter}
use Rattle.history_laws.proofs.PendingLemmas.{filter-everything}
use Rattle.block_gate.proofs.GatesLemmas.{gate-turned, gate-turned-other}
use Rattle.std.specs.Option.{option_map}
use Rattle.block_gate.specs.Gates.{Gate, Gates, gate_of, is_lent, is_out, with_work_back, without_hold, with_out, AreSound}
use Rattle.disk_core.specs.declared.parts.Holder.{Holder}
use Rattle.disk_core.specs.Parts.{holder_of}
use Rattle.disk_core.specs.Inside.{IsEarlier}
use Rattle.disk_core.specs.Moves.{without_at, without_ticket_of}
use Rattle.disk_core.proofs.Late.{without-among, without-less}
use Rattle.disk_core.proofs.Revoked.{HaveLost, lose-held, left-gate, gate-left, turned-long, turned-tickets}
use Rattle.history_laws.proofs.FilterLemmas.{filter-mapped}

-- ---- the gates from which a work came back, or not

pub record IsSameBut (k : ℕ) (before lent : Gates) : Type 0 where
  pub size : lent.size ≡ before.size
  pub alike : (j : ℕ) → k ≢ j → gate_of lent.held j ≡ gate_of before.held j
  pub there : (g : Gate) × (gate_of lent.held k ≡ Some g)
  pub tickets : map (λ g. g.ticket) lent.held ≡ map (λ g. g.ticket) before.held
  pub within : (j : ℕ) → is_out lent j ≡ true → is_out before j ≡ true
  pub fits : length lent.held + (length lent.gone + lent.free) ≤ length before.held + (length before.gone + before.free)

same-all : (k : ℕ) (s : Gates) (g : Gate) → gate_of s.held k ≡ Some g → IsSameBut k s s
same-all k s g there = record { size = refl; alike = λ j other. refl; there = (g, there); tickets = refl; within = λ j out. out; fits = omega arith }

turned-there : (k : ℕ) (out : Bool) (held : List Gate) (g : Gate) → gate_of held k ≡ Some g → (h : Gate) × (gate_of (with_out k out held) k ≡ Some h) × (h.out ≡ out)
turned-there k out held g there = (record g { out = out }, gate-turned held k out ∙ ap (option_map (λ (h : Gate). record h { out = out })) there, refl)

taken-within : (k : ℕ) (s : Gates) (g : Gate) → gate_of s.held k ≡ Some g → (j : ℕ) → is_out (record { size = s.size; held = with_out k false s.held; gone = without k s.gone; free = s.free }) j ≡ true → is_out s j ≡ true
unfolding is_out is_lent
taken-within k s g there j out = elim (or_cases (is_among (without k s.gone) j) (is_lent (gate_of (with_out k false s.held) j)) out) [
  | inl gone ↦ or_left (is_among s.gone j) (is_lent (gate_of s.held j)) (without-among k j s.gone gone)
  | inr lent ↦ elim (cases_eq k j) [
    | inr other ↦ or_right (is_among s.gone j) (is_lent (gate_of s.held j)) (sym (ap is_lent (gate-turned-other s.held k j false other)) ∙ lent)
    | inl same ↦
        let now = turned-there k false s.held g there in
        absurd (true≢false (sym lent ∙ (ap (λ n. is_lent (gate_of (with_out k false s.held) n)) (sym same) ∙ ap is_lent now.1 ∙ now.2)))
  ]
]

-- a work of a held gate came back
same-taken : (k : ℕ) (s : Gates) (g : Gate) → AreSound s → gate_of s.held k ≡ Some g → IsSameBut k s (with_work_back s k)
unfolding with_work_back
same-taken k s g sound there = by (is_among s.gone k) refl
  where
    none-some : gate_of s.held k ≡ None → gate_of s.held k ≡ Some g → ⊥
    none-some none some = cc

    by : (b : Bool) → is_among s.gone k ≡ b → IsSameBut k s (record { size = s.size; held = cond b s.held (with_out k false s.held); gone = without k s.gone; free = cond b (s.free + 1) s.free })
    by true gone = absurd (none-some (sound.one_ticket k gone) there)
    by false held = record {
      size = refl;
      alike = λ j other. gate-turned-other s.held k j false other;
      there = (let now = turned-there k false s.held g there in (now.0, now.1));
      tickets = turned-tickets k false s.held;
      within = taken-within k s g there;
      fits = (let long = turned-long k false s.held in let less = without-less k s.gone in omega arith);
    }

pub same-but : (k : ℕ) (before lent : Gates) (g : Gate) → AreSound before → gate_of before.held k ≡ Some g → (lent ≡ before) ⊎ (lent ≡ with_work_back before k) → IsSameBut k before lent
same-but k before lent g sound there (inl same) = subst (IsSameBut k before) (sym same) (same-all k before g there)
same-but k before lent g sound there (inr taken) = subst (IsSameBut k before) (sym taken) (same-taken k before g sound there)

-- ---- holders

kept-later : (k : ℕ) (holders : List Holder) → ((i : ℕ) (h : Holder) → slice_get holders i ≡ Some h → k < h.ticket) → filter (λ h. not (nat_eq k h.ticket)) holders ≡ holders
kept-later k holders later = filter-everything (λ h. not (nat_eq k h.ticket)) holders (λ i h at. ap not (ne_eqb k h.ticket (λ e. (let lt = later i h at in absurd (omega arith)))))

filtered-at : (k : ℕ) (holders : List Holder) (i : ℕ) (d : Holder) → Ordered IsEarlier holders → i < length holders → nat_eq k (get_or holders i d).ticket ≡ true → ((j : ℕ) → j < i → nat_eq k (get_or holders j d).ticket ≡ false)
    → take i holders ++ drop (suc i) holders ≡ filter (λ h. not (nat_eq k h.ticket)) holders
unfolding Ordered
filtered-at k [] i d rising within here before = absurd (omega arith)
filtered-at k (h ∷ holders) zero d rising within here before =
    let same : k ≡ h.ticket = eqb-true k h.ticket here in
    rw here (sym (kept-later k holders (λ i g at. (let lt = rising.0 i g at in omega arith))))
filtered-at k (h ∷ holders) (suc i) d rising within here before = rw (before zero (omega arith)) (ap (λ rest. h ∷ rest) (filtered-at k holders i d rising.1 (omega arith) here (λ j lt. before (suc j) (omega arith))))

none-at : (k : ℕ) (holders : List Holder) (i : ℕ) → position_from (λ h. nat_eq k h.ticket) i holders ≡ None → holders ≡ filter (λ h. not (nat_eq k h.ticket)) holders
none-at k [] i none = refl
none-at k (h ∷ holders) i none = go (nat_eq k h.ticket) none (none-at k holders)
  where
    go : (v : Bool) → (if v then Some i else position_from (λ x. nat_eq k x.ticket) (i + 1) holders) ≡ None → ((j : ℕ) → position_from (λ x. nat_eq k x.ticket) j holders ≡ None → holders ≡ filter (λ x. not (nat_eq k x.ticket)) holders)
        → h ∷ holders ≡ (if not v then h ∷ filter (λ x. not (nat_eq k x.ticket)) holders else filter (λ x. not (nat_eq k x.ticket)) holders)
    go true none more = let e : Some i ≡ None = none in absurd (cc)
    go false none more = ap (λ rest. h ∷ rest) (more (i + 1) none)

pub without-ticket-is : (k : ℕ) (holders : List Holder) → Ordered IsEarlier holders → without_ticket_of k holders ≡ filter (λ h. not (nat_eq k h.ticket)) holders
unfolding without_ticket_of
without-ticket-is k holders rising = by (position (λ h. nat_eq k h.ticket) holders) refl
  where
    d : Holder
    d = record { ticket = 0; token = 0 }

    by : (o : Option ℕ) → position (λ h. nat_eq k h.ticket) holders ≡ o → without_at o holders ≡ filter (λ h. not (nat_eq k h.ticket)) holders
    by None none = none-at k holders 0 (sym (position_from-zero (λ h. nat_eq k h.ticket) holders) ∙ none)
    by (Some i) at =
        let there = position-Some (λ h. nat_eq k h.ticket) holders i d at in
        let next : i + 1 ≡ suc i = omega arith in
        rw next (filtered-at k holders i d rising there.0 there.1 there.2)

-- a holder that is left was there, under another ticket; and one under another ticket is left
left-holder : (k j t : ℕ) (holders : List Holder) → holder_of (filter (λ h. not (nat_eq k h.ticket)) holders) j ≡ Some t → (holder_of holders j ≡ Some t) × (k ≢ j)
unfolding holder_of
left-holder k j t [] is = cc
left-holder k j t (h ∷ holders) is = elim (cases_Bool (nat_eq k h.ticket)) [
  | inl gone ↦
      let later = left-holder k j t holders (rw gone at is) in
      (rw (ne_eqb j h.ticket (λ e. later.1 (eqb-true k h.ticket gone ∙ sym e))) later.0, later.1)
  | inr kept ↦ elim (cases_Bool (nat_eq j h.ticket)) [
    | inl here ↦ (rw here (rw (kept, here) at is), λ e. true≢false (sym (eq-eqb k h.ticket (e ∙ eqb-true j h.ticket here)) ∙ kept))
    | inr other ↦ (let later = left-holder k j t holders (rw (kept, other) at is) in (rw other later.0, later.1))
  ]
]

holder-left : (k j t : ℕ) (holders : List Holder) → holder_of holders j ≡ Some t → k ≢ j → holder_of (filter (λ h. not (nat_eq k h.ticket)) holders) j ≡ Some t
unfolding holder_of
holder-left k j t [] is other = cc
holder-left k j t (h ∷ holders) is other = elim (cases_Bool (nat_eq j h.ticket)) [
  | inl here ↦ rw (ne_eqb k h.ticket (λ e. other (e ∙ sym (eqb-true j h.ticket here))), here) (rw here at is)
  | inr apart ↦ elim (cases_Bool (nat_eq k h.ticket)) [
    | inl gone ↦ rw gone (holder-left k j t holders (rw apart at is) other)
    | inr kept ↦ rw (kept, apart) (holder-left k j t holders (rw apart at is) other)
  ]
]

-- ---- both, without those of the ticket

pub record IsReleased (k : ℕ) (before : Gates) (holders : List Holder) (s : Gates) (left : List Holder) : Type 0 where
  pub size : s.size ≡ before.size
  pub gate : (j : ℕ) (g : Gate) → gate_of s.held j ≡ Some g → (gate_of before.held j ≡ Some g) × (k ≢ j)
  pub stays : (j : ℕ) (g : Gate) → gate_of before.held j ≡ Some g → k ≢ j → gate_of s.held j ≡ Some g
  pub holder : (j t : ℕ) → holder_of left j ≡ Some t → (holder_of holders j ≡ Some t) × (k ≢ j)
  pub held : (j t : ℕ) → holder_of holders j ≡ Some t → k ≢ j → holder_of left j ≡ Some t
  pub within : (j : ℕ) → is_out s j ≡ true → is_out before j ≡ true
  pub apart : AreSound s
  pub paired : map (λ h. h.ticket) left ≡ map (λ g. g.ticket) s.held
  pub rising : Ordered IsEarlier left
  pub fits : length s.held + (length s.gone + s.free) ≤ length before.held + (length before.gone + before.free)

pub is-released : (k : ℕ) (before lent : Gates) (holders : List Holder) → IsSameBut k before lent → AreSound lent → map (λ h. h.ticket) holders ≡ map (λ g. g.ticket) before.held → Ordered IsEarlier holders
    → IsReleased k before holders (without_hold lent k) (without_ticket_of k holders)
is-released k before lent holders same sound paired rising =
    let lost : HaveLost (λ j. nat_eq k j) lent (without_hold lent k) = lose-held k lent same.there.0 same.there.1 in
    let is = without-ticket-is k holders rising in
    let found = λ (j : ℕ) (g : Gate) (there : gate_of (without_hold lent k).held j ≡ Some g). left-gate (λ n. nat_eq k n) lent.held j g (subst (λ held. gate_of held j ≡ Some g) lost.held there) in
    let apart = λ (j : ℕ) (kept : nat_eq k j ≡ false). (λ (e : k ≡ j). true≢false (sym (eq-eqb k j e) ∙ kept)) in
    record {
      size = lost.size ∙ same.size;
      gate = λ j g there. (let f = found j g there in let other = apart j f.1 in (sym (same.alike j other) ∙ f.0, other));
      stays = λ j g there other. subst (λ held. gate_of held j ≡ Some g) (sym lost.held) (gate-left (λ n. nat_eq k n) lent.held j g (same.alike j other ∙ there) (ne_eqb k j other));
      holder = λ j t there. left-holder k j t holders (subst (λ hs. holder_of hs j ≡ Some t) is there);
      held = λ j t there other. subst (λ hs. holder_of hs j ≡ Some t) (sym is) (holder-left k j t holders there other);
      within = λ j out. same.within j (lost.within j out);
      apart = lost.sound sound;
      paired = ap (map (λ h. h.ticket)) is ∙ sym (filter-mapped (λ n. not (nat_eq k n)) (λ (h : Holder). h.ticket) holders) ∙ ap (filter (λ n. not (nat_eq k n))) (paired ∙ sym same.tickets)
          ∙ filter-mapped (λ n. not (nat_eq k n)) (λ (g : Gate). g.ticket) lent.held ∙ sym (ap (map (λ g. g.ticket)) lost.held);
      rising = subst (Ordered IsEarlier) (sym is) (ordered-filter IsEarlier (λ h. not (nat_eq k h.ticket)) holders rising);
      fits = (let one = lost.fits in let two = same.fits in omega arith);
    }
