-- A block is held by a gate exactly where the history holds its group, and what a new gate leaves.
use Rattle.std.proofs.Common.{◌≡◌, ◌≢◌, ℕ, zero, suc, ◌+◌, ◌-◌, ◌<◌, inl, inr, Bool, true, false, ◌||◌, List, [], ◌∷◌, ◌++◌, length, map, slice_get, Option, None, Some, refl, sym, ◌∙◌, ap, subst, arith, length-append}
use Rattle.std.specs.Prelude.{nat_eq}
use Rattle.std.specs.List.{find, list_any}
use Rattle.std.specs.Option.{option_map}
use Rattle.std.proofs.lemmas.Bool.{cases_Bool, eq-eqb, ne_eqb, eqb-true, false_from_ne_true, or_left}
use Rattle.index_links.specs.Lists.{is_among}
use Rattle.block_gate.specs.Gates.{Gate, Gates, gate_of, is_block_held, is_out, is_lent, with_gate, with_work_out}
use Rattle.block_gate.proofs.GatesLemmas.{gate-new, gate-of-others, gate-turned, gate-turned-other}
use Rattle.history.specs.declared.entry.Entry.{Entry}
use Rattle.history.specs.Setup.{Setup, IsSetup}
use Rattle.history.specs.Marks.{is_held, fetches, Holds, HoldsBy}
use Rattle.history.specs.Rules.{IsLegal}
use Rattle.history_laws.specs.Pending.{Ordered}
use Rattle.history_laws.proofs.HolderLemmas.{holder-held, holds-start}
use Rattle.history_laws.proofs.OrderLemmas.{ordered-map, ordered-append}
use Rattle.history_laws.proofs.TicketLemmas.{holds-by-below}
use Rattle.disk_core.specs.declared.parts.Holder.{Holder}
use Rattle.disk_core.specs.Facts.{GatesFollow}
use Rattle.disk_core.specs.Parts.{holder_of}
use Rattle.disk_core.specs.Inside.{IsEarlier, HoldersFollow}
use Rattle.disk_core.proofs.Revoked.{holder-at, turned-long, turned-tickets}

abbrev IsLess : ℕ → ℕ → Type 0
IsLess one other = one < other

-- a gate is found by its ticket
gate-at : (held : List Gate) (i : ℕ) (g : Gate) → Ordered IsLess (map (λ (h : Gate). h.ticket) held) → slice_get held i ≡ Some g → gate_of held g.ticket ≡ Some g
unfolding gate_of Ordered
gate-at [] i g rising there = cc
gate-at (x ∷ held) zero g rising there =
    let same : x ≡ g = (let e : Some x ≡ Some g = there in cc) in
    subst (λ (y : Gate). find (λ (z : Gate). nat_eq y.ticket z.ticket) (x ∷ held) ≡ Some y) same (rw (eq-eqb x.ticket x.ticket refl) refl)
gate-at (x ∷ held) (suc i) g rising there =
    let below : x.ticket < g.ticket = rising.0 i g.ticket (mapped held i there) in
    rw (ne_eqb g.ticket x.ticket (λ same. absurd (omega arith))) (gate-at held i g rising.1 there)
  where
    mapped : (gs : List Gate) (j : ℕ) → slice_get gs j ≡ Some g → slice_get (map (λ (h : Gate). h.ticket) gs) j ≡ Some g.ticket
    mapped [] j is = cc
    mapped (h ∷ gs) zero is = ap (option_map (λ (z : Gate). z.ticket)) is
    mapped (h ∷ gs) (suc j) is = mapped gs j is

any-at : (test : Gate → Bool) (held : List Gate) → list_any test held ≡ true → (i : ℕ) × (g : Gate) × (slice_get held i ≡ Some g) × (test g ≡ true)
any-at test [] is = cc
any-at test (g ∷ held) is = elim (cases_Bool (test g)) [
  | inl here ↦ (0, g, refl, here)
  | inr other ↦ (let rest = any-at test held (rw other at is) in (suc rest.0, rest.1, rest.2, rest.3))
]

module _ (S : Setup) (H : List Entry) (gates : Gates) (holders : List Holder) (places : ℕ) (setup : IsSetup S) (legal : IsLegal S H) (follow : GatesFollow S H gates) (holding_ : HoldersFollow S H gates holders places) where
  -- the gate of a held block
  pub block-gate : (b : ℕ) → is_block_held gates.held b ≡ true → (t k : ℕ) × HoldsBy S H t b k
  unfolding is_block_held
  block-gate b is =
      let found = any-at (λ g. nat_eq g.block b) gates.held is in
      let i = found.0 in let g = found.1 in let at = found.2 in
      let block = eqb-true g.block b found.3 in
      let rising : Ordered IsLess (map (λ (h : Gate). h.ticket) gates.held) = subst (Ordered IsLess) holding_.paired (ordered-map IsEarlier IsLess (λ (h : Holder). h.ticket) holders (λ x y below. below) holding_.rising) in
      let there = gate-at gates.held i g rising at in
      let is_gate = follow.each g.ticket g there in
      (is_gate.0, g.ticket, subst (λ v. HoldsBy S H is_gate.0 v g.ticket) block is_gate.1.holds)

  pub held-block : (b : ℕ) → is_block_held gates.held b ≡ true → is_held S H b ≡ true
  held-block b is =
      let gate = block-gate b is in
      let starts = holds-start S H gate.0 b setup legal gate.2.holds in
      holder-held S H gate.0 b (subst (Holds S H gate.0) (sym starts) gate.2.holds)

  pub unheld-block : (b : ℕ) → is_held S H b ≡ false → is_block_held gates.held b ≡ false
  unheld-block b free = false_from_ne_true (is_block_held gates.held b) (λ is. clash (sym (held-block b is) ∙ free))
    where
      clash : true ≡ false → ⊥
      clash e = cc

  -- the next ticket is new
  pub ticket-new : gate_of gates.held (fetches H) ≡ None
  ticket-new = by (gate_of gates.held (fetches H)) refl
    where
      by : (o : Option Gate) → gate_of gates.held (fetches H) ≡ o → o ≡ None
      by None is = refl
      by (Some g) is = absurd (let gate = follow.each (fetches H) g is in let below = holds-by-below S H gate.0 g.block (fetches H) gate.1.holds in omega arith)

  pub ticket-unknown : is_among gates.gone (fetches H) ≡ false
  unfolding is_out
  ticket-unknown = false_from_ne_true (is_among gates.gone (fetches H)) (λ is. (let below = follow.below (fetches H) (or_left (is_among gates.gone (fetches H)) (is_lent (gate_of gates.held (fetches H))) is) in absurd (omega arith)))

  pub holder-new : holder_of holders (fetches H) ≡ None
  holder-new = by (holder_of holders (fetches H)) refl
    where
      by : (o : Option ℕ) → holder_of holders (fetches H) ≡ o → o ≡ None
      by None is = refl
      by (Some t) is = absurd (let held = holding_.only (fetches H) t is in let below = holds-by-below S H t held.0 (fetches H) held.1 in omega arith)

  -- holders stand before the one that comes
  pub holders-below : (i : ℕ) (h : Holder) → slice_get holders i ≡ Some h → h.ticket < fetches H
  holders-below i h at = (let held = holding_.only h.ticket h.token (holder-at holders i h holding_.rising at) in holds-by-below S H h.token held.0 h.ticket held.1)

-- a gate more
pub new-gate : (s : Gates) (b k : ℕ) (copy : List ℕ) → gate_of s.held k ≡ None → gate_of (with_work_out (with_gate s b k copy) k).held k ≡ Some (record { ticket = k; block = b; out = true; copy = copy })
unfolding with_work_out with_gate
new-gate s b k copy none =
    let g : Gate = record { ticket = k; block = b; out = false; copy = copy } in
    gate-turned (s.held ++ g ∷ []) k true ∙ ap (option_map (λ (h : Gate). record h { out = true })) (gate-new s.held k g none refl)

pub other-gate : (s : Gates) (b k j : ℕ) (copy : List ℕ) → k ≢ j → gate_of (with_work_out (with_gate s b k copy) k).held j ≡ gate_of s.held j
unfolding with_work_out with_gate
other-gate s b k j copy other =
    let g : Gate = record { ticket = k; block = b; out = false; copy = copy } in
    gate-turned-other (s.held ++ g ∷ []) k j true other ∙ gate-of-others s.held j g other

map-push : {X Y : Type 0} (f : X → Y) (xs : List X) (x : X) → map f (xs ++ x ∷ []) ≡ map f xs ++ f x ∷ []
map-push f [] x = refl
map-push f (y ∷ xs) x = ap (λ rest. f y ∷ rest) (map-push f xs x)

pub new-tickets : (s : Gates) (b k t : ℕ) (copy : List ℕ) (holders : List Holder) → map (λ h. h.ticket) holders ≡ map (λ g. g.ticket) s.held
    → map (λ (h : Holder). h.ticket) (holders ++ record { ticket = k; token = t } ∷ []) ≡ map (λ (g : Gate). g.ticket) (with_work_out (with_gate s b k copy) k).held
unfolding with_work_out with_gate
new-tickets s b k t copy holders paired =
    let g : Gate = record { ticket = k; block = b; out = false; copy = copy } in
    map-push (λ (h : Holder). h.ticket) holders (record { ticket = k; token = t }) ∙ ap (λ ks. ks ++ k ∷ []) paired ∙ sym (turned-tickets k true (s.held ++ g ∷ []) ∙ map-push (λ (h : Gate). h.ticket) s.held g)

pub new-count : (s : Gates) (b k : ℕ) (copy : List ℕ) → length (with_work_out (with_gate s b k copy) k).held ≡ length s.held + 1
unfolding with_work_out with_gate
new-count s b k copy = (let g : Gate = record { ticket = k; block = b; out = false; copy = copy } in turned-long k true (s.held ++ g ∷ []) ∙ length-append s.held (g ∷ []))

pub new-gone : (s : Gates) (b k : ℕ) (copy : List ℕ) → (with_work_out (with_gate s b k copy) k).gone ≡ s.gone
unfolding with_work_out with_gate
new-gone s b k copy = refl

pub new-free : (s : Gates) (b k : ℕ) (copy : List ℕ) → ((with_work_out (with_gate s b k copy) k).free ≡ s.free - 1) × ((with_work_out (with_gate s b k copy) k).size ≡ s.size)
unfolding with_work_out with_gate
new-free s b k copy = (refl, refl)

pub new-out : (s : Gates) (b k j : ℕ) (copy : List ℕ) → k ≢ j → is_out (with_work_out (with_gate s b k copy) k) j ≡ is_out s j
unfolding is_out
new-out s b k j copy other = ap (λ o. is_among (with_work_out (with_gate s b k copy) k).gone j || is_lent o) (other-gate s b k j copy other) ∙ ap (λ v. is_among v j || is_lent (gate_of s.held j)) (new-gone s b k copy)

-- a holder more
pub new-holder : (holders : List Holder) (k t : ℕ) → holder_of holders k ≡ None → holder_of (holders ++ record { ticket = k; token = t } ∷ []) k ≡ Some t
unfolding holder_of
new-holder [] k t none = rw (eq-eqb k k refl) refl
new-holder (h ∷ holders) k t none = elim (cases_Bool (nat_eq k h.ticket)) [
  | inl here ↦ absurd (no-way (sym (rw here refl) ∙ none))
  | inr other ↦ rw other (new-holder holders k t (rw other at none))
]
  where
    no-way : Some h.token ≡ None → ⊥
    no-way e = cc

pub other-holder : (holders : List Holder) (k j t : ℕ) → k ≢ j → holder_of (holders ++ record { ticket = k; token = t } ∷ []) j ≡ holder_of holders j
unfolding holder_of
other-holder [] k j t other = rw (ne_eqb j k (λ same. other (sym same))) refl
other-holder (h ∷ holders) k j t other = elim (cases_Bool (nat_eq j h.ticket)) [
  | inl here ↦ rw here refl
  | inr apart ↦ rw apart (other-holder holders k j t other)
]

none-earlier : (k t : ℕ) → Ordered IsEarlier (record { ticket = k; token = t } ∷ [])
unfolding Ordered
none-earlier k t = (λ j y there. cc, tt)

pub new-rising : (holders : List Holder) (k t : ℕ) → Ordered IsEarlier holders → ((i : ℕ) (h : Holder) → slice_get holders i ≡ Some h → h.ticket < k) → Ordered IsEarlier (holders ++ record { ticket = k; token = t } ∷ [])
new-rising holders k t rising below = ordered-append IsEarlier holders (record { ticket = k; token = t } ∷ []) rising (none-earlier k t) (λ i j x y at at'. later i j x y at at')
  where
    later : (i j : ℕ) (x y : Holder) → slice_get holders i ≡ Some x → slice_get (record { ticket = k; token = t } ∷ []) j ≡ Some y → x.ticket < y.ticket
    later i zero x y at at' =
        let new : Holder = record { ticket = k; token = t } in
        let same : new ≡ y = (let e : Some new ≡ Some y = at' in cc) in
        subst (λ (h : Holder). x.ticket < h.ticket) same (below i x at)
    later i (suc j) x y at at' = cc
