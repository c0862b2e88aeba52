-- What callers need of the gates: the gate of a ticket, and whether its work is out, after each call.
use Rattle.std.proofs.Common.{◌≡◌, ℕ, Bool, true, false, cond, List, [], ◌∷◌, ◌++◌, ◌<◌, ◌≤◌, min, Option, None, Some, option_map, eqb, inl, inr, eq-eqb, refl, sym, ◌∙◌, ap, arith}
use Rattle.std.specs.List.{list_any}
use Rattle.std.proofs.lemmas.Bool.{cases_Bool, cases_lt, ne_eqb, eqb-true, or_left, or_right}
use Rattle.std.proofs.Math.Nat.{min_comm, min-eq_left}
use Rattle.block_gate.specs.Gates.{Gate, gate_of, is_block_held, lesser, least_ticket, without_ticket, with_out}

pub gate-new : (held : List Gate) (t : ℕ) (g : Gate) → gate_of held t ≡ None → g.ticket ≡ t → gate_of (held ++ g ∷ []) t ≡ Some g
unfolding gate_of
gate-new [] t g none is = rw (eq-eqb t g.ticket (sym is)) refl
gate-new (h ∷ held) t g none is = elim (cases_Bool (eqb t h.ticket)) [
  | inl here ↦ let never : Some h ≡ None = rw here at none in cc
  | inr other ↦ let later : gate_of held t ≡ None = rw other at none in rw other (gate-new held t g later is)
]

pub gate-of-others : (held : List Gate) (t : ℕ) (g : Gate) → (g.ticket ≡ t → ⊥) → gate_of (held ++ g ∷ []) t ≡ gate_of held t
unfolding gate_of
gate-of-others [] t g other = rw (ne_eqb t g.ticket (λ is. other (sym is))) refl
gate-of-others (h ∷ held) t g other = ap (cond (eqb t h.ticket) (Some h)) (gate-of-others held t g other)

pub gate-turned : (held : List Gate) (t : ℕ) (out : Bool) → gate_of (with_out t out held) t ≡ option_map (λ (g : Gate). record g { out = out }) (gate_of held t)
unfolding gate_of with_out
gate-turned [] t out = refl
gate-turned (h ∷ held) t out = elim (cases_Bool (eqb t h.ticket)) [ inl here ↦ rw (here, here) refl | inr other ↦ rw (other, other) (gate-turned held t out) ]

pub gate-turned-other : (held : List Gate) (t u : ℕ) (out : Bool) → (t ≡ u → ⊥) → gate_of (with_out t out held) u ≡ gate_of held u
unfolding gate_of with_out
gate-turned-other [] t u out other = refl
gate-turned-other (h ∷ held) t u out other = elim (cases_Bool (eqb t h.ticket)) [
  | inl here ↦
      let apart : eqb u h.ticket ≡ false = ne_eqb u h.ticket (λ is. other (eqb-true t h.ticket here ∙ sym is)) in
      rw (here, apart) (gate-turned-other held t u out other)
  | inr not-it ↦ rw not-it (ap (cond (eqb u h.ticket) (Some h)) (gate-turned-other held t u out other))
]

pub gate-without : (held : List Gate) (t : ℕ) → gate_of (without_ticket t held) t ≡ None
unfolding gate_of without_ticket
gate-without [] t = refl
gate-without (h ∷ held) t = elim (cases_Bool (eqb t h.ticket)) [ inl here ↦ rw here (gate-without held t) | inr other ↦ rw (other, other) (gate-without held t) ]

pub gate-without-other : (held : List Gate) (t u : ℕ) → (t ≡ u → ⊥) → gate_of (without_ticket t held) u ≡ gate_of held u
unfolding gate_of without_ticket
gate-without-other [] t u other = refl
gate-without-other (h ∷ held) t u other = elim (cases_Bool (eqb t h.ticket)) [
  | inl here ↦
      let apart : eqb u h.ticket ≡ false = ne_eqb u h.ticket (λ is. other (eqb-true t h.ticket here ∙ sym is)) in
      rw (here, apart) (gate-without-other held t u other)
  | inr not-it ↦ rw not-it (ap (cond (eqb u h.ticket) (Some h)) (gate-without-other held t u other))
]

-- ---- whether a block is held

pub held-by : (held : List Gate) (t : ℕ) (g : Gate) → gate_of held t ≡ Some g → is_block_held held g.block ≡ true
unfolding gate_of is_block_held
held-by [] t g is = cc
held-by (h ∷ held) t g is = elim (cases_Bool (eqb t h.ticket)) [
  | inl here ↦
      let same : Some h ≡ Some g = rw here at is in
      let one : h ≡ g = cc in
      or_left (eqb h.block g.block) (list_any (λ x. eqb x.block g.block) held) (eq-eqb h.block g.block (ap (λ (x : Gate). x.block) one))
  | inr other ↦
      let later : gate_of held t ≡ Some g = rw other at is in
      or_right (eqb h.block g.block) (list_any (λ x. eqb x.block g.block) held) (held-by held t g later)
]

-- ---- the least ticket

some-lesser : (t : ℕ) (o : Option ℕ) → lesser t o ≡ None → ⊥
unfolding lesser
some-lesser t None is = cc
some-lesser t (Some u) is = cc

pub least-none : (held : List Gate) → least_ticket held ≡ None → held ≡ []
unfolding least_ticket
least-none [] is = refl
least-none (h ∷ held) is = absurd (some-lesser h.ticket (least_ticket held) is)

lesser-else : (t u : ℕ) (o : Option ℕ) → lesser u o ≡ Some t → (t ≡ u → ⊥) → o ≡ Some t
unfolding lesser
lesser-else t u None is other = absurd (other (let same : Some u ≡ Some t = is in cc))
lesser-else t u (Some v) is other =
    let least : min u v ≡ t = (let same : Some (min u v) ≡ Some t = is in cc) in
    elim (cases_lt u v) [
      | inl below ↦ absurd (other (sym least ∙ min-eq_left (omega arith)))
      | inr above ↦ ap Some (sym (min_comm u v ∙ min-eq_left above) ∙ least)
    ]

apart-of : (t u : ℕ) → eqb t u ≡ false → t ≡ u → ⊥
apart-of t u other same = let never : true ≡ false = sym (eq-eqb t u same) ∙ other in cc

found-later : (h : Gate) (held : List Gate) (t : ℕ) → eqb t h.ticket ≡ false → (g : Gate) × (gate_of held t ≡ Some g) → (g : Gate) × (gate_of (h ∷ held) t ≡ Some g)
unfolding gate_of
found-later h held t other (g, later) = (g, rw other later)

pub least-some : (held : List Gate) (t : ℕ) → least_ticket held ≡ Some t → (g : Gate) × (gate_of held t ≡ Some g)
unfolding least_ticket gate_of
least-some [] t is = cc
least-some (h ∷ held) t is = elim (cases_Bool (eqb t h.ticket)) [
  | inl here ↦ (h, rw here refl)
  | inr other ↦ found-later h held t other (least-some held t (lesser-else t h.ticket (least_ticket held) is (apart-of t h.ticket other)))
]

none-of : (u : ℕ) → gate_of [] u ≡ None
unfolding gate_of
none-of u = refl
