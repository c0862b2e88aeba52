-- The works of revoked gates that were lent stay out, and no set is free for them.
use Rattle.std.proofs.Common.{◌≡◌, ℕ, ◌+◌, ◌<◌, inl, inr, true, not, nat_eq, List, [], ◌∷◌, length, map, Option, None, Some, is_some, refl, sym, ◌∙◌, ap, subst, arith}
use Rattle.std.specs.Prelude.{filter, if◌then◌else◌}
use Rattle.std.proofs.lemmas.Bool.{cases_Bool, ne_eqb, eqb-true}
use Rattle.std.proofs.lemmas.List.{length-append}
use Rattle.std.proofs.lemmas.Option.{slice_get-map}
use Rattle.std.specs.Option.{option_map}
use Rattle.std.specs.Cmp.{both_ways}
use Rattle.block_gate.specs.Gates.{Gate, Gates, gate_of, is_out, is_lent, outs, without_hold, without_ticket}
use Rattle.history_laws.specs.Pending.{Ordered}
use Rattle.history_laws.proofs.PendingLemmas.{filter-everything}
use Rattle.history_laws.proofs.OrderLemmas.{ordered-filter, ordered-map}
use Rattle.disk_core.specs.declared.parts.Holder.{Holder}
use Rattle.disk_core.specs.Calls.{Revokes}
use Rattle.disk_core.specs.Inside.{IsEarlier}
use Rattle.disk_core.specs.Moves.{without_gate, without_gates_of, without_gate_of}
use Rattle.disk_core.proofs.Revoked.{release-within, release-still, release-gate, is_ticket_of, revoked-lost, left-gate}
use Rattle.history_laws.proofs.FilterLemmas.{filter-mapped}

abbrev IsLower : ℕ → ℕ → Type 0
IsLower one other = one < other

-- all gates are lent, under tickets that rise
pub record AreLent (held : List Gate) : Type 0 where
  pub lent : (k : ℕ) (g : Gate) → gate_of held k ≡ Some g → g.out ≡ true
  pub rising : Ordered IsLower (map (λ g. g.ticket) held)

-- which of the works are out, how many, and how many sets are free
record StayOut (old new : Gates) : Type 0 where
  works : (k : ℕ) → is_out new k ≡ is_out old k
  count : outs new ≡ outs old
  free : new.free ≡ old.free

one-less : (held : List Gate) (k : ℕ) (g : Gate) → gate_of held k ≡ Some g → g.out ≡ true → Ordered IsLower (map (λ g. g.ticket) held)
    → length (filter (λ h. h.out) (filter (λ h. not (nat_eq k h.ticket)) held)) + 1 ≡ length (filter (λ h. h.out) held)
unfolding gate_of Ordered
one-less [] k g is out rising = cc
one-less (h ∷ held) k g is out rising = elim (cases_Bool (nat_eq k h.ticket)) [
  | inl here ↦
      let same : h ≡ g = (let e : Some h ≡ Some g = rw here at is in cc) in
      let lent : h.out ≡ true = ap (λ (x : Gate). x.out) same ∙ out in
      let rest : filter (λ (x : Gate). not (nat_eq k x.ticket)) held ≡ held = filter-everything (λ (x : Gate). not (nat_eq k x.ticket)) held (λ i x there.
      let above : h.ticket < x.ticket = rising.0 i x.ticket (slice_get-map (λ (y : Gate). y.ticket) held i ∙ ap (option_map (λ (y : Gate). y.ticket)) there) in
      let ticket : k ≡ h.ticket = eqb-true k h.ticket here in
      ap not (ne_eqb k x.ticket (λ e. absurd (omega arith)))) in
      rw (here, lent, rest) (omega arith)
  | inr other ↦
      let less = one-less held k g (rw other at is) out rising.1 in
      rw other (elim (cases_Bool h.out) [ inl lent ↦ rw lent (omega arith) | inr isnt ↦ rw isnt less ])
]

release-stays : (s : Gates) (k : ℕ) (g : Gate) → gate_of s.held k ≡ Some g → AreLent s.held → StayOut s (without_hold s k)
unfolding outs without_hold without_ticket is_lent
release-stays s k g is are =
    let lent : is_lent (gate_of s.held k) ≡ true = ap is_lent is ∙ are.lent k g is in
    record {
      works = λ j. both_ways (is_out (without_hold s k) j) (is_out s j) (release-within s k j) (release-still s k j lent);
      count = rw lent (let less = one-less s.held k g is (are.lent k g is) are.rising in let more = length-append s.gone (k ∷ []) in omega arith);
      free = rw lent refl;
    }

release-lent : (s : Gates) (k : ℕ) → AreLent s.held → AreLent (without_hold s k).held
unfolding without_hold without_ticket
release-lent s k are = record {
  lent = λ j g there. are.lent j g (release-gate s k j g there);
  rising = subst (Ordered IsLower) (filter-mapped (λ n. not (nat_eq k n)) (λ (g : Gate). g.ticket) s.held) (ordered-filter IsLower (λ n. not (nat_eq k n)) (map (λ g. g.ticket) s.held) are.rising);
}

stay-all : (s : Gates) → StayOut s s
stay-all s = record { works = λ k. refl; count = refl; free = refl }

one-stays : (t : ℕ) (s : Gates) → AreLent s.held → StayOut s (without_gate s t) × AreLent (without_gate s t).held
one-stays t s are = by (gate_of s.held t) refl
  where
    by : (m : Option Gate) → gate_of s.held t ≡ m → StayOut s (without_gate s t) × AreLent (without_gate s t).held
    by None is = subst (λ m. StayOut s (if is_some m then without_hold s t else s) × AreLent (if is_some m then without_hold s t else s).held) (sym is) (stay-all s, are)
    by (Some g) is = subst (λ m. StayOut s (if is_some m then without_hold s t else s) × AreLent (if is_some m then without_hold s t else s).held) (sym is) (release-stays s t g is are, release-lent s t are)

stay-both : (s mid new : Gates) → StayOut s mid → StayOut mid new → StayOut s new
stay-both s mid new first second = record {
  works = λ k. second.works k ∙ first.works k;
  count = second.count ∙ first.count;
  free = second.free ∙ first.free;
}

revoked-stays : (token : ℕ) (holders : List Holder) (s : Gates) → AreLent s.held → StayOut s (without_gates_of token holders s)
unfolding without_gates_of without_gate_of
revoked-stays token [] s are = stay-all s
revoked-stays token (h ∷ holders) s are = elim (cases_Bool (nat_eq token h.token)) [
  | inl same ↦ rw same (let one = one-stays h.ticket s are in stay-both s (without_gate s h.ticket) (without_gates_of token holders (without_gate s h.ticket)) one.0 (revoked-stays token holders (without_gate s h.ticket) one.1))
  | inr other ↦ rw other (revoked-stays token holders s are)
]

-- the gates of a token are revoked
pub revokes : (token : ℕ) (holders : List Holder) (s : Gates) → AreLent s.held → Revokes s (without_gates_of token holders s)
revokes token holders s are =
    let lost = revoked-lost token holders s in
    let stay = revoked-stays token holders s are in
    record {
      size = lost.size;
      kept = λ k g there. (left-gate (is_ticket_of token holders) s.held k g (ap (λ h. gate_of h k) (sym lost.held) ∙ there)).0;
      works = stay.works;
      count = stay.count;
      free = stay.free;
    }

pub holders-lent : (holders : List Holder) (held : List Gate) → map (λ h. h.ticket) holders ≡ map (λ g. g.ticket) held → Ordered IsEarlier holders → ((k : ℕ) (g : Gate) → gate_of held k ≡ Some g → g.out ≡ true) → AreLent held
holders-lent holders held paired rising lent = record {
  lent = lent;
  rising = subst (Ordered IsLower) paired (ordered-map IsEarlier IsLower (λ (h : Holder). h.ticket) holders (λ x y below. below) rising);
}
