-- Each step keeps the rule of the table.
use Rattle.std.proofs.Common.{◌≡◌, ◌⊎◌, ℕ, true, false, List, [], ◌∷◌, ◌++◌, length, set, get_or, refl, sym, subst, ◌∙◌, inl, inr, ⊎_elim, arith}
use Rattle.std.proofs.Math.ListN.{length-set}
use mathlib.Core.Option.{Option, some}
use lib.ListN.{get_elem?}
use Rattle.atomic_table.specs.Table.{Me, Allows, Joins, Splits, keeps}
use Rattle.atomic_table.proofs.Lists.{at_set, at_snoc, set_again, set_else}
use Rattle.event_cell.specs.declared.rule.SeatView.{SeatView}
use Rattle.event_cell.specs.EventWord.{IsSignalled}
use Rattle.event_cell.specs.Rule.{Knows, AllKnow, IsKept, HasTold, HasSeen, HasCompared, heard_view, blank_view}

-- what the word holds after a write
written : (words : List ℕ) (word : ℕ) → length words ≡ 1 → get_or (set words 0 word) 0 0 ≡ word
written [] word one = absurd (omega arith)
written (x ∷ xs) word one = refl

-- the rule after a write, from what the word and the seats are then
kept-set : (words : List ℕ) (homes : List (Option (Unit {0}))) (views : List SeatView) (signaller word : ℕ) → length words ≡ 1 → (word ≡ 0) ⊎ IsSignalled word → AllKnow signaller word views
    → IsKept (record { words = set words 0 word; homes = homes; views = views })
kept-set words homes views signaller word single holds known =
    let e : get_or (set words 0 word) 0 0 ≡ word = written words word single in record {
      single = simp length-set single;
      holds = subst (λ w. (w ≡ 0) ⊎ IsSignalled w) (sym e) holds;
      signaller = signaller;
      known = subst (λ w. AllKnow signaller w views) (sym e) known;
    }

-- one seat knows something new of the word
known-set : (signaller word seat : ℕ) (v : SeatView) (views : List SeatView) → AllKnow signaller word views → Knows signaller word seat v → AllKnow signaller word (set views seat v)
known-set signaller word seat v views known new = record {
  at = λ i w at. ⊎_elim
      (λ here. subst (λ (z : ℕ × SeatView). Knows signaller word z.0 z.1) (λ k. (sym here.0 k, here.1 k)) new)
      (λ there. known.at i w there.1)
      (at_set views seat i v w at);
}

-- a seat that does not signal knows no more than what it has seen
silent : (signaller word seat : ℕ) (v : SeatView) → v.signals ≡ false → (v.seen ≡ 0) ⊎ (v.seen ≡ word) → Knows signaller word seat v
silent signaller word seat v quiet sees = record { only = λ h. absurd (cc); tells = λ h. absurd (cc); sees = sees }

-- a new seat, which does not signal, has seen nothing or what another has
known-snoc : (signaller word seat : ℕ) (v new : SeatView) (views : List SeatView) → AllKnow signaller word views → get_elem? views seat ≡ some v → new.signals ≡ false
    → (new.seen ≡ 0) ⊎ (new.seen ≡ v.seen) → AllKnow signaller word (set views seat v ++ new ∷ [])
known-snoc signaller word seat v new views known has quiet seen = record {
  at = λ i w at. ⊎_elim
      (λ old. known.at i w (rw set_again at old))
      (λ (e : new ≡ w). subst (Knows signaller word i) e (silent signaller word i new quiet (⊎_elim inl (λ same. ⊎_elim (λ e. inl (same ∙ e)) (λ e. inr (same ∙ e)) (known.at seat v has).sees) seen)))
      (at_snoc (set views seat v) new w i at);
}

-- what the others know once the signaller has put something into a word that was 0
known-told : (signaller word : ℕ) (v : SeatView) (views : List SeatView) → AllKnow signaller 0 views → v.signals ≡ true → v.told ≡ word → v.seen ≡ 0 → AllKnow signaller word (set views signaller v)
known-told signaller word v views known signals told seen = record {
  at = λ i w at. ⊎_elim
      (λ here. subst (λ (z : ℕ × SeatView). Knows signaller word z.0 z.1) (λ k. (sym here.0 k, here.1 k)) (record { only = λ _. refl; tells = λ _. told; sees = inl seen }))
      (λ there. let k = known.at i w there.1 in record { only = k.only; tells = λ h. absurd (there.0 (k.only h)); sees = inl (⊎_elim (λ e. e) (λ e. e) k.sees) })
      (at_set views signaller i v w at);
}

-- birth and twin: a seat is split, and the new one has seen nothing or what the other has
pub splits : (id : ℕ) (v new : SeatView) → new.signals ≡ false → (new.seen ≡ 0) ⊎ (new.seen ≡ v.seen) → Splits IsKept id v v new
splits id v new quiet seen s kept has = record {
  single = kept.single;
  holds = kept.holds;
  signaller = kept.signaller;
  known = known-snoc kept.signaller (get_or s.words 0 0) id v new s.views kept.known has quiet seen;
}

-- check: an event's seat reads the word
pub sees : (slots id : ℕ) (me : Me (Unit {0}) SeatView) → Allows IsKept slots id me 0 (λ n. n) (λ word after. HasSeen me.0 word after.0)
sees slots id me s kept homes has fits =
    let word : ℕ = get_or s.words 0 0 in
    let after : SeatView = record { signals = me.0.signals; told = me.0.told; seen = word } in
    let knew = kept.known.at id me.0 has in
    let knows : Knows kept.signaller word id after = record { only = knew.only; tells = knew.tells; sees = inr refl } in (
      after,
      keeps,
      tt,
      kept-set s.words s.homes (set s.views id after) kept.signaller word kept.single kept.holds (known-set kept.signaller word id after s.views kept.known knows),
      record { now = refl; once = knew.sees; holds = kept.holds },
    )

-- signal: the signaller's seat puts a status into the word
pub tells : (slots id word : ℕ) (me : Me (Unit {0}) SeatView) → IsSignalled word → me.0.signals ≡ true → me.0.told ≡ 0 → Allows IsKept slots id me 0 (λ _. word) (λ _ after. HasTold me.0 word after.0)
tells slots id word me signalled signals untold s kept homes has fits =
    let after : SeatView = record { signals = true; told = word; seen = me.0.seen } in
    let knew = kept.known.at id me.0 has in
    let zero : get_or s.words 0 0 ≡ 0 = sym (knew.tells signals) ∙ untold in
    let unseen : me.0.seen ≡ 0 = ⊎_elim (λ e. e) (λ e. e ∙ zero) knew.sees in
    let before : AllKnow kept.signaller 0 s.views = subst (λ w. AllKnow kept.signaller w s.views) zero kept.known in
    let known = subst (λ i. AllKnow kept.signaller word (set s.views i after)) (sym (knew.only signals)) (known-told kept.signaller word after s.views before refl refl unseen) in (
      after,
      keeps,
      tt,
      kept-set s.words s.homes (set s.views id after) kept.signaller word kept.single (inr signalled) known,
      refl,
    )

-- the signaller's seat hears what another has seen
pub hears : (id : ℕ) (v : SeatView) (other : ℕ) (w : SeatView) → Joins IsKept id v other w (heard_view v w) blank_view
hears id v other w s kept has apart there =
    let word : ℕ = get_or s.words 0 0 in
    let knew = kept.known.at id v has in
    let heard = (kept.known.at other w (sym (set_else s.views id other (heard_view v w) apart) ∙ there)).sees in
    let known = known-set kept.signaller word id (heard_view v w) s.views kept.known (record { only = knew.only; tells = knew.tells; sees = heard }) in
    record {
      single = kept.single;
      holds = kept.holds;
      signaller = kept.signaller;
      known = known-set kept.signaller word other blank_view (set s.views id (heard_view v w)) known (silent kept.signaller word other blank_view refl (inl refl));
    }

-- the signaller's seat compares that with what it told
pub compares : (slots id : ℕ) (me : Me (Unit {0}) SeatView) → me.0.signals ≡ true → Allows IsKept slots id me 0 (λ n. n) (λ _ after. HasCompared me.0 after.0)
compares slots id me signals s kept homes has fits =
    let word : ℕ = get_or s.words 0 0 in
    let knew = kept.known.at id me.0 has in (
      me.0,
      keeps,
      tt,
      kept-set s.words s.homes (set s.views id me.0) kept.signaller word kept.single kept.holds (known-set kept.signaller word id me.0 s.views kept.known knew),
      record { same = refl; agrees = ⊎_elim inl (λ e. inr (e ∙ sym (knew.tells signals))) knew.sees },
    )
