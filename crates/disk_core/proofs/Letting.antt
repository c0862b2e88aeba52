-- The gates and holders through an entry that lets go of one gate: a store, or a fault of its token.
use Rattle.std.proofs.Common.{◌≡◌, ℕ, ◌<◌, inl, inr, List, ◌∷◌, None, Some, refl, sym, ◌∙◌, subst, arith}
use Rattle.efi_status.specs.declared.Status.TheVariants.{DeviceError}
use Rattle.block_gate.specs.Gates.{Gates, AreSound}
use Rattle.history.specs.declared.entry.Command.{Command}
use Rattle.history.specs.declared.entry.Command.TheVariants.{Fetch, Store}
use Rattle.history.specs.declared.entry.Entry.{Entry}
use Rattle.history.specs.declared.entry.Entry.TheVariants.{Done, Fault}
use Rattle.history.specs.Setup.{Setup, IsSetup}
use Rattle.history.specs.Marks.{mark_of, Holds, HoldsBy}
use Rattle.history.specs.Rules.{MayCommand, MayFollow, IsLegal}
use Rattle.history_laws.specs.Ranges.{AreToldWhole}
use Rattle.history_laws.proofs.CountLemmas.{fetches-same}
use Rattle.history_laws.proofs.EndLemmas.{mark-fault}
use Rattle.history_laws.proofs.HolderLemmas.{store-frees}
use Rattle.history_laws.proofs.TicketLemmas.{holds-by-one, holds-by-before, holds-by-stays}
use Rattle.disk_core.specs.declared.parts.Holder.{Holder}
use Rattle.disk_core.specs.Facts.{GatesFollow}
use Rattle.disk_core.specs.Closing.{GatesSoFar}
use Rattle.disk_core.specs.Inside.{HoldersFollow}
use Rattle.disk_core.proofs.Released.{IsReleased}
use Rattle.disk_core.proofs.Untouched.{gate-stays}
use Rattle.history_laws.proofs.StoreLemmas.{follows, other-goes, was-holder}

module _ (S : Setup) (H : List Entry) (t b k : ℕ) (setup : IsSetup S) (told : AreToldWhole S) (legal : IsLegal S H) (may : MayCommand S H t (Store b)) (holds : HoldsBy S H t b k)
    (before : Gates) (holders : List Holder) (s : Gates) (left : List Holder) (is : IsReleased k before holders s left) (sound : AreSound before) where
  abbrev e : Entry
  e = Done t (Store b)

  pub gates-stored : GatesFollow S H before → GatesFollow S (e ∷ H) s
  gates-stored follow = record {
    sized = is.size ∙ follow.sized;
    each = λ j g there. (let was = is.gate j g there in let own = follow.each j g was.0 in let on = (other-goes S H t b k setup legal may holds) own.0 g.block j own.1.holds was.1 in
        (own.0, gate-stays S H e setup told legal (follows S H t b k setup legal may holds) refl j g own.0 (sound.long j g was.0 ∙ follow.sized) on.0 on.1 own.1));
    all = λ u c j held. (let was = (was-holder S H t b k setup legal may holds) u c j held in
        let gate = follow.all u c j was in
        (gate.0, is.stays j gate.0 gate.1 (λ same. stored u c j held was same), gate.2));
    below = λ j out. subst (λ n. j < n) (sym (fetches-same H e refl)) (follow.below j (is.within j out));
  }
    where
      stored : (u c j : ℕ) → HoldsBy S (e ∷ H) u c j → HoldsBy S H u c j → k ≡ j → ⊥
      stored u c j held was same =
          let one = holds-by-one S H t u b c k holds (subst (HoldsBy S H u c) (sym same) was) in
          store-frees S H t u b setup legal may (subst (Holds S (e ∷ H) u) (sym one.1) held.holds)

  pub holders-stored : (places : ℕ) → HoldersFollow S H before holders places → HoldersFollow S (e ∷ H) s left places
  holders-stored places follow = record {
    each = λ j u c held. (let was = (was-holder S H t b k setup legal may holds) u c j held in is.held j u (follow.each j u c was) (λ same. stored u c j held was same));
    only = λ j u there. (let was = is.holder j u there in let own = follow.only j u was.0 in let on = (other-goes S H t b k setup legal may holds) u own.0 j own.1 was.1 in (own.0, holds-by-stays S H e u own.0 j setup (follows S H t b k setup legal may holds) on.0 on.1 own.1));
    apart = is.apart;
    paired = is.paired;
    rising = is.rising;
    fits = (let one = is.fits in let two = follow.fits in omega arith);
  }
    where
      stored : (u c j : ℕ) → HoldsBy S (e ∷ H) u c j → HoldsBy S H u c j → k ≡ j → ⊥
      stored u c j held was same =
          let one = holds-by-one S H t u b c k holds (subst (HoldsBy S H u c) (sym same) was) in
          store-frees S H t u b setup legal may (subst (Holds S (e ∷ H) u) (sym one.1) held.holds)

-- a token that ended keeps no gate; its other ones are lost next
pub gates-let : (S : Setup) (H : List Entry) (t b k : ℕ) (command : Command) (done : ℕ) → IsSetup S → IsLegal S H → MayFollow S H (Fault t command done) → HoldsBy S H t b k → (before : Gates) (holders : List Holder) (s : Gates) (left : List Holder) (places : ℕ)
    → IsReleased k before holders s left → GatesSoFar S (Fault t command done ∷ H) (mark_of S H) before holders places → GatesSoFar S (Fault t command done ∷ H) (mark_of S H) s left places
unfolding IsLegal
gates-let S H t b k command done setup legal may holds before holders s left places is so_far = record {
  sized = is.size ∙ so_far.sized;
  each = λ j g there. (let was = is.gate j g there in let own = so_far.each j g was.0 in
      (own.0, record { holder = is.held j own.0 own.1.holder was.1; holds = own.1.holds; lent = own.1.lent; copied = own.1.copied }));
  all = λ u c j held. (let gate = so_far.all u c j held in (gate.0, is.stays j gate.0 gate.1 (λ same. ended u c j held same), gate.2));
  below = λ j out. so_far.below j (is.within j out);
  apart = is.apart;
  paired = is.paired;
  rising = is.rising;
  fits = (let one = is.fits in let two = so_far.fits in omega arith);
}
  where
    clash : Some DeviceError ≡ None → ⊥
    clash e = cc

    no-fetch : (u c : ℕ) → Fault t command done ≡ Done u (Fetch c) → ⊥
    no-fetch u c e = cc

    was-held : (u c j : ℕ) → HoldsBy S (Fault t command done ∷ H) u c j → HoldsBy S H u c j
    was-held u c j held = elim (holds-by-before S H (Fault t command done) u c j setup (legal, may) held) [
      | inl was ↦ was
      | inr fetched ↦ absurd (no-fetch u c fetched.0)
    ]

    ended : (u c j : ℕ) → HoldsBy S (Fault t command done ∷ H) u c j → k ≡ j → ⊥
    ended u c j held same =
        let one = holds-by-one S H t u b c k holds (subst (HoldsBy S H u c) (sym same) (was-held u c j held)) in
        clash (sym (mark-fault S H t command done holds.holds.outstanding.unmarked) ∙ subst (λ v. mark_of S (Fault t command done ∷ H) v ≡ None) (sym one.0) held.holds.outstanding.unmarked)
