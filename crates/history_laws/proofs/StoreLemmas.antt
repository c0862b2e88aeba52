-- The holders that a store leaves.
use Rattle.history.specs.Commands.{is_at, is_store}
use Rattle.history.specs.Marks.{Holds, HoldsBy, mark_of, ticket_of}
use Rattle.history.specs.Rules.{IsLegal, MayCommand, MayFollow}
use Rattle.history.specs.Setup.{IsSetup, Setup}
use Rattle.history.specs.declared.entry.Command.TheVariants.{Fetch, Store}
use Rattle.history.specs.declared.entry.Entry.{Entry}
use Rattle.history.specs.declared.entry.Entry.TheVariants.{Done}
use Rattle.history_laws.proofs.HoldingLemmas.{held-open}
use Rattle.history_laws.proofs.TicketLemmas.{holds-by-before}
use Rattle.history_laws.proofs.TokenLemmas.{done-concerns, mark-other}
use Rattle.history_laws.specs.Gates.{is_store_of}
use Rattle.std.proofs.Common.{List, None, Some, false, inl, inr, subst, sym, ℕ, ◌&&◌, ◌∙◌, ◌∷◌, ◌≡◌, ◌≢◌}
use Rattle.std.proofs.lemmas.Bool.{and_parts, cases_eq, eqb-true, false_from_ne_true, ne_eqb}
use Rattle.std.specs.Prelude.{nat_eq}

module _ (S : Setup) (H : List Entry) (t b k : ℕ) (setup : IsSetup S) (legal : IsLegal S H) (may : MayCommand S H t (Store b)) (holds : HoldsBy S H t b k) where
  abbrev e : Entry
  e = Done t (Store b)

  pub follows : MayFollow S H e
  unfolding MayFollow
  follows = may

  pub now : IsLegal S (e ∷ H)
  unfolding IsLegal
  now = (legal, follows)

  pub no-fetch : (u c : ℕ) → e ≡ Done u (Fetch c) → ⊥
  no-fetch u c is = cc

  pub was-holder : (u c j : ℕ) → HoldsBy S (e ∷ H) u c j → HoldsBy S H u c j
  was-holder u c j held = elim (holds-by-before S H e u c j setup now held) [
    | inl was ↦ was
    | inr fetched ↦ absurd (no-fetch u c fetched.0)
  ]

  pub one-ticket : (x y : ℕ) → Some x ≡ Some y → x ≡ y
  one-ticket x y e = cc

  -- another holder goes on
  pub other-goes : (u c j : ℕ) → HoldsBy S H u c j → k ≢ j → (is_store_of u c e ≡ false) × (mark_of S (e ∷ H) u ≡ None)
  other-goes u c j own other = (unstored, goes)
    where
      same-ticket : t ≡ u → b ≡ c → k ≡ j
      same-ticket one two = one-ticket k j (sym (subst (λ v. ticket_of H v c ≡ Some k) one (subst (λ d. ticket_of H t d ≡ Some k) two holds.ticket_is)) ∙ own.ticket_is)

      unstored : (nat_eq t u && nat_eq b c) ≡ false
      unstored = false_from_ne_true (nat_eq t u && nat_eq b c) (λ both. (let parts = and_parts (nat_eq t u) (nat_eq b c) both in other (same-ticket (eqb-true t u parts.0) (eqb-true b c parts.1))))

      goes : mark_of S (e ∷ H) u ≡ None
      goes = elim (cases_eq t u) [
        | inr apart ↦ mark-other S H e u (done-concerns H t u (Store b) apart) ∙ own.holds.outstanding.unmarked
        | inl same ↦
            let group : is_at is_store c (Store b) ≡ false = ne_eqb b c (λ two. other (same-ticket same two)) in
            subst (λ v. mark_of S (e ∷ H) v ≡ None) same (held-open S H t (Store b) c setup legal now group (subst (λ v. Holds S H v c) (sym same) own.holds))
      ]
