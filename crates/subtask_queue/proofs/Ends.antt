-- The first units of all tokens after each call, and the least token from some token on.
use Rattle.std.proofs.Common.{◌≡◌, ◌≢◌, ℕ, ◌<◌, ◌≤◌, true, false, cond, not, nat_eq, List, [], ◌∷◌, length, Option, None, Some, is_some, option_map, IfSome, IfNone, inl, inr, eq-eqb, refl, sym, ◌∙◌, ap, subst, arith}
use Rattle.std.specs.Prelude.{nat_le, Result, Ok, Err, OnOk}
use Rattle.std.specs.List.{find, filter, count_by}
use Rattle.std.proofs.lemmas.Bool.{cases_Bool, cases_lt, cases_eq, ne_eqb}
use Rattle.std.proofs.lemmas.Bool.Decides.{nat_tests}
use Rattle.subtask_queue.specs.declared.sub.Sub.{Sub}
use Rattle.subtask_queue.specs.Subs.{token_of, is_of, is_from, is_unit, without_first, without_token, AreBelow}
use Rattle.subtask_queue.specs.Owned.{subs_in, is_own, is_node, first_node, without_one, AreOf, AreRising, AreAppended, waiting_in}
use Rattle.subtask_queue.specs.Firsts.{FirstNodes, first_at, IsLeast, AreLed}
use Rattle.subtask_queue.proofs.Walks.{not-of, node-own, later-none}
use Rattle.subtask_queue.proofs.Places.{place-of}
use Rattle.subtask_queue.proofs.Leading.{of-own, other-own, none-taken, rising-without, rising-filter, rising-append, subs-without, subs-filter, subs-count, first-without, first-filter, none-filter, first-before, first-behind, none-own, none-below, first-all, filter-none, count-none}

first-head : (t : ℕ) (e : ℕ × Sub) (us : List (ℕ × Sub)) → token_of e.1 ≡ t → first_node (is_own t) (e ∷ us) ≡ Some e.0
unfolding first_node
first-head t e us is = rw (of-own t e is) refl

first-tail : (t : ℕ) (e : ℕ × Sub) (us : List (ℕ × Sub)) → token_of e.1 ≢ t → first_node (is_own t) (e ∷ us) ≡ first_node (is_own t) us
unfolding first_node
first-tail t e us differ = rw (other-own (token_of e.1) t e (λ is. differ (sym is)) (of-own (token_of e.1) e refl)) refl

found-from : (token : ℕ) (e : ℕ × Sub) (us : List (ℕ × Sub)) → token ≤ token_of e.1 → option_map token_of (find (is_from token) (subs_in (e ∷ us))) ≡ Some (token_of e.1)
unfolding subs_in is_from
found-from token e us from = let is : nat_le token (token_of e.1) ≡ true = grind (arith, nat_tests) in rw is refl

later-from : (token : ℕ) (e : ℕ × Sub) (us : List (ℕ × Sub)) → token_of e.1 < token → option_map token_of (find (is_from token) (subs_in (e ∷ us))) ≡ option_map token_of (find (is_from token) (subs_in us))
unfolding subs_in is_from
later-from token e us below = let is : nat_le token (token_of e.1) ≡ false = grind (arith, nat_tests) in rw is refl

pub least-is : (first : ℕ → Option ℕ) (token k least : ℕ) (us : List (ℕ × Sub)) → AreRising least us → ((t : ℕ) → token ≤ t → first t ≡ first_node (is_own t) us) → IsLeast first token k
    → Some k ≡ option_map token_of (find (is_from token) (subs_in us))
unfolding AreRising first_node
least-is first token k least [] rising is found = let never : true ≡ false = sym found.some ∙ ap is_some (is k found.from) in cc
least-is first token k least (e ∷ us) rising is found = elim (cases_lt (token_of e.1) token) [
  | inl below ↦ least-is first token k (token_of e.1) us rising.1 (λ t from. is t from ∙ first-tail t e us (λ same. omega arith)) found ∙ sym (later-from token e us below)
  | inr from ↦ elim (cases_lt (token_of e.1) k) [
    | inl before ↦
        let never : Some e.0 ≡ None = sym (first-head (token_of e.1) e us refl) ∙ sym (is (token_of e.1) (omega arith)) ∙ found.least (token_of e.1) (omega arith) before in cc
    | inr after ↦ elim (cases_eq (token_of e.1) k) [
      | inl same ↦ ap Some (sym same) ∙ sym (found-from token e us (omega arith))
      | inr differ ↦
          let low : k < token_of e.1 = omega arith in
          let none : first_node (is_own k) (e ∷ us) ≡ None = later-none k (token_of e.1) (is_own k) (e ∷ us) (λ f own. own) (omega arith, rising.1) low in
          let never : true ≡ false = sym found.some ∙ ap is_some (is k found.from ∙ none) in cc
    ]
  ]
]

pub none-from : (first : ℕ → Option ℕ) (token : ℕ) (us : List (ℕ × Sub)) → ((t : ℕ) → token ≤ t → first t ≡ first_node (is_own t) us) → ((t : ℕ) → token ≤ t → first t ≡ None)
    → None ≡ option_map token_of (find (is_from token) (subs_in us))
unfolding subs_in
none-from first token [] is none = refl
none-from first token (e ∷ us) is none = elim (cases_lt (token_of e.1) token) [
  | inl below ↦ none-from first token us (λ t from. is t from ∙ first-tail t e us (λ same. omega arith)) none ∙ sym (later-from token e us below)
  | inr from ↦
      let never : Some e.0 ≡ None = sym (first-head (token_of e.1) e us refl) ∙ sym (is (token_of e.1) (omega arith)) ∙ none (token_of e.1) (omega arith) in cc
]

pub token-from-is : (o : Option ℕ) (firsts : FirstNodes) (token : ℕ) (us : List (ℕ × Sub)) → AreLed us firsts → IfSome o (λ k. IsLeast (first_at firsts) token k) → IfNone o ((t : ℕ) → token ≤ t → first_at firsts t ≡ None)
    → o ≡ option_map token_of (find (is_from token) (subs_in us))
token-from-is None firsts token us led some none = none-from (first_at firsts) token us (λ t from. led.first t) none
token-from-is (Some k) firsts token us led some none = least-is (first_at firsts) token k 0 us led.rising (λ t from. led.first t) some

none-node : (token block : ℕ) (us : List (ℕ × Sub)) → first_node (is_own token) us ≡ None → first_node (is_node token block) us ≡ None
unfolding first_node
none-node token block [] none = refl
none-node token block (e ∷ us) none = elim (cases_Bool (is_own token e)) [
  | inl own ↦ let never : Some e.0 ≡ None = rw own at none in cc
  | inr other ↦ rw (not-of (is_node token block) (is_own token) e (node-own token block e) other) (none-node token block us (rw other at none))
]

pub absent-is : (token block : ℕ) (us : List (ℕ × Sub)) → first_node (is_own token) us ≡ None → subs_in us ≡ without_first (is_unit token block) (subs_in us)
absent-is token block us none = ap subs_in (none-taken (is_node token block) us (none-node token block us none)) ∙ subs-without token block us

pub gone-is : (token : ℕ) (us : List (ℕ × Sub)) → first_node (is_own token) us ≡ None → subs_in us ≡ without_token token (subs_in us)
gone-is token us none = ap subs_in (filter-none (is_own token) us none) ∙ subs-filter token us

pub none-count : (token : ℕ) (us : List (ℕ × Sub)) → first_node (is_own token) us ≡ None → 0 ≡ count_by (is_of token) (subs_in us)
none-count token us none = sym (count-none (is_own token) us none) ∙ subs-count token us

by-token : (token t : ℕ) (own other was is : Option ℕ) → is ≡ cond (nat_eq t token) own was → (t ≡ token → own ≡ other) → (t ≢ token → was ≡ other) → is ≡ other
by-token token t own other was is at here there = elim (cases_eq t token) [
  | inl same ↦ at ∙ rw (eq-eqb t token same) (here same)
  | inr differ ↦ at ∙ rw (ne_eqb t token differ) (there differ)
]

pub led-finished : (token block : ℕ) (us vs : List (ℕ × Sub)) (firsts after : FirstNodes) (next : Option ℕ) → AreLed us firsts → vs ≡ without_one (is_node token block) us → next ≡ first_node (is_own token) vs
    → ((t : ℕ) → first_at after t ≡ cond (nat_eq t token) next (first_at firsts t)) → AreLed vs after
led-finished token block us vs firsts after next led is first at = record {
  rising = rw is (rising-without 0 (is_node token block) us led.rising);
  first = λ t. by-token token t next (first_node (is_own t) vs) (first_at firsts t) (first_at after t) (at t) (λ same. first ∙ ap (λ k. first_node (is_own k) vs) (sym same))
      (λ differ. led.first t ∙ first-without token block t us differ ∙ ap (first_node (is_own t)) (sym is));
}

pub led-dropped : (token : ℕ) (us vs : List (ℕ × Sub)) (firsts after : FirstNodes) → AreLed us firsts → vs ≡ filter (λ e. not (is_own token e)) us
    → ((t : ℕ) → first_at after t ≡ cond (nat_eq t token) None (first_at firsts t)) → AreLed vs after
led-dropped token us vs firsts after led is at = record {
  rising = rw is (rising-filter 0 (λ e. not (is_own token e)) us led.rising);
  first = λ t. by-token token t None (first_node (is_own t) vs) (first_at firsts t) (first_at after t) (at t) (λ same. none-filter (is_own token) us ∙ ap (first_node (is_own token)) (sym is) ∙ ap (λ k. first_node (is_own k) vs) (sym same))
      (λ differ. led.first t ∙ first-filter token t us differ ∙ ap (first_node (is_own t)) (sym is));
}

pub led-added : (token : ℕ) (subs : List Sub) (us vs : List (ℕ × Sub)) (firsts mid after : FirstNodes) (first : Option ℕ) → AreLed us firsts → AreBelow token (subs_in us) → AreOf token subs → AreAppended subs first us vs
    → ((t : ℕ) → first_at mid t ≡ first_at firsts t) → ((t : ℕ) → first_at after t ≡ cond (nat_eq t token) first (first_at mid t)) → AreLed vs after
led-added token subs us vs firsts mid after first led below of behind same at =
    let own : AreOf token (subs_in behind.units) = subst (AreOf token) (sym behind.subs_is) of in
    record {
      rising = rw behind.value (rising-append 0 token us behind.units (omega arith) led.rising below own);
      first = λ t. by-token token t first (first_node (is_own t) vs) (first_at mid t) (first_at after t) (at t)
          (λ is. behind.first_is ∙ first-all token behind.units own ∙ first-behind token us behind.units (none-below token us below) ∙ ap (first_node (is_own token)) (sym behind.value) ∙ ap (λ k. first_node (is_own k) vs) (sym is))
          (λ differ. same t ∙ led.first t ∙ first-before t us behind.units (none-own token t behind.units differ own) ∙ ap (first_node (is_own t)) (sym behind.value));
    }

pub led-none : (us : List (ℕ × Sub)) (firsts : FirstNodes) → us ≡ [] → ((t : ℕ) → first_at firsts t ≡ None) → AreLed us firsts
unfolding first_node AreRising
led-none us firsts is none = record { rising = rw is tt; first = λ t. none t ∙ ap (first_node (is_own t)) (sym is) }

pub firsts-none : (us : List (ℕ × Sub)) (firsts : FirstNodes) → AreLed us firsts → us ≡ [] → (t : ℕ) → first_at firsts t ≡ None
unfolding first_node
firsts-none us firsts led is t = led.first t ∙ ap (first_node (is_own t)) is

below-from : (token t : ℕ) (subs : List Sub) → token ≤ t → AreBelow token subs → AreBelow t subs
unfolding AreBelow
below-from token t [] from below = tt
below-from token t (s ∷ subs) from below = (let low = below.0 in omega arith, below-from token t subs from below.1)

pub none-after : (us : List (ℕ × Sub)) (firsts : FirstNodes) (token t : ℕ) → AreLed us firsts → AreBelow token (subs_in us) → token ≤ t → first_at firsts t ≡ None
none-after us firsts token t led below from = led.first t ∙ none-below t us (below-from token t (subs_in us) from below)

pub base-below : (us : List (ℕ × Sub)) (firsts : FirstNodes) (token : ℕ) → AreLed us firsts → AreBelow token (subs_in us) → 0 < length us → firsts.base ≤ token
unfolding AreBelow subs_in
base-below [] firsts token led below some = absurd (omega arith)
base-below (e ∷ us) firsts token led below some =
    let after = (place-of firsts (token_of e.1) e.0 (led.first (token_of e.1) ∙ first-head (token_of e.1) e us refl)).after in
    let low = below.0 in
    omega arith

pub none-waiting : (linked : Option (List Sub)) → is_some linked ≡ false → waiting_in linked ≡ []
unfolding waiting_in
none-waiting None none = refl
none-waiting (Some subs) none = cc

pub ok-then : {T E P Q : Type 0} (r : Result T E) → OnOk r P → (P → Q) → OnOk r Q
ok-then (Ok x) is then' = then' is
ok-then (Err e) is then' = tt
