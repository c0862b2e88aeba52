-- How many tokens an entry ends, and what an insertion leaves.
use Rattle.std.proofs.Common.{Bool, List, None, Some, ap, arith, false, inl, inr, is_some, refl, subst, suc, sym, true, zero, ℕ, ◌&&◌, ◌+◌, ◌<◌, ◌∙◌, ◌∷◌, ◌≡◌, ◌≢◌, ◌≤◌}
use Rattle.std.proofs.lemmas.Bool.{and_from, and_left, and_right, cases_eq, eq-eqb, true≢false}
use Rattle.std.specs.Prelude.{if◌then◌else◌}
use Rattle.efi_status.specs.declared.Status.{Status}
use Rattle.history.specs.Eras.{ejects, inserts, is_present}
use Rattle.history.specs.Marks.{IsOutstanding, ending, is_outstanding, mark_of, HoldsBy}
use Rattle.history.specs.Rules.{IsLegal}
use Rattle.history.specs.Setup.{Setup, IsSetup}
use Rattle.history.specs.Tokens.{token_count}
use Rattle.history.specs.declared.entry.Entry.{Entry}
use Rattle.history.specs.declared.entry.Entry.TheVariants.{Insert}
use Rattle.history_laws.proofs.CountLemmas.{accepted-same, ejects-same, inserts-more}
use Rattle.history_laws.proofs.LengthLemmas.{inserts-after-ejects}
use Rattle.history_laws.proofs.MediaLemmas.{open-media}
use Rattle.history_laws.proofs.NextLemmas.{outstanding-from, outstanding-test}
use Rattle.history_laws.proofs.TokenLemmas.{or_else-none, request-some}
use Rattle.history_laws.specs.Left.{end_count_before, end_count}

ended-rises : (S : Setup) (H : List Entry) (e : Entry) (n : ℕ) → end_count_before S H e n ≤ end_count_before S H e (suc n)
unfolding end_count_before
ended-rises S H e n = by (is_outstanding S H n && is_some (ending S H e n))
  where
    by : (b : Bool) → end_count_before S H e n ≤ (if b then end_count_before S H e n + 1 else end_count_before S H e n)
    by true = omega arith
    by false = omega arith

ended-least : (S : Setup) (H : List Entry) (e : Entry) (t n : ℕ) → t < n → (is_outstanding S H t && is_some (ending S H e t)) ≡ true → 1 ≤ end_count_before S H e n
unfolding end_count_before
ended-least S H e t zero below counts = absurd (omega arith)
ended-least S H e t (suc n) below counts = elim (cases_eq t n) [
  | inl same ↦ here same
  | inr other ↦ (let rest = ended-least S H e t n (omega (arith, other)) counts in let more = ended-rises S H e n in omega arith)
]
  where
    here : t ≡ n → 1 ≤ end_count_before S H e (suc n)
    here same = rw (ap (λ m. is_outstanding S H m && is_some (ending S H e m)) (sym same) ∙ counts) (omega arith)

-- an open token that the entry ends is counted
pub ended-some : (S : Setup) (H : List Entry) (e : Entry) (t : ℕ) (status : Status) → IsOutstanding S H t → ending S H e t ≡ Some status → 1 ≤ end_count S H e
unfolding end_count
ended-some S H e t status open_now ends = ended-least S H e t (token_count H) open_now.token (and_from (is_outstanding S H t) (is_some (ending S H e t)) (outstanding-test S H t open_now) (ap is_some ends))

ended-nothing : (S : Setup) (H : List Entry) (e : Entry) (n : ℕ) → ((t : ℕ) → IsOutstanding S H t → ending S H e t ≡ None) → end_count_before S H e n ≡ 0
unfolding end_count_before
ended-nothing S H e zero none = refl
ended-nothing S H e (suc n) none = rw (uncounted (is_outstanding S H n) refl) (ended-nothing S H e n none)
  where
    uncounted : (b : Bool) → is_outstanding S H n ≡ b → (is_outstanding S H n && is_some (ending S H e n)) ≡ false
    uncounted true is = and_right (is_outstanding S H n) (is_some (ending S H e n)) (ap is_some (none n (outstanding-from S H n is)))
    uncounted false is = and_left (is_outstanding S H n) (is_some (ending S H e n)) is

-- an entry that ends no open token is counted so
pub ended-no : (S : Setup) (H : List Entry) (e : Entry) → ((t : ℕ) → IsOutstanding S H t → ending S H e t ≡ None) → end_count S H e ≡ 0
unfolding end_count
ended-no S H e none = ended-nothing S H e (token_count H) none

-- tokens that it does not end are not counted
pub ended-none : (S : Setup) (H : List Entry) (e : Entry) (from n : ℕ) → from ≤ n → ((u : ℕ) → from ≤ u → u < n → (is_outstanding S H u && is_some (ending S H e u)) ≡ false) → end_count_before S H e n ≡ end_count_before S H e from
unfolding end_count_before
ended-none S H e from zero order none = ap (end_count_before S H e) (let same : zero ≡ from = omega arith in same)
ended-none S H e from (suc n) order none = elim (cases_eq from (suc n)) [
  | inl same ↦ ap (end_count_before S H e) (sym same)
  | inr other ↦ rw (none n (omega (arith, other)) (omega arith)) (ended-none S H e from n (omega (arith, other)) (λ u above below. none u above (omega arith)))
]

-- where no medium is in no token is open
pub absent-open : (S : Setup) (H : List Entry) (t : ℕ) → IsLegal S H → is_present H ≡ false → IsOutstanding S H t → ⊥
absent-open S H t legal out open_now =
    let r = request-some H t open_now.token in
    true≢false (sym (open-media S H t r.0 legal open_now r.1).0 ∙ out)

-- an insertion ends no token
pub mark-insert : (S : Setup) (H : List Entry) (tag k t : ℕ) → mark_of S (Insert tag k ∷ H) t ≡ mark_of S H t
unfolding mark_of ending
mark-insert S H tag k t = or_else-none (mark_of S H t)

-- and opens none
pub open-insert : (S : Setup) (H : List Entry) (tag k t : ℕ) → IsOutstanding S (Insert tag k ∷ H) t → IsOutstanding S H t
open-insert S H tag k t open_now = record { token = subst (λ n. t < n) (accepted-same H (Insert tag k) refl) open_now.token; unmarked = sym (mark-insert S H tag k t) ∙ open_now.unmarked }

-- where no medium is in there was one ejection more
pub present-again : (S : Setup) (H : List Entry) (tag k : ℕ) → IsLegal S H → is_present H ≡ false → is_present (Insert tag k ∷ H) ≡ true
present-again S H tag k legal out =
    let counts = inserts-after-ejects S H legal in
    let apart : ejects H ≢ inserts H = (λ same. true≢false (sym (eq-eqb (ejects H) (inserts H) same) ∙ out)) in
    let more : ejects H ≡ inserts H + 1 = (let low = counts.0 in let high = counts.1 in omega (arith, apart)) in
    eq-eqb (ejects (Insert tag k ∷ H)) (inserts (Insert tag k ∷ H)) (ejects-same H (Insert tag k) refl ∙ more ∙ sym (inserts-more H (Insert tag k) refl))

module _ (S : Setup) (H : List Entry) (tag k : ℕ) (setup : IsSetup S) (legal : IsLegal S H) (out : is_present H ≡ false) where
  pub unheld : (t b j : ℕ) → HoldsBy S H t b j → ⊥
  unheld t b j holds = absent-open S H t legal out holds.holds.outstanding

  pub unheld-now : (t b j : ℕ) → HoldsBy S (Insert tag k ∷ H) t b j → ⊥
  unheld-now t b j holds = absent-open S H t legal out (open-insert S H tag k t holds.holds.outstanding)
