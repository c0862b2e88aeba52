-- Collects of the least uncollected token, one after the other, are the collects in order of number.
use Rattle.std.proofs.Common.{◌≡◌, ◌≢◌, ℕ, zero, suc, ◌+◌, ◌-◌, ◌<◌, ◌≤◌, inl, inr, Bool, true, false, not, ◌&&◌, nat_eq, List, ◌∷◌, Option, None, Some, refl, sym, ◌∙◌, ap, arith}
use Rattle.std.proofs.lemmas.Bool.{cases_eq, and_parts, eqb-true, eq-eqb, ne_eqb, not-true}
use Rattle.history.specs.declared.entry.Entry.{Entry}
use Rattle.history.specs.declared.entry.Entry.TheVariants.{Collect}
use Rattle.history.specs.Setup.{Setup}
use Rattle.history.specs.Tokens.{Request, token_count, request, was_collected}
use Rattle.history.specs.Marks.{first_from, is_outstanding}
use Rattle.history_laws.proofs.CountLemmas.{accepted-same}
use Rattle.history_laws.proofs.PlainLemmas.{mark-collect}
use Rattle.history_laws.proofs.ScanLemmas.{first_from-some, first_from-fails}
use Rattle.history_laws.proofs.TokenLemmas.{request-same, request-accepted, collected-collect, collected-same}
use Rattle.shared_disk.specs.Lines.{has_tag, first_own_open, first_own_left, first_left}
use Rattle.device_workers.specs.Plain.{collect_one, with_collect, collects, with_own_collects, with_last_collects}

-- tokens that are passed over
past : (test : ℕ → Bool) (H : List Entry) (a k m : ℕ) → ((u : ℕ) → a ≤ u → u < a + k → with_collect test H u ≡ H) → collects test H a (k + m) ≡ collects test H (a + k) m
unfolding collects
past test H a zero m skip =
    let e : 0 + m ≡ m = omega arith in
    let f : a + 0 ≡ a = omega arith in
    rw (e, f) refl
past test H a (suc k) m skip =
    let e : suc k + m ≡ suc (k + m) = omega arith in
    let f : a + suc k ≡ a + 1 + k = omega arith in
    rw (e, f) (ap (λ G. collects test G (a + 1) (k + m)) (skip a (omega arith) (omega arith)) ∙ past test H (a + 1) k m (λ u lo hi. skip u (omega arith) (omega arith)))

-- a token that was collected, or whose tag does not pass
pub IsPassed : (ℕ → Bool) → List Entry → ℕ → Type 0
IsPassed test H u = (r : Request) → request H u ≡ Some r → was_collected H u ≡ false → test r.tag ≡ false

passed : (test : ℕ → Bool) (H : List Entry) (u : ℕ) → IsPassed test H u → with_collect test H u ≡ H
unfolding IsPassed
passed test H u is = by (request H u) (was_collected H u) refl refl
  where
    by : (r : Option Request) (was : Bool) → request H u ≡ r → was_collected H u ≡ was → collect_one test H u r was ≡ H
    by None was named before = refl
    by (Some r) true named before = refl
    by (Some r) false named before = rw (is r named before) refl

-- the least token that is not passed over
gather : (test : ℕ → Bool) (H : List Entry) (t : ℕ) (q : Request) → request H t ≡ Some q → was_collected H t ≡ false → test q.tag ≡ true → ((u : ℕ) → u < t → IsPassed test H u)
    → collects test H 0 (token_count H) ≡ collects test (Collect q.tag t ∷ H) 0 (token_count (Collect q.tag t ∷ H))
unfolding collects IsPassed
gather test H t q named uncollected passes before =
    let G : List Entry = Collect q.tag t ∷ H in
    let there : t < token_count H = request-accepted H t q named in
    let e : token_count H ≡ t + suc (token_count H - t - 1) = omega (arith, there) in
    let f : token_count H ≡ (t + 1) + (token_count H - t - 1) = omega (arith, there) in
    let g : 0 + t + 1 ≡ 0 + (t + 1) = omega arith in
    let own : with_collect test H (0 + t) ≡ G = (let z : 0 + t ≡ t = omega arith in rw (z, named, uncollected, passes) refl) in
    let left : collects test H 0 (t + suc (token_count H - t - 1)) ≡ collects test G (0 + t + 1) (token_count H - t - 1) =
    past test H 0 t (suc (token_count H - t - 1)) (λ u lo hi. passed test H u (before u (omega arith))) ∙ ap (λ K. collects test K (0 + t + 1) (token_count H - t - 1)) own in
    let right : collects test G 0 ((t + 1) + (token_count H - t - 1)) ≡ collects test G (0 + (t + 1)) (token_count H - t - 1) =
    past test G 0 (t + 1) (token_count H - t - 1) (λ u lo hi. passed test G u (later u (omega arith))) in
    ap (collects test H 0) e ∙ (left ∙ (ap (λ a. collects test G a (token_count H - t - 1)) g ∙ (sym right ∙ ap (collects test G 0) (sym f ∙ sym (accepted-same H (Collect q.tag t) refl)))))
  where
    later : (u : ℕ) → u < t + 1 → (r : Request) → request (Collect q.tag t ∷ H) u ≡ Some r → was_collected (Collect q.tag t ∷ H) u ≡ false → test r.tag ≡ false
    later u lt r is no_collect = elim (cases_eq t u) [
      | inl same ↦
          let was : was_collected (Collect q.tag t ∷ H) u ≡ true = rw (← same) (collected-collect H q.tag t) in
          cc
      | inr other ↦ before u (omega (arith, lt, other)) r (sym (request-same H (Collect q.tag t) u refl) ∙ is) (sym (collected-same H (Collect q.tag t) u (ne_eqb t u other)) ∙ no_collect)
    ]

-- none is left
gathered : (test : ℕ → Bool) (H : List Entry) → ((u : ℕ) → u < token_count H → IsPassed test H u) → collects test H 0 (token_count H) ≡ H
unfolding collects
gathered test H all =
    let e : token_count H ≡ token_count H + 0 = omega arith in
    ap (collects test H 0) e ∙ past test H 0 (token_count H) 0 (λ u lo hi. passed test H u (all u (omega (arith, hi))))

-- the test of a token of this tag that was not collected
own-passed : (H : List Entry) (tag u : ℕ) → (not (was_collected H u) && has_tag tag (request H u)) ≡ false → IsPassed (λ owner. nat_eq owner tag) H u
unfolding IsPassed
own-passed H tag u fails r named uncollected = rw (uncollected, named) at fails

own-found : (H : List Entry) (tag t : ℕ) → (not (was_collected H t) && has_tag tag (request H t)) ≡ true → (was_collected H t ≡ false) × ((q : Request) × (request H t ≡ Some q) × (q.tag ≡ tag))
own-found H tag t is =
    let parts : (not (was_collected H t) ≡ true) × (has_tag tag (request H t) ≡ true) = and_parts (not (was_collected H t)) (has_tag tag (request H t)) is in
    (not-true (was_collected H t) parts.0, by (request H t) refl parts.1)
  where
    by : (o : Option Request) → request H t ≡ o → has_tag tag o ≡ true → (q : Request) × (request H t ≡ Some q) × (q.tag ≡ tag)
    by None named own = cc
    by (Some q) named own = (q, named, eqb-true q.tag tag own)

-- a client's least token is handed back
pub own-next : (H : List Entry) (tag t : ℕ) → first_own_left H tag ≡ Some t → with_own_collects (Collect tag t ∷ H) tag ≡ with_own_collects H tag
unfolding with_own_collects first_own_left
own-next H tag t least =
    let (lo, hi, here, before) = first_from-some (λ u. not (was_collected H u) && has_tag tag (request H u)) 0 (token_count H) t least in
    let (uncollected, (q, named, own)) = own-found H tag t here in
    let next : collects (λ owner. nat_eq owner tag) H 0 (token_count H) ≡ collects (λ owner. nat_eq owner tag) (Collect q.tag t ∷ H) 0 (token_count (Collect q.tag t ∷ H)) =
    gather (λ owner. nat_eq owner tag) H t q named uncollected (eq-eqb q.tag tag own) (λ u less. own-passed H tag u (before u (omega arith) less)) in
    sym (rw own at next)

-- it has none left
pub own-over : (H : List Entry) (tag : ℕ) → first_own_left H tag ≡ None → with_own_collects H tag ≡ H
unfolding with_own_collects first_own_left
own-over H tag none =
    gathered (λ owner. nat_eq owner tag) H (λ u less. own-passed H tag u (first_from-fails (λ v. not (was_collected H v) && has_tag tag (request H v)) 0 (token_count H) u none (omega arith) (omega (arith, less))))

not-false : (b : Bool) → not b ≡ false → b ≡ true
not-false true is = refl
not-false false is = cc

left-passed : (test : ℕ → Bool) (H : List Entry) (u : ℕ) → not (was_collected H u) ≡ false → IsPassed test H u
unfolding IsPassed
left-passed test H u fails r named uncollected = let was : was_collected H u ≡ true = not-false (was_collected H u) fails in cc

-- the least token of all is handed back, which is a client's
pub last-next : (H : List Entry) (t : ℕ) (q : Request) → first_left H ≡ Some t → request H t ≡ Some q → q.tag ≢ 0 → with_last_collects (Collect q.tag t ∷ H) ≡ with_last_collects H
unfolding with_last_collects first_left
last-next H t q least named own =
    let (lo, hi, here, before) = first_from-some (λ u. not (was_collected H u)) 0 (token_count H) t least in
    sym (gather (λ tag. not (nat_eq tag 0)) H t q named (not-true (was_collected H t) here) (ap not (ne_eqb q.tag 0 own)) (λ u less. left-passed (λ tag. not (nat_eq tag 0)) H u (before u (omega arith) less)))

-- none is left
pub last-over : (H : List Entry) → first_left H ≡ None → with_last_collects H ≡ H
unfolding with_last_collects first_left
last-over H none =
    gathered (λ tag. not (nat_eq tag 0)) H (λ u less. left-passed (λ tag. not (nat_eq tag 0)) H u (first_from-fails (λ v. not (was_collected H v)) 0 (token_count H) u none (omega arith) (omega (arith, less))))

pub all-left : (H : List Entry) → first_left H ≡ None → (t : ℕ) → t < token_count H → was_collected H t ≡ true
unfolding first_left
all-left H none t less = not-false (was_collected H t) (first_from-fails (λ v. not (was_collected H v)) 0 (token_count H) t none (omega arith) (omega (arith, less)))

-- a collect leaves which tokens are outstanding
pub own-open-collect : (S : Setup) (H : List Entry) (tag t owner : ℕ) → first_own_open S (Collect tag t ∷ H) owner ≡ first_own_open S H owner
unfolding first_own_open
own-open-collect S H tag t owner =
    ap (first_from (λ u. is_outstanding S (Collect tag t ∷ H) u && has_tag owner (request (Collect tag t ∷ H) u)) 0) (accepted-same H (Collect tag t) refl)
    ∙ ap (λ f. first_from f 0 (token_count H)) (λ i u. each u i)
  where
    each : (u : ℕ) → (is_outstanding S (Collect tag t ∷ H) u && has_tag owner (request (Collect tag t ∷ H) u)) ≡ (is_outstanding S H u && has_tag owner (request H u))
    each u = rw (request-same H (Collect tag t) u refl, mark-collect S H tag t u, accepted-same H (Collect tag t) refl) refl
