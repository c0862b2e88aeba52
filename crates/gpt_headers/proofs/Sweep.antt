-- A span among others in order of their first block: it meets another where one before it reaches its first block, or where the next
-- begins at its last block or before it.
use Rattle.std.proofs.Common.{◌≡◌, ℕ, zero, suc, ◌+◌, ◌<◌, ◌≤◌, Bool, true, false, not, ◌&&◌, ◌||◌, nat_le, nat_lt, List, [], ◌∷◌, ◌++◌, length, get_or, take, drop, refl, sym, ap, ◌∙◌, cond, arith}
use Rattle.std.specs.Prelude.{All, max, sum_by, slice_get, slice_set}
use Rattle.std.specs.Option.{option_map_or}
use Rattle.std.specs.List.{list_any}
use Rattle.std.specs.List.Sorted.{IsNonDecreasingBy}
use Rattle.std.proofs.lemmas.Bool.Decides.{nat_tests}
use Rattle.std.proofs.lemmas.List.Elements.{All-head, All-tail, All-drop}
use Rattle.std.proofs.lemmas.List.Folds.{list_any_more, list_any_none}
use Rattle.std.proofs.Math.Seq.{drop-cons}
use Rattle.std.proofs.lemmas.List.{get_or-drop, get_or-take, get_or_default, length-drop, length-take, take-append-drop, take_more}
use Rattle.std.proofs.lemmas.List.Sorted.{IsNonDecreasingBy-drop}
use Rattle.std.proofs.lemmas.List.Sums.{fold-append, sum_by-append, sum_by-cons}
use Rattle.gpt_headers.specs.declared.spans.Span.{Span}
use Rattle.gpt_headers.specs.Spans.{crowd, is_lone, flags_after, meets}

-- two tests that agree on each element of a list
pub any_agrees : {X : Type 0} (p q : X → Bool) (xs : List X) → All (λ x. p x ≡ q x) xs → list_any p xs ≡ list_any q xs
any_agrees p q [] h = refl
any_agrees p q (x ∷ xs) h =
    let here : p x ≡ q x = All-head (λ y. p y ≡ q y) x xs h in
    let rest = any_agrees p q xs (All-tail (λ y. p y ≡ q y) x xs h) in
    cc

first_sum : (b : Bool) (n : ℕ) (r : Bool) → nat_lt 0 n ≡ r → nat_lt 0 (cond b 1 0 + n) ≡ (b || r)
first_sum true n r h = grind (arith, nat_tests)
first_sum false n r h = grind (arith, nat_tests)

-- some elements pass where their number is not 0
pub any_from_count : {X : Type 0} (p : X → Bool) (xs : List X) → nat_lt 0 (sum_by (λ x. cond (p x) 1 0) xs) ≡ list_any p xs
any_from_count p [] = refl
any_from_count p (x ∷ xs) =
    ap (nat_lt 0) (sum_by-cons (λ y. cond (p y) 1 0) x xs)
    ∙ first_sum (p x) (sum_by (λ y. cond (p y) 1 0) xs) (list_any p xs) (any_from_count p xs)

meets_itself : (s : Span) → s.first ≤ s.last → meets s s ≡ true
meets_itself s h = grind (arith, nat_tests)

meets_before : (s t : Span) → s.first ≤ s.last → t.first ≤ s.first → meets s t ≡ nat_le s.first t.last
meets_before s t h before = grind (arith, nat_tests)

meets_behind : (s t : Span) → s.first ≤ s.last → t.first ≤ t.last → s.first ≤ t.first → meets s t ≡ nat_le t.first s.last
meets_behind s t h k behind = grind (arith, nat_tests)

meets_none : (s t : Span) (n : ℕ) → n ≤ t.first → nat_le n s.last ≡ false → meets s t ≡ false
meets_none s t n h far = grind (arith, nat_tests)

next_alone : (a b r : Bool) → a ≡ b → (b ≡ false → r ≡ false) → (a || r) ≡ b
next_alone true b r h far = h
next_alone false b r h far = far (sym h) ∙ h

lone_from : (total m n : ℕ) (a b : Bool) → total ≡ m + (1 + n) → nat_lt 0 m ≡ a → nat_lt 0 n ≡ b → nat_lt total 2 ≡ (not a && not b)
lone_from total m n a b h before behind = grind (arith, nat_tests)

-- of spans behind one, it meets some where it meets the first
meets_next : (s : Span) (back : List Span) → s.first ≤ s.last → All (λ t. t.first ≤ t.last) back → All (λ t. s.first ≤ t.first) back
    → IsNonDecreasingBy (λ t. t.first) back
    → list_any (λ t. meets s t) back ≡ option_map_or (λ t. nat_le t.first s.last) (slice_get back 0) false
meets_next s [] h blocks behind up = refl
meets_next s (n ∷ back) h blocks behind up =
    let here : meets s n ≡ nat_le n.first s.last = meets_behind s n h (All-head (λ t. t.first ≤ t.last) n back blocks) (All-head (λ t. s.first ≤ t.first) n back behind) in
    let far : nat_le n.first s.last ≡ false → list_any (λ t. meets s t) back ≡ false =
    λ no. list_any_none (λ t. meets s t) back (λ k d below. meets_none s (get_or back k d) n.first (up 0 (suc k) d (omega arith) (omega arith)) no) in
    next_alone (meets s n) (nat_le n.first s.last) (list_any (λ t. meets s t) back) here far

-- a span among others in order: it is lone where none before it reaches it and the next begins behind it
pub lone_between : (front back : List Span) (s : Span) → s.first ≤ s.last
    → All (λ t. t.first ≤ s.first) front → All (λ t. t.first ≤ t.last) back → All (λ t. s.first ≤ t.first) back → IsNonDecreasingBy (λ t. t.first) back
    → is_lone (front ++ s ∷ back) s
    ≡ (not (list_any (λ t. nat_le s.first t.last) front) && not (option_map_or (λ t. nat_le t.first s.last) (slice_get back 0) false))
lone_between front back s h before blocks behind up =
    let sum = sum_by-append (λ t. cond (meets s t) 1 0) front (s ∷ back) in
    let front_is : list_any (λ t. meets s t) front ≡ list_any (λ t. nat_le s.first t.last) front =
    any_agrees (λ t. meets s t) (λ t. nat_le s.first t.last) front (λ k d below. meets_before s (get_or front k d) h (before k d below)) in
    let next = meets_next s back h blocks behind up in
    lone_from (crowd (front ++ s ∷ back) s) (crowd front s) (crowd back s) _ _
    (sum ∙ ap (λ n. crowd front s + n) (sum_by-cons (λ t. cond (meets s t) 1 0) s back) ∙ ap (λ b. crowd front s + (cond b 1 0 + crowd back s)) (meets_itself s h))
    (any_from_count (λ t. meets s t) front ∙ front_is) (any_from_count (λ t. meets s t) back ∙ next)

first_left : (i : ℕ) (spans : List Span) → slice_get (drop i spans) 0 ≡ slice_get spans i
first_left zero spans = refl
first_left (suc i) [] = refl
first_left (suc i) (s ∷ spans) = first_left i spans

-- the same of the span at a place, where the furthest end before it is known
pub lone_at : (spans : List Span) (i furthest : ℕ) (d : Span) → i < length spans
    → IsNonDecreasingBy (λ t. t.first) spans → All (λ t. t.first ≤ t.last) spans
    → ((block : ℕ) → list_any (λ t. nat_le block t.last) (take i spans) ≡ (nat_lt 0 i && nat_le block furthest))
    → is_lone spans (get_or spans i d)
    ≡ (not (nat_lt 0 i && nat_le (get_or spans i d).first furthest) && not (option_map_or (λ t. nat_le t.first (get_or spans i d).last) (slice_get spans (i + 1)) false))
lone_at spans i furthest d h up blocks known =
    let s = get_or spans i d in
    let front = take i spans in
    let back = drop (suc i) spans in
    let cut : front ++ s ∷ back ≡ spans = ap (λ l. front ++ l) (sym (drop-cons spans i d h)) ∙ take-append-drop i spans in
    let before : All (λ t. t.first ≤ s.first) front = λ k e below. before_is k e below in
    let behind : All (λ t. s.first ≤ t.first) back = λ k e below. behind_is k e below in
    ap (λ l. is_lone l s) (sym cut)
    ∙ lone_between front back s (blocks i d h) before (All-drop (λ t. t.first ≤ t.last) (suc i) spans blocks) behind (IsNonDecreasingBy-drop (λ t. t.first) (suc i) spans up)
    ∙ ap (λ b. not b && not (option_map_or (λ t. nat_le t.first s.last) (slice_get back 0) false)) (known s.first)
    ∙ ap (λ o. not (nat_lt 0 i && nat_le s.first furthest) && not (option_map_or (λ t. nat_le t.first s.last) o false)) (first_left (suc i) spans ∙ ap (slice_get spans) (omega arith))
  where
    before_is : (k : ℕ) (e : Span) → k < length (take i spans) → (get_or (take i spans) k e).first ≤ (get_or spans i d).first
    before_is k e below =
        let inside : k < i = omega (arith, length-take i spans) in
        rw (get_or-take i spans k e inside, get_or_default spans k e d (omega arith)) (up k i d (omega arith) h)

    behind_is : (k : ℕ) (e : Span) → k < length (drop (suc i) spans) → (get_or spans i d).first ≤ (get_or (drop (suc i) spans) k e).first
    behind_is k e below =
        let inside : suc i + k < length spans = omega (arith, length-drop (suc i) spans) in
        rw (get_or-drop (suc i) spans k e, get_or_default spans (suc i + k) e d inside) (up i (suc i + k) d (omega arith) inside)

-- one more span noted
pub marked_to : (spans : List Span) (i : ℕ) (d : Span) (flags : List Bool) (flag : Bool) (opening : List Bool) → i < length spans
    → flags ≡ flags_after spans (take i spans) opening → flag ≡ is_lone spans (get_or spans i d)
    → slice_set flags (get_or spans i d).place flag ≡ flags_after spans (take (i + 1) spans) opening
marked_to spans i d flags flag opening h so_far lone =
    rw (so_far, lone)
    (sym (ap (λ l. flags_after spans l opening) (take_more spans i d h) ∙ fold-append (λ fs s. slice_set fs s.place (is_lone spans s)) opening (take i spans) (get_or spans i d ∷ [])))

-- the furthest end, with one more span
pub reach_more : (spans : List Span) (i furthest next : ℕ) (d : Span) → i < length spans → next ≡ max (get_or spans i d).last furthest → (i ≡ 0 → furthest ≡ 0)
    → ((block : ℕ) → list_any (λ t. nat_le block t.last) (take i spans) ≡ (nat_lt 0 i && nat_le block furthest))
    → (block : ℕ) → list_any (λ t. nat_le block t.last) (take (i + 1) spans) ≡ (nat_lt 0 (i + 1) && nat_le block next)
reach_more spans i furthest next d h is start known block =
    list_any_more (λ t. nat_le block t.last) spans i d h ∙ ap (λ b. b || nat_le block (get_or spans i d).last) (known block) ∙ here (get_or spans i d).last is
  where
    here : (last : ℕ) → next ≡ max last furthest → (nat_lt 0 i && nat_le block furthest || nat_le block last) ≡ (nat_lt 0 (i + 1) && nat_le block next)
    here last is = grind (arith, nat_tests)
