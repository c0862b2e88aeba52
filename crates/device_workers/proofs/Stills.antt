-- Where no token is outstanding and a line is left, a client's line makes the stand lighter.
use Rattle.std.proofs.Common.{◌≡◌, ℕ, zero, suc, ◌+◌, ◌<◌, ◌≤◌, ◌⊎◌, inl, inr, true, false, ◌&&◌, List, [], ◌∷◌, length, slice_get, Option, None, Some, refl, sym, ◌∙◌, ap, arith}
use Rattle.std.proofs.lemmas.Bool.{cases_eq, and_from}
use Rattle.std.specs.List.{list_all}
use Rattle.history.specs.declared.entry.Entry.{Entry}
use Rattle.history.specs.declared.order.Order.{Order}
use Rattle.history.specs.Setup.{Setup}
use Rattle.history.specs.Tokens.{token_count, request}
use Rattle.history.specs.Marks.{is_outstanding}
use Rattle.history.specs.Next.{first_open}
use Rattle.history_laws.proofs.ScanLemmas.{first_from-none, first_from-fails}
use Rattle.shared_disk.specs.Lines.{Role, has_tag, first_own_open}
use Rattle.device_workers.specs.Plain.{Progress, progress, after_line, after_line_if, after_line_of, after_lines_of_first, has_none, has_no_order}
use Rattle.device_workers.specs.Leading.{TakesFirst}
use Rattle.device_workers.proofs.Costs.{cost, Lightens, line-falls, put-falls, after_line_of-lightens, first-lightens}

-- no token is outstanding, and so none of a client
pub own-none-open : (S : Setup) (H : List Entry) (tag : ℕ) → first_open S H ≡ None → first_own_open S H tag ≡ None
unfolding first_open first_own_open
own-none-open S H tag none = first_from-none (λ u. is_outstanding S H u && has_tag tag (request H u)) 0 (token_count H) (λ u lo hi. rw (first_from-fails (is_outstanding S H) 0 (token_count H) u none lo hi) refl)

some-same : {X : Type 0} (x y : X) → Some x ≡ Some y → x ≡ y
some-same x y is = cc

-- the client at this place has no line left
abbrev IsDoneAt : List Role → ℕ → Type 0
IsDoneAt lefts i = (role : Role) → slice_get lefts i ≡ Some role → has_none role.orders ≡ true

still-at : (S : Setup) (i : ℕ) (s : Progress) → first_open S s.history ≡ None → IsDoneAt s.lefts i ⊎ (cost S (after_line_of S i s) + 1 ≤ cost S s)
unfolding after_line_of
still-at S i s none = by (slice_get s.lefts i) refl
  where
    lines : (role : Role) → slice_get s.lefts i ≡ Some role → (orders : List Order) → role.orders ≡ orders → IsDoneAt s.lefts i ⊎ (cost S (after_line_if S i s (Some role)) + 1 ≤ cost S s)
    lines role there [] is = inl (λ other named. let same : role ≡ other = some-same role other (sym there ∙ named) in rw (← same, is) refl)
    lines role there (line ∷ rest) is =
        inr (rw is (put-falls S i s role (after_line S s.history (i + 1) role.stand line rest) there (rw is (line-falls S s.history (i + 1) role.stand line rest (own-none-open S s.history (i + 1) none)))))

    by : (o : Option Role) → slice_get s.lefts i ≡ o → IsDoneAt s.lefts i ⊎ (cost S (after_line_if S i s o) + 1 ≤ cost S s)
    by None there = inl (λ role named. let no_way : None ≡ Some role = sym there ∙ named in cc)
    by (Some role) there = lines role there role.orders refl

-- no client has taken a line, and the first n have none left; or the stand is lighter
abbrev IsStill : Setup → ℕ → Progress → Type 0
IsStill S n s = ((after_lines_of_first S n s ≡ s) × ((i : ℕ) → i < n → IsDoneAt s.lefts i)) ⊎ (cost S (after_lines_of_first S n s) + 1 ≤ cost S s)

still-first : (S : Setup) (n : ℕ) (s : Progress) → first_open S s.history ≡ None → IsStill S n s
unfolding after_lines_of_first
still-first S zero s none = inl (refl, λ i less. absurd (omega arith))
still-first S (suc n) s none = by (still-first S n s none)
  where
    more : after_lines_of_first S n s ≡ s → ((i : ℕ) → i < n → IsDoneAt s.lefts i) → IsDoneAt s.lefts n ⊎ (cost S (after_line_of S n s) + 1 ≤ cost S s) → Lightens S s (after_line_of S n s)
        → ((after_line_of S n (after_lines_of_first S n s) ≡ s) × ((i : ℕ) → i < suc n → IsDoneAt s.lefts i)) ⊎ (cost S (after_line_of S n (after_lines_of_first S n s)) + 1 ≤ cost S s)
    more same done (inr falls) lightens = inr (rw same falls)
    more same done (inl last) (inr falls) = inr (rw same falls)
    more same done (inl last) (inl stays) = inl (
      ap (after_line_of S n) same ∙ stays,
      λ i less. elim (cases_eq i n) [
        | inl is ↦ rw is last
        | inr other ↦ done i (omega (arith, less, other))
      ],
    )

    light : cost S (after_lines_of_first S n s) + 1 ≤ cost S s → Lightens S (after_lines_of_first S n s) (after_line_of S n (after_lines_of_first S n s)) → cost S (after_line_of S n (after_lines_of_first S n s)) + 1 ≤ cost S s
    light falls (inl same) = rw same falls
    light falls (inr more) = omega (arith, falls, more)

    by : IsStill S n s → ((after_line_of S n (after_lines_of_first S n s) ≡ s) × ((i : ℕ) → i < suc n → IsDoneAt s.lefts i)) ⊎ (cost S (after_line_of S n (after_lines_of_first S n s)) + 1 ≤ cost S s)
    by (inl (same, done)) = more same done (still-at S n s none) (after_line_of-lightens S n s)
    by (inr falls) = inr (light falls (after_line_of-lightens S n (after_lines_of_first S n s)))

all-done : (lefts : List Role) → ((i : ℕ) → i < length lefts → IsDoneAt lefts i) → list_all has_no_order lefts ≡ true
all-done [] done = refl
all-done (role ∷ more) done = and_from (has_no_order role) (list_all has_no_order more) (done 0 (omega arith) role refl) (all-done more (λ i less other there. done (suc i) (omega (arith, less)) other there))

-- a line is left: all clients together make the stand lighter
pub lines-fall : (S : Setup) (s : Progress) → first_open S s.history ≡ None → list_all has_no_order s.lefts ≡ false → cost S (after_lines_of_first S (length s.lefts) s) + 1 ≤ cost S s
lines-fall S s none left = by (still-first S (length s.lefts) s none)
  where
    by : IsStill S (length s.lefts) s → cost S (after_lines_of_first S (length s.lefts) s) + 1 ≤ cost S s
    by (inl (same, done)) = let all : list_all has_no_order s.lefts ≡ true = all-done s.lefts done in cc
    by (inr falls) = falls

-- a round with no command after its lines, which leaves some line
pub round-falls : (S : Setup) (H : List Entry) (lefts : List Role) (G : List Entry) (lefts' : List Role) → TakesFirst S (length lefts) H lefts G lefts' → first_open S G ≡ None → list_all has_no_order lefts' ≡ false
    → cost S (progress G lefts' []) + 1 ≤ cost S (progress H lefts [])
round-falls S H lefts G lefts' takes none left = by (first-lightens S (length lefts) (progress H lefts []))
  where
    by : Lightens S (progress H lefts []) (after_lines_of_first S (length lefts) (progress H lefts [])) → cost S (progress G lefts' []) + 1 ≤ cost S (progress H lefts [])
    by (inr falls) = rw (takes.goes []) at falls
    by (inl same) =
        let is : progress G lefts' [] ≡ progress H lefts [] = sym (takes.goes []) ∙ same in
        let before : first_open S H ≡ None = ap (λ (s : Progress). first_open S s.history) (sym is) ∙ none in
        let left_before : list_all has_no_order lefts ≡ false = ap (λ (s : Progress). list_all has_no_order s.lefts) (sym is) ∙ left in
        rw (takes.goes []) at (lines-fall S (progress H lefts []) before left_before)

-- the lines of a round make nothing heavier
pub lines-later : (S : Setup) (H : List Entry) (lefts : List Role) (G : List Entry) (lefts' : List Role) → TakesFirst S (length lefts) H lefts G lefts' → cost S (progress G lefts' []) ≤ cost S (progress H lefts [])
lines-later S H lefts G lefts' takes = by (first-lightens S (length lefts) (progress H lefts []))
  where
    by : Lightens S (progress H lefts []) (after_lines_of_first S (length lefts) (progress H lefts [])) → cost S (progress G lefts' []) ≤ cost S (progress H lefts [])
    by (inr falls) = let e : cost S (progress G lefts' []) + 1 ≤ cost S (progress H lefts []) = rw (takes.goes []) at falls in omega (arith, e)
    by (inl same) = let e : cost S (progress G lefts' []) ≡ cost S (progress H lefts []) = ap (cost S) (sym (takes.goes []) ∙ same) in omega (arith, e)
