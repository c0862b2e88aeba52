-- What each client has left.
use Rattle.std.proofs.Common.{◌≡◌, ◌≢◌, ℕ, zero, suc, ◌+◌, ◌≤◌, Bool, true, false, List, [], ◌∷◌, length, drop, slice_get, slice_set, None, Some, refl, ◌∙◌, ap, arith}
use Rattle.std.proofs.lemmas.Bool.{and_from, and_parts}
use Rattle.std.specs.List.{list_all}
use Rattle.history.specs.declared.order.Order.{Order}
use Rattle.shared_disk.specs.Lines.{Role}
use Rattle.shared_disk.specs.Script.{next_order}
use Rattle.device_workers.specs.Plain.{has_none, has_no_order}
use Rattle.device_workers.specs.Serving.{lefts_from}

-- a role of which so many lines are done
abbrev pub left_after : ℕ → Role → Role
left_after n role = record role { orders = drop n role.orders }

pub lefts-length : (done : ℕ → ℕ) (a : ℕ) (roles : List Role) → length (lefts_from done a roles) ≡ length roles
unfolding lefts_from
lefts-length done a [] = refl
lefts-length done a (role ∷ more) = ap (λ n. suc n) (lefts-length done (a + 1) more)

pub lefts-same : (done done' : ℕ → ℕ) (a : ℕ) (roles : List Role) → ((k : ℕ) → a ≤ k → done' k ≡ done k) → lefts_from done' a roles ≡ lefts_from done a roles
unfolding lefts_from
lefts-same done done' a [] same = refl
lefts-same done done' a (role ∷ more) same = rw (same a (omega arith), lefts-same done done' (a + 1) more (λ k from. same k (omega (arith, from)))) refl

-- where nothing was done, all is left
pub lefts-all : (done : ℕ → ℕ) (a : ℕ) (roles : List Role) → ((k : ℕ) → done k ≡ 0) → lefts_from done a roles ≡ roles
unfolding lefts_from
lefts-all done a [] none = refl
lefts-all done a (role ∷ more) none = rw (none a, lefts-all done (a + 1) more none) refl

pub lefts-get : (done : ℕ → ℕ) (a : ℕ) (roles : List Role) (i : ℕ) (role : Role) → slice_get roles i ≡ Some role → slice_get (lefts_from done a roles) i ≡ Some (left_after (done (a + i)) role)
unfolding lefts_from
lefts-get done a [] i role there = cc
lefts-get done a (r ∷ more) zero role there =
    let same : r ≡ role = cc in
    let e : a + 0 ≡ a = omega arith in
    rw (e, same) refl
lefts-get done a (r ∷ more) (suc i) role there = let e : a + suc i ≡ a + 1 + i = omega arith in rw e (lefts-get done (a + 1) more i role there)

-- one client has done a line
pub lefts-next : (done done' : ℕ → ℕ) (a : ℕ) (roles : List Role) (i : ℕ) (role : Role) → slice_get roles i ≡ Some role → ((k : ℕ) → k ≢ a + i → done' k ≡ done k)
    → lefts_from done' a roles ≡ slice_set (lefts_from done a roles) i (left_after (done' (a + i)) role)
unfolding lefts_from
lefts-next done done' a [] i role there others = cc
lefts-next done done' a (r ∷ more) zero role there others =
    let same : r ≡ role = cc in
    let e : a + 0 ≡ a = omega arith in
    rw (e, same, lefts-same done done' (a + 1) more (λ k from. others k (λ is. absurd (omega (arith, from, is))))) refl
lefts-next done done' a (r ∷ more) (suc i) role there others =
    let e : a + suc i ≡ a + 1 + i = omega arith in
    let head : done' a ≡ done a = others a (λ is. absurd (omega (arith, is))) in
    let tail : lefts_from done' (a + 1) more ≡ slice_set (lefts_from done (a + 1) more) i (left_after (done' (a + 1 + i)) role) =
    lefts-next done done' (a + 1) more i role there (λ k other. others k (λ is. other (is ∙ e))) in
    rw (head, e, tail) refl

-- the line at a place
pub drop-at : {X : Type 0} (xs : List X) (i : ℕ) (x : X) → slice_get xs i ≡ Some x → drop i xs ≡ x ∷ drop (i + 1) xs
drop-at [] i x is = cc
drop-at (y ∷ xs) zero x is = let same : y ≡ x = cc in ap (λ z. z ∷ xs) same
drop-at (y ∷ xs) (suc i) x is = let e : suc i + 1 ≡ suc (i + 1) = omega arith in rw e (drop-at xs i x is)

pub drop-none : {X : Type 0} (xs : List X) (i : ℕ) → slice_get xs i ≡ None → drop i xs ≡ []
drop-none [] zero is = refl
drop-none [] (suc i) is = refl
drop-none (y ∷ xs) zero is = cc
drop-none (y ∷ xs) (suc i) is = drop-none xs i is

-- no client has a line left
pub lefts-over : (done : ℕ → ℕ) (a : ℕ) (roles : List Role) → ((i : ℕ) → next_order roles i (done (a + i)) ≡ None) → list_all has_no_order (lefts_from done a roles) ≡ true
unfolding lefts_from
lefts-over done a [] over = refl
lefts-over done a (role ∷ more) over =
    let e : a + 0 ≡ a = omega arith in
    let none : drop (done a) role.orders ≡ [] = drop-none role.orders (done a) (rw e at (over 0)) in
    and_from (has_none (drop (done a) role.orders)) (list_all has_no_order (lefts_from done (a + 1) more)) (rw none refl)
    (lefts-over done (a + 1) more (λ i. let f : a + suc i ≡ a + 1 + i = omega arith in rw f at (over (suc i))))

-- some client has a line left, where not all have none
none-there : {X : Type 0} (xs : List X) (i : ℕ) → drop i xs ≡ [] → slice_get xs i ≡ None
none-there [] i is = refl
none-there (y ∷ xs) zero is = cc
none-there (y ∷ xs) (suc i) is = none-there xs i is

nothing : (orders : List Order) → has_none orders ≡ true → orders ≡ []
nothing [] is = refl
nothing (line ∷ rest) is = cc

lefts-back : (done : ℕ → ℕ) (a : ℕ) (roles : List Role) → list_all has_no_order (lefts_from done a roles) ≡ true → (i : ℕ) → next_order roles i (done (a + i)) ≡ None
unfolding lefts_from
lefts-back done a [] all i = refl
lefts-back done a (role ∷ more) all zero =
    let e : a + 0 ≡ a = omega arith in
    rw e (none-there role.orders (done a) (nothing (drop (done a) role.orders) (and_parts (has_none (drop (done a) role.orders)) (list_all has_no_order (lefts_from done (a + 1) more)) all).0))
lefts-back done a (role ∷ more) all (suc i) =
    let e : a + suc i ≡ a + 1 + i = omega arith in
    rw e (lefts-back done (a + 1) more (and_parts (has_none (drop (done a) role.orders)) (list_all has_no_order (lefts_from done (a + 1) more)) all).1 i)

pub lefts-none : (done : ℕ → ℕ) (a : ℕ) (roles : List Role) → (((i : ℕ) → next_order roles i (done (a + i)) ≡ None) → ⊥) → list_all has_no_order (lefts_from done a roles) ≡ false
lefts-none done a roles left = by (list_all has_no_order (lefts_from done a roles)) refl
  where
    by : (b : Bool) → list_all has_no_order (lefts_from done a roles) ≡ b → b ≡ false
    by true all = absurd (left (lefts-back done a roles all))
    by false all = refl
