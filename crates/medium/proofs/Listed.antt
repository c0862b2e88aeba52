-- The list of the blocks that a block map holds.
use Rattle.std.proofs.Common.{◌≡◌, ◌≢◌, ℕ, ◌+◌, ◌≤◌, List, [], ◌∷◌, ◌++◌, length, Some, None, true, false, refl, sym, ◌∙◌, ap, subst, arith, rules, ⊎_elim, IsSome, IfSome, Option, Bool}
use Rattle.std.proofs.lemmas.Bool.{cases_eq}
use Rattle.std.specs.Cmp.{unsigned_tied}
use Rattle.std.proofs.lemmas.List.{length-append}
use Rattle.std.proofs.lemmas.List.Folds.{list_any-append}
use Rattle.std.proofs.lemmas.Map.Keys.{IsDistinct-push}
use Rattle.std.proofs.lemmas.Map.Steps.{length-le_from_keys}
use Rattle.std.specs.BTreeMap.{BTreeMap, get, btree_map_len, ContainsKey}
use Rattle.std.specs.Cmp.{nat_cmp_total, eq_by_cmp_equiv}
use Rattle.std.specs.List.{list_any, IsDistinct, AllByRecursion}
use Rattle.std.specs.Option.{option_map}
use Rattle.std.specs.Ordering.{nat_cmp, eq_by_cmp}
use Rattle.medium.specs.Places.{is_filled, filled_block}
use Rattle.medium.specs.declared.place.Place.{Place}

-- the list names the filled places
abbrev pub Lists : List ℕ → BTreeMap ℕ Place → Type 0
Lists filled m = (b : ℕ) → list_any (eq_by_cmp nat_cmp b) filled ≡ is_filled (get nat_cmp m b)

filled-is_some : (m : BTreeMap ℕ Place) (b : ℕ) → is_filled (get nat_cmp m b) ≡ true → ContainsKey nat_cmp m b
filled-is_some m b = elim (get nat_cmp m b) as (λ place. is_filled place ≡ true → IsSome place) [ None ↦ λ is. absurd (cc) | Some place ↦ λ is. search rules ]

-- a number is itself, and no other
same-number : (q : ℕ) → eq_by_cmp nat_cmp q q ≡ true
same-number q = grind (arith, unsigned_tied q q)

other-number : (q b : ℕ) → q ≢ b → eq_by_cmp nat_cmp q b ≡ false
other-number q b apart = grind (arith, unsigned_tied q b)

-- there are at least as many places as filled ones
pub length-filled : (m : BTreeMap ℕ Place) (filled : List ℕ) → IsDistinct (eq_by_cmp nat_cmp) filled → Lists filled m → length filled ≤ btree_map_len m
length-filled m filled distinct listed =
    length-le_from_keys (eq_by_cmp_equiv nat_cmp_total) filled m.entries distinct (λ q is. filled-is_some m q (sym (listed q) ∙ is))

-- one more place was filled
pub listed-push : (m n : BTreeMap ℕ Place) (filled : List ℕ) (b : ℕ) → Lists filled m → ((q : ℕ) → q ≢ b → get nat_cmp n q ≡ get nat_cmp m q) → is_filled (get nat_cmp n b) ≡ true → Lists (filled ++ b ∷ []) n
listed-push m n filled b listed others here q = ⊎_elim (λ same. at_b same) (λ apart. elsewhere apart) (cases_eq q b) where
  at_b : q ≡ b → list_any (eq_by_cmp nat_cmp q) (filled ++ b ∷ []) ≡ is_filled (get nat_cmp n q)
  at_b same = rw same (rw list_any-append (grind (arith, same-number b, here)))

  elsewhere : q ≢ b → list_any (eq_by_cmp nat_cmp q) (filled ++ b ∷ []) ≡ is_filled (get nat_cmp n q)
  elsewhere apart = rw (others q apart, list_any-append) (grind (arith, other-number q b apart, listed q))

-- a place was filled that was not
pub distinct-push : (m : BTreeMap ℕ Place) (filled : List ℕ) (b : ℕ) → IsDistinct (eq_by_cmp nat_cmp) filled → Lists filled m → is_filled (get nat_cmp m b) ≡ false → IsDistinct (eq_by_cmp nat_cmp) (filled ++ b ∷ [])
distinct-push m filled b distinct listed empty = IsDistinct-push (eq_by_cmp_equiv nat_cmp_total) filled b distinct (listed b ∙ empty)

pub distinct-pop : (filled : List ℕ) (b : ℕ) → IsDistinct (eq_by_cmp nat_cmp) (filled ++ b ∷ []) → IsDistinct (eq_by_cmp nat_cmp) filled
unfolding IsDistinct
distinct-pop [] b distinct = tt
distinct-pop (x ∷ xs) b distinct = (front xs distinct.0, distinct-pop xs b distinct.1) where
  front : (ys : List ℕ) → AllByRecursion (λ y. eq_by_cmp nat_cmp x y ≡ false) (ys ++ b ∷ []) → AllByRecursion (λ y. eq_by_cmp nat_cmp x y ≡ false) ys
  front [] all = tt
  front (y ∷ ys) all = (all.0, front ys all.1)

last-apart : (filled : List ℕ) (b : ℕ) → IsDistinct (eq_by_cmp nat_cmp) (filled ++ b ∷ []) → list_any (eq_by_cmp nat_cmp b) filled ≡ false
unfolding IsDistinct
last-apart [] b distinct = refl
last-apart (x ∷ xs) b distinct =
    let first : eq_by_cmp nat_cmp x b ≡ false = last xs distinct.0 in
    let flipped : eq_by_cmp nat_cmp b x ≡ false = grind (arith, unsigned_tied b x, unsigned_tied x b) in
    rw (flipped, last-apart xs b distinct.1) refl
  where
    last : (ys : List ℕ) → AllByRecursion (λ y. eq_by_cmp nat_cmp x y ≡ false) (ys ++ b ∷ []) → eq_by_cmp nat_cmp x b ≡ false
    last [] all = all.0
    last (y ∷ ys) all = last ys all.1

-- the last one was emptied
pub listed-pop : (m n : BTreeMap ℕ Place) (filled : List ℕ) (b : ℕ) → IsDistinct (eq_by_cmp nat_cmp) (filled ++ b ∷ []) → Lists (filled ++ b ∷ []) m → ((q : ℕ) → q ≢ b → get nat_cmp n q ≡ get nat_cmp m q) → is_filled (get nat_cmp n b) ≡ false → Lists filled n
listed-pop m n filled b distinct listed others here q = ⊎_elim (λ same. at_b same) (λ apart. elsewhere apart) (cases_eq q b) where
  at_b : q ≡ b → list_any (eq_by_cmp nat_cmp q) filled ≡ is_filled (get nat_cmp n q)
  at_b same = rw (same, here) (last-apart filled b distinct)

  elsewhere : q ≢ b → list_any (eq_by_cmp nat_cmp q) filled ≡ is_filled (get nat_cmp n q)
  elsewhere apart = let split = list_any-append (eq_by_cmp nat_cmp q) filled (b ∷ []) in rw (others q apart) (grind (arith, other-number q b apart, listed q, split))

-- the list stays where a place stays filled, or empty
pub listed-same : (m n : BTreeMap ℕ Place) (filled : List ℕ) (b : ℕ) → Lists filled m → ((q : ℕ) → q ≢ b → get nat_cmp n q ≡ get nat_cmp m q) → is_filled (get nat_cmp n b) ≡ is_filled (get nat_cmp m b) → Lists filled n
listed-same m n filled b listed others here q = ⊎_elim (λ same. at_b same) (λ apart. rw (others q apart) (listed q)) (cases_eq q b) where
  at_b : q ≡ b → list_any (eq_by_cmp nat_cmp q) filled ≡ is_filled (get nat_cmp n q)
  at_b same = rw (same, here) (listed b)

-- a place that was filled
abbrev pub IsFilledWith : Option Place → List ℕ → Type 0
IsFilledWith place held = IfSome place (λ p. (p.filled ≡ true) × (p.bytes.items ≡ held))

pub is_filled-filled : (place : Option Place) (held : List ℕ) → IsSome place → IsFilledWith place held → is_filled place ≡ true
is_filled-filled None held some filled = cc
is_filled-filled (Some p) held some filled = filled.0

-- each place has room for one block
abbrev pub AreSized : BTreeMap ℕ Place → ℕ → Type 0
AreSized m size = (b : ℕ) (place : Place) → get nat_cmp m b ≡ Some place → length place.bytes.items ≡ size

pub sized-fill : (m n : BTreeMap ℕ Place) (b size : ℕ) (held : List ℕ) → AreSized m size → ((q : ℕ) → q ≢ b → get nat_cmp n q ≡ get nat_cmp m q) → IsFilledWith (get nat_cmp n b) held → length held ≡ size → AreSized n size
sized-fill m n b size held sized others filled long q place is = ⊎_elim (λ same. at_b same) (λ apart. sized q place (sym (others q apart) ∙ is)) (cases_eq q b) where
  at_b : q ≡ b → length place.bytes.items ≡ size
  at_b same =
      let here : get nat_cmp n b ≡ Some place = subst (λ (x : ℕ). get nat_cmp n x ≡ Some place) same is in
      let with_place : IsFilledWith (Some place) held = subst (λ (o : Option Place). IsFilledWith o held) here filled in
      ap length with_place.1 ∙ long

-- there is room for one more
pub room-left : (m n : BTreeMap ℕ Place) (filled : List ℕ) (b : ℕ) → IsDistinct (eq_by_cmp nat_cmp) filled → Lists filled m → ((q : ℕ) → q ≢ b → get nat_cmp n q ≡ get nat_cmp m q) → is_filled (get nat_cmp n b) ≡ true → is_filled (get nat_cmp m b) ≡ false → length filled + 1 ≤ btree_map_len n
room-left m n filled b distinct listed others here empty =
    let most : length (filled ++ b ∷ []) ≤ btree_map_len n = length-filled n (filled ++ b ∷ []) (distinct-push m filled b distinct listed empty) (listed-push m n filled b listed others here) in
    omega (arith, most, length-append filled (b ∷ []))

-- places keep their bytes
pub sized-empty : (m n : BTreeMap ℕ Place) (size : ℕ) → AreSized m size → ((q : ℕ) → option_map (λ (place : Place). place.bytes.items) (get nat_cmp n q) ≡ option_map (λ (place : Place). place.bytes.items) (get nat_cmp m q)) → AreSized n size
sized-empty m n size sized same q place is = old (get nat_cmp m q) refl (ap (option_map (λ (p : Place). p.bytes.items)) (sym is) ∙ same q) where
  old : (o : Option Place) → get nat_cmp m q ≡ o → Some place.bytes.items ≡ option_map (λ (p : Place). p.bytes.items) o → length place.bytes.items ≡ size
  old None was is = absurd (cc)
  old (Some p) was is = let bytes : place.bytes.items ≡ p.bytes.items = cc in ap length bytes ∙ sized q p was

-- blocks in places have their size
pub filled_block-long : (m : BTreeMap ℕ Place) (size : ℕ) → AreSized m size → (b : ℕ) (block : List ℕ) → filled_block (get nat_cmp m b) ≡ Some block → length block ≡ size
filled_block-long m size sized b block is = by_place (get nat_cmp m b) refl is where
  by_place : (o : Option Place) → get nat_cmp m b ≡ o → filled_block o ≡ Some block → length block ≡ size
  by_place None was is = absurd (cc)
  by_place (Some place) was is = by_filled place.filled refl where
    by_filled : (filled : Bool) → place.filled ≡ filled → length block ≡ size
    by_filled false empty = let gone = rw empty at is in absurd (cc)
    by_filled true full =
        let there = rw full at is in
        let same : place.bytes.items ≡ block = cc in
        ap length (sym same) ∙ sized b place was
