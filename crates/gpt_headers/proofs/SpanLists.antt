-- The spans of a list of entries: which entry each tells, and how many share a block with an entry.
use Rattle.std.proofs.Common.{◌≡◌, ℕ, zero, suc, ◌+◌, ◌<◌, ◌≤◌, Bool, true, false, not, ◌&&◌, ◌||◌, ◌==◌, nat_lt, List, [], ◌∷◌, length, get_or, map, refl, sym, ap, ◌∙◌, cond, zero-add, arith}
use Rattle.std.specs.Prelude.{All, filter, replicate, slice_set, sum_by, if◌then◌else◌}
use Rattle.std.specs.List.Sorted.{IsPermutation}
use Rattle.std.specs.List.{enumerate_from, list_any}
use Rattle.std.proofs.lemmas.Bool.Decides.{nat_tests}
use Rattle.std.proofs.lemmas.List.Elements.{All-cons, All-head, All-nil, All-tail, All-weaker}
use Rattle.std.proofs.lemmas.List.Folds.{list_any_at, list_any_none}
use Rattle.std.proofs.lemmas.List.Sums.{sum_by-cons}
use Rattle.std.proofs.lemmas.List.Sorted.{All-permutation, list_any-IsPermutation, sum_by-IsPermutation}
use Rattle.std.proofs.lemmas.List.{get_or-replicate, get_or-set_other, length-replicate, length-set}
use Rattle.std.proofs.lemmas.Grind.{get_or-set_at}
use Rattle.gpt_headers.specs.declared.entry.GptEntry.{GptEntry}
use Rattle.gpt_headers.specs.declared.spans.Span.{Span}
use Rattle.gpt_headers.specs.Entry.{has_blocks, is_used_entry, overlaps_another_entry, entries_share_block}
use Rattle.gpt_headers.specs.Spans.{crowd, is_lone, is_lone_entry, flags_after, meets, span_of, entry_spans}
use Rattle.gpt_headers.proofs.Sweep.{any_from_count}

-- the entries with their places, as the spans keep them
abbrev kept : ℕ → List GptEntry → List (ℕ × GptEntry)
kept n xs = filter (λ (i, e). has_blocks e) (enumerate_from n xs)

abbrev spans_from : ℕ → List GptEntry → List Span
spans_from n xs = map span_of (kept n xs)

all_kept : (P : Span → Type 0) (b : Bool) (p : ℕ × GptEntry) (ps : List (ℕ × GptEntry)) → (b ≡ true → P (span_of p)) → All P (map span_of ps) → All P (map span_of (cond b (p ∷ ps) ps))
all_kept P true p ps here rest = All-cons P (span_of p) (map span_of ps) (here refl) rest
all_kept P false p ps here rest = rest

any_kept : (q : Span → Bool) (b : Bool) (p : ℕ × GptEntry) (ps : List (ℕ × GptEntry)) → list_any q (map span_of (cond b (p ∷ ps) ps)) ≡ ((b && q (span_of p)) || list_any q (map span_of ps))
any_kept q true p ps = refl
any_kept q false p ps = refl

sum_kept : (f : Span → ℕ) (b : Bool) (p : ℕ × GptEntry) (ps : List (ℕ × GptEntry)) → sum_by f (map span_of (cond b (p ∷ ps) ps)) ≡ cond b (f (span_of p)) 0 + sum_by f (map span_of ps)
sum_kept f true p ps = sum_by-cons f (span_of p) (map span_of ps)
sum_kept f false p ps = grind arith

-- a span has blocks, and the place of one of these entries
pub record IsAmong (low high : ℕ) (s : Span) : Type 0 where
  pub from : low ≤ s.place
  pub before : s.place < high
  pub blocks : s.first ≤ s.last

first_among : (n m : ℕ) (x : GptEntry) → has_blocks x ≡ true → IsAmong n (n + suc m) (span_of (n, x))
first_among n m x h = record { from = omega arith; before = omega arith; blocks = grind (arith, nat_tests) }

later_among : (n m : ℕ) (s : Span) → IsAmong (n + 1) (n + 1 + m) s → IsAmong n (n + suc m) s
later_among n m s h = record { from = omega arith; before = omega arith; blocks = h.blocks }

pub spans_among : (n : ℕ) (xs : List GptEntry) → All (λ s. IsAmong n (n + length xs) s) (spans_from n xs)
spans_among n [] = All-nil (λ s. IsAmong n (n + 0) s)
spans_among n (x ∷ xs) =
    let top = n + suc (length xs) in
    all_kept (λ s. IsAmong n top s) (has_blocks x) (n, x) (kept (n + 1) xs) (λ yes. first_among n (length xs) x yes)
    (All-weaker (λ s. IsAmong (n + 1) (n + 1 + length xs) s) (λ s. IsAmong n top s) (λ s h. later_among n (length xs) s h) (spans_from (n + 1) xs) (spans_among (n + 1) xs))

passed : (n m : ℕ) (s : Span) → IsAmong (n + 1) m s → (s.place == n + 0) ≡ false
passed n m s h = grind (arith, nat_tests, h.from)

-- the spans at a place tell the entry there
pub span_tells : (n k : ℕ) (xs : List GptEntry) (d : GptEntry) → All (λ s. s.place ≡ n + k → s ≡ span_of (n + k, get_or xs k d)) (spans_from n xs)
span_tells n k [] d = All-nil (λ s. s.place ≡ n + k → s ≡ span_of (n + k, get_or [] k d))
span_tells n zero (x ∷ xs) d =
    all_kept (λ s. s.place ≡ n + 0 → s ≡ span_of (n + 0, x)) (has_blocks x) (n, x) (kept (n + 1) xs) (λ _ at. ap (λ i. span_of (i, x)) at)
    (All-weaker (λ s. IsAmong (n + 1) (n + 1 + length xs) s) (λ s. s.place ≡ n + 0 → s ≡ span_of (n + 0, x)) (λ s h at. absurd (omega (arith, h.from))) (spans_from (n + 1) xs) (spans_among (n + 1) xs))
span_tells n (suc k) (x ∷ xs) d =
    all_kept (λ s. s.place ≡ n + suc k → s ≡ span_of (n + suc k, get_or xs k d)) (has_blocks x) (n, x) (kept (n + 1) xs) (λ _ at. absurd (omega arith))
    (All-weaker (λ s. s.place ≡ n + 1 + k → s ≡ span_of (n + 1 + k, get_or xs k d)) (λ s. s.place ≡ n + suc k → s ≡ span_of (n + suc k, get_or xs k d))
    (λ s h at. h (omega arith) ∙ ap (λ i. span_of (i, get_or xs k d)) (omega arith)) (spans_from (n + 1) xs) (span_tells (n + 1) k xs d))

-- there is a span at a place exactly where the entry there has blocks
pub span_there : (n k : ℕ) (xs : List GptEntry) (d : GptEntry) → k < length xs → list_any (λ s. s.place == n + k) (spans_from n xs) ≡ has_blocks (get_or xs k d)
span_there n k [] d h = absurd (omega arith)
span_there n zero (x ∷ xs) d h =
    let none = list_any_none (λ s. s.place == n + 0) (spans_from (n + 1) xs)
    (All-weaker (λ s. IsAmong (n + 1) (n + 1 + length xs) s) (λ s. (s.place == n + 0) ≡ false) (λ s a. passed n (n + 1 + length xs) s a) (spans_from (n + 1) xs) (spans_among (n + 1) xs)) in
    any_kept (λ s. s.place == n + 0) (has_blocks x) (n, x) (kept (n + 1) xs) ∙ alone (has_blocks x) n _ none
  where
    alone : (b : Bool) (m : ℕ) (r : Bool) → r ≡ false → ((b && (m == m + 0)) || r) ≡ b
    alone b m r none = grind (arith, nat_tests)
span_there n (suc k) (x ∷ xs) d h =
    any_kept (λ s. s.place == n + suc k) (has_blocks x) (n, x) (kept (n + 1) xs)
    ∙ later (has_blocks x) n k _
    ∙ ap (λ i. list_any (λ s. s.place == i) (spans_from (n + 1) xs)) (omega arith)
    ∙ span_there (n + 1) k xs d (omega arith)
  where
    later : (b : Bool) (m j : ℕ) (r : Bool) → ((b && (m == m + suc j)) || r) ≡ r
    later b m j r = grind (arith, nat_tests)

share : (e f : GptEntry) (a b : ℕ) → a ≡ b → cond (has_blocks f) (cond (entries_share_block e f) 1 0) 0 + a ≡ cond (is_used_entry f && entries_share_block e f) 1 0 + b
share e f a b h = grind (arith, nat_tests)

-- the spans that share a block with an entry are those of the used entries that do
pub crowd_of_entry : (i n : ℕ) (e : GptEntry) (xs : List GptEntry) → crowd (spans_from n xs) (span_of (i, e)) ≡ sum_by (λ f. cond (is_used_entry f && entries_share_block e f) 1 0) xs
crowd_of_entry i n e [] = refl
crowd_of_entry i n e (x ∷ xs) =
    sum_kept (λ t. cond (meets (span_of (i, e)) t) 1 0) (has_blocks x) (n, x) (kept (n + 1) xs)
    ∙ share e x _ _ (crowd_of_entry i (n + 1) e xs)
    ∙ sym (sum_by-cons (λ f. cond (is_used_entry f && entries_share_block e f) 1 0) x xs)

-- another element than one before the list is any of its elements
other_behind : {X : Type 0} (p q : X → Bool) (m n : ℕ) (xs : List X) → m < n → list_any (λ (j, x). not (j == m) && p x && q x) (enumerate_from n xs) ≡ list_any (λ x. p x && q x) xs
other_behind p q m n [] h = refl
other_behind p q m n (x ∷ xs) h = here (p x) (q x) m n _ _ h (other_behind p q m (n + 1) xs (omega arith))
  where
    here : (a b : Bool) (m n : ℕ) (r s : Bool) → m < n → r ≡ s → (not (n == m) && a && b || r) ≡ (a && b || s)
    here a b m n r s h k = grind (arith, nat_tests)

-- another element passes two tests, where that at k does, exactly where two elements do
other_passes : {X : Type 0} (p q : X → Bool) (n k : ℕ) (xs : List X) (d : X) → k < length xs → (p (get_or xs k d) && q (get_or xs k d)) ≡ true
    → list_any (λ (j, x). not (j == n + k) && p x && q x) (enumerate_from n xs) ≡ not (nat_lt (sum_by (λ x. cond (p x && q x) 1 0) xs) 2)
other_passes p q n k [] d h own = absurd (omega arith)
other_passes p q n zero (x ∷ xs) d h own =
    here (p x) (q x) n _ _ _ own (other_behind p q (n + 0) (n + 1) xs (omega arith)) (any_from_count (λ y. p y && q y) xs)
    ∙ ap (λ n. not (nat_lt n 2)) (sym (sum_by-cons (λ y. cond (p y && q y) 1 0) x xs))
  where
    here : (a b : Bool) (n : ℕ) (r s : Bool) (count : ℕ) → (a && b) ≡ true → r ≡ s → nat_lt 0 count ≡ s → (not (n == n + 0) && a && b || r) ≡ not (nat_lt (cond (a && b) 1 0 + count) 2)
    here a b n r s count own k some = grind (arith, nat_tests)
other_passes p q n (suc k) (x ∷ xs) d h own =
    let rest = other_passes p q (n + 1) k xs d (omega arith) own in
    let own_there : list_any (λ y. p y && q y) xs ≡ true = list_any_at (λ y. p y && q y) xs k d (omega arith) own in
    ap (λ m. not (n == n + suc k) && p x && q x || list_any (λ (j, y). not (j == m) && p y && q y) (enumerate_from (n + 1) xs)) (omega arith)
    ∙ there (p x) (q x) n k _ _ rest (any_from_count (λ y. p y && q y) xs ∙ own_there)
    ∙ ap (λ m. not (nat_lt m 2)) (sym (sum_by-cons (λ y. cond (p y && q y) 1 0) x xs))
  where
    there : (a b : Bool) (n k : ℕ) (r : Bool) (count : ℕ) → r ≡ not (nat_lt count 2) → nat_lt 0 count ≡ true → (not (n == n + suc k) && a && b || r) ≡ not (nat_lt (cond (a && b) 1 0 + count) 2)
    there a b n k r count rest own = grind (arith, nat_tests)

written : (v : Bool) (i place : ℕ) (flag : Bool) (flags : List Bool) → i < length flags → (place ≡ i → flag ≡ v) → get_or (slice_set flags place flag) i false ≡ (if place == i then v else get_or flags i false)
written v i place flag flags h same = grind (arith, nat_tests, get_or-set_at, get_or-set_other)

join : (a any v old new : Bool) → new ≡ (if a then v else old) → (if any then v else new) ≡ (if a || any then v else old)
join true true v old new h = refl
join true false v old new h = h
join false any v old new h = ap (λ b. if any then v else b) h

-- the flag at a place that some spans noted, where each span there is lone or not alike
noted : (v : Bool) (i : ℕ) (all spans : List Span) (flags : List Bool) → i < length flags → All (λ s. s.place ≡ i → is_lone all s ≡ v) spans
    → get_or (flags_after all spans flags) i false ≡ (if list_any (λ s. s.place == i) spans then v else get_or flags i false)
noted v i all [] flags h same = refl
noted v i all (s ∷ spans) flags h same =
    let rest = noted v i all spans (slice_set flags s.place (is_lone all s)) (omega (arith, length-set flags s.place (is_lone all s)))
    (All-tail (λ t. t.place ≡ i → is_lone all t ≡ v) s spans same) in
    rest ∙ join (s.place == i) (list_any (λ t. t.place == i) spans) v _ _ (written v i s.place (is_lone all s) flags h (All-head (λ t. t.place ≡ i → is_lone all t ≡ v) s spans same))

own_block : (e : GptEntry) → has_blocks e ≡ true → (is_used_entry e && entries_share_block e e) ≡ true
own_block e h = grind (arith, nat_tests)

-- an entry that has blocks is lone among the spans where it overlaps no other
lone_entry : (entries : List GptEntry) (i : ℕ) (d : GptEntry) → i < length entries → has_blocks (get_or entries i d) ≡ true
    → is_lone (entry_spans entries) (span_of (i, get_or entries i d)) ≡ not (overlaps_another_entry entries i (get_or entries i d))
lone_entry entries i d h has =
    let e = get_or entries i d in
    let count = sum_by (λ f. cond (is_used_entry f && entries_share_block e f) 1 0) entries in
    let other : overlaps_another_entry entries i e ≡ not (nat_lt count 2) =
    ap (λ m. list_any (λ (j, f). not (j == m) && is_used_entry f && entries_share_block e f) (enumerate_from 0 entries)) (sym (zero-add i))
    ∙ other_passes is_used_entry (entries_share_block e) 0 i entries d h (own_block e has) in
    ap (λ n. nat_lt n 2) (crowd_of_entry i 0 e entries) ∙ twice (nat_lt count 2) (overlaps_another_entry entries i e) other
  where
    twice : (a b : Bool) → b ≡ not a → a ≡ not b
    twice a b h = grind arith

-- what the sweep over the spans in some order notes at an entry's place
pub lone_noted : (entries : List GptEntry) (sorted : List Span) (i : ℕ) (d : GptEntry) → IsPermutation (entry_spans entries) sorted → i < length entries
    → get_or (flags_after sorted sorted (replicate (length entries) false)) i false ≡ is_lone_entry entries i (get_or entries i d)
lone_noted entries sorted i d moved h =
    let e = get_or entries i d in
    let spans = entry_spans entries in
    let v = is_lone spans (span_of (i, e)) in
    let same : All (λ s. s.place ≡ i → is_lone sorted s ≡ v) sorted =
    All-permutation (λ s. s.place ≡ i → is_lone sorted s ≡ v) spans sorted moved
    (All-weaker (λ s. s.place ≡ 0 + i → s ≡ span_of (0 + i, e)) (λ s. s.place ≡ i → is_lone sorted s ≡ v) (λ s tells at. lone_there s (tells (at ∙ sym (zero-add i)))) spans (span_tells 0 i entries d)) in
    let there : list_any (λ s. s.place == i) sorted ≡ has_blocks e =
    sym (list_any-IsPermutation (λ s. s.place == i) spans sorted moved) ∙ ap (λ j. list_any (λ s. s.place == j) spans) (sym (zero-add i)) ∙ span_there 0 i entries d h in
    noted v i sorted sorted (replicate (length entries) false) (omega (arith, length-replicate (length entries) false)) same
    ∙ choice (list_any (λ s. s.place == i) sorted) (has_blocks e) v _ _ there (get_or-replicate (length entries) i false false h) (lone_entry entries i d h)
  where
    lone_there : (s : Span) → s ≡ span_of (0 + i, get_or entries i d) → is_lone sorted s ≡ is_lone (entry_spans entries) (span_of (i, get_or entries i d))
    lone_there s tells =
        ap (λ n. nat_lt n 2) (sum_by-IsPermutation (λ t. cond (meets s t) 1 0) (entry_spans entries) sorted moved)
        ∙ ap (is_lone (entry_spans entries)) (tells ∙ ap (λ j. span_of (j, get_or entries i d)) (zero-add i))

    choice : (b c v w old : Bool) → b ≡ c → old ≡ false → (c ≡ true → v ≡ w) → (if b then v else old) ≡ (c && w)
    choice b c v w old is none chosen = grind arith
