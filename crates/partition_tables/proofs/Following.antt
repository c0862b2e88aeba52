-- The chain of the definition is that of the blocks that are fed.
use Rattle.std.proofs.Common.{◌≡◌, ℕ, zero, suc, ◌+◌, ◌-◌, ◌<◌, ◌≤◌, Bool, true, false, not, ◌&&◌, nat_lt, List, [], ◌∷◌, ◌++◌, length, get_or, take, map, refl, sym, ap, ◌∙◌, zero-add, arith, inl, inr, Option, Some, None}
use Rattle.std.specs.Prelude.{filter_map, is_some, option_and_then, option_map, slice_get, slice_index_or, take_while, ◌==◌, if◌then◌else◌}
use Rattle.std.specs.List.{list_any, range_with_len}
use Rattle.std.proofs.Math.Seq.{take-suc}
use Rattle.std.proofs.lemmas.Bool.{cases_lt}
use Rattle.std.proofs.lemmas.Bool.Decides.{nat_tests}
use Rattle.std.proofs.lemmas.List.{map-append}
use Rattle.std.proofs.lemmas.List.FromFn.{get_or-map-range_with_len, length-map-range_with_len, map-range_with_len_more}
use Rattle.std.proofs.lemmas.List.Sums.{take_while-cons}
use Rattle.std.proofs.lemmas.Option.{slice_get-get_or, slice_get_past}
use Rattle.mbr_records.specs.declared.partition_record.MbrRecord.{MbrRecord}
use Rattle.mbr_records.specs.Record.{is_data}
use Rattle.mbr_records.specs.Block.{Fields, mbr_of, numbered_record}
use Rattle.mbr_records.specs.Chain.{count_of, is_inside, link_of, logical_at, may_visit, next_record_block, trail_of, visited_blocks}
use Rattle.partition_tables.specs.Blocks.{boot_record_at}
use Rattle.partition_tables.specs.MbrTable.{chain_of, next_name_at, trail_at}
use Rattle.partition_tables.specs.Law.{ChainIsFollowed, LogicalsAreGiven}

-- what a function gives for m numbers from a on, up to the first for which it gives nothing
abbrev some_front : (ℕ → Option ℕ) → ℕ → ℕ → List ℕ
some_front h a m = filter_map h (take_while (λ k. is_some (h k)) (range_with_len a m))

front_some : (h : ℕ → Option ℕ) (a m v : ℕ) → h a ≡ Some v → some_front h a (suc m) ≡ v ∷ some_front h (a + 1) m
front_some h a m v e = rw (take_while-cons (λ k. is_some (h k)) a (range_with_len (a + 1) m), e) (rw e refl)

front_none : (h : ℕ → Option ℕ) (a m : ℕ) → h a ≡ None → some_front h a (suc m) ≡ []
front_none h a m e = rw (take_while-cons (λ k. is_some (h k)) a (range_with_len (a + 1) m), e) refl

-- each of them, their number, and that the next gives nothing
record Fronts (h : ℕ → Option ℕ) (a m : ℕ) (front : List ℕ) : Type 0 where
  each : (n : ℕ) → n < length front → slice_get front n ≡ h (a + n)
  few : length front ≤ m
  next : length front < m → h (a + length front) ≡ None

fronts : (h : ℕ → Option ℕ) (a m : ℕ) → Fronts h a m (some_front h a m)
fronts h a zero = record { each = λ n below. absurd (omega arith); few = omega arith; next = λ below. absurd (omega arith) }
fronts h a (suc m) = by_first (h a) refl (fronts h (a + 1) m)
  where
    each_of : (v : ℕ) → h a ≡ Some v → Fronts h (a + 1) m (some_front h (a + 1) m) → (n : ℕ) → n < length (v ∷ some_front h (a + 1) m) → slice_get (v ∷ some_front h (a + 1) m) n ≡ h (a + n)
    each_of v e rest zero below = sym e ∙ ap h (omega arith)
    each_of v e rest (suc n) below = rest.each n (omega arith) ∙ ap h (omega arith)

    by_first : (o : Option ℕ) → h a ≡ o → Fronts h (a + 1) m (some_front h (a + 1) m) → Fronts h a (suc m) (some_front h a (suc m))
    by_first None e rest = rw (front_none h a m e) (record { each = λ n below. absurd (omega arith); few = omega arith; next = λ below. ap h (omega arith) ∙ e })
    by_first (Some v) e rest =
        rw (front_some h a m v e) (record { each = each_of v e rest; few = omega (arith, rest.few); next = λ below. ap h (omega arith) ∙ rest.next (omega arith) })

-- the next block by what was named last
next_by_name : (bytes : List ℕ) (size : ℕ) (extended : ℕ × ℕ) (n : ℕ)
    → next_record_block (trail_at bytes size extended n)
    ≡ option_and_then (λ block. if may_visit (trail_at bytes size extended n) block then Some block else None) (option_map (λ x. extended.0 + x) (next_name_at bytes size extended.0 n))
next_by_name bytes size extended n =
    let name : ℕ → Option ℕ = λ k. next_name_at bytes size extended.0 k in
    let named = map name (range_with_len 0 (n + 1)) in
    let last : slice_index_or named (length named - 1) None ≡ name n =
    ap (λ k. slice_index_or named k None) (omega (arith, length-map-range_with_len name 0 (n + 1))) ∙ get_or-map-range_with_len name 0 (n + 1) n n None (omega arith) (omega arith) in
    ap (λ o. option_and_then (λ block. if may_visit (trail_at bytes size extended n) block then Some block else None) (option_map (λ x. extended.0 + x) o)) last

-- a block that is next was named
named_next : (start own : ℕ) (test : ℕ → Bool) (name : Option ℕ) → option_and_then (λ block. if test block then Some block else None) (option_map (λ x. start + x) name) ≡ Some own
    → option_map (λ x. start + x) name ≡ Some own
named_next start own test None h = cc
named_next start own test (Some x) h = by_test (test (start + x)) h
  where
    by_test : (b : Bool) → (if b then Some (start + x) else None) ≡ Some own → Some (start + x) ≡ Some own
    by_test true h = h
    by_test false h = cc

link_by_name : (bytes : List ℕ) (size start own : ℕ) (name : Option ℕ) → option_map (λ x. start + x) name ≡ Some own
    → option_and_then (λ place. link_of (boot_record_at bytes size (start + place))) name ≡ link_of (boot_record_at bytes size own)
link_by_name bytes size start own None h = cc
link_by_name bytes size start own (Some x) h = let same : start + x ≡ own = cc in ap (λ lba. link_of (boot_record_at bytes size lba)) same

-- after 128 records there is no next one
full : (bytes : List ℕ) (size : ℕ) (extended : ℕ × ℕ) (n : ℕ) → 128 ≤ n → next_record_block (trail_at bytes size extended n) ≡ None
full bytes size extended n h = next_by_name bytes size extended n ∙ closed (next_name_at bytes size extended.0 n)
  where
    count : 128 ≤ count_of (trail_at bytes size extended n)
    count = omega (arith, length-map-range_with_len (λ k. next_name_at bytes size extended.0 k) 0 (n + 1))

    no_more : (a b : Bool) (fed block : ℕ) → 128 ≤ fed → (if a && b && nat_lt fed 128 then Some block else None) ≡ None
    no_more a b fed block few = grind (arith, nat_tests)

    closed : (o : Option ℕ) → option_and_then (λ block. if may_visit (trail_at bytes size extended n) block then Some block else None) (option_map (λ x. extended.0 + x) o) ≡ None
    closed None = refl
    closed (Some x) =
        let t = trail_at bytes size extended n in
        no_more (is_inside t (extended.0 + x) 1) (not (list_any (λ v. v == extended.0 + x) (visited_blocks t))) (count_of t) (extended.0 + x) count

-- what the blocks of the chain name, as far as they were fed
named_so_far : (bytes : List ℕ) (size : ℕ) (extended : ℕ × ℕ) (front : List ℕ) (each : (k : ℕ) → k < length front → slice_get front k ≡ next_record_block (trail_at bytes size extended k))
    (n : ℕ) → n ≤ length front
    → Some 0 ∷ map link_of (map (λ own. boot_record_at bytes size own) (take n front)) ≡ map (λ k. next_name_at bytes size extended.0 k) (range_with_len 0 (n + 1))
named_so_far bytes size extended front each zero h = refl
named_so_far bytes size extended front each (suc n) h =
    let name : ℕ → Option ℕ = λ k. next_name_at bytes size extended.0 k in
    let boot : ℕ → List ℕ = λ own. boot_record_at bytes size own in
    let below : n < length front = omega arith in
    let own = get_or front n 0 in
    let next : next_record_block (trail_at bytes size extended n) ≡ Some own = sym (each n below) ∙ slice_get-get_or front n 0 below in
    let named : option_map (λ x. extended.0 + x) (name n) ≡ Some own =
    named_next extended.0 own (λ block. may_visit (trail_at bytes size extended n) block) (name n) (sym (next_by_name bytes size extended n) ∙ next) in
    let link : name (suc n) ≡ link_of (boot own) = link_by_name bytes size extended.0 own (name n) named in
    let more : map link_of (map boot (take (suc n) front)) ≡ map link_of (map boot (take n front)) ++ link_of (boot own) ∷ [] =
    ap (λ l. map link_of (map boot l)) (take-suc front n 0 below) ∙ ap (map link_of) (map-append boot (take n front) (own ∷ [])) ∙ map-append link_of (map boot (take n front)) (boot own ∷ []) in
    ap (λ l. Some 0 ∷ l) more
    ∙ ap (λ l. l ++ link_of (boot own) ∷ []) (named_so_far bytes size extended front each n (omega arith))
    ∙ ap (λ o. map name (range_with_len 0 (n + 1)) ++ o ∷ []) (sym link)
    ∙ sym (map-range_with_len_more name 0 (n + 1) (suc n) (omega arith))
    ∙ ap (λ k. map name (range_with_len 0 k)) (omega arith)

followed : (bytes : List ℕ) (size : ℕ) (extended : ℕ × ℕ) (front : List ℕ) → ((k : ℕ) → k < length front → slice_get front k ≡ next_record_block (trail_at bytes size extended k))
    → next_record_block (trail_at bytes size extended (length front)) ≡ None → (n : ℕ) → n ≤ length front
    → next_record_block (trail_of extended.0 extended.1 (map (λ own. boot_record_at bytes size own) (take n front))) ≡ slice_get front n
followed bytes size extended front each last n h =
    let same : next_record_block (trail_of extended.0 extended.1 (map (λ own. boot_record_at bytes size own) (take n front))) ≡ next_record_block (trail_at bytes size extended n) =
    ap (λ l. next_record_block (record { start = extended.0; size = extended.1; named = l })) (named_so_far bytes size extended front each n h) in
    elim (cases_lt n (length front)) [
      | inl below ↦ same ∙ sym (each n below)
      | inr past ↦ let ended : n ≡ length front = omega arith in same ∙ ap (λ k. next_record_block (trail_at bytes size extended k)) ended ∙ last ∙ sym (slice_get_past front n past)
    ]

front_followed : (bytes : List ℕ) (size : ℕ) (extended : ℕ × ℕ) (front : List ℕ) → Fronts (λ k. next_record_block (trail_at bytes size extended k)) 0 128 front → (n : ℕ) → n ≤ length front
    → next_record_block (trail_of extended.0 extended.1 (map (λ own. boot_record_at bytes size own) (take n front))) ≡ slice_get front n
front_followed bytes size extended front f n h =
    let last : next_record_block (trail_at bytes size extended (length front)) ≡ None =
    elim (cases_lt (length front) 128) [
      | inl below ↦ let here : length front ≡ 0 + length front = omega arith in ap (λ k. next_record_block (trail_at bytes size extended k)) here ∙ f.next below
      | inr past ↦ full bytes size extended (length front) past
    ] in
    followed bytes size extended front (λ k below. f.each k below ∙ ap (λ j. next_record_block (trail_at bytes size extended j)) (zero-add k)) last n h

pub chain_is_followed : ChainIsFollowed
unfolding chain_of
chain_is_followed bytes size extended n h =
    front_followed bytes size extended (chain_of bytes size extended) (fronts (λ k. next_record_block (trail_at bytes size extended k)) 0 128) n h

pub logicals_are_given : LogicalsAreGiven
logicals_are_given bytes size extended fed own h =
    rw h (by_record (mbr_of (boot_record_at bytes size own)))
  where
    by_test : (b : Bool) (r : MbrRecord) (p : ℕ × ℕ)
        → (if b then Some p else None) ≡ option_map (λ (l : MbrRecord × (ℕ × ℕ)). l.1) (option_map (λ blocks. (r, blocks)) (if b then Some p else None))
    by_test true r p = refl
    by_test false r p = refl

    by_record : (o : Option Fields)
        → option_and_then (λ ebr. logical_at (trail_of extended.0 extended.1 fed) own (numbered_record 0 ebr)) o
        ≡ option_map (λ (l : MbrRecord × (ℕ × ℕ)). l.1) (option_and_then (λ ebr. option_map (λ blocks. (numbered_record 0 ebr, blocks)) (logical_at (trail_at bytes size extended 0) own (numbered_record 0 ebr))) o)
    by_record None = refl
    by_record (Some ebr) =
        let r = numbered_record 0 ebr in
        by_test (is_data r && not (r.start == 0) && is_inside (trail_at bytes size extended 0) (own + r.start) r.size) r (own + r.start, r.size)
