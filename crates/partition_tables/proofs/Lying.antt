-- Each child of a table lies on the medium.
use Rattle.std.proofs.Common.{◌≡◌, ℕ, ◌+◌, ◌-◌, ◌≤◌, Bool, true, false, not, ◌&&◌, nat_le, nat_lt, List, [], ◌∷◌, map, refl, cond, arith, Option, Some, None}
use Rattle.std.specs.Prelude.{All, IfSome, filter, filter_map, find, option_and_then, option_map, ◌==◌, if◌then◌else◌}
use Rattle.std.specs.List.{cons_option, enumerate_from, list_any}
use Rattle.std.specs.Option.{option_map_or}
use Rattle.std.proofs.lemmas.Bool.Decides.{nat_tests}
use Rattle.std.proofs.lemmas.List.Elements.{All-append, All-cons, All-head, All-map, All-nil, All-tail, All-weaker, filter_passes}
use Rattle.mbr_records.specs.declared.partition_record.MbrRecord.{MbrRecord}
use Rattle.mbr_records.specs.Block.{Fields, extended_range, record_gives_partition, mbr_of, overlaps_another_record, numbered_record}
use Rattle.mbr_records.specs.Chain.{logical_at}
use Rattle.mbr_records.specs.Record.{is_data, is_extended, is_on_medium, is_protective}
use Rattle.gpt_headers.specs.Entry as entries
use Rattle.gpt_headers.specs.Fields.{HeaderFields}
use Rattle.partition_tables.specs.declared.table.Child.{Child}
use Rattle.partition_tables.specs.declared.table.TableKind.TheVariants.{Mbr}
use Rattle.partition_tables.specs.Blocks.{medium_blocks, boot_record_at}
use Rattle.partition_tables.specs.MbrTable.{chain_of, child_of_record, logical_in, logicals_of, mbr_children, primaries_of, trail_at}
use Rattle.partition_tables.specs.GptTable.{child_of_entry, array_entries, gpt_table_by, good_header, gpt_children, gpt_table}
use Rattle.partition_tables.specs.Table.{table_by, table_of}
use Rattle.partition_tables.specs.Law.{ChildrenLieOnTheMedium}

abbrev pub Lies : ℕ → Child → Type 0
Lies limit c = c.first + c.blocks ≤ limit

-- what passed a test, each made a child that lies on the medium
all_made : {X : Type 0} (limit : ℕ) (q : X → Bool) (f : X → Child) → ((x : X) → q x ≡ true → Lies limit (f x)) → (xs : List X) → All (λ c. Lies limit c) (map f (filter q xs))
all_made limit q f h xs = All-map (λ c. Lies limit c) f (filter q xs) (All-weaker (λ x. q x ≡ true) (λ x. Lies limit (f x)) h (filter q xs) (filter_passes q xs))

middle_test : (a c : Bool) (m n : ℕ) → (a && nat_le m n && c) ≡ true → m ≤ n
middle_test a c m n h = grind (arith, nat_tests)

primaries_lie : (limit : ℕ) (mbr : Fields) → All (λ c. Lies limit c) (primaries_of limit mbr)
primaries_lie limit mbr =
    all_made limit (λ (i, r). record_gives_partition limit mbr.records i r) (λ (i, r). child_of_record mbr.signature (i + 1) r (r.start, r.size))
    (λ (i, r) h. middle_test (is_data r) (not (overlaps_another_record mbr.records i r)) (r.start + r.size) limit h) (enumerate_from 0 mbr.records)

-- one more of what is some
all_one : {Y : Type 0} (P : Y → Type 0) (o : Option Y) (ys : List Y) → IfSome o P → All P ys → All P (cons_option o ys)
all_one P None ys here rest = rest
all_one P (Some y) ys here rest = All-cons P y ys here rest

-- what is some of each of a list
all_given : {X Y : Type 0} (P : Y → Type 0) (h : X → Option Y) → ((x : X) → IfSome (h x) P) → (xs : List X) → All P (filter_map h xs)
all_given P h each [] = All-nil P
all_given P h each (x ∷ xs) = all_one P (h x) (filter_map h xs) (each x) (all_given P h each xs)

all_placed : {X : Type 0} (P : X → Type 0) (n : ℕ) (xs : List X) → All P xs → All (λ (i, x). P x) (enumerate_from n xs)
all_placed P n [] h = All-nil (λ (i, x). P x)
all_placed P n (x ∷ xs) h = All-cons (λ (i, y). P y) (n, x) (enumerate_from (n + 1) xs) (All-head P x xs h) (all_placed P (n + 1) xs (All-tail P x xs h))

logical_lies : (bytes : List ℕ) (size limit own : ℕ) (extended : ℕ × ℕ) → extended.0 + extended.1 ≤ limit → IfSome (logical_in bytes size extended own) (λ (r, (first, blocks)). first + blocks ≤ limit)
logical_lies bytes size limit own extended h = by_record (mbr_of (boot_record_at bytes size own))
  where
    by_test : (b : Bool) (r : MbrRecord) (first blocks : ℕ) → (b ≡ true → first + blocks ≤ limit)
        → IfSome (option_map (λ blocks. (r, blocks)) (if b then Some (first, blocks) else None)) (λ (r, (first, blocks)). first + blocks ≤ limit)
    by_test true r first blocks k = k refl
    by_test false r first blocks k = tt

    inside : (a b : Bool) (start first count end : ℕ) → end ≤ limit → (a && b && (nat_le start first && nat_le (first + count) end)) ≡ true → first + count ≤ limit
    inside a b start first count end k inner = grind (arith, nat_tests)

    by_record : (o : Option Fields)
        → IfSome (option_and_then (λ ebr. option_map (λ blocks. (numbered_record 0 ebr, blocks)) (logical_at (trail_at bytes size extended 0) own (numbered_record 0 ebr))) o) (λ (r, (first, blocks)). first + blocks ≤ limit)
    by_record None = tt
    by_record (Some ebr) =
        let r = numbered_record 0 ebr in
        by_test (is_data r && not (r.start == 0) && (nat_le extended.0 (own + r.start) && nat_le (own + r.start + r.size) (extended.0 + extended.1))) r (own + r.start) r.size
        (λ inner. inside (is_data r) (not (r.start == 0)) extended.0 (own + r.start) r.size (extended.0 + extended.1) h inner)

logicals_lie : (bytes : List ℕ) (size limit signature : ℕ) (extended : ℕ × ℕ) → extended.0 + extended.1 ≤ limit → All (λ c. Lies limit c) (logicals_of bytes size signature extended)
logicals_lie bytes size limit signature extended h =
    let given = filter_map (λ own. logical_in bytes size extended own) (chain_of bytes size extended) in
    All-map (λ c. Lies limit c) (λ (number, (r, blocks)). child_of_record signature number r blocks) (enumerate_from 5 given)
    (all_placed (λ (r, (first, blocks)). first + blocks ≤ limit) 5 given
    (all_given (λ (r, (first, blocks)). first + blocks ≤ limit) (λ own. logical_in bytes size extended own) (λ own. logical_lies bytes size limit own extended h) (chain_of bytes size extended)))

-- what the first element that passes a test gives
first_found : {X Y : Type 0} (p : X → Bool) (g : X → Y) (Q : Y → Type 0) → ((x : X) → p x ≡ true → Q (g x)) → (xs : List X) → IfSome (option_map g (find p xs)) Q
first_found p g Q h [] = tt
first_found p g Q h (x ∷ xs) = one (p x) (h x) (first_found p g Q h xs)
  where
    one : (b : Bool) → (b ≡ true → Q (g x)) → IfSome (option_map g (find p xs)) Q → IfSome (option_map g (cond b (Some x) (find p xs))) Q
    one true here rest = here refl
    one false here rest = rest

extended_lies : (limit : ℕ) (records : List MbrRecord) → IfSome (extended_range limit records) (λ p. p.0 + p.1 ≤ limit)
extended_lies limit records =
    first_found (λ r. is_extended r && is_on_medium limit r) (λ r. (r.start, r.size)) (λ p. p.0 + p.1 ≤ limit) (λ r h. last_test (is_extended r) (r.start + r.size) h) records
  where
    last_test : (a : Bool) (m : ℕ) → (a && nat_le m limit) ≡ true → m ≤ limit
    last_test a m h = grind (arith, nat_tests)

mbr_lie : (bytes : List ℕ) (size : ℕ) (mbr : Fields) → All (λ c. Lies (medium_blocks bytes size) c) (mbr_children bytes size mbr)
unfolding mbr_children
mbr_lie bytes size mbr =
    let limit = medium_blocks bytes size in
    All-append (λ c. Lies limit c) (primaries_of limit mbr) _ (primaries_lie limit mbr) (by_extended (extended_range limit mbr.records) (extended_lies limit mbr.records))
  where
    by_extended : (o : Option (ℕ × ℕ)) → IfSome o (λ p. p.0 + p.1 ≤ medium_blocks bytes size)
        → All (λ c. Lies (medium_blocks bytes size) c) (option_map_or (λ extended. logicals_of bytes size mbr.signature extended) o [])
    by_extended None h = All-nil (λ c. Lies (medium_blocks bytes size) c)
    by_extended (Some extended) h = logicals_lie bytes size (medium_blocks bytes size) mbr.signature extended h

last_on_medium : (a b c d e : Bool) (first last blocks : ℕ) → (a && (nat_le first last && b && (c && nat_lt last blocks)) && d && e) ≡ true → first + (last - first + 1) ≤ blocks
last_on_medium a b c d e first last blocks h = grind (arith, nat_tests)

entries_lie : (limit : ℕ) (good : HeaderFields × List ℕ) → All (λ c. Lies limit c) (gpt_children limit good)
unfolding gpt_children
entries_lie limit (h, array) =
    all_made limit (λ (i, e). entries.entry_gives_partition h limit (array_entries h array) i e) child_of_entry
    (λ (i, e) given. last_on_medium (entries.is_used_entry e) (entries.is_usable_block h limit e.first) (nat_le h.first_usable e.last && nat_le e.last h.last_usable)
    (not (entries.overlaps_another_entry (array_entries h array) i e)) (not (entries.is_hidden e)) e.first e.last limit given)
    (enumerate_from 0 (array_entries h array))

gpt_lie : (limit : ℕ) (primary backup : Option (HeaderFields × List ℕ)) → All (λ c. Lies limit c) (gpt_table_by limit primary backup).children
gpt_lie limit (Some good) backup = entries_lie limit good
gpt_lie limit None (Some good) = entries_lie limit good
gpt_lie limit None None = All-nil (λ c. Lies limit c)

table_lies : (bytes : List ℕ) (size : ℕ) (o : Option Fields) → All (λ c. Lies (medium_blocks bytes size) c) (table_by bytes size o).children
table_lies bytes size None = All-nil (λ c. Lies (medium_blocks bytes size) c)
table_lies bytes size (Some mbr) = by_cover (list_any is_protective mbr.records)
  where
    by_cover : (b : Bool) → All (λ c. Lies (medium_blocks bytes size) c) (if b then gpt_table bytes size else record { kind = Mbr; children = mbr_children bytes size mbr }).children
    by_cover true = gpt_lie (medium_blocks bytes size) (good_header bytes size 1) (good_header bytes size (medium_blocks bytes size - 1))
    by_cover false = mbr_lie bytes size mbr

pub children_lie : ChildrenLieOnTheMedium
unfolding table_of
children_lie bytes size = table_lies bytes size (mbr_of (boot_record_at bytes size 0))
