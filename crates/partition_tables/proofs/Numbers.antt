-- The numbers of a table's children rise.
use Rattle.std.proofs.Common.{◌≡◌, ℕ, zero, suc, ◌+◌, ◌-◌, ◌<◌, ◌≤◌, Bool, true, false, List, [], ◌∷◌, ◌++◌, length, get_or, map, refl, ap, subst, cond, arith, Option, Some, None}
use Rattle.std.specs.Prelude.{All, IfSome, filter, filter_map, if◌then◌else◌}
use Rattle.std.specs.List.{enumerate_from, list_any}
use Rattle.std.specs.Option.{option_map_or}
use Rattle.std.proofs.lemmas.List.Elements.{All-cons, All-filter, All-head, All-map, All-nil, All-tail, All-weaker}
use Rattle.mbr_records.specs.declared.partition_record.MbrRecord.{MbrRecord}
use Rattle.mbr_records.specs.Block.{Fields, extended_range, boot_fields, record_gives_partition, is_marked, mbr_of}
use Rattle.mbr_records.specs.Record.{is_protective}
use Rattle.gpt_headers.specs.Entry as gpt
use Rattle.gpt_headers.specs.Fields.{HeaderFields}
use Rattle.partition_tables.specs.declared.table.Child.{Child}
use Rattle.partition_tables.specs.declared.table.TableKind.TheVariants.{Mbr}
use Rattle.partition_tables.specs.Blocks.{medium_blocks, boot_record_at}
use Rattle.partition_tables.specs.MbrTable.{chain_of, child_of_record, logical_in, logicals_of, mbr_children, primaries_of}
use Rattle.partition_tables.specs.GptTable.{child_of_entry, array_entries, entry_children, gpt_table_by, good_header, gpt_children, gpt_table}
use Rattle.partition_tables.specs.Table.{table_by, table_of}
use Rattle.partition_tables.specs.Law.{NumbersAscend}

-- the numbers rise from one that is not below this
abbrev Rises : ℕ → List Child → Type 0
Rises low [] = Unit {0}
Rises low (c ∷ cs) = (low ≤ c.number) × Rises (c.number + 1) cs

rises_lower : (low below : ℕ) (cs : List Child) → below ≤ low → Rises low cs → Rises below cs
rises_lower low below [] h r = tt
rises_lower low below (c ∷ cs) h r = (omega (arith, r.0), r.1)

from_rises : (low k : ℕ) (cs : List Child) (d : Child) → Rises low cs → k < length cs → low ≤ (get_or cs k d).number
from_rises low k [] d r h = absurd (omega arith)
from_rises low zero (c ∷ cs) d r h = r.0
from_rises low (suc k) (c ∷ cs) d r h = omega (arith, r.0, from_rises (c.number + 1) k cs d r.1 (omega arith))

pairs_from_rises : (low : ℕ) (cs : List Child) → Rises low cs → (i j : ℕ) (d : Child) → i < j → j < length cs → (get_or cs i d).number < (get_or cs j d).number
pairs_from_rises low [] r i j d h k = absurd (omega arith)
pairs_from_rises low (c ∷ cs) r i zero d h k = absurd (omega arith)
pairs_from_rises low (c ∷ cs) r zero (suc j) d h k = omega (arith, from_rises (c.number + 1) j cs d r.1 (omega arith))
pairs_from_rises low (c ∷ cs) r (suc i) (suc j) d h k = pairs_from_rises (c.number + 1) cs r.1 i j d (omega arith) (omega arith)

rises_append : (low next : ℕ) (cs ds : List Child) → Rises low cs → All (λ c. c.number < next) cs → low ≤ next → Rises next ds → Rises low (cs ++ ds)
rises_append low next [] ds r below h s = rises_lower next low ds h s
rises_append low next (c ∷ cs) ds r below h s =
    let here : c.number < next = All-head (λ e. e.number < next) c cs below in
    (r.0, rises_append (c.number + 1) next cs ds r.1 (All-tail (λ e. e.number < next) c cs below) (omega arith) s)

-- what stands in order of place, some of it kept, each made a child whose number is its place and as much
rises_kept : {X : Type 0} (more : ℕ) (q : ℕ × X → Bool) (f : ℕ × X → Child) → ((p : ℕ × X) → (f p).number ≡ p.0 + more)
    → (n : ℕ) (xs : List X) → Rises (n + more) (map f (filter q (enumerate_from n xs)))
rises_kept more q f number n [] = tt
rises_kept {X} more q f number n (x ∷ xs) = one (q (n, x)) (filter q (enumerate_from (n + 1) xs)) (rises_kept more q f number (n + 1) xs)
  where
    one : (b : Bool) (ps : List (ℕ × X)) → Rises (n + 1 + more) (map f ps) → Rises (n + more) (map f (cond b ((n, x) ∷ ps) ps))
    one true ps r = (omega (arith, number (n, x)), rises_lower (n + 1 + more) ((f (n, x)).number + 1) (map f ps) (omega (arith, number (n, x))) r)
    one false ps r = rises_lower (n + 1 + more) (n + more) (map f ps) (omega arith) r

places_below : {X : Type 0} (high n : ℕ) (xs : List X) → n + length xs ≤ high → All (λ (p : ℕ × X). p.0 < high) (enumerate_from n xs)
places_below {X} high n [] h = All-nil (λ (p : ℕ × X). p.0 < high)
places_below {X} high n (x ∷ xs) h = All-cons (λ (p : ℕ × X). p.0 < high) (n, x) (enumerate_from (n + 1) xs) (omega arith) (places_below high (n + 1) xs (omega arith))

primaries_below : (blocks : ℕ) (mbr : Fields) → length mbr.records ≡ 4 → All (λ c. c.number < 5) (primaries_of blocks mbr)
primaries_below blocks mbr four =
    let q : ℕ × MbrRecord → Bool = λ (i, r). record_gives_partition blocks mbr.records i r in
    All-map (λ c. c.number < 5) (λ (i, r). child_of_record mbr.signature (i + 1) r (r.start, r.size)) (filter q (enumerate_from 0 mbr.records))
    (All-weaker (λ p. p.0 < 4) (λ p. p.0 + 1 < 5) (λ p h. omega (arith, h)) (filter q (enumerate_from 0 mbr.records))
    (All-filter q (λ p. p.0 < 4) (enumerate_from 0 mbr.records) (places_below 4 0 mbr.records (omega arith))))

kept_all : {X : Type 0} (xs : List X) → filter (λ _. true) xs ≡ xs
kept_all [] = refl
kept_all (x ∷ xs) = ap (λ l. x ∷ l) (kept_all xs)

logicals_rise : (bytes : List ℕ) (size signature : ℕ) (extended : ℕ × ℕ) → Rises 5 (logicals_of bytes size signature extended)
logicals_rise bytes size signature extended =
    let given = filter_map (λ own. logical_in bytes size extended own) (chain_of bytes size extended) in
    let make : ℕ × (MbrRecord × (ℕ × ℕ)) → Child = λ (number, (r, blocks)). child_of_record signature number r blocks in
    subst (λ l. Rises 5 (map make l)) (kept_all (enumerate_from 5 given))
    (rises_kept 0 (λ _. true) make (λ p. omega arith) 5 given)

mbr_rise : (bytes : List ℕ) (size : ℕ) (mbr : Fields) → length mbr.records ≡ 4 → Rises 0 (mbr_children bytes size mbr)
unfolding mbr_children
mbr_rise bytes size mbr four =
    let blocks = medium_blocks bytes size in
    let primaries = rises_kept 1 (λ (i, r). record_gives_partition blocks mbr.records i r) (λ (i, r). child_of_record mbr.signature (i + 1) r (r.start, r.size)) (λ p. refl) 0 mbr.records in
    rises_append 0 5 (primaries_of blocks mbr) _ (rises_lower 1 0 (primaries_of blocks mbr) (omega arith) primaries) (primaries_below blocks mbr four) (omega arith)
    (by_extended (extended_range blocks mbr.records))
  where
    by_extended : (o : Option (ℕ × ℕ)) → Rises 5 (option_map_or (λ extended. logicals_of bytes size mbr.signature extended) o [])
    by_extended None = tt
    by_extended (Some extended) = logicals_rise bytes size mbr.signature extended

entries_rise : (blocks : ℕ) (good : HeaderFields × List ℕ) → Rises 0 (gpt_children blocks good)
unfolding gpt_children
entries_rise blocks (h, array) =
    let entries = array_entries h array in
    rises_lower 1 0 (entry_children blocks h entries) (omega arith)
    (rises_kept 1 (λ (i, e). gpt.entry_gives_partition h blocks entries i e) child_of_entry (λ p. refl) 0 entries)

gpt_rise : (blocks : ℕ) (primary backup : Option (HeaderFields × List ℕ)) → Rises 0 (gpt_table_by blocks primary backup).children
gpt_rise blocks (Some good) backup = entries_rise blocks good
gpt_rise blocks None (Some good) = entries_rise blocks good
gpt_rise blocks None None = tt

table_rises : (bytes : List ℕ) (size : ℕ) (o : Option Fields) → IfSome o (λ mbr. length mbr.records ≡ 4) → Rises 0 (table_by bytes size o).children
table_rises bytes size None h = tt
table_rises bytes size (Some mbr) h = by_cover (list_any is_protective mbr.records)
  where
    by_cover : (b : Bool) → Rises 0 (if b then gpt_table bytes size else record { kind = Mbr; children = mbr_children bytes size mbr }).children
    by_cover true = gpt_rise (medium_blocks bytes size) (good_header bytes size 1) (good_header bytes size (medium_blocks bytes size - 1))
    by_cover false = mbr_rise bytes size mbr h

four_records : (b : Bool) (block : List ℕ) → IfSome (if b then Some (boot_fields block) else None) (λ mbr. length mbr.records ≡ 4)
four_records true block = refl
four_records false block = tt

pub numbers_ascend : NumbersAscend
unfolding table_of
numbers_ascend bytes size =
    let block = boot_record_at bytes size 0 in
    pairs_from_rises 0 (table_of bytes size).children (table_rises bytes size (mbr_of block) (four_records (is_marked block) block))
