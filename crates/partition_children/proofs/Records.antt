-- The children of the records of a master boot record.
use Rattle.std.proofs.Common.{◌≡◌, ◌<◌, ℕ, ◌+◌, Bool, List, get_or, length, map, refl, sym, ap, ◌∙◌, arith}
use Rattle.std.specs.List.{enumerate_from}
use Rattle.std.proofs.lemmas.List.{get_or-map, length-map}
use Rattle.std.proofs.lemmas.List.FromFn.{get_or-enumerate_from, length-enumerate_from}
use Rattle.mbr_records.specs.declared.partition_record.MbrRecord.{MbrRecord}
use Rattle.mbr_records.specs.Block.{Fields, record_gives_partition, usable_records}
use Rattle.partition_tables.specs.declared.table.Child.{Child}
use Rattle.partition_tables.specs.MbrTable.{child_of_record}

-- the record at a place gives a child, and which one
abbrev pub gives_child : ℕ → Fields → ℕ × MbrRecord → Bool
gives_child blocks mbr (i, r) = record_gives_partition blocks mbr.records i r

abbrev pub child_at : Fields → ℕ × MbrRecord → Child
child_at mbr (i, r) = child_of_record mbr.signature (i + 1) r (r.start, r.size)

-- the flags tell which records give one
pub records-flag : (blocks : ℕ) (mbr : Fields) (flags : List Bool) (place : ℕ) (r : MbrRecord) (b : Bool) → flags ≡ usable_records blocks mbr.records → place < length mbr.records → r ≡ get_or mbr.records place r
    → get_or flags place b ≡ gives_child blocks mbr (place, r)
records-flag blocks mbr flags place r b is within here =
    let gives = gives_child blocks mbr in
    let one : get_or (map gives (enumerate_from 0 mbr.records)) place b ≡ gives (0 + place, get_or mbr.records place r) =
    get_or-map gives (enumerate_from 0 mbr.records) place (0, r) b (omega (arith, length-enumerate_from 0 mbr.records)) ∙ ap gives (get_or-enumerate_from 0 mbr.records place (0, r) within) in
    let same : 0 + place ≡ place = omega arith in
    ap (λ (l : List Bool). get_or l place b) is ∙ (one ∙ (ap (λ (i : ℕ). gives (i, get_or mbr.records place r)) same ∙ ap (λ (e : MbrRecord). gives (place, e)) (sym here)))
