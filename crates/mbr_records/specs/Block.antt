-- A block that holds a master boot record, or an extended boot record, which has the same fields.
use Rattle.std.specs.Prelude.{ℕ, ◌+◌, ◌*◌, ◌==◌, ◌&&◌, Bool, not, List, [], ◌∷◌, map, find, slice_index, slice_index_or, slice_range, Option, Some, None, if◌then◌else◌}
use Rattle.std.specs.List.{list_any, enumerate_from}
use Rattle.std.specs.Option.{option_map}
use Rattle.mbr_records.specs.declared.partition_record.MbrRecord.{MbrRecord}
use Rattle.mbr_records.specs.Record.{record_of, is_data, is_extended, is_on_medium, is_used_record, four_byte_number, records_share_block}

-- what a master boot record tells
pub record Fields : Type 0 where
  pub signature : ℕ
  pub records : List MbrRecord

-- the block ends its first 512 bytes with 55 AA (UEFI 2.10, 5.2.1, "Legacy MBR")
abbrev pub is_marked : List ℕ → Bool
is_marked block = slice_index block 510 == 0x55 && slice_index block 511 == 0xAA

-- the four records, from byte 446 on (UEFI 2.10, 5.2.1)
abbrev pub four_records : List ℕ → List MbrRecord
four_records block = map (λ i. record_of (slice_range block (446 + 16 * i) (462 + 16 * i))) (0 ∷ 1 ∷ 2 ∷ 3 ∷ [])

-- the fields of the block: the disk signature is at byte 440 (UEFI 2.10, 5.2.1)
abbrev pub boot_fields : List ℕ → Fields
boot_fields block = record { signature = four_byte_number 440 block; records = four_records block }

-- the master boot record in the block, where it is marked
abbrev pub mbr_of : List ℕ → Option Fields
mbr_of block = if is_marked block then Some (boot_fields block) else None

-- the record at place i, of the four from 0 on
abbrev pub numbered_record : ℕ → Fields → MbrRecord
numbered_record i mbr = slice_index_or mbr.records i (record { boot = 0; os_type = 0; start = 0; size = 0 })

-- the record at place i shares a block with another used record
abbrev pub overlaps_another_record : List MbrRecord → ℕ → MbrRecord → Bool
overlaps_another_record records i r = list_any (λ (j, s). not (j == i) && is_used_record s && records_share_block r s) (enumerate_from 0 records)

-- the record at place i gives a partition of a medium of so many blocks (own profile)
abbrev pub record_gives_partition : ℕ → List MbrRecord → ℕ → MbrRecord → Bool
record_gives_partition blocks records i r = is_data r && is_on_medium blocks r && not (overlaps_another_record records i r)

-- which of the records give a partition
abbrev pub usable_records : ℕ → List MbrRecord → List Bool
usable_records blocks records = map (λ (i, r). record_gives_partition blocks records i r) (enumerate_from 0 records)

-- where the extended partition begins, and how many blocks it has (own profile)
abbrev pub extended_range : ℕ → List MbrRecord → Option (ℕ × ℕ)
extended_range blocks records = option_map (λ r. (r.start, r.size)) (find (λ r. is_extended r && is_on_medium blocks r) records)
