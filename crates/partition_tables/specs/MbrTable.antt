-- The children of a master boot record: those of its four records, and those of the chain of extended boot records (UEFI 2.10, 5.2.1;
-- which records give a child, and the chain: own profile).
use Rattle.std.specs.Prelude.{ℕ, zero, suc, ◌+◌, List, [], ◌++◌, map, filter, filter_map, take_while, Option, Some, is_some, option_and_then, option_map}
use Rattle.std.specs.List.{enumerate_from, range_with_len}
use Rattle.std.specs.Option.{option_map_or}
use Rattle.mbr_records.specs.declared.partition_record.MbrRecord.{MbrRecord}
use Rattle.mbr_records.specs.Block.{Fields, extended_range, record_gives_partition, mbr_of, numbered_record}
use Rattle.mbr_records.specs.Chain.{Trail, link_of, logical_at, most_read, next_record_block}
use Rattle.partition_tables.specs.declared.table.Child.{Child}
use Rattle.partition_tables.specs.declared.table.Origin.TheVariants.{Mbr}
use Rattle.partition_tables.specs.Blocks.{medium_blocks, boot_record_at}

-- the child with these blocks, of a record on a disk with this signature
abbrev pub child_of_record : ℕ → ℕ → MbrRecord → ℕ × ℕ → Child
child_of_record signature number r (first, blocks) =
    record { number = number; first = first; blocks = blocks; origin = Mbr r.os_type signature r.boot }

-- record i of the four, from 1 on, gives child i
abbrev pub primaries_of : ℕ → Fields → List Child
primaries_of blocks mbr =
    map (λ (i, r). child_of_record mbr.signature (i + 1) r (r.start, r.size))
    (filter (λ (i, r). record_gives_partition blocks mbr.records i r) (enumerate_from 0 mbr.records))

-- What the extended partition and then each extended boot record names as the next, counted from the extended partition's start: the
-- partition its own first block, each record what its second record tells.
abbrev pub next_name_at : List ℕ → ℕ → ℕ → ℕ → Option ℕ
next_name_at bytes size start zero = Some 0
next_name_at bytes size start (suc n) =
    option_and_then (λ place. link_of (boot_record_at bytes size (start + place))) (next_name_at bytes size start n)

-- the chain of an extended partition after its first n records
abbrev pub trail_at : List ℕ → ℕ → ℕ × ℕ → ℕ → Trail
trail_at bytes size (start, count) n =
    record { start = start; size = count; named = map (λ k. next_name_at bytes size start k) (range_with_len 0 (n + 1)) }

-- the blocks of its extended boot records in order: up to the first place where no next one is read
unfoldable pub chain_of : List ℕ → ℕ → ℕ × ℕ → List ℕ
chain_of bytes size extended =
    filter_map (λ n. next_record_block (trail_at bytes size extended n))
    (take_while (λ n. is_some (next_record_block (trail_at bytes size extended n))) (range_with_len 0 most_read))

-- the first record of an extended boot record, with the blocks of the logical partition that it gives
abbrev pub logical_in : List ℕ → ℕ → ℕ × ℕ → ℕ → Option (MbrRecord × (ℕ × ℕ))
logical_in bytes size extended own =
    option_and_then (λ ebr. option_map (λ blocks. (numbered_record 0 ebr, blocks)) (logical_at (trail_at bytes size extended 0) own (numbered_record 0 ebr)))
    (mbr_of (boot_record_at bytes size own))

-- the logical partitions take the numbers from 5 on, in the order of the chain
abbrev pub logicals_of : List ℕ → ℕ → ℕ → ℕ × ℕ → List Child
logicals_of bytes size signature extended =
    map (λ (number, (r, blocks)). child_of_record signature number r blocks)
    (enumerate_from 5 (filter_map (λ own. logical_in bytes size extended own) (chain_of bytes size extended)))

-- the children of the records, and then those of the first extended partition on the medium
unfoldable pub mbr_children : List ℕ → ℕ → Fields → List Child
mbr_children bytes size mbr =
    primaries_of (medium_blocks bytes size) mbr
    ++ option_map_or (λ extended. logicals_of bytes size mbr.signature extended) (extended_range (medium_blocks bytes size) mbr.records) []
