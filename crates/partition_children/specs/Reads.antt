-- The reads of a probe: which bytes of the medium it asks for, as a function of the medium's bytes (UEFI 2.10, chapter 5; their order
-- and lengths: own profile). A read is its first byte and its length.
use Rattle.std.specs.Prelude.{ℕ, ◌+◌, ◌-◌, ◌*◌, ◌==◌, ◌&&◌, not, nat_lt, List, [], ◌∷◌, ◌++◌, map, Option, Some, None, is_none, is_some, if◌then◌else◌}
use Rattle.std.specs.List.{list_any}
use Rattle.std.specs.Option.{option_map_or}
use Rattle.mbr_records.specs.Block.{Fields, extended_range, mbr_of}
use Rattle.mbr_records.specs.Record.{is_protective}
use Rattle.gpt_headers.specs.Array.{array_range_of}
use Rattle.gpt_headers.specs.Header.{header_fault, header_fields}
use Rattle.partition_tables.specs.Blocks.{boot_record_at, medium_blocks, table_block}
use Rattle.partition_tables.specs.GptTable.{good_header}
use Rattle.partition_tables.specs.MbrTable.{chain_of}

-- a boot record: 512 bytes
abbrev pub record_read : ℕ → ℕ → ℕ × ℕ
record_read size lba = (lba * size, 512)

-- the array of a header, where it lies on the medium and is not empty
abbrev pub array_read : Option (ℕ × ℕ) → List (ℕ × ℕ)
array_read None = []
array_read (Some (at, count)) = if count == 0 then [] else (at, count) ∷ []

-- a block of one of the two headers, and its array where it passes every test
abbrev pub block_reads : List ℕ → ℕ → ℕ → List ℕ → List (ℕ × ℕ)
block_reads bytes size lba block =
    (lba * size, size) ∷ (if is_none (header_fault lba block) then array_read (array_range_of (header_fields block) (medium_blocks bytes size) size) else [])

-- a place of a header that is not on the medium, or is block 0, is not read
abbrev pub header_reads : List ℕ → ℕ → ℕ → List (ℕ × ℕ)
header_reads bytes size lba =
    if not (lba == 0) && nat_lt lba (medium_blocks bytes size) then block_reads bytes size lba (table_block bytes size lba) else []

-- the header at LBA 1; where it or its array is bad, that at the last LBA
abbrev pub gpt_reads : List ℕ → ℕ → List (ℕ × ℕ)
gpt_reads bytes size =
    header_reads bytes size 1 ++ (if is_some (good_header bytes size 1) then [] else header_reads bytes size (medium_blocks bytes size - 1))

-- each extended boot record of a chain
abbrev pub chain_reads : List ℕ → ℕ → ℕ × ℕ → List (ℕ × ℕ)
chain_reads bytes size extended = map (record_read size) (chain_of bytes size extended)

-- what is read behind the first block
abbrev pub reads_by : List ℕ → ℕ → Option Fields → List (ℕ × ℕ)
reads_by bytes size None = []
reads_by bytes size (Some mbr) =
    if list_any is_protective mbr.records then gpt_reads bytes size
    else option_map_or (λ extended. chain_reads bytes size extended) (extended_range (medium_blocks bytes size) mbr.records) []

-- all reads in their order
unfoldable pub probe_reads : List ℕ → ℕ → List (ℕ × ℕ)
probe_reads bytes size = record_read size 0 ∷ reads_by bytes size (mbr_of (boot_record_at bytes size 0))
