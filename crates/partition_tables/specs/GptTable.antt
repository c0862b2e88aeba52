-- The good headers of a GPT, and their children (UEFI 2.10, 5.3.2 and 5.3.3; which headers are good and which entries give a child: own
-- profile).
use Rattle.std.specs.Prelude.{ℕ, ◌+◌, ◌-◌, ◌*◌, ◌==◌, ◌&&◌, not, nat_lt, List, [], map, filter, slice_range, Option, Some, None, is_none, option_and_then, option_map, if◌then◌else◌}
use Rattle.std.specs.List.{enumerate_from, range_with_len}
use Rattle.crc_table.specs.Crc32.{crc32_of}
use Rattle.gpt_headers.specs.declared.entry.GptEntry.{GptEntry}
use Rattle.gpt_headers.specs.Array.{array_range_of}
use Rattle.gpt_headers.specs.Entry.{entry_in, entry_gives_partition}
use Rattle.gpt_headers.specs.Fields.{HeaderFields}
use Rattle.gpt_headers.specs.Header.{header_fault, header_fields}
use Rattle.gpt_headers.specs.Limits.{least_entry}
use Rattle.partition_tables.specs.declared.table.Child.{Child}
use Rattle.partition_tables.specs.declared.table.Origin.TheVariants.{Gpt}
use Rattle.partition_tables.specs.declared.table.Table.{Table}
use Rattle.partition_tables.specs.declared.table.TableKind.TheVariants.{GptPrimary, GptBackup, GptDamaged}
use Rattle.partition_tables.specs.Blocks.{table_block, medium_blocks}

-- the bytes of a header's array, where it lies on the medium
abbrev pub array_of : List ℕ → ℕ → HeaderFields → Option (List ℕ)
array_of bytes size h = option_map (λ (at, count). slice_range bytes at (at + count)) (array_range_of h (medium_blocks bytes size) size)

-- a header with its array, where this lies on the medium and has the CRC32 that the header tells
abbrev pub header_with_array : List ℕ → ℕ → HeaderFields → Option (HeaderFields × List ℕ)
header_with_array bytes size h =
    option_and_then (λ array. if crc32_of array == h.array_crc then Some (h, array) else None) (array_of bytes size h)

-- The good header at this LBA, with its array: the block is one of the medium and not its first, it holds a header that passes every
-- test, and the array is good too.
unfoldable pub good_header : List ℕ → ℕ → ℕ → Option (HeaderFields × List ℕ)
good_header bytes size lba =
    if not (lba == 0) && nat_lt lba (medium_blocks bytes size) && is_none (header_fault lba (table_block bytes size lba))
    then header_with_array bytes size (header_fields (table_block bytes size lba)) else None

-- the entries in a header's array, each as its first 128 bytes tell it
abbrev pub array_entries : HeaderFields → List ℕ → List GptEntry
array_entries h array = map (λ i. entry_in (slice_range array (i * h.entry_size) (i * h.entry_size + least_entry))) (range_with_len 0 h.count)

-- what entry i gives, from 1 on, where it gives a child: that with its number
abbrev pub child_of_entry : ℕ × GptEntry → Child
child_of_entry (i, e) =
    record { number = i + 1; first = e.first; blocks = e.last - e.first + 1; origin = Gpt e.kind e.unique e.attributes }

-- the children of a header's entries, on a medium of so many blocks
abbrev pub entry_children : ℕ → HeaderFields → List GptEntry → List Child
entry_children blocks h entries = map child_of_entry (filter (λ (i, e). entry_gives_partition h blocks entries i e) (enumerate_from 0 entries))

unfoldable pub gpt_children : ℕ → HeaderFields × List ℕ → List Child
gpt_children blocks (h, array) = entry_children blocks h (array_entries h array)

-- the table of a disk with a protective master boot record: that of the header at LBA 1 where it is good, else that of the header at the
-- last LBA where this is
abbrev pub gpt_table_by : ℕ → Option (HeaderFields × List ℕ) → Option (HeaderFields × List ℕ) → Table
gpt_table_by blocks (Some good) backup = record { kind = GptPrimary; children = gpt_children blocks good }
gpt_table_by blocks None (Some good) = record { kind = GptBackup; children = gpt_children blocks good }
gpt_table_by blocks None None = record { kind = GptDamaged; children = [] }

abbrev pub gpt_table : List ℕ → ℕ → Table
gpt_table bytes size =
    gpt_table_by (medium_blocks bytes size) (good_header bytes size 1) (good_header bytes size (medium_blocks bytes size - 1))
