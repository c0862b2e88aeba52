-- The header in a block: its fields, and the tests that it passes (UEFI 2.10, 5.3.2, "GPT Header"; their order and bounds are own profile).
use Rattle.std.specs.Prelude.{ℕ, ◌*◌, ◌==◌, ◌&&◌, Bool, not, nat_eq, nat_le, List, [], ◌∷◌, ◌++◌, length, take, replicate, slice_range, find, codes, Option, option_map}
use Rattle.std.specs.List.{starts_with}
use Rattle.std.specs.Int.{is_power_of_two}
use Rattle.crc_table.specs.Crc32.{crc32_of}
use Rattle.gpt_headers.specs.declared.header.HeaderFault.{HeaderFault}
use Rattle.gpt_headers.specs.declared.header.HeaderFault.TheVariants.{Signature, Size, Crc, Place, EntrySize, TooLarge}
use Rattle.gpt_headers.specs.Fields.{HeaderFields, guid_at, number_at}
use Rattle.gpt_headers.specs.Limits.{least_entry, least_header, most_array}

-- the fields that readers give
unfoldable pub header_fields : List ℕ → HeaderFields
header_fields block = record {
  alternate = number_at 32 8 block;
  first_usable = number_at 40 8 block;
  last_usable = number_at 48 8 block;
  disk_guid = guid_at 56 block;
  array_lba = number_at 72 8 block;
  count = number_at 80 4 block;
  entry_size = number_at 84 4 block;
  array_crc = number_at 88 4 block;
}

-- it begins with EFI PART
unfoldable pub begins_as_header : List ℕ → Bool
begins_as_header block = starts_with nat_eq block (codes "EFI PART")

-- how many bytes the header says that it has
abbrev pub header_size : List ℕ → ℕ
header_size block = number_at 12 4 block

-- these are at least 92, and no more than the block's
unfoldable pub has_size : List ℕ → Bool
has_size block = nat_le least_header (header_size block) && nat_le (header_size block) (length block)

-- the CRC32 of the first bytes, with those from 16 to 19 as zero
abbrev pub crc_of : ℕ → List ℕ → ℕ
crc_of size block = crc32_of (take 16 block ++ replicate 4 0 ++ slice_range block 20 size)

-- the header has the CRC32 that it tells
unfoldable pub has_crc : List ℕ → Bool
has_crc block = crc_of (header_size block) block == number_at 16 4 block

-- MyLBA is the block that was read
unfoldable pub has_place : ℕ → List ℕ → Bool
has_place lba block = number_at 24 8 block == lba

-- 128 bytes times a power of two
abbrev pub is_entry_size : ℕ → Bool
is_entry_size size = nat_le least_entry size && is_power_of_two size

unfoldable pub has_entry_size : List ℕ → Bool
has_entry_size block = is_entry_size (number_at 84 4 block)

-- the entries have at most 1 MiB
unfoldable pub has_small_array : List ℕ → Bool
has_small_array block = nat_le (number_at 80 4 block * number_at 84 4 block) most_array

-- the tests in their order, each with the fault where it fails, and whether it holds of the block that was read at this LBA
abbrev pub header_tests : ℕ → List ℕ → List (HeaderFault × Bool)
header_tests lba block =
    (Signature, begins_as_header block)
    ∷ (Size, has_size block)
    ∷ (Crc, has_crc block)
    ∷ (Place, has_place lba block)
    ∷ (EntrySize, has_entry_size block)
    ∷ (TooLarge, has_small_array block)
    ∷ []

-- the fault of the first test that fails, and none where every test holds
unfoldable pub header_fault : ℕ → List ℕ → Option HeaderFault
header_fault lba block = option_map (λ t. t.0) (find (λ t. not t.1) (header_tests lba block))
