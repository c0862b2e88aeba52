-- A partition record, and what it says of the disk. A record counts blocks from its start on.
use Rattle.std.specs.Prelude.{ℕ, ◌+◌, ◌<◌, ◌≤◌, ◌==◌, ◌&&◌, ◌||◌, Bool, not, nat_le, nat_lt, max, min, List, slice_index, slice_range}
use Rattle.byteorder.specs.Endian.{little_number}
use Rattle.mbr_records.specs.declared.partition_record.MbrRecord.{MbrRecord}

-- the number in the four bytes from this place on, little-endian
abbrev pub four_byte_number : ℕ → List ℕ → ℕ
four_byte_number place bytes = little_number 4 (slice_range bytes place (place + 4))

-- the record in these 16 bytes (UEFI 2.10, 5.2.1, "Legacy MBR Partition Record"); both CHS fields are passed over
unfoldable pub record_of : List ℕ → MbrRecord
record_of bytes = record {
  boot = slice_index bytes 0;
  os_type = slice_index bytes 4;
  start = four_byte_number 8 bytes;
  size = four_byte_number 12 bytes;
}

-- the record describes some blocks (own profile)
abbrev pub is_used_record : MbrRecord → Bool
is_used_record r = not (r.os_type == 0x00) && not (r.size == 0)

-- it is the cover that a disk with a GPT shows (UEFI 2.10, 5.2.3); its size is not asked (own profile)
abbrev pub is_protective : MbrRecord → Bool
is_protective r = r.os_type == 0xEE && r.start == 1

-- it is of one of the two types of an extended partition (own profile)
abbrev pub has_extended_type : MbrRecord → Bool
has_extended_type r = r.os_type == 0x05 || r.os_type == 0x0F

-- it describes an extended partition
abbrev pub is_extended : MbrRecord → Bool
is_extended r = is_used_record r && has_extended_type r

-- it describes a partition that holds data (own profile)
abbrev pub is_data : MbrRecord → Bool
is_data r = is_used_record r && not (has_extended_type r) && not (r.os_type == 0xEE)

-- its end is at most that of a medium of so many blocks
abbrev pub is_on_medium : ℕ → MbrRecord → Bool
is_on_medium blocks r = nat_le (r.start + r.size) blocks

-- the block is one of the record's
abbrev pub IsBlockOfRecord : MbrRecord → ℕ → Type 0
IsBlockOfRecord r block = (r.start ≤ block) × (block < r.start + r.size)

-- some block is one of both: the later start stands before the earlier end
abbrev pub records_share_block : MbrRecord → MbrRecord → Bool
records_share_block r s = nat_lt (max r.start s.start) (min (r.start + r.size) (s.start + s.size))
