-- Fields as they are stored in a block, and those of a header that readers give.
use Rattle.std.specs.Prelude.{ℕ, ◌+◌, List, slice_range}
use Rattle.byteorder.specs.Endian.{little_number}
use Rattle.uuid.specs.Parts.{swap_fields}

-- the number in so many bytes from this place on, little-endian (UEFI 2.10, 1.8.1)
abbrev pub number_at : ℕ → ℕ → List ℕ → ℕ
number_at place count bytes = little_number count (slice_range bytes place (place + count))

-- the GUID in the 16 bytes from this place on; its first three fields are stored little-endian (UEFI 2.10, appendix A)
abbrev pub guid_at : ℕ → List ℕ → List ℕ
guid_at place bytes = swap_fields (slice_range bytes place (place + 16))

-- what a header tells (UEFI 2.10, 5.3.2); LBAs are blocks, the size of an entry is in bytes
pub record HeaderFields : Type 0 where
  pub alternate : ℕ
  pub first_usable : ℕ
  pub last_usable : ℕ
  pub disk_guid : List ℕ
  pub array_lba : ℕ
  pub count : ℕ
  pub entry_size : ℕ
  pub array_crc : ℕ
