-- The blocks of a medium's bytes, of which each has the same number.
use Rattle.std.specs.Prelude.{ℕ, ◌+◌, ◌*◌, ◌/◌, List, length, slice_range}

-- how many whole blocks there are
abbrev pub medium_blocks : List ℕ → ℕ → ℕ
medium_blocks bytes size = length bytes / size

-- the block at this LBA
abbrev pub table_block : List ℕ → ℕ → ℕ → List ℕ
table_block bytes size lba = slice_range bytes (lba * size) (lba * size + size)

-- its first 512 bytes, where a boot record stands (UEFI 2.10, 5.2.1)
abbrev pub boot_record_at : List ℕ → ℕ → ℕ → List ℕ
boot_record_at bytes size lba = slice_range bytes (lba * size) (lba * size + 512)
