-- Small media of blocks of 512 bytes, for tests.
use Rattle.std.specs.Prelude.{ℕ, List, [], ◌∷◌, ◌++◌, replicate}

-- so many zeros
abbrev zero_bytes : ℕ → List ℕ
zero_bytes n = replicate n 0

-- a record of an OS type, with a start and a size below 256
abbrev record_bytes : ℕ → ℕ → ℕ → List ℕ
record_bytes os_type start size = zero_bytes 4 ++ os_type ∷ zero_bytes 3 ++ start ∷ zero_bytes 3 ++ size ∷ zero_bytes 3

-- a block with the disk signature 12345678, two records, and 55 AA
abbrev boot_block : List ℕ → List ℕ → List ℕ
boot_block first second = zero_bytes 440 ++ 0x78 ∷ 0x56 ∷ 0x34 ∷ 0x12 ∷ [] ++ zero_bytes 2 ++ first ++ second ++ zero_bytes 32 ++ 0x55 ∷ 0xAA ∷ []

-- two blocks of zeros
abbrev pub plain_medium : List ℕ
plain_medium = zero_bytes 1024

-- eight blocks with a record at block 2, and one whose end is behind the medium's
abbrev pub mbr_medium : List ℕ
mbr_medium = boot_block (record_bytes 0x83 2 3) (record_bytes 0x83 7 2) ++ zero_bytes 3584

-- three blocks with a protective record and no header
abbrev pub damaged_medium : List ℕ
damaged_medium = boot_block (record_bytes 0xEE 1 2) (zero_bytes 16) ++ zero_bytes 1024

-- nine blocks with a record at block 1, and an extended partition from block 2 on, with records at its blocks 0 and 2, of which the last
-- names itself
abbrev pub chain_medium : List ℕ
chain_medium =
    boot_block (record_bytes 0x83 1 1) (record_bytes 0x05 2 7) ++ zero_bytes 512
    ++ boot_block (record_bytes 0x83 5 2) (record_bytes 0x05 2 3) ++ zero_bytes 512
    ++ boot_block (record_bytes 0x07 1 1) (record_bytes 0x05 2 3) ++ zero_bytes 2048
