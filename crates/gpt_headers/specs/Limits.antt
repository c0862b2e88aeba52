-- The bounds of a header and its array, in bytes.
use Rattle.std.specs.Prelude.{ℕ}

-- the least size of a header (UEFI 2.10, 5.3.2)
abbrev pub least_header : ℕ
least_header = 92

-- the least size of a partition entry (UEFI 2.10, 5.3.2)
abbrev pub least_entry : ℕ
least_entry = 128

-- the most bytes of an array of partition entries: 1 MiB (own profile)
abbrev pub most_array : ℕ
most_array = 1048576
