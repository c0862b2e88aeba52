-- The array of partition entries (UEFI 2.10, 5.3.2 and 5.3.3).
use Rattle.std.specs.Prelude.{ℕ, ◌+◌, ◌*◌, nat_le, Option, Some, None, if◌then◌else◌}
use Rattle.gpt_headers.specs.Fields.{HeaderFields}

-- how many bytes the array has
abbrev pub array_length : HeaderFields → ℕ
array_length h = h.count * h.entry_size

-- Its first byte and its length, where its end is at most that of a medium of so many blocks of this size. An empty array has its
-- end at its first byte.
abbrev pub array_range_of : HeaderFields → ℕ → ℕ → Option (ℕ × ℕ)
array_range_of h blocks size =
    let at = h.array_lba * size in
    if nat_le (at + array_length h) (blocks * size) then Some (at, array_length h) else None
