-- A partition entry, and what it says of the disk (UEFI 2.10, 5.3.3, "GPT Partition Entry").
use Rattle.std.specs.Prelude.{ℕ, ◌^◌, ◌≤◌, ◌==◌, ◌&&◌, ◌↔◌, Bool, IsTrue, not, nat_le, nat_lt, max, min, bit_and, List, map, slice_range}
use Rattle.std.specs.List.{enumerate_from, list_any}
use Rattle.uuid.specs.Parts.{is_nil_bytes}
use Rattle.gpt_headers.specs.declared.entry.GptEntry.{GptEntry}
use Rattle.gpt_headers.specs.Fields.{HeaderFields, guid_at, number_at}
use Rattle.gpt_headers.specs.Name.{name_units}

-- the entry in these 128 bytes
unfoldable pub entry_in : List ℕ → GptEntry
entry_in bytes = record {
  kind = guid_at 0 bytes;
  unique = guid_at 16 bytes;
  first = number_at 32 8 bytes;
  last = number_at 40 8 bytes;
  attributes = number_at 48 8 bytes;
  name = name_units (slice_range bytes 56 128);
}

-- its type is not zero
abbrev pub is_used_entry : GptEntry → Bool
is_used_entry e = not (is_nil_bytes e.kind)

-- it is used, and has some blocks
abbrev pub has_blocks : GptEntry → Bool
has_blocks e = is_used_entry e && nat_le e.first e.last

-- attribute bit 1 is set: firmware makes no block device of the partition
abbrev pub is_hidden : GptEntry → Bool
is_hidden e = not (bit_and e.attributes (2 ^ 1) == 0)

-- the block is one of the entry's, whose last block is its own
abbrev pub IsBlockOfEntry : GptEntry → ℕ → Type 0
IsBlockOfEntry e block = (e.first ≤ block) × (block ≤ e.last)

-- some block is one of both: the later first block is at most the earlier last one
abbrev pub entries_share_block : GptEntry → GptEntry → Bool
entries_share_block e f = nat_le (max e.first f.first) (min e.last f.last)

-- that is so exactly where there is such a block
abbrev pub SharesSomeBlock : Type 0
SharesSomeBlock = (e f : GptEntry) → IsTrue (entries_share_block e f) ↔ ((block : ℕ) × IsBlockOfEntry e block × IsBlockOfEntry f block)

-- the entry at place i shares a block with another used entry
abbrev pub overlaps_another_entry : List GptEntry → ℕ → GptEntry → Bool
overlaps_another_entry entries i e = list_any (λ (j, f). not (j == i) && is_used_entry f && entries_share_block e f) (enumerate_from 0 entries)

-- the block is one that partitions may have, and one of a medium of so many blocks
abbrev pub is_usable_block : HeaderFields → ℕ → ℕ → Bool
is_usable_block h blocks block = nat_le h.first_usable block && nat_le block h.last_usable && nat_lt block blocks

-- the blocks of the entry are some, and partitions may have them
abbrev pub has_usable_blocks : HeaderFields → ℕ → GptEntry → Bool
has_usable_blocks h blocks e = nat_le e.first e.last && is_usable_block h blocks e.first && is_usable_block h blocks e.last

-- the entry at place i gives a partition of a medium of so many blocks (which ones do is own profile)
abbrev pub entry_gives_partition : HeaderFields → ℕ → List GptEntry → ℕ → GptEntry → Bool
entry_gives_partition h blocks entries i e =
    is_used_entry e && has_usable_blocks h blocks e && not (overlaps_another_entry entries i e) && not (is_hidden e)

-- which of the entries give a partition
abbrev pub usable_entries : HeaderFields → ℕ → List GptEntry → List Bool
usable_entries h blocks entries = map (λ (i, e). entry_gives_partition h blocks entries i e) (enumerate_from 0 entries)
