-- The chain of extended boot records, as a function of what it was begun with and of the blocks that were fed (own profile).
use Rattle.std.specs.Prelude.{ℕ, ◌+◌, ◌-◌, ◌==◌, ◌&&◌, Bool, false, not, nat_le, nat_lt, List, [], ◌∷◌, ◌++◌, map, filter_map, length, take, slice_index_or, Option, Some, None, option_and_then, option_map, if◌then◌else◌}
use Rattle.std.specs.List.{list_any}
use Rattle.std.specs.Option.{option_map_or}
use Rattle.mbr_records.specs.declared.partition_record.MbrRecord.{MbrRecord}
use Rattle.mbr_records.specs.Record.{is_data, is_extended}
use Rattle.mbr_records.specs.Block.{mbr_of, numbered_record}

-- What a chain was begun with, and what named its blocks so far, in order: the extended partition its own first block, and then
-- each extended boot record that was fed the next one, or none. Each is counted from the start of the extended partition.
pub record Trail : Type 0 where
  pub start : ℕ
  pub size : ℕ
  pub named : List (Option ℕ)

-- how many extended boot records of one chain are read at most
abbrev pub most_read : ℕ
most_read = 128

-- What a second record names as the next extended boot record: its start, where it is of an extended partition.
abbrev pub link_at : MbrRecord → Option ℕ
link_at r = if is_extended r then Some r.start else None

-- What a block names as the next extended boot record. It is read as a master boot record; one without 55 AA names none.
abbrev pub link_of : List ℕ → Option ℕ
link_of block = option_and_then (λ ebr. link_at (numbered_record 1 ebr)) (mbr_of block)

-- the chain over an extended partition, after these blocks were fed
abbrev pub trail_of : ℕ → ℕ → List (List ℕ) → Trail
trail_of start size fed = record { start = start; size = size; named = Some 0 ∷ map link_of fed }

-- the chain after one more block
abbrev pub trail_after : Trail → List ℕ → Trail
trail_after t block = record t { named = t.named ++ link_of block ∷ [] }

-- how many extended boot records were fed
abbrev pub count_of : Trail → ℕ
count_of t = length t.named - 1

-- a named block, as a block of the medium
abbrev pub linked_block : Trail → Option ℕ → Option ℕ
linked_block t link = option_map (λ x. t.start + x) link

-- the blocks of the extended boot records that were fed, in order
abbrev pub visited_blocks : Trail → List ℕ
visited_blocks t = filter_map (linked_block t) (take (count_of t) t.named)

-- so many blocks from the first on lie in the extended partition
abbrev pub is_inside : Trail → ℕ → ℕ → Bool
is_inside t first count = nat_le t.start first && nat_le (first + count) (t.start + t.size)

-- the extended boot record at this block may be read next: it lies in the extended partition, it was not visited, and there is room for one more
abbrev pub may_visit : Trail → ℕ → Bool
may_visit t block = is_inside t block 1 && not (list_any (λ v. v == block) (visited_blocks t)) && nat_lt (count_of t) most_read

-- the block of the next extended boot record, the last that was named; none where the chain has ended
abbrev pub next_record_block : Trail → Option ℕ
next_record_block t = option_and_then (λ block. if may_visit t block then Some block else None) (linked_block t (slice_index_or t.named (count_of t) None))

-- The first block and the number of blocks of the logical partition that a first record gives, in the extended boot record at the
-- block own. It is counted from that block on, starts behind it, and lies in the extended partition.
abbrev pub logical_at : Trail → ℕ → MbrRecord → Option (ℕ × ℕ)
logical_at t own r =
    if is_data r && not (r.start == 0) && is_inside t (own + r.start) r.size then Some (own + r.start, r.size) else None

-- The logical partition that a block gives, as the next extended boot record of the chain. One without 55 AA gives none.
abbrev pub logical_of : Trail → List ℕ → Option (ℕ × ℕ)
logical_of t block = option_and_then (λ own. option_and_then (λ ebr. logical_at t own (numbered_record 0 ebr)) (mbr_of block)) (next_record_block t)

-- A link names the block that stands so many blocks behind the start.
abbrev pub names : ℕ → Option ℕ → Bool
names place link = option_map_or (λ x. x == place) link false
