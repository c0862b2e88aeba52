-- What holds of every table.
use Rattle.std.specs.Prelude.{ℕ, ◌≡◌, ◌+◌, ◌<◌, ◌≤◌, List, All, AllPairs, length, map, take, slice_get, Some, option_map}
use Rattle.mbr_records.specs.Chain.{logical_of, next_record_block, trail_of}
use Rattle.partition_tables.specs.Blocks.{medium_blocks, boot_record_at}
use Rattle.partition_tables.specs.MbrTable.{chain_of, logical_in}
use Rattle.partition_tables.specs.Table.{table_of}

-- each child ends where the medium's blocks do, or before
abbrev pub ChildrenLieOnTheMedium : Type 0
ChildrenLieOnTheMedium = (bytes : List ℕ) (size : ℕ) → All (λ c. c.first + c.blocks ≤ medium_blocks bytes size) (table_of bytes size).children

-- the numbers of its children rise
abbrev pub NumbersAscend : Type 0
NumbersAscend = (bytes : List ℕ) (size : ℕ) → AllPairs (λ c d. c.number < d.number) (table_of bytes size).children

-- Over the extended partition, once the first n records of its chain were fed, the next block is that of the next record, and none at the
-- end of the chain.
abbrev pub ChainIsFollowed : Type 0
ChainIsFollowed =
    (bytes : List ℕ) (size : ℕ) (extended : ℕ × ℕ) (n : ℕ) → n ≤ length (chain_of bytes size extended)
    → next_record_block (trail_of extended.0 extended.1 (map (λ own. boot_record_at bytes size own) (take n (chain_of bytes size extended))))
    ≡ slice_get (chain_of bytes size extended) n

-- What such a chain gives, whatever was fed, at its next block: the logical partition of the record there.
abbrev pub LogicalsAreGiven : Type 0
LogicalsAreGiven =
    (bytes : List ℕ) (size : ℕ) (extended : ℕ × ℕ) (fed : List (List ℕ)) (own : ℕ) → next_record_block (trail_of extended.0 extended.1 fed) ≡ Some own
    → logical_of (trail_of extended.0 extended.1 fed) (boot_record_at bytes size own)
    ≡ option_map (λ logical. logical.1) (logical_in bytes size extended own)
