-- The partition table of a medium's bytes, of blocks of this size (UEFI 2.10, chapter 5; which headers are good and which records and
-- entries give a child: own profile).
use Rattle.std.specs.Prelude.{ℕ, List, [], Option, Some, None, if◌then◌else◌}
use Rattle.std.specs.List.{list_any}
use Rattle.mbr_records.specs.Block.{Fields, mbr_of}
use Rattle.mbr_records.specs.Record.{is_protective}
use Rattle.partition_tables.specs.declared.table.Table.{Table}
use Rattle.partition_tables.specs.declared.table.TableKind.TheVariants.{Plain, Mbr}
use Rattle.partition_tables.specs.Blocks.{boot_record_at}
use Rattle.partition_tables.specs.MbrTable.{mbr_children}
use Rattle.partition_tables.specs.GptTable.{gpt_table}

-- the same by the master boot record in the first block: none, a protective one, or another
abbrev pub table_by : List ℕ → ℕ → Option Fields → Table
table_by bytes size None = record { kind = Plain; children = [] }
table_by bytes size (Some mbr) =
    if list_any is_protective mbr.records then gpt_table bytes size
    else record { kind = Mbr; children = mbr_children bytes size mbr }

unfoldable pub table_of : List ℕ → ℕ → Table
table_of bytes size = table_by bytes size (mbr_of (boot_record_at bytes size 0))
