use Rattle.std.proofs.Common.{refl}
use Rattle.mbr_records.specs.Record.{record_of}
use Rattle.gpt_headers.specs.Header.{header_fault, begins_as_header}
use Rattle.partition_tables.specs.MbrTable.{chain_of, mbr_children}
use Rattle.partition_tables.specs.GptTable.{good_header}
use Rattle.partition_tables.specs.Table.{table_of}
use Rattle.partition_tables.proofs.tests.tables_of_small_media.Goals as goal

pub returns-clause-plain : goal.returns-clause-plain
unfolding table_of
returns-clause-plain c = refl

pub returns-clause-damaged : goal.returns-clause-damaged
unfolding table_of record_of good_header header_fault begins_as_header
returns-clause-damaged c = refl

pub returns-clause-mbr : goal.returns-clause-mbr
unfolding table_of record_of mbr_children
returns-clause-mbr c = refl

pub returns-clause-chain : goal.returns-clause-chain
unfolding table_of record_of mbr_children chain_of
returns-clause-chain c = refl
