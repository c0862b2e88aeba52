use Rattle.partition_children.proofs.Headers.{stays-memory}
use Rattle.std.proofs.Common.{◌-◌}
use Rattle.partition_children.specs.Probing.{EndsReads}
use Rattle.partition_children.specs.Reads.{header_reads}
use Rattle.partition_children.proofs.Endings.{handed-on, wants, wants-behind}
use Rattle.partition_children.proofs.gpt.backup_table.Goals as goal

pub returns-in-Some-clause-stays : goal.returns-in-Some-clause-stays
returns-in-Some-clause-stays g c = stays-memory c.args.disk.now c.good_header.new.disk c.table_by.result c.in_ok-good.ensures.stays c.table_by.ensures.memory

pub returns-in_err-good-clause-ends : goal.returns-in_err-good-clause-ends
returns-in_err-good-clause-ends g c bytes holds =
    let target = c.args.target.now in
    handed-on (λ f. EndsReads c.args.disk.now target.view.media_id (header_reads bytes target.size (target.blocks - 1)) f c.good_header.new.disk) c.from_residual.result c.in_err-good.field-0.0
    (c.in_err-good.ensures.ends bytes holds) c.from_residual.ensures.1

pub returns-in-Some-clause-ends : goal.returns-in-Some-clause-ends
returns-in-Some-clause-ends g c bytes holds =
    let target = c.args.target.now in
    let reads = header_reads bytes target.size (target.blocks - 1) in
    wants (λ f. EndsReads c.args.disk.now target.view.media_id reads f c.good_header.new.disk) c.table_by.result
    (wants-behind c.args.disk.now c.good_header.new.disk target.view.media_id reads (c.in_ok-good.ensures.found bytes holds).0) c.table_by.ensures.memory
