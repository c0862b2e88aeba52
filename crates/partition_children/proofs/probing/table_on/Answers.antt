use Rattle.std.proofs.Common.{◌∙◌, sym}
use Rattle.partition_children.proofs.Headers.{stays-then}
use Rattle.partition_children.proofs.Stages.{target-stays, told-on}
use Rattle.partition_children.proofs.Tables.{on-mbr, on-plain}
use Rattle.partition_children.specs.Probing.{EndsReads}
use Rattle.partition_children.specs.Reads.{probe_reads}
use Rattle.partition_children.proofs.Endings.{first-ends, handed-on, table-ends}
use Rattle.partition_children.proofs.probing.table_on.Goals as goal

pub table_by-requires-clause-target : goal.table_by-requires-clause-target
table_by-requires-clause-target g c = target-stays c.args.disk.now c.read_record.new.disk c.args.target.now 0 c.requires.target c.in_ok-block.ensures.stays

pub returns-in-None-clause-found : goal.returns-in-None-clause-found
returns-in-None-clause-found g c bytes holds =
    let target = c.args.target.now in
    let first = c.in_ok-block.ensures.found bytes holds in
    on-plain c.args.disk.now c.read_record.new.disk target.view.media_id target.size bytes c.in_ok-block.block c.in_ok-block.ensures.stays.setup first.0 first.1 c.from_vec.result (c.from_vec.ensures ∙ c.new.ensures.items) (sym c.read.ensures ∙ c.in-None.is)

pub returns-in-Some-clause-stays : goal.returns-in-Some-clause-stays
returns-in-Some-clause-stays g c = stays-then c.args.disk.now c.read_record.new.disk c.table_by.new.disk _ c.in_ok-block.ensures.stays c.table_by.ensures.stays

pub returns-in-Some-clause-found : goal.returns-in-Some-clause-found
returns-in-Some-clause-found g c bytes holds =
    let target = c.args.target.now in
    let first = c.in_ok-block.ensures.found bytes holds in
    on-mbr c.args.disk.now c.read_record.new.disk target.view.media_id target.size bytes c.in_ok-block.block c.in_ok-block.ensures.stays.setup first.0 first.1 c.table_by.new.disk c.in-Some.mbr c.table_by.result (sym c.read.ensures ∙ c.in-Some.is)
    (c.table_by.ensures.found bytes (told-on c.args.disk.now c.read_record.new.disk target.view.media_id 0 c.in_ok-block.ensures.stays bytes holds))

pub returns-in_err-block-clause-ends : goal.returns-in_err-block-clause-ends
returns-in_err-block-clause-ends g c bytes holds =
    let target = c.args.target.now in
    let fault = c.in_err-block.field-0.0 in
    handed-on (λ f. EndsReads c.args.disk.now target.view.media_id (probe_reads bytes target.size) f c.read_record.new.disk) c.from_residual.result fault
    (first-ends c.args.disk.now c.read_record.new.disk target.view.media_id target.size bytes fault (c.in_err-block.ensures.ends bytes holds)) c.from_residual.ensures.1

pub returns-in-Some-clause-ends : goal.returns-in-Some-clause-ends
returns-in-Some-clause-ends g c bytes holds =
    let target = c.args.target.now in
    table-ends c.args.disk.now c.read_record.new.disk c.table_by.new.disk target.view.media_id target.size bytes c.in_ok-block.block c.in-Some.mbr c.table_by.result c.in_ok-block.ensures.stays.setup
    (c.in_ok-block.ensures.found bytes holds) (sym c.read.ensures ∙ c.in-Some.is)
    (c.table_by.ensures.ends bytes (told-on c.args.disk.now c.read_record.new.disk target.view.media_id 0 c.in_ok-block.ensures.stays bytes holds))
