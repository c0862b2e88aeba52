use Rattle.std.proofs.Common.{ap, option_map, sym, ◌∙◌}
use Rattle.partition_children.specs.Probing.{pair_of}
use Rattle.partition_children.proofs.Headers.{backup-table, blocks-told, size-some, stays-memory, stays-then}
use Rattle.partition_children.proofs.Stages.{told-on}
use Rattle.partition_children.specs.Probing.{EndsReads}
use Rattle.partition_children.specs.Reads.{gpt_reads, header_reads}
use Rattle.partition_children.proofs.Endings.{backup-ends, ends-first, handed-on, wants, wants-after}
use Rattle.partition_children.proofs.gpt.gpt_table.Goals as goal

pub returns-in-Some-clause-stays : goal.returns-in-Some-clause-stays
returns-in-Some-clause-stays g c = stays-memory c.args.disk.now c.good_header.new.disk c.table_by.result c.in_ok-good.ensures.stays c.table_by.ensures.memory

pub returns-in-None-clause-stays : goal.returns-in-None-clause-stays
returns-in-None-clause-stays g c = stays-then c.args.disk.now c.good_header.new.disk c.backup_table.new.disk _ c.in_ok-good.ensures.stays c.backup_table.ensures.stays

pub returns-in-None-clause-found : goal.returns-in-None-clause-found
returns-in-None-clause-found g c bytes holds =
    let target = c.args.target.now in
    let first = c.in_ok-good.ensures.found bytes holds in
    backup-table c.args.disk.now c.good_header.new.disk c.backup_table.new.disk target.view.media_id target.size target.blocks bytes c.backup_table.result
    (blocks-told bytes target.blocks target.size (size-some target.size c.requires.target.sized) (c.requires.target.long bytes holds)) c.in_ok-good.ensures.stays.setup first.0
    (ap (option_map pair_of) (sym c.in-None.is) ∙ first.1)
    (c.backup_table.ensures.found bytes (told-on c.args.disk.now c.good_header.new.disk target.view.media_id 0 c.in_ok-good.ensures.stays bytes holds))

pub returns-in_err-good-clause-ends : goal.returns-in_err-good-clause-ends
returns-in_err-good-clause-ends g c bytes holds =
    let target = c.args.target.now in
    let fault = c.in_err-good.field-0.0 in
    handed-on (λ f. EndsReads c.args.disk.now target.view.media_id (gpt_reads bytes target.size) f c.good_header.new.disk) c.from_residual.result fault
    (ends-first c.args.disk.now c.good_header.new.disk target.view.media_id (header_reads bytes target.size 1) _ fault (c.in_err-good.ensures.ends bytes holds)) c.from_residual.ensures.1

pub returns-in-Some-clause-ends : goal.returns-in-Some-clause-ends
returns-in-Some-clause-ends g c bytes holds =
    let target = c.args.target.now in
    wants (λ f. EndsReads c.args.disk.now target.view.media_id (gpt_reads bytes target.size) f c.good_header.new.disk) c.table_by.result
    (wants-after c.args.disk.now c.good_header.new.disk target.view.media_id (header_reads bytes target.size 1) _ (c.in_ok-good.ensures.found bytes holds).0) c.table_by.ensures.memory

pub returns-in-None-clause-ends : goal.returns-in-None-clause-ends
returns-in-None-clause-ends g c bytes holds =
    let target = c.args.target.now in
    let first = c.in_ok-good.ensures.found bytes holds in
    backup-ends c.args.disk.now c.good_header.new.disk c.backup_table.new.disk target.view.media_id target.size target.blocks bytes c.backup_table.result
    (blocks-told bytes target.blocks target.size (size-some target.size c.requires.target.sized) (c.requires.target.long bytes holds)) c.in_ok-good.ensures.stays.setup first.0
    (ap (option_map pair_of) (sym c.in-None.is) ∙ first.1)
    (c.backup_table.ensures.ends bytes (told-on c.args.disk.now c.good_header.new.disk target.view.media_id 0 c.in_ok-good.ensures.stays bytes holds))
