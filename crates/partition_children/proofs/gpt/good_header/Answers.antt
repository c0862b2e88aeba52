use Rattle.std.proofs.Common.{ap, sym, ◌∙◌}
use Rattle.gpt_headers.specs.Header.{header_fault, header_fields}
use Rattle.partition_children.proofs.Headers.{blocks-told, size-some, no-place, no-header, stays-then, stays-whole}
use Rattle.partition_children.proofs.Stages.{told-on}
use Rattle.partition_children.specs.Probing.{EndsReads}
use Rattle.partition_children.specs.Reads.{header_reads}
use Rattle.partition_children.proofs.Endings.{block-ends, handed-on, header-ends}
use Rattle.partition_children.proofs.gpt.good_header.Goals as goal

pub returns-then-not-is_header_place-clause-found : goal.returns-then-not-is_header_place-clause-found
returns-then-not-is_header_place-clause-found g c bytes holds =
    let target = c.args.target.now in
    no-place c.args.disk.now target.view.media_id target.size c.args.lba target.blocks bytes (blocks-told bytes target.blocks target.size (size-some target.size c.requires.target.sized) (c.requires.target.long bytes holds))
    (sym c.is_header_place.ensures ∙ c.if-not-is_header_place.true)

pub returns-in-Ok-clause-stays : goal.returns-in-Ok-clause-stays
returns-in-Ok-clause-stays g c = stays-then c.args.disk.now c.read_block.new.disk c.with_array.new.disk _ c.in_ok-block.ensures.stays c.with_array.ensures.stays

pub returns-in-Ok-clause-found : goal.returns-in-Ok-clause-found
returns-in-Ok-clause-found g c bytes holds =
    let target = c.args.target.now in
    stays-whole c.args.disk.now c.read_block.new.disk c.with_array.new.disk target.view.media_id target.size c.args.lba target.blocks bytes c.in_ok-block.block.items c.in-Ok.header c.with_array.result
    (blocks-told bytes target.blocks target.size (size-some target.size c.requires.target.sized) (c.requires.target.long bytes holds)) c.in_ok-block.ensures.stays.setup (sym c.is_header_place.ensures ∙ c.if-not-is_header_place.false)
    (c.in_ok-block.ensures.found bytes holds) (ap (header_fault c.args.lba) (sym c.deref.ensures.value) ∙ sym c.in-Ok.ensures.fault) (c.in-Ok.ensures.fields ∙ ap header_fields c.deref.ensures.value) (c.with_array.ensures.found bytes (told-on c.args.disk.now c.read_block.new.disk target.view.media_id 0 c.in_ok-block.ensures.stays bytes holds))

pub returns-clause-found : goal.returns-clause-found
returns-clause-found g c bytes holds =
    let target = c.args.target.now in
    no-header c.args.disk.now target.view.media_id target.size c.args.lba target.blocks bytes (blocks-told bytes target.blocks target.size (size-some target.size c.requires.target.sized) (c.requires.target.long bytes holds))
    c.read_block.new.disk c.in_ok-block.block.items c.in-Err.field-0 (sym c.is_header_place.ensures ∙ c.if-not-is_header_place.false) (c.in_ok-block.ensures.found bytes holds) (ap (header_fault c.args.lba) (sym c.deref.ensures.value) ∙ sym c.in-Err.ensures.fault)

pub returns-in_err-block-clause-ends : goal.returns-in_err-block-clause-ends
returns-in_err-block-clause-ends g c bytes holds =
    let target = c.args.target.now in
    let old = c.args.disk.now in
    let k = target.view.media_id in
    let fault = c.in_err-block.field-0.0 in
    handed-on (λ f. EndsReads old k (header_reads bytes target.size c.args.lba) f c.read_block.new.disk) c.from_residual.result fault
    (block-ends old c.read_block.new.disk k target.size c.args.lba target.blocks bytes (blocks-told bytes target.blocks target.size (size-some target.size c.requires.target.sized) (c.requires.target.long bytes holds))
    (sym c.is_header_place.ensures ∙ c.if-not-is_header_place.false) fault (c.in_err-block.ensures.ends bytes holds)) c.from_residual.ensures.1

pub returns-in-Ok-clause-ends : goal.returns-in-Ok-clause-ends
returns-in-Ok-clause-ends g c bytes holds =
    let target = c.args.target.now in
    header-ends c.args.disk.now c.read_block.new.disk target.view.media_id target.size c.args.lba target.blocks bytes
    (blocks-told bytes target.blocks target.size (size-some target.size c.requires.target.sized) (c.requires.target.long bytes holds)) (sym c.is_header_place.ensures ∙ c.if-not-is_header_place.false)
    c.with_array.new.disk c.in_ok-block.block.items c.in-Ok.header c.with_array.result c.in_ok-block.ensures.stays.setup (c.in_ok-block.ensures.found bytes holds)
    (ap (header_fault c.args.lba) (sym c.deref.ensures.value) ∙ sym c.in-Ok.ensures.fault) (c.in-Ok.ensures.fields ∙ ap header_fields c.deref.ensures.value)
    (c.with_array.ensures.ends bytes (told-on c.args.disk.now c.read_block.new.disk target.view.media_id 0 c.in_ok-block.ensures.stays bytes holds))
