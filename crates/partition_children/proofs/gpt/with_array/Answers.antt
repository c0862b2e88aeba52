use Rattle.std.proofs.Common.{sym, ◌∙◌}
use Rattle.std.proofs.lemmas.Bool.{iff_false}
use Rattle.partition_children.proofs.Headers.{blocks-told, size-some, with-none, with-good, with-bad}
use Rattle.gpt_headers.specs.Array.{array_range_of}
use Rattle.partition_children.specs.Probing.{EndsReads}
use Rattle.partition_children.specs.Reads.{array_read}
use Rattle.partition_children.proofs.Endings.{handed-on, range-ends}
use Rattle.partition_children.proofs.gpt.with_array.Goals as goal

pub returns-in_default-clause-found : goal.returns-in_default-clause-found
returns-in_default-clause-found g c bytes holds =
    let target = c.args.target.now in
    with-none c.args.disk.now target.view.media_id target.blocks target.size c.args.header bytes
    (blocks-told bytes target.blocks target.size (size-some target.size c.requires.target.sized) (c.requires.target.long bytes holds)) (sym c.array_range.ensures.exact ∙ c.in_default.is)

pub returns-then-array_ok-clause-found : goal.returns-then-array_ok-clause-found
returns-then-array_ok-clause-found g c bytes holds =
    let target = c.args.target.now in
    with-good c.args.disk.now c.read_array.new.disk target.view.media_id target.blocks target.size c.args.header bytes c.in_ok-array.array.items c.deref.result.now c.in-Some.at c.in-Some.length
    (blocks-told bytes target.blocks target.size (size-some target.size c.requires.target.sized) (c.requires.target.long bytes holds)) (sym c.array_range.ensures.exact ∙ c.in-Some.is)
    (c.in_ok-array.ensures.found bytes holds) c.deref.ensures.value (c.array_ok.ensures.0 c.if-array_ok.true)

pub returns-else-array_ok-clause-found : goal.returns-else-array_ok-clause-found
returns-else-array_ok-clause-found g c bytes holds =
    let target = c.args.target.now in
    with-bad c.args.disk.now c.read_array.new.disk target.view.media_id target.blocks target.size c.args.header bytes c.in_ok-array.array.items c.deref.result.now c.in-Some.at c.in-Some.length
    (blocks-told bytes target.blocks target.size (size-some target.size c.requires.target.sized) (c.requires.target.long bytes holds)) (sym c.array_range.ensures.exact ∙ c.in-Some.is)
    (c.in_ok-array.ensures.found bytes holds) c.deref.ensures.value (iff_false c.array_ok.ensures c.if-array_ok.false)

pub returns-in_err-array-clause-ends : goal.returns-in_err-array-clause-ends
returns-in_err-array-clause-ends g c bytes holds =
    let target = c.args.target.now in
    let old = c.args.disk.now in
    let k = target.view.media_id in
    let fault = c.in_err-array.field-0.0 in
    handed-on (λ f. EndsReads old k (array_read (array_range_of c.args.header target.blocks target.size)) f c.read_array.new.disk) c.from_residual.result fault
    (range-ends old c.read_array.new.disk k c.in-Some.at c.in-Some.length target.blocks target.size c.args.header fault (sym c.array_range.ensures.exact ∙ c.in-Some.is) (c.in_err-array.ensures.ends bytes holds)) c.from_residual.ensures.1
