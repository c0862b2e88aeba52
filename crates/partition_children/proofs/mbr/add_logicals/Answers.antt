use Rattle.std.proofs.Common.{ap, arith, refl, sym, ◌∙◌, ◌+◌}
use Rattle.partition_children.proofs.Headers.{stays-failed, stays-then, stays-wanting}
use Rattle.partition_children.proofs.LogicalsRead.{count-more, fed-count, more-none, more-one, so_far-ends, so_far-none, so_far-whole}
use Rattle.partition_children.proofs.Stages.{target-stays}
use Rattle.std.proofs.Common.{[], ◌∷◌}
use Rattle.partition_children.specs.declared.reading.ReadFault.TheVariants.{Memory}
use Rattle.partition_children.specs.Probing.{EndsReads}
use Rattle.partition_children.specs.Reads.{chain_reads, record_read}
use Rattle.partition_children.proofs.Endings.{handed-on, wants-behind}
use Rattle.partition_children.proofs.mbr.add_logicals.Goals as goal

pub loop-own-init : goal.loop-own-init
loop-own-init g c = so_far-none c.args.disk.now c.args.target.now c.args.signature c.args.chain c.args.children.now.items c.requires.quiet c.requires.fresh

pub read_record-requires-clause-quiet : goal.read_record-requires-clause-quiet
read_record-requires-clause-quiet g c = c.loop-own.invariant.stays.quiet

pub read_record-requires-clause-target : goal.read_record-requires-clause-target
read_record-requires-clause-target g c = target-stays c.args.disk.now c.loop-own.disk c.args.target.now 0 c.requires.target c.loop-own.invariant.stays

pub read_record-requires-clause-inside : goal.read_record-requires-clause-inside
read_record-requires-clause-inside g c =
    omega (arith, c.in-Some.ensures.inside.1, c.requires.inside, ap (λ t. t.start) c.loop-own.invariant.trail, ap (λ t. t.size) c.loop-own.invariant.trail)

pub returns-in_err-block-clause-stays : goal.returns-in_err-block-clause-stays
returns-in_err-block-clause-stays g c = stays-failed c.args.disk.now c.loop-own.disk c.read_record.new.disk c.from_residual.result c.in_err-block.field-0.0 c.loop-own.invariant.stays c.in_err-block.ensures.stays c.from_residual.ensures.1

pub returns-in_err-add-clause-stays : goal.returns-in_err-add-clause-stays
returns-in_err-add-clause-stays g c = stays-wanting c.args.disk.now c.read_record.new.disk c.from_residual-in_err-add.result (stays-then c.args.disk.now c.loop-own.disk c.read_record.new.disk 0 c.loop-own.invariant.stays c.in_ok-block.ensures.stays) c.from_residual-in_err-add.ensures.1

pub overflow_add-number : goal.overflow_add-number
overflow_add-number g c = omega (arith, c.loop-own.invariant.few, fed-count c.args.disk.now c.args.target.now c.args.signature c.args.chain c.args.children.now.items c.loop-own.disk c.loop-own.chain c.loop-own.children.items c.loop-own.number c.loop-own.invariant, c.in-Some.ensures.few)

pub loop-own-smaller-in-Some-feed : goal.loop-own-smaller-in-Some-feed
loop-own-smaller-in-Some-feed g c = omega (arith, c.in-Some.ensures.few, count-more c.args.disk.now c.args.target.now c.args.signature c.args.chain c.args.children.now.items c.loop-own.disk c.loop-own.chain c.loop-own.children.items c.loop-own.number c.loop-own.invariant c.read_record.new.disk c.in-Some.own c.in_ok-block.block (sym c.in-Some.ensures.exact) c.in_ok-block.ensures.stays c.in_ok-block.ensures.found c.feed.new.self c.feed.ensures.blocks)

pub loop-own-preserved-in-Some-feed : goal.loop-own-preserved-in-Some-feed
loop-own-preserved-in-Some-feed g c = more-one c.args.disk.now c.args.target.now c.args.signature c.args.chain c.args.children.now.items c.loop-own.disk c.loop-own.chain c.loop-own.children.items c.loop-own.number c.loop-own.invariant c.read_record.new.disk c.in-Some.own c.in_ok-block.block (sym c.in-Some.ensures.exact) c.in_ok-block.ensures.stays c.in_ok-block.ensures.found c.feed.new.self c.feed.ensures.blocks c.add.new.children.items (c.loop-own.number + 1) c.in-Some-feed.span c.first_record.result c.in-Some-feed.ensures.logical c.first_record.ensures (c.in_ok-add.ensures ∙ rw c.origin_of.ensures refl) refl

pub loop-own-smaller : goal.loop-own-smaller
loop-own-smaller g c = omega (arith, c.in-Some.ensures.few, count-more c.args.disk.now c.args.target.now c.args.signature c.args.chain c.args.children.now.items c.loop-own.disk c.loop-own.chain c.loop-own.children.items c.loop-own.number c.loop-own.invariant c.read_record.new.disk c.in-Some.own c.in_ok-block.block (sym c.in-Some.ensures.exact) c.in_ok-block.ensures.stays c.in_ok-block.ensures.found c.feed.new.self c.feed.ensures.blocks)

pub loop-own-preserved : goal.loop-own-preserved
loop-own-preserved g c = more-none c.args.disk.now c.args.target.now c.args.signature c.args.chain c.args.children.now.items c.loop-own.disk c.loop-own.chain c.loop-own.children.items c.loop-own.number c.loop-own.invariant c.read_record.new.disk c.in-Some.own c.in_ok-block.block (sym c.in-Some.ensures.exact) c.in_ok-block.ensures.stays c.in_ok-block.ensures.found c.feed.new.self c.feed.ensures.blocks (sym c.in_default-feed.is ∙ c.feed.ensures.logical)

pub returns-clause-stays : goal.returns-clause-stays
returns-clause-stays g c = c.loop-own.invariant.stays

pub returns-clause-found : goal.returns-clause-found
returns-clause-found g c =
    so_far-whole c.args.disk.now c.args.target.now c.args.signature c.args.chain c.args.children.now.items c.loop-own.disk c.loop-own.chain c.loop-own.children.items c.loop-own.number c.loop-own.invariant (sym c.next_block.ensures.exact ∙ c.in_default.is)

pub returns-in_err-block-clause-ends : goal.returns-in_err-block-clause-ends
returns-in_err-block-clause-ends g c bytes holds =
    let target = c.args.target.now in
    let fault = c.in_err-block.field-0.0 in
    handed-on (λ f. EndsReads c.args.disk.now target.view.media_id (chain_reads bytes target.size (c.args.chain.start, c.args.chain.size)) f c.read_record.new.disk) c.from_residual.result fault
    (so_far-ends c.args.disk.now target c.args.signature c.args.chain c.args.children.now.items c.loop-own.disk c.loop-own.chain c.loop-own.children.items c.loop-own.number c.loop-own.invariant
    c.read_record.new.disk c.in-Some.own fault (sym c.in-Some.ensures.exact) bytes holds (c.in_err-block.ensures.ends bytes)) c.from_residual.ensures.1

pub returns-in_err-add-clause-ends : goal.returns-in_err-add-clause-ends
returns-in_err-add-clause-ends g c bytes holds =
    let target = c.args.target.now in
    let k = target.view.media_id in
    handed-on (λ f. EndsReads c.args.disk.now k (chain_reads bytes target.size (c.args.chain.start, c.args.chain.size)) f c.read_record.new.disk) c.from_residual-in_err-add.result Memory
    (so_far-ends c.args.disk.now target c.args.signature c.args.chain c.args.children.now.items c.loop-own.disk c.loop-own.chain c.loop-own.children.items c.loop-own.number c.loop-own.invariant
    c.read_record.new.disk c.in-Some.own Memory (sym c.in-Some.ensures.exact) bytes holds
    (λ now. wants-behind c.loop-own.disk c.read_record.new.disk k (record_read target.size c.in-Some.own ∷ []) (c.in_ok-block.ensures.found bytes now).0)) c.from_residual-in_err-add.ensures.1
