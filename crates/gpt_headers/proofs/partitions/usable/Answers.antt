use Rattle.std.proofs.Common.{◌≡◌, ◌∙◌, arith}
use Rattle.std.proofs.lemmas.Grind.{common_steps}
use Rattle.gpt_headers.proofs.Places.{flags_more}
use Rattle.gpt_headers.proofs.Inside.{lone_gives, usable_inside}
use Rattle.gpt_headers.specs.Entry.{usable_entries}
use Rattle.gpt_headers.proofs.partitions.usable.Goals as goal

pub loop-place-preserved : goal.loop-place-preserved
loop-place-preserved c =
    let entries = c.args.entries.now in
    let place = c.loop-place.place in
    c.in_ok-push.ensures.items
    ∙ flags_more _ place entries c.index-entries-place.result _ _ c.loop-place-test.true c.loop-place.invariant
    (c.gives_partition.ensures
    ∙ lone_gives c.args.header.now c.args.blocks place entries c.index-entries-place.result c.in_ok-lone.lone.items c.index.result.now c.in_ok-lone.ensures.length c.in_ok-lone.ensures.lone
    c.loop-place-test.true c.index-entries-place.is c.index.ensures)

pub returns-clause-inside : goal.returns-clause-inside
returns-clause-inside c i given =
    let exact : c.loop-place.flags.items ≡ usable_entries c.args.header.now c.args.blocks c.args.entries.now = grind (arith, common_steps) in
    usable_inside c.args.header.now c.args.blocks c.args.entries.now c.loop-place.flags.items i exact given
