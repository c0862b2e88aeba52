use Rattle.std.proofs.Common.{◌≡◌, None, Some, [], sym, ◌∙◌, ap, drop, ◌+◌}
use Rattle.std.proofs.Math.ListN.{drop_of_length-le}
use Rattle.stack_run.specs.Said.{some_or, first_part}
use Rattle.stack_run.specs.Parts.{first_missing}
use Rattle.stack_run.specs.Starting.{part_line}
use Rattle.stack_run.proofs.Read.{disk-part}
use Rattle.stack_run.proofs.reading.first_part.Goals as goal

pub returns-in-Some : goal.returns-in-Some
returns-in-Some c =
    let here : part_line c.disk-item.result ≡ Some c.in-Some.line = sym (c.first_missing.ensures ∙ ap (first_missing c.disk-item.result.size []) c.as_slice.ensures) ∙ c.in-Some.is in
    sym (c.loop-disk.invariant ∙ (disk-part c.args.disks.now c.loop-disk.disk-index c.disk-item.result c.loop-disk-test.true c.disk-item.is ∙ ap (λ o. some_or o (first_part (drop (c.loop-disk.disk-index + 1) c.args.disks.now))) here))

pub loop-disk-preserved : goal.loop-disk-preserved
loop-disk-preserved c =
    let here : part_line c.disk-item.result ≡ None = sym (c.first_missing.ensures ∙ ap (first_missing c.disk-item.result.size []) c.as_slice.ensures) ∙ c.in_default.is in
    c.loop-disk.invariant ∙ (disk-part c.args.disks.now c.loop-disk.disk-index c.disk-item.result c.loop-disk-test.true c.disk-item.is ∙ ap (λ o. some_or o (first_part (drop (c.loop-disk.disk-index + 1) c.args.disks.now))) here)

pub returns : goal.returns
unfolding first_part
returns c = sym (c.loop-disk.invariant ∙ ap first_part (drop_of_length-le c.args.disks.now c.loop-disk-test.false))
