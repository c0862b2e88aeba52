use Rattle.std.proofs.Common.{refl, rules, ap, ◌∙◌, bit_xor}
use Rattle.std.proofs.lemmas.Nat.{xor_lt}
use Rattle.crc_table.specs.Registers.{after_shifts}
use Rattle.crc_table.proofs.LookUps.{lookup-more, lookup_lt, lookup-end, after-eight}
use Rattle.crc_table.proofs.register.after_eight.Goals as goal

pub loop-table-init : goal.loop-table-init
loop-table-init c = (refl, search (rules, xor_lt))

pub loop-table-preserved : goal.loop-table-preserved
loop-table-preserved c = (
  lookup-more c.loop-table.table-index c.loop-table.sum c.loop-table.left _ c.loop-table-test.true c.loop-table.invariant.0,
  lookup_lt c.loop-table.table-index c.loop-table.left c.loop-table-test.true c.loop-table.invariant.1,
)

pub returns : goal.returns
returns c =
    lookup-end c.loop-table.table-index c.loop-table.sum c.loop-table.left _ c.loop-table-test.false c.loop-table.invariant.1 c.loop-table.invariant.0
    ∙ ap (λ r. after_shifts 64 (bit_xor c.from_le_bytes.result r)) c.from.ensures
    ∙ after-eight c.args.register c.from_le_bytes.result c.args.bytes.now c.told-bytes c.fits-bytes c.from_le_bytes.ensures
