use Rattle.std.proofs.Common.{refl, rules}
use Rattle.crc_table.specs.Registers.{register_after}
use Rattle.crc_table.proofs.LookUps.{after-take}
use Rattle.crc_table.proofs.register.after_bytes.Goals as goal

pub loop-byte-init : goal.loop-byte-init
unfolding register_after
loop-byte-init c = refl

pub loop-byte-preserved : goal.loop-byte-preserved
loop-byte-preserved c =
    after-take c.args.register c.args.bytes.now c.loop-byte.byte-index c.loop-byte.register c.from.result c.loop-byte-test.true c.from.ensures (search rules) c.loop-byte.invariant
