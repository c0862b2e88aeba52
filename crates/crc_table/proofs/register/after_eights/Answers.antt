use Rattle.std.proofs.Common.{refl, ◌∙◌}
use Rattle.crc_table.specs.Registers.{register_after}
use Rattle.crc_table.proofs.LookUps.{after-eights}
use Rattle.crc_table.proofs.register.after_eights.Goals as goal

pub loop-eight-init : goal.loop-eight-init
unfolding register_after
loop-eight-init c = refl

pub loop-eight-preserved : goal.loop-eight-preserved
loop-eight-preserved c =
    c.after_eight-register.ensures ∙ after-eights c.args.register c.args.eights.now c.loop-eight.eight-index c.loop-eight.register c.loop-eight-test.true c.loop-eight.invariant
