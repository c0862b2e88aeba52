use Rattle.std.proofs.Common.{◌≡◌, take}
use Rattle.std.specs.List.{concat}
use Rattle.crc_table.specs.Registers.{register_after}
use Rattle.crc_table.proofs.register.after_eights.Given as goal

abbrev pub invariant-loop-eight : goal.invariant-loop-eight
invariant-loop-eight l = l.register ≡ register_after l.fn.register (concat (take l.eight-index l.eights))
