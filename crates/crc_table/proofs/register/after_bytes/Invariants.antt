use Rattle.std.proofs.Common.{◌≡◌, take}
use Rattle.crc_table.specs.Registers.{register_after}
use Rattle.crc_table.proofs.register.after_bytes.Given as goal

abbrev pub invariant-loop-byte : goal.invariant-loop-byte
invariant-loop-byte l = l.register ≡ register_after l.fn.register (take l.byte-index l.bytes)
