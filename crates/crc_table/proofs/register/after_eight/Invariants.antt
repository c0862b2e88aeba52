use Rattle.std.proofs.Common.{◌≡◌, ◌*◌, ◌-◌, ◌^◌, ◌<◌, bit_xor}
use Rattle.crc_table.specs.Registers.{after_shifts}
use Rattle.crc_table.proofs.register.after_eight.Given as goal

-- what is looked up and what is left make the register after the eight bytes
abbrev pub invariant-loop-table : goal.invariant-loop-table
invariant-loop-table l =
    (bit_xor l.sum (after_shifts (8 * (8 - l.table-index)) l.left) ≡ after_shifts 64 l.initial.left)
    × (l.left < 2 ^ (8 * (8 - l.table-index)))
