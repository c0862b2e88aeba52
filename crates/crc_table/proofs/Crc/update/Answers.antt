use Rattle.std.proofs.Common.{◌≡◌, ◌-◌, ◌^◌}
use Rattle.crc_table.specs.Registers.{register_after}
use Rattle.crc_table.proofs.Registers.{Holds-append}
use Rattle.crc_table.proofs.LookUps.{after-chunks}
use Rattle.crc_table.proofs.Crc.update.Goals as goal

pub returns : goal.returns
returns c before holds =
    let all : c.after_bytes-register.result ≡ register_after (2 ^ 32 - 1 - c.args.self.now) c.args.bytes.now =
    rw (c.after_bytes-register.ensures, c.after_eights.ensures, c.as_chunks.ensures.front, c.as_chunks.ensures.back, ← c.self.view_is) (after-chunks _ c.args.bytes.now) in
    Holds-append c.args.self.now c.after_bytes-register.result before c.args.bytes.now all holds
