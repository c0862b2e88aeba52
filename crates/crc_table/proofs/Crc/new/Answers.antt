use Rattle.crc_table.proofs.Registers.{Holds-none}
use Rattle.crc_table.proofs.Crc.new.Goals as goal

pub returns : goal.returns
returns c = Holds-none
