use Rattle.crc_table.proofs.Registers.{rest_of-HasOneRest}
use Rattle.crc_table.proofs.crc32.Goals as goal

pub returns-clause-rest : goal.returns-clause-rest
returns-clause-rest c = rest_of-HasOneRest c.args.bytes.now
