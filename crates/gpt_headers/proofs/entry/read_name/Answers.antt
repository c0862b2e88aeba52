use Rattle.gpt_headers.proofs.Places.{units_read}
use Rattle.gpt_headers.proofs.entry.read_name.Goals as goal

pub returns : goal.returns
returns c = units_read c.args.bytes.now c.read_u16_into.new.dst c.read_u16_into.auto.dst c.read_u16_into.ensures
