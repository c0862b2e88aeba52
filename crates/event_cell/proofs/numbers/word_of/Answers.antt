use Rattle.event_cell.proofs.Codes.{rem-code_of}
use Rattle.event_cell.proofs.numbers.word_of.Goals as goal

pub returns : goal.returns
returns c = rw c.code.ensures (rem-code_of c.args.status)
