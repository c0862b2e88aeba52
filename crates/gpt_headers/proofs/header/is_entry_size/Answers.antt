use Rattle.gpt_headers.proofs.Powers.{power_from_least}
use Rattle.gpt_headers.proofs.header.is_entry_size.Goals as goal

pub returns-then-size-ge-LEAST_ENTRY-clause-power : goal.returns-then-size-ge-LEAST_ENTRY-clause-power
returns-then-size-ge-LEAST_ENTRY-clause-power c = rw c.is_power_of_two.ensures (power_from_least c.args.size c.if-size-ge-LEAST_ENTRY.true)
