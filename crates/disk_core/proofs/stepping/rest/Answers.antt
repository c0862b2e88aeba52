use Rattle.std.proofs.Common.{ap, sym}
use Rattle.disk_core.specs.Moves.{rest_of}
use Rattle.disk_core.proofs.Rested.{queue-empty}
use Rattle.disk_core.proofs.stepping.rest.Goals as goal

pub returns-in-None : goal.returns-in-None
returns-in-None c = sym (ap rest_of (queue-empty c.args.core.now.queue c.in-None.ensures))
