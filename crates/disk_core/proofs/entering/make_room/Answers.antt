use Rattle.disk_core.specs.Moves.{with_spare}
use Rattle.disk_core.proofs.entering.make_room.Goals as goal

pub returns-clause-core : goal.returns-clause-core
unfolding with_spare
returns-clause-core c = λ i. record c.args.core.now { history = record { entries = c.reserve.ensures.entries i; spare = c.reserve.new.self.spare } }
