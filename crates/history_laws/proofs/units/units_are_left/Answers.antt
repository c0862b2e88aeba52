use Rattle.history_laws.proofs.PendingLemmas.{pending-keeps}
use Rattle.history_laws.proofs.FinishLemmas.{pending-accept, pending-finish}
use Rattle.history_laws.proofs.PendingEndLemmas.{pending-ends}
use Rattle.history_laws.proofs.OrderLemmas.{pending-ordered}
use Rattle.history_laws.proofs.units.units_are_left.Goals as goal

pub returns-clause-keeps : goal.returns-clause-keeps
returns-clause-keeps c = pending-keeps

pub returns-clause-adds : goal.returns-clause-adds
returns-clause-adds c = pending-accept

pub returns-clause-takes : goal.returns-clause-takes
returns-clause-takes c = pending-finish

pub returns-clause-ends : goal.returns-clause-ends
returns-clause-ends c = pending-ends

pub returns-clause-order : goal.returns-clause-order
returns-clause-order c = pending-ordered
