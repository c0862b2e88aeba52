use Rattle.history_laws.proofs.SpareLemmas.{entries-owed, entries-fault, entries-less}
use Rattle.history_laws.proofs.room.entries_lower_room.Goals as goal

pub returns-clause-owed : goal.returns-clause-owed
returns-clause-owed c = entries-owed

pub returns-clause-fault : goal.returns-clause-fault
returns-clause-fault c = entries-fault

pub returns-clause-others : goal.returns-clause-others
returns-clause-others c = entries-less
