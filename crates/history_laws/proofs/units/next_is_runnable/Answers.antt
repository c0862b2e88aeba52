use Rattle.history_laws.proofs.MayLemmas.{runnable-may}
use Rattle.history_laws.proofs.RunnableLemmas.{next-runnable}
use Rattle.history_laws.proofs.units.next_is_runnable.Goals as goal

pub returns-clause-may : goal.returns-clause-may
returns-clause-may c = runnable-may

pub returns-clause-next : goal.returns-clause-next
returns-clause-next c = next-runnable
