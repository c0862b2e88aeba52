use Rattle.history_laws.proofs.HolderLemmas.{one-holder, held-holder, holder-held}
use Rattle.history_laws.proofs.units.groups_have_one_holder.Goals as goal

pub returns-clause-one : goal.returns-clause-one
returns-clause-one c = one-holder

pub returns-clause-holder : goal.returns-clause-holder
returns-clause-holder c = held-holder

pub returns-clause-held : goal.returns-clause-held
returns-clause-held c = holder-held
