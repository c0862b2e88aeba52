use Rattle.history_laws.proofs.TicketLemmas.{holds-by-one, holds-by-before}
use Rattle.history_laws.proofs.units.fetches_have_tickets.Goals as goal

pub returns-clause-one : goal.returns-clause-one
returns-clause-one c = holds-by-one

pub returns-clause-before : goal.returns-clause-before
returns-clause-before c = holds-by-before
