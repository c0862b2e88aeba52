use Rattle.history_laws.proofs.EraLemmas.{outstanding-cancel, outstanding-protect-on, outstanding-reset, outstanding-eject}
use Rattle.history_laws.proofs.tokens.entries_end_tokens.Goals as goal

pub returns-clause-cancel : goal.returns-clause-cancel
returns-clause-cancel c = outstanding-cancel

pub returns-clause-protect : goal.returns-clause-protect
returns-clause-protect c = outstanding-protect-on

pub returns-clause-reset : goal.returns-clause-reset
returns-clause-reset c = outstanding-reset

pub returns-clause-eject : goal.returns-clause-eject
returns-clause-eject c = outstanding-eject
