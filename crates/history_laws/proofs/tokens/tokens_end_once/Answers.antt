use Rattle.history_laws.proofs.EndLemmas.{mark-stays, ended-done, ended-read}
use Rattle.history_laws.proofs.tokens.tokens_end_once.Goals as goal

pub returns-clause-mark : goal.returns-clause-mark
returns-clause-mark c = mark-stays

pub returns-clause-commands : goal.returns-clause-commands
returns-clause-commands c = ended-done

pub returns-clause-reading : goal.returns-clause-reading
returns-clause-reading c = ended-read
