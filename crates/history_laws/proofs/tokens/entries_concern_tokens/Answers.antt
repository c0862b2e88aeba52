use Rattle.history_laws.proofs.TokenLemmas.{facts_of-other, bytes_read-other}
use Rattle.history_laws.proofs.EndLemmas.{unaccepted}
use Rattle.history_laws.proofs.tokens.entries_concern_tokens.Goals as goal

pub returns-clause-told : goal.returns-clause-told
returns-clause-told c = facts_of-other

pub returns-clause-read : goal.returns-clause-read
returns-clause-read c = bytes_read-other

pub returns-clause-untold : goal.returns-clause-untold
returns-clause-untold c = unaccepted
