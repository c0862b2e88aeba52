use Rattle.history_laws.proofs.EraLemmas.{out-stays, later-first}
use Rattle.history_laws.proofs.media.media_stay.Goals as goal

pub returns-clause-out : goal.returns-clause-out
returns-clause-out c = out-stays

pub returns-clause-later : goal.returns-clause-later
returns-clause-later c = later-first
