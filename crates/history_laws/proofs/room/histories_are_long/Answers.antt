use Rattle.history_laws.proofs.RoomLemmas.{few-commands}
use Rattle.history_laws.proofs.LengthLemmas.{counts-together, both-fewer}
use Rattle.history_laws.proofs.room.histories_are_long.Goals as goal

pub returns-clause-few : goal.returns-clause-few
returns-clause-few c = few-commands

pub returns-clause-within : goal.returns-clause-within
returns-clause-within c = counts-together

pub returns-clause-fewer : goal.returns-clause-fewer
returns-clause-fewer c = both-fewer
