use Rattle.shared_disk.proofs.PlacesLemmas.{lines-stand, places-ascend, own-entries}
use Rattle.shared_disk.proofs.laws.lines_stand_at_places.Goals as goal

pub returns-clause-stand : goal.returns-clause-stand
returns-clause-stand c = lines-stand

pub returns-clause-ascend : goal.returns-clause-ascend
returns-clause-ascend c = places-ascend

pub returns-clause-own : goal.returns-clause-own
returns-clause-own c = own-entries
