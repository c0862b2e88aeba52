use Rattle.shared_disk.proofs.AsideLemmas.{cancelled-beside}
use Rattle.shared_disk.proofs.aside.cancel_aside.Goals as goal

pub returns-clause-says : goal.returns-clause-says
returns-clause-says g c = (cancelled-beside _ _ _ _ _ _ c.requires c.cancel.ensures).beside

pub returns-clause-sound : goal.returns-clause-sound
returns-clause-sound g c = (cancelled-beside _ _ _ _ _ _ c.requires c.cancel.ensures).sound
