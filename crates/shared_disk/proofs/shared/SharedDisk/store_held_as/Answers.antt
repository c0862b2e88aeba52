use Rattle.shared_disk.proofs.HoldLemmas.{sees-older}
use Rattle.shared_disk.proofs.shared.SharedDisk.store_held_as.Goals as goal

pub returns-clause-older : goal.returns-clause-older
returns-clause-older g c = sees-older _ _ _ _ _ _ c.store_held.ensures
