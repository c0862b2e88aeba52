use Rattle.disk_core.proofs.Grouped.{stays-same}
use Rattle.disk_core.proofs.accepting.prepare_for.Goals as goal

pub returns-else-is_change-clause-same : goal.returns-else-is_change-clause-same
returns-else-is_change-clause-same g c = stays-same _ _ _ c.requires.present
