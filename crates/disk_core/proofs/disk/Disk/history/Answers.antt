use Rattle.std.proofs.Common.{subst}
use Rattle.history.specs.Room.{AreFewCommands}
use Rattle.history_laws.proofs.RoomLemmas.{few-commands}
use Rattle.disk_core.specs.Parts.{state_of}
use Rattle.disk_core.proofs.disk.Disk.history.Goals as goal

pub returns-clause-few_commands : goal.returns-clause-few_commands
unfolding state_of
returns-clause-few_commands g c = subst (λ s. AreFewCommands s.setup s.entries) c.self.view_is (few-commands _ _ c.self.invariant.geometry c.self.invariant.facts.legal)
