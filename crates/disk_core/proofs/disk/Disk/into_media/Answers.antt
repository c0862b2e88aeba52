use Rattle.std.proofs.Common.{◌≡◌, length, sym, ◌∙◌, ap, subst}
use Rattle.std.proofs.lemmas.List.{length-map}
use Rattle.disk_core.specs.State.{opening_from, setup_of}
use Rattle.history.specs.Room.{AreFewCommands}
use Rattle.history_laws.proofs.RoomLemmas.{few-commands}
use Rattle.disk_core.specs.Parts.{state_of}
use Rattle.disk_core.proofs.disk.Disk.into_media.Goals as goal

pub returns-clause-few_commands : goal.returns-clause-few_commands
unfolding state_of
returns-clause-few_commands g c = subst (λ s. AreFewCommands s.setup s.entries) c.self.view_is (few-commands _ _ c.self.invariant.geometry c.self.invariant.facts.legal)

pub returns-clause-count : goal.returns-clause-count
unfolding state_of setup_of
returns-clause-count g c = subst (λ s. length c.into_media.result.items ≡ length s.setup.media) c.self.view_is (ap length c.into_media.ensures ∙ sym (length-map c.self.inside.drive.media (λ m. opening_from (g.M.Medium.device m))))
