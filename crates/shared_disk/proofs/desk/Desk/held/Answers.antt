use Rattle.std.proofs.Common.{◌∙◌, ap}
use Rattle.block_gate.specs.Gates.{least_ticket}
use Rattle.shared_disk.specs.Desk.{DeskState}
use Rattle.shared_disk.specs.Inside.{desk_state}
use Rattle.shared_disk.proofs.desk.Desk.held.Goals as goal

pub returns : goal.returns
unfolding desk_state
returns g c = c.held.ensures ∙ ap (λ (s : DeskState). least_ticket s.disk.gates.held) c.self.view_is
