use Rattle.std.proofs.Common.{ap}
use Rattle.shared_disk.specs.Desk.{DeskState}
use Rattle.shared_disk.specs.Inside.{desk_state}
use Rattle.shared_disk.proofs.desk.Desk.disk.Goals as goal

pub returns : goal.returns
unfolding desk_state
returns g c = ap (λ (s : DeskState). s.disk) c.self.view_is
