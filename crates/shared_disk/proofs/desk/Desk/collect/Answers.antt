use Rattle.std.proofs.Common.{subst}
use Rattle.disk_core.specs.Calls.{CollectSays}
use Rattle.shared_disk.specs.Seats.{BesideLines}
use Rattle.shared_disk.specs.Inside.{desk_state}
use Rattle.shared_disk.proofs.desk.Desk.collect.Goals as goal

pub returns : goal.returns
returns g c = subst (λ s. BesideLines s (desk_state c.collect_aside.new.disk c.collect_aside.new.books) (λ a b. CollectSays a c.args.tag c.args.number c.collect_aside.result b)) c.self.view_is c.collect_aside.ensures.says
