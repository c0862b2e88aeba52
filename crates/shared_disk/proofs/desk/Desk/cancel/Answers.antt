use Rattle.std.proofs.Common.{subst}
use Rattle.history.specs.declared.entry.Entry.TheVariants.{Cancel}
use Rattle.disk_core.specs.Calls.{EndSays}
use Rattle.shared_disk.specs.Seats.{BesideLines}
use Rattle.shared_disk.specs.Inside.{desk_state}
use Rattle.shared_disk.proofs.desk.Desk.cancel.Goals as goal

pub returns : goal.returns
returns g c = subst (λ s. BesideLines s (desk_state c.cancel_aside.new.disk c.self.inside.books) (λ a b. EndSays a (Cancel c.args.tag c.args.view.now) c.cancel_aside.result b)) c.self.view_is c.cancel_aside.ensures.says
