use Rattle.std.proofs.Common.{subst}
use Rattle.shared_disk.specs.Desk.{Keeps}
use Rattle.shared_disk.specs.Inside.{desk_state}
use Rattle.shared_disk.proofs.DeskLemmas.{last-keeps}
use Rattle.shared_disk.proofs.desk.Desk.collect_last.Goals as goal

pub returns-clause-keeps : goal.returns-clause-keeps
returns-clause-keeps g c = subst (λ s. Keeps s → Keeps (desk_state c.collect_least.new.disk c.collect_least.new.books)) c.self.view_is (last-keeps (desk_state c.self.inside.disk c.self.inside.books) (desk_state c.collect_least.new.disk c.collect_least.new.books) c.collect_least.result c.collect_least.ensures.says)
