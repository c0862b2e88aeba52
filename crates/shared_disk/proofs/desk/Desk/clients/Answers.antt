use Rattle.std.proofs.Common.{◌≡◌, length, subst, arith}
use Rattle.shared_disk.proofs.DeskLemmas.{roles-count}
use Rattle.shared_disk.proofs.desk.Desk.clients.Goals as goal

pub returns : goal.returns
returns g c = subst (λ s. c.len.result ≡ length s.script.roles) c.self.view_is (omega (arith, c.len.ensures, roles-count c.self.inside.disk c.self.inside.books))
