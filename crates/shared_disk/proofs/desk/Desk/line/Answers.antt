use Rattle.std.proofs.Common.{◌≡◌, ◌-◌, length, subst, arith}
use Rattle.shared_disk.specs.Desk.{Keeps}
use Rattle.shared_disk.specs.Inside.{desk_state}
use Rattle.shared_disk.proofs.DeskLemmas.{roles-count, line-keeps}
use Rattle.shared_disk.proofs.desk.Desk.line.Goals as goal

pub take_line-requires-clause-there : goal.take_line-requires-clause-there
take_line-requires-clause-there g c = omega (arith, c.requires.there, subst (λ s. length s.script.roles ≡ length c.self.inside.books.clients.items) c.self.view_is (roles-count c.self.inside.disk c.self.inside.books))

pub returns-clause-keeps : goal.returns-clause-keeps
returns-clause-keeps g c = subst (λ s. Keeps s → Keeps (desk_state c.take_line.new.disk c.take_line.new.books)) c.self.view_is (line-keeps (desk_state c.self.inside.disk c.self.inside.books) (desk_state c.take_line.new.disk c.take_line.new.books) (c.args.client - 1) c.take_line.result c.take_line.ensures.says)
