use Rattle.std.proofs.Common.{◌≡◌, ◌∙◌, ap, subst, is_some, IfSome, Some}
use Rattle.history.specs.Marks.{mark_of}
use Rattle.shared_disk.specs.Desk.{DeskState, given_at}
use Rattle.shared_disk.proofs.DeskLemmas.{ended-tells, ended-where}
use Rattle.shared_disk.proofs.desk.Desk.ended.Goals as goal

pub returns-clause-status : goal.returns-clause-status
returns-clause-status g c =
    subst (λ (s : DeskState). IfSome c.ended.result (λ status. mark_of s.disk.setup s.disk.entries c.args.token ≡ Some status)) c.self.view_is
    (ended-tells c.self.inside.disk c.self.inside.books c.self.invariant c.args.token c.ended.result c.ended.ensures)

pub returns-clause-there : goal.returns-clause-there
returns-clause-there g c =
    subst (λ (s : DeskState). is_some c.ended.result ≡ is_some (given_at s.given c.args.token)) c.self.view_is
    (ap is_some c.ended.ensures ∙ ended-where c.self.inside.disk c.self.inside.books c.args.token)
