use Rattle.std.proofs.Common.{◌≡◌, true, false, subst}
use Rattle.shared_disk.specs.Desk.{HasNoLine, HasLine}
use Rattle.shared_disk.specs.Inside.{desk_state}
use Rattle.shared_disk.proofs.desk.Desk.over.Goals as goal

pub returns-clause-over : goal.returns-clause-over
unfolding desk_state
returns-clause-over g c = subst (λ s. c.is_over.result ≡ true → HasNoLine s) c.self.view_is c.is_over.ensures.over

pub returns-clause-left : goal.returns-clause-left
unfolding desk_state
returns-clause-left g c = subst (λ s. c.is_over.result ≡ false → HasLine s) c.self.view_is c.is_over.ensures.left
