use Rattle.std.proofs.Common.{◌≡◌, subst, option_copied}
use Rattle.shared_disk.specs.Desk.{given_at, AreGivenBack}
use Rattle.shared_disk.specs.Inside.{desk_state}
use Rattle.shared_disk.proofs.DeskLemmas.{given-back}
use Rattle.shared_disk.proofs.desk.Desk.given.Goals as goal

pub returns-clause-buffer : goal.returns-clause-buffer
unfolding desk_state
returns-clause-buffer g c = subst (λ s. option_copied c.given.result ≡ given_at s.given c.args.token) c.self.view_is c.given.ensures

pub returns-clause-back : goal.returns-clause-back
returns-clause-back g c = subst AreGivenBack c.self.view_is (given-back c.self.inside.disk c.self.inside.books c.self.invariant)
