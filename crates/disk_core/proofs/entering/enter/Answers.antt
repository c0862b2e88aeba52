use Rattle.std.proofs.Common.{◌≡◌, ◌-◌, arith}
use Rattle.disk_core.specs.Moves.{with_entry}
use Rattle.disk_core.proofs.entering.enter.Goals as goal

pub returns : goal.returns
unfolding with_entry
returns c =
    let spare : c.push.new.self.spare ≡ c.args.core.now.history.spare - 1 = (let h = c.push.ensures.spare in omega arith) in
    λ i. record c.args.core.now { history = record { entries = c.push.ensures.entries i; spare = spare i }; owed = c.args.core.now.owed - c.args.paid }
