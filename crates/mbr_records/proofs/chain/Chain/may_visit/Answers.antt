use Rattle.std.proofs.Common.{◌<◌, length, arith, rules}
use Rattle.mbr_records.proofs.Visits.{may_visit_kept}
use Rattle.mbr_records.proofs.chain.Chain.may_visit.Goals as goal

pub returns-then-not-contains_place-clause-exact : goal.returns-then-not-contains_place-clause-exact
returns-then-not-contains_place-clause-exact c =
    let i = c.self.inside in
    let within : i.fed < length i.named = omega (arith, c.self.invariant) in
    rw (← c.self.view_is, may_visit_kept i.start i.size i.fed c.args.place i.named within) (search rules)

pub returns-else-not-contains_place-clause-exact : goal.returns-else-not-contains_place-clause-exact
returns-else-not-contains_place-clause-exact c =
    let i = c.self.inside in
    let within : i.fed < length i.named = omega (arith, c.self.invariant) in
    rw (← c.self.view_is, may_visit_kept i.start i.size i.fed c.args.place i.named within) (search rules)
