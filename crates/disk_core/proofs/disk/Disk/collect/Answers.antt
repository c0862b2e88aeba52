use Rattle.std.proofs.Common.{subst}
use Rattle.disk_core.specs.Calls.{CollectSays}
use Rattle.disk_core.specs.Parts.{state_of}
use Rattle.disk_core.proofs.Collected.{collect-place, collect-reaches}
use Rattle.disk_core.proofs.disk.Disk.collect.Goals as goal

pub collect_from-requires : goal.collect_from-requires
collect_from-requires g c = collect-place _ _ _ _ c.args.tag c.args.number c.self.invariant

pub invariant_of-self : goal.invariant_of-self
invariant_of-self g c = (collect-reaches _ _ _ _ c.args.tag c.args.number c.self.invariant c.collect_from.result c.collect_from.ensures.answer c.collect_from.new.core c.collect_from.ensures.ok c.collect_from.ensures.err).sound

pub returns : goal.returns
returns g c = subst (λ s. CollectSays s c.args.tag c.args.number c.collect_from.result (state_of g.M.Medium.device c.self.inside.drive c.collect_from.new.core)) c.self.view_is
    (collect-reaches _ _ _ _ c.args.tag c.args.number c.self.invariant c.collect_from.result c.collect_from.ensures.answer c.collect_from.new.core c.collect_from.ensures.ok c.collect_from.ensures.err).says
