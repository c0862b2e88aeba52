use Rattle.std.proofs.Common.{sym, ◌∙◌}
use Rattle.disk_core.proofs.Holders.{revoked-next, revoked-over}
use Rattle.disk_core.proofs.entering.revoke_of.Goals as goal

pub loop-holder-preserved : goal.loop-holder-preserved
loop-holder-preserved c = revoked-next c.args.token c.args.holders.now c.loop-holder.holder-index _ c.loop-holder.gates c.revoke_one.new.gates c.loop-holder-test.true c.revoke_one.ensures ∙ c.loop-holder.invariant

pub returns : goal.returns
returns c = sym (revoked-over c.args.token c.args.holders.now c.loop-holder.holder-index c.loop-holder.gates c.loop-holder-test.false) ∙ c.loop-holder.invariant
