use Rattle.std.proofs.Common.{sym, ◌∙◌, ap}
use Rattle.std.proofs.Math.ListN.{drop_of_length-le}
use Rattle.stack_run.specs.Parts.{first_missing}
use Rattle.stack_run.proofs.PartLemmas.{missing-next, missing-here}
use Rattle.stack_run.proofs.parts.first_missing.Goals as goal

pub returns-then-is_missing : goal.returns-then-is_missing
returns-then-is_missing c =
    sym (c.loop-client.invariant ∙ missing-here c.args.size c.args.children.now c.args.clients.now c.loop-client.client-index c.client-item.result c.loop-client-test.true c.client-item.is (sym c.is_missing.ensures ∙ c.if-is_missing.true))

pub loop-client-preserved : goal.loop-client-preserved
loop-client-preserved c =
    c.loop-client.invariant ∙ missing-next c.args.size c.args.children.now c.args.clients.now c.loop-client.client-index c.client-item.result c.loop-client-test.true c.client-item.is (sym c.is_missing.ensures ∙ c.if-is_missing.false)

pub returns : goal.returns
unfolding first_missing
returns c = sym (c.loop-client.invariant ∙ ap (first_missing c.args.size c.args.children.now) (drop_of_length-le c.args.clients.now c.loop-client-test.false))
