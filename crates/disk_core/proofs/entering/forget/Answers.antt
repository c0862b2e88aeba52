use Rattle.std.proofs.Common.{sym, ◌∙◌, arith}
use Rattle.disk_core.proofs.Holders.{passing-over}
use Rattle.disk_core.proofs.entering.forget.Goals as goal

pub loop-step-preserved : goal.loop-step-preserved
loop-step-preserved c =
    let left = c.loop-step.invariant.0 in let place = c.pass-at.ensures.place in let more = c.loop-step-test.true in
    (omega arith, c.pass-at.ensures.passed ∙ c.loop-step.invariant.1, c.pass-at.ensures.places ∙ c.loop-step.invariant.2)

pub returns-clause-holders : goal.returns-clause-holders
returns-clause-holders c =
    sym (passing-over c.args.token c.loop-step.holders.items c.loop-step.at (let left = c.loop-step.invariant.0 in let over = c.loop-step-test.false in omega arith)) ∙ c.loop-step.invariant.1
