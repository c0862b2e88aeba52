use Rattle.std.proofs.Common.{arith}
use Rattle.device_workers.proofs.Ending.{collected-none, collected-more, collected-over, last-owed}
use Rattle.device_workers.proofs.plain_run.collect_rest.Goals as goal

pub loop-init : goal.loop-init
loop-init g c = collected-none _ c.requires.keeps c.requires.drained

pub loop-smaller : goal.loop-smaller
loop-smaller g c = omega (arith, last-owed _ _ _ (rw c.in-Some.is at c.collect_last.ensures.says))

pub loop-preserved : goal.loop-preserved
loop-preserved g c = collected-more _ _ _ _ c.loop.invariant (c.collect_last.ensures.keeps c.loop.invariant.keeps) (rw c.in-Some.is at c.collect_last.ensures.says)

pub returns-clause-stays : goal.returns-clause-stays
returns-clause-stays g c = (collected-over _ _ _ c.requires.over c.loop.invariant (rw c.in_default.is at c.collect_last.ensures.says)).0

pub returns-clause-collects : goal.returns-clause-collects
returns-clause-collects g c = (collected-over _ _ _ c.requires.over c.loop.invariant (rw c.in_default.is at c.collect_last.ensures.says)).1
