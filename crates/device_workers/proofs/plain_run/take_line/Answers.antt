use Rattle.std.proofs.Common.{arith}
use Rattle.device_workers.proofs.Taking.{taking-none, taking-more, collected-owed, stays-on, taken-did, taken-stay, taken-ended, wants, untaken}
use Rattle.device_workers.proofs.plain_run.take_line.Goals as goal

pub loop-init : goal.loop-init
loop-init g c = record { taking = taking-none _ _; keeps = c.requires.keeps }

pub loop-smaller : goal.loop-smaller
loop-smaller g c = omega (arith, collected-owed _ _ _ _ (rw c.in-Collected.is at c.line.ensures.says))

pub loop-preserved : goal.loop-preserved
loop-preserved g c = record {
  taking = taking-more _ _ _ _ _ c.loop.invariant.taking (rw c.in-Collected.is at c.line.ensures.says);
  keeps = c.line.ensures.keeps c.loop.invariant.keeps;
}

pub returns-in-Did-clause-stays : goal.returns-in-Did-clause-stays
returns-in-Did-clause-stays g c = (taken-did _ _ _ _ _ c.requires.idle c.loop.invariant.taking c.loop.invariant.keeps (rw c.in-Did.is at c.line.ensures.says)).0

pub returns-in-Did-clause-takes : goal.returns-in-Did-clause-takes
returns-in-Did-clause-takes g c = (taken-did _ _ _ _ _ c.requires.idle c.loop.invariant.taking c.loop.invariant.keeps (rw c.in-Did.is at c.line.ensures.says)).1

pub returns-in-NotYet-clause-stays : goal.returns-in-NotYet-clause-stays
returns-in-NotYet-clause-stays g c = (taken-stay _ _ _ _ c.loop.invariant.taking (rw c.in-NotYet.is at c.line.ensures.says)).0

pub returns-in-NotYet-clause-takes : goal.returns-in-NotYet-clause-takes
returns-in-NotYet-clause-takes g c = (taken-stay _ _ _ _ c.loop.invariant.taking (rw c.in-NotYet.is at c.line.ensures.says)).1

pub returns-in-Ended-clause-stays : goal.returns-in-Ended-clause-stays
returns-in-Ended-clause-stays g c = (taken-ended _ _ _ _ (omega (arith, c.requires.there, c.requires.some)) c.loop.invariant.taking (rw c.in-Ended.is at c.line.ensures.says)).0

pub returns-in-Ended-clause-takes : goal.returns-in-Ended-clause-takes
returns-in-Ended-clause-takes g c = (taken-ended _ _ _ _ (omega (arith, c.requires.there, c.requires.some)) c.loop.invariant.taking (rw c.in-Ended.is at c.line.ensures.says)).1

pub returns-in-Memory-clause-stays : goal.returns-in-Memory-clause-stays
returns-in-Memory-clause-stays g c = stays-on _ _ _ c.loop.invariant.taking.stays (wants _ _ _ (rw c.in-Memory.is at c.line.ensures.says)).0

pub returns-in-Memory-clause-memory : goal.returns-in-Memory-clause-memory
returns-in-Memory-clause-memory g c = (wants _ _ _ (rw c.in-Memory.is at c.line.ensures.says)).1

pub returns-in-Memory-clause-untaken : goal.returns-in-Memory-clause-untaken
returns-in-Memory-clause-untaken g c = untaken _ _ _ _ c.loop.invariant.taking (rw c.in-Memory.is at c.line.ensures.says)
