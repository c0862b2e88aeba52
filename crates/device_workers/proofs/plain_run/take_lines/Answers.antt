use Rattle.std.proofs.Common.{◌≡◌, length, arith}
use Rattle.device_workers.proofs.Taking.{stays-on}
use Rattle.device_workers.proofs.Rounds.{taken-none, taken-more, stops-in, idle-on, on-err}
use Rattle.device_workers.proofs.plain_run.take_lines.Goals as goal

pub loop-i-init : goal.loop-i-init
loop-i-init g c = taken-none _ c.requires.keeps

pub take_line-requires-clause-there : goal.take_line-requires-clause-there
take_line-requires-clause-there g c = rw c.loop-i.invariant.stays.script (omega (arith, c.loop-i-test.true, c.clients-i-end.ensures))

pub take_line-requires-clause-keeps : goal.take_line-requires-clause-keeps
take_line-requires-clause-keeps g c = c.loop-i.invariant.keeps

pub take_line-requires-clause-idle : goal.take_line-requires-clause-idle
take_line-requires-clause-idle g c = idle-on _ _ c.loop-i.invariant.stays c.requires.idle

pub returns-in_err-take_line-clause-stays : goal.returns-in_err-take_line-clause-stays
returns-in_err-take_line-clause-stays g c = stays-on _ _ _ c.loop-i.invariant.stays c.take_line.ensures.stays

pub loop-i-preserved : goal.loop-i-preserved
loop-i-preserved g c = taken-more _ _ _ c.loop-i.i c.loop-i.invariant c.take_line.ensures.stays c.take_line.ensures.keeps c.in_ok-take_line.ensures.takes

pub returns-clause-stays : goal.returns-clause-stays
returns-clause-stays g c = c.loop-i.invariant.stays

pub returns-clause-keeps : goal.returns-clause-keeps
returns-clause-keeps g c = c.loop-i.invariant.keeps

pub returns-clause-takes : goal.returns-clause-takes
returns-clause-takes g c =
    let e : c.loop-i.i ≡ length c.args.desk.now.script.roles = omega (arith, c.loop-i-test.false, c.loop-i.auto.i-end, c.clients-i-end.ensures) in
    rw e at c.loop-i.invariant.takes

pub returns-in_err-take_line-clause-stops : goal.returns-in_err-take_line-clause-stops
returns-in_err-take_line-clause-stops g c = on-err c.from_residual.result (stops-in _ _ _ c.loop-i.i (omega (arith, c.loop-i-test.true, c.clients-i-end.ensures)) c.loop-i.invariant c.take_line.ensures.stays c.in_err-take_line.ensures.untaken)
