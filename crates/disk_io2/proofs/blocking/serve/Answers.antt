use Rattle.disk_io2.proofs.Serving.{serves-none, serves-on, still-there, still-uncollected}
use Rattle.disk_core.proofs.IdleLemmas.{keeps-same, keeps-on, idle-on}
use Rattle.disk_io2.proofs.blocking.serve.Goals as goal

pub loop-disk-init : goal.loop-disk-init
loop-disk-init g c = record { gates = keeps-same _; serves = serves-none _ _ }

pub is_open-requires-clause-there : goal.is_open-requires-clause-there
is_open-requires-clause-there g c = still-there _ _ _ c.loop-disk.invariant.serves c.requires.there

pub is_open-requires-clause-uncollected : goal.is_open-requires-clause-uncollected
is_open-requires-clause-uncollected g c = still-uncollected _ _ _ c.loop-disk.invariant.serves c.requires.uncollected

pub step_once-requires-clause-idle : goal.step_once-requires-clause-idle
step_once-requires-clause-idle g c = idle-on _ _ c.loop-disk.invariant.gates c.requires.idle

pub loop-disk-preserved : goal.loop-disk-preserved
loop-disk-preserved g c = record {
  gates = keeps-on _ _ _ c.loop-disk.invariant.gates c.step_once.ensures.gates;
  serves = serves-on _ _ _ _ c.loop-disk.invariant.serves c.step_once.ensures.serves;
}
