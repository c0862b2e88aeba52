use Rattle.std.proofs.Common.{◌≡◌, sym, ◌∙◌, subst, arith}
use Rattle.history.specs.Setup.{IsSetup}
use Rattle.block_gate.proofs.GatesLemmas.{least-none}
use Rattle.device_workers.proofs.Finished.{setup-same, held-stays, held-lowers}
use Rattle.device_workers.proofs.finishing.store_all.Goals as goal

pub loop-ticket-init : goal.loop-ticket-init
loop-ticket-init g c = (setup-same _, c.requires.keeps)

pub loop-ticket-preserved : goal.loop-ticket-preserved
loop-ticket-preserved g c = (held-stays _ _ _ _ _ c.loop-ticket.invariant.0 c.store_held.ensures.says, c.store_held.ensures.keeps c.loop-ticket.invariant.1)

pub loop-ticket-smaller : goal.loop-ticket-smaller
loop-ticket-smaller g c =
    let setup = subst IsSetup (sym c.loop-ticket.invariant.0.setup) (rw c.disk.ensures at c.history.ensures.setup) in
    omega (arith, held-lowers _ _ _ _ setup (sym c.held.ensures ∙ c.in-Some.is) c.store_held.ensures.says.says)

pub returns-clause-none : goal.returns-clause-none
returns-clause-none g c = least-none _ (sym c.held.ensures ∙ c.in_default.is)
