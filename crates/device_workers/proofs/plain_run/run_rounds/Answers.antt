use Rattle.std.proofs.Common.{arith}
use Rattle.device_workers.proofs.Rounds.{run-none, run-more, run-over, stops-after, on-err, round-going, round-leaving, going-on, some-left}
use Rattle.device_workers.proofs.plain_run.run_rounds.Goals as goal
use Rattle.device_workers.proofs.plain_run.run_rounds.Goals.{else-not-branch-via-then-not-branch+else-over, else-not-branch-via-else-not-branch}

pub loop-desk-init : goal.loop-desk-init
loop-desk-init g c = run-none _ c.requires.keeps

pub loop-desk-preserved : goal.loop-desk-preserved
loop-desk-preserved g c = run-more _ _ _ _ c.loop-desk.invariant c.run_round.ensures.stays c.run_round.ensures.keeps c.in_ok-run_round.ensures.round

pub returns-then-over-clause-rounds : goal.returns-then-over-clause-rounds
returns-then-over-clause-rounds g c =
    run-over _ _ _ (run-more _ _ _ _ c.loop-desk.invariant c.run_round.ensures.stays c.run_round.ensures.keeps c.in_ok-run_round.ensures.round)
    c.run_round.ensures.stays (rw c.if-not-branch.true at c.in_ok-run_round.ensures.round) (c.over.ensures.over c.if-over.true)

pub loop-desk-smaller : goal.loop-desk-smaller
loop-desk-smaller g c =
    let setup = going-on _ _ c.loop-desk.invariant.stays (rw c.disk.ensures at c.history.ensures.setup) in
    elim c.else-not-branch.branch [
      | else-not-branch-via-then-not-branch+else-over w ↦
          omega (arith, round-leaving _ _ c.run_round.ensures.stays (rw w.if-not-branch.true at c.in_ok-run_round.ensures.round) (some-left c.run_round.new.desk (w.over.ensures.left w.if-over.false)))
      | else-not-branch-via-else-not-branch w ↦ omega (arith, round-going _ _ setup c.run_round.ensures.stays (rw w.if-not-branch.false at c.in_ok-run_round.ensures.round))
    ]

pub returns-in_err-run_round-clause-stops : goal.returns-in_err-run_round-clause-stops
returns-in_err-run_round-clause-stops g c = on-err c.from_residual.result (stops-after _ _ _ c.loop-desk.invariant c.in_err-run_round.ensures.stops)
