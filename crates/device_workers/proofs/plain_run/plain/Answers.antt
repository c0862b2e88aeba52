use Rattle.device_workers.proofs.Ending.{is-plain, is-faultless, is-whole, front}
use Rattle.device_workers.proofs.Rounds.{on-err}
use Rattle.device_workers.proofs.plain_run.plain.Goals as goal

pub returns-clause-whole : goal.returns-clause-whole
returns-clause-whole g c = is-whole _ _ _ c.collect_rest.ensures.keeps c.run_rounds.ensures.stays c.collect_rest.ensures.stays c.in_ok-run_rounds.ensures.rounds c.collect_rest.ensures.collects

pub returns-clause-plain : goal.returns-clause-plain
returns-clause-plain g c at =
    let setup = rw c.disk.ensures at c.history.ensures.setup in
    let facts = rw c.disk.ensures at c.history.ensures.facts in
    is-plain _ _ _ c.collect_rest.ensures.keeps setup facts.legal c.run_rounds.ensures.stays c.collect_rest.ensures.stays c.in_ok-run_rounds.ensures.rounds c.collect_rest.ensures.collects at

pub returns-clause-faultless : goal.returns-clause-faultless
returns-clause-faultless g c at =
    let setup = rw c.disk.ensures at c.history.ensures.setup in
    let facts = rw c.disk.ensures at c.history.ensures.facts in
    is-faultless _ _ _ c.collect_rest.ensures.keeps setup facts.legal c.run_rounds.ensures.stays c.collect_rest.ensures.stays c.in_ok-run_rounds.ensures.rounds c.collect_rest.ensures.collects at

pub returns-in_err-run_rounds-clause-front : goal.returns-in_err-run_rounds-clause-front
returns-in_err-run_rounds-clause-front g c =
    let setup = rw c.disk.ensures at c.history.ensures.setup in
    let facts = rw c.disk.ensures at c.history.ensures.facts in
    on-err c.from_residual.result (λ at. front _ _ setup facts.legal c.requires.keeps c.in_err-run_rounds.ensures.stops at)
