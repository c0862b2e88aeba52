use Rattle.disk_core.specs.declared.answers.Stored.TheVariants.{Stale, Foreign, Strange}
use Rattle.device_workers.proofs.Stepping.{did, stored-at-once, answered, never-idle, drained}
use Rattle.device_workers.proofs.plain_run.step_once.Goals as goal

pub returns-in-Did-clause-steps : goal.returns-in-Did-clause-steps
returns-in-Did-clause-steps g c =
    let setup = rw c.disk.ensures at c.history.ensures.setup in
    let facts = rw c.disk.ensures at c.history.ensures.facts in
    did c.args.desk.now setup facts c.requires.idle c.step.new.self c.in-Did.ensures.says

pub returns-in-Drained-clause-steps : goal.returns-in-Drained-clause-steps
returns-in-Drained-clause-steps g c = drained c.args.desk.now c.step.new.self c.in-Drained.ensures.says

pub unreachable-requires : goal.unreachable-requires
unreachable-requires g c =
    let setup = rw c.disk.ensures at c.history.ensures.setup in
    let facts = rw c.disk.ensures at c.history.ensures.facts in
    never-idle c.args.desk.now setup facts c.requires.idle c.step.new.self c.in-Idle.ensures.says

pub returns-in-Did-store-clause-steps : goal.returns-in-Did-store-clause-steps
returns-in-Did-store-clause-steps g c =
    let setup = rw c.disk.ensures at c.history.ensures.setup in
    let facts = rw c.disk.ensures at c.history.ensures.facts in
    stored-at-once c.args.desk.now setup facts c.requires.idle c.step.new.self c.store.new.self c.in-Lent.work c.merge.new.self c.in-Lent.ensures.says c.merge.ensures c.in-Did-store.ensures.says

pub unreachable-requires-in-Stale : goal.unreachable-requires-in-Stale
unreachable-requires-in-Stale g c =
    let setup = rw c.disk.ensures at c.history.ensures.setup in
    let facts = rw c.disk.ensures at c.history.ensures.facts in
    answered c.args.desk.now setup facts c.requires.idle c.step.new.self c.store.new.self c.in-Lent.work c.merge.new.self Stale c.in-Lent.ensures.says c.merge.ensures c.in-Stale.ensures.says

pub unreachable-requires-in-Foreign : goal.unreachable-requires-in-Foreign
unreachable-requires-in-Foreign g c =
    let setup = rw c.disk.ensures at c.history.ensures.setup in
    let facts = rw c.disk.ensures at c.history.ensures.facts in
    answered c.args.desk.now setup facts c.requires.idle c.step.new.self c.store.new.self c.in-Lent.work c.merge.new.self (Foreign c.in-Foreign.work) c.in-Lent.ensures.says c.merge.ensures c.in-Foreign.ensures.says

pub unreachable-requires-in-Strange : goal.unreachable-requires-in-Strange
unreachable-requires-in-Strange g c =
    let setup = rw c.disk.ensures at c.history.ensures.setup in
    let facts = rw c.disk.ensures at c.history.ensures.facts in
    answered c.args.desk.now setup facts c.requires.idle c.step.new.self c.store.new.self c.in-Lent.work c.merge.new.self
    (Strange c.in-Strange.work c.in-Strange.field-1 c.in-Strange.field-2 c.in-Strange.field-3) c.in-Lent.ensures.says c.merge.ensures c.in-Strange.ensures.says
