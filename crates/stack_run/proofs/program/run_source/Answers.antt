use Rattle.stack_run.proofs.CompleteLemmas.{serves, servable-has}
use Rattle.stack_run.proofs.program.run_source.Goals as goal

pub returns-in-Ok-clause-complete : goal.returns-in-Ok-clause-complete
returns-in-Ok-clause-complete g c servable source sink none =
    serves c.run_script.result c.in-Ok.read.disks _ _ _ _ c.run_script.ensures.few c.run_script.ensures.image c.run_script.ensures.sink
    (servable-has _ c.in-Ok.read.disks _ c.in-Ok.ensures.script.says servable) sink none
