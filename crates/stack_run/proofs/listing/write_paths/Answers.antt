use Rattle.stack_run.proofs.Reported.{nothing-written}
use Rattle.stack_run.proofs.listing.write_paths.Goals as goal

pub returns-in-Err-clause-text : goal.returns-in-Err-clause-text
returns-in-Err-clause-text g c = nothing-written (g.O.Sink.outlet c.args.out.now).wrote _
