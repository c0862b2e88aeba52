use Rattle.stack_run.proofs.SummedLemmas.{whole-disk}
use Rattle.stack_run.proofs.generated_run.read_generated.Goals as goal

pub returns-in-Ok-clause-whole : goal.returns-in-Ok-clause-whole
returns-in-Ok-clause-whole c = whole-disk c.args.text.now c.in-Ok.script.disks c.requires c.in-Ok.ensures.tells
