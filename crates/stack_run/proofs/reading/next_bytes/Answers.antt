use Rattle.std.proofs.Common.{rules, ◌<◌, length}
use Rattle.std.proofs.lemmas.Grind.{common_steps}
use Rattle.stack_run.proofs.Read.{takes-shorter}
use Rattle.stack_run.proofs.reading.next_bytes.Goals as goal

pub returns-clause-taken : goal.returns-clause-taken
returns-clause-taken g c =
    let some : 0 < length c.next-2.new.out = search (rules, common_steps, c.requires) in
    takes-shorter _ _ _ _ _ some c.next-2.ensures.taken
