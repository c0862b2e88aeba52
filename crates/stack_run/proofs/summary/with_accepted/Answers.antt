use Rattle.std.proofs.Common.{arith}
use Rattle.stack_run.proofs.summary.with_accepted.Goals as goal

pub returns-then-has_succeeded-clause-within : goal.returns-then-has_succeeded-clause-within
returns-then-has_succeeded-clause-within c = λ n within.
    let more = c.with_moved-moved.ensures.within n within in
    record {
      accepted = let few = within.accepted in omega arith;
      refused = more.refused;
      commands = more.commands;
      written = more.written;
      read = more.read;
    }
