use Rattle.std.proofs.Common.{◌+◌, arith}
use Rattle.subtask_queue.proofs.tests.add.Goals as goal

pub add-requires-clause-parts : goal.add-requires-clause-parts
add-requires-clause-parts c = (
  c.args.range.0,
  c.args.range.0 + c.args.range.1,
  omega arith,
  record { ordered = omega arith; under = c.split-parts.ensures.under; first = c.split-parts.ensures.first; count = c.split-parts.ensures.count; over = c.split-parts.ensures.over },
)
