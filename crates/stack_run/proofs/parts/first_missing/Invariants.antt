use Rattle.std.proofs.Common.{◌≡◌, drop}
use Rattle.stack_run.specs.Parts.{first_missing}
use Rattle.stack_run.proofs.parts.first_missing.Given as goal

abbrev pub invariant-loop-client : goal.invariant-loop-client
invariant-loop-client l = first_missing l.size l.children l.clients ≡ first_missing l.size l.children (drop l.client-index l.clients)
