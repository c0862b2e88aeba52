use Rattle.std.proofs.Common.{◌≡◌}
use Rattle.stack_run.specs.Generated.{made_of, with_lines}
use Rattle.stack_run.proofs.generator.add_client.Given as goal

abbrev pub invariant-loop-done : goal.invariant-loop-done
invariant-loop-done l = made_of l.draft ≡ with_lines l.done (made_of l.initial.draft)
