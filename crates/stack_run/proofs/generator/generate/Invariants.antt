use Rattle.std.proofs.Common.{◌≡◌}
use Rattle.stack_run.specs.Generated.{made_of, with_clients, opening}
use Rattle.stack_run.proofs.generator.generate.Given as goal

abbrev pub invariant-loop : goal.invariant-loop
invariant-loop l = made_of l.draft ≡ with_clients l.fn.lines l.counter (opening l.fn.number)
