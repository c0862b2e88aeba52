use Rattle.std.proofs.Common.{◌≡◌, drop}
use Rattle.stack_run.specs.Parts.{child_with}
use Rattle.stack_run.proofs.parts.child_with.Given as goal

abbrev pub invariant-loop-child : goal.invariant-loop-child
invariant-loop-child l = child_with l.size l.number l.children ≡ child_with l.size l.number (drop l.child-index l.children)
