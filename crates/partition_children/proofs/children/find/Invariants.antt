use Rattle.partition_children.specs.Children.{AreOthersBefore}
use Rattle.partition_children.proofs.children.find.Given as goal

abbrev pub invariant-loop-place : goal.invariant-loop-place
invariant-loop-place l = AreOthersBefore l.table.children l.node l.place
