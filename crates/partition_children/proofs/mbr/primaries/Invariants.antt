use Rattle.std.proofs.Common.{◌≡◌}
use Rattle.partition_children.proofs.Places.{children_before}
use Rattle.partition_children.proofs.Records.{child_at, gives_child}
use Rattle.partition_children.proofs.mbr.primaries.Given as goal

abbrev pub invariant-loop-place : goal.invariant-loop-place
invariant-loop-place l = l.children.items ≡ children_before (gives_child l.blocks l.mbr) (child_at l.mbr) l.mbr.records l.place
