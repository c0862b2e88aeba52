use Rattle.std.proofs.Common.{◌-◌}
use Rattle.mbr_records.specs.Chain.{count_of}
use Rattle.partition_children.proofs.LogicalsRead.{SoFar}
use Rattle.partition_children.proofs.mbr.add_logicals.Given as goal

abbrev pub invariant-loop-own : goal.invariant-loop-own
invariant-loop-own g l = SoFar l.fn.disk l.target l.signature l.fn.chain l.fn.children.items l.disk l.chain l.children.items l.number

abbrev pub decreases-loop-own : goal.decreases-loop-own
decreases-loop-own g l = 128 - count_of l.chain
