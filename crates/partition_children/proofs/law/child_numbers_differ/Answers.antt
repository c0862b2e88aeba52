use Rattle.partition_children.proofs.Numbers.{child_numbers_differ}
use Rattle.partition_children.proofs.law.child_numbers_differ.Goals as goal

pub returns : goal.returns
returns c = child_numbers_differ
