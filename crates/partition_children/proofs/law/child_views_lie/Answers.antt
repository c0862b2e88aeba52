use Rattle.partition_children.proofs.Inside.{child_views_lie}
use Rattle.partition_children.proofs.law.child_views_lie.Goals as goal

pub returns : goal.returns
returns c = child_views_lie
