use Rattle.partition_children.proofs.Inside.{requests-stay}
use Rattle.partition_children.proofs.law.child_requests_stay_inside.Goals as goal

pub returns : goal.returns
returns g c = requests-stay c.args.disk.now.setup c.args.disk.now.entries c.views_are_kept.ensures.outside
