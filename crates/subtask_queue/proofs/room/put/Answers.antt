use Rattle.std.proofs.Common.{◌∙◌, ap, arith, slice_set}
use Rattle.index_links.specs.Lists.{list_at}
use Rattle.subtask_queue.specs.Owned.{units_at}
use Rattle.subtask_queue.proofs.Moving.{units-put}
use Rattle.subtask_queue.proofs.room.put.Goals as goal

pub returns-clause-units : goal.returns-clause-units
returns-clause-units c =
    ap (units_at (slice_set c.args.subs.now.items c.take_free-node.result c.args.sub)) c.take_free-node.ensures.waiting
    ∙ units-put c.args.subs.now.items c.take_free-node.result c.args.sub (list_at c.args.links.now 0) c.take_free-node.ensures.fresh (omega (arith, c.take_free-node.ensures.inside, c.requires.nodes.nodes))
