use Rattle.std.proofs.Common.{◌∷◌, [], ◌+◌, length, length-append, ap, ◌∙◌, arith}
use Rattle.index_links.specs.Lists.{list_at, without}
use Rattle.subtask_queue.proofs.Moving.{without-other}
use Rattle.subtask_queue.proofs.nodes.set_free.Goals as goal

pub relink-requires-clause-node : goal.relink-requires-clause-node
relink-requires-clause-node c = c.requires.apart.within 0 c.args.node c.requires.waits

pub returns-clause-waiting : goal.returns-clause-waiting
returns-clause-waiting c = c.relink.ensures.others 0 (λ one. omega arith)

pub returns-clause-free : goal.returns-clause-free
returns-clause-free c =
    ap length c.relink.ensures.here ∙ length-append (without c.args.node (list_at c.args.links.now 1)) (c.args.node ∷ [])
    ∙ ap (λ xs. length xs + 1) (without-other c.args.links.now c.args.node 0 1 c.requires.apart c.requires.waits (λ one. omega arith))
