use Rattle.std.proofs.Common.{◌∷◌, [], ◌++◌, ◌+◌, length, ap, sym, ◌∙◌, arith}
use Rattle.index_links.specs.Lists.{list_at}
use Rattle.index_links.proofs.LinkedListsLemmas.{among-at}
use Rattle.subtask_queue.proofs.Moving.{absent, without-other, without-first}
use Rattle.subtask_queue.proofs.nodes.take_free.Goals as goal

pub relink-requires-clause-node : goal.relink-requires-clause-node
relink-requires-clause-node c = c.requires.apart.within 1 c.in-Some.node (among-at (list_at c.args.links.now 1) 0 c.in-Some.node (sym c.first.ensures.value ∙ c.in-Some.is))

pub returns-clause-waiting : goal.returns-clause-waiting
returns-clause-waiting c = c.relink.ensures.here
    ∙ ap (λ xs. xs ++ c.in-Some.node ∷ []) (without-other c.args.links.now c.in-Some.node 1 0 c.requires.apart (among-at (list_at c.args.links.now 1) 0 c.in-Some.node (sym c.first.ensures.value ∙ c.in-Some.is)) (λ one. omega arith))

pub returns-clause-free : goal.returns-clause-free
returns-clause-free c = without-first c.in-Some.node (list_at c.args.links.now 1) (c.requires.apart.distinct 1) (sym c.first.ensures.value ∙ c.in-Some.is)
    ∙ ap (λ xs. length xs + 1) (sym (c.relink.ensures.others 1 (λ one. omega arith)))

pub returns-clause-fresh : goal.returns-clause-fresh
returns-clause-fresh c = absent c.args.links.now c.in-Some.node 1 0 c.requires.apart (among-at (list_at c.args.links.now 1) 0 c.in-Some.node (sym c.first.ensures.value ∙ c.in-Some.is)) (λ one. omega arith)

pub returns-clause-inside : goal.returns-clause-inside
returns-clause-inside c = c.requires.apart.within 1 c.in-Some.node (among-at (list_at c.args.links.now 1) 0 c.in-Some.node (sym c.first.ensures.value ∙ c.in-Some.is))
