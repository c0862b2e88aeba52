use Rattle.std.proofs.Common.{◌∷◌, [], ◌++◌, length, ap, ◌∙◌, arith}
use Rattle.index_links.specs.Lists.{list_at}
use Rattle.index_links.proofs.LinkedListsLemmas.{pushed-here, pushed-other, unlinked-at, long-pushed, nodes-pushed}
use Rattle.subtask_queue.proofs.Moving.{unlisted, lists-out, nodes-out}
use Rattle.subtask_queue.proofs.nodes.relink.Goals as goal

pub push_back-requires-clause-list : goal.push_back-requires-clause-list
push_back-requires-clause-list c = omega (arith, lists-out c.args.links.now c.unlink.new.self c.args.node c.unlink.ensures.value, c.requires.lists, c.requires.list)

pub push_back-requires-clause-node : goal.push_back-requires-clause-node
push_back-requires-clause-node c = omega (arith, nodes-out c.args.links.now c.unlink.new.self c.args.node c.unlink.ensures.value, c.requires.node)

pub push_back-requires-clause-unlisted : goal.push_back-requires-clause-unlisted
push_back-requires-clause-unlisted c = unlisted c.args.links.now c.unlink.new.self c.args.node c.unlink.ensures.value

pub returns-clause-nodes : goal.returns-clause-nodes
returns-clause-nodes c = ap (λ s. s.nodes) c.push_back.ensures.value ∙ nodes-pushed c.unlink.new.self c.args.list c.args.node ∙ nodes-out c.args.links.now c.unlink.new.self c.args.node c.unlink.ensures.value

pub returns-clause-lists : goal.returns-clause-lists
returns-clause-lists c = ap (λ s. length s.lists) c.push_back.ensures.value ∙ long-pushed c.unlink.new.self c.args.list c.args.node ∙ lists-out c.args.links.now c.unlink.new.self c.args.node c.unlink.ensures.value ∙ c.requires.lists

pub returns-clause-here : goal.returns-clause-here
returns-clause-here c =
    ap (λ s. list_at s c.args.list) c.push_back.ensures.value ∙ pushed-here c.unlink.new.self c.args.list c.args.node (omega (arith, lists-out c.args.links.now c.unlink.new.self c.args.node c.unlink.ensures.value, c.requires.lists, c.requires.list))
    ∙ ap (λ s. list_at s c.args.list ++ c.args.node ∷ []) c.unlink.ensures.value ∙ ap (λ xs. xs ++ c.args.node ∷ []) (unlinked-at c.args.links.now c.args.node c.args.list)

pub returns-clause-others : goal.returns-clause-others
returns-clause-others c = λ l other.
    ap (λ s. list_at s l) c.push_back.ensures.value ∙ pushed-other c.unlink.new.self c.args.list c.args.node l other
    ∙ ap (λ s. list_at s l) c.unlink.ensures.value ∙ unlinked-at c.args.links.now c.args.node l
