use Rattle.std.proofs.Common.{◌≡◌, false, length, arith, ap, sym, subst}
use Rattle.index_links.specs.Lists.{LinkedLists, is_listed}
use Rattle.index_links.proofs.LinkedListsLemmas.{long-unlinked, nodes-unlinked}
use Rattle.block_gate.proofs.Steps.{unlisted}
use Rattle.block_gate.proofs.relinking.relink.Goals as goal

pub push_back-requires-clause-list : goal.push_back-requires-clause-list
push_back-requires-clause-list c = omega (arith, ap (λ (s : LinkedLists). length s.lists) c.unlink.ensures.value, long-unlinked c.args.links.now c.args.node, c.requires.list)

pub push_back-requires-clause-node : goal.push_back-requires-clause-node
push_back-requires-clause-node c = omega (arith, ap (λ (s : LinkedLists). s.nodes) c.unlink.ensures.value, nodes-unlinked c.args.links.now c.args.node, c.requires.node)

pub push_back-requires-clause-unlisted : goal.push_back-requires-clause-unlisted
push_back-requires-clause-unlisted c = subst (λ s. is_listed s c.args.node ≡ false) (sym c.unlink.ensures.value) (unlisted c.args.links.now c.args.node)
