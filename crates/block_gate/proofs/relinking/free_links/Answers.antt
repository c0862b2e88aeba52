use Rattle.std.proofs.Common.{◌≡◌, ◌+◌, ◌∙◌, ◌∷◌, [], ◌++◌, true, false, length, arith, ap, sym}
use Rattle.index_links.specs.Lists.{list_at, is_among, with_node_at_end, empty_lists}
use Rattle.index_links.proofs.LinkedListsLemmas.{pushed-here, pushed-other, long-pushed, nodes-pushed}
use Rattle.std.proofs.Common.{length-append}
use Rattle.block_gate.proofs.Calls.{unlisted-new, below-more}
use Rattle.block_gate.proofs.relinking.free_links.Goals as goal

pub loop-node-init : goal.loop-node-init
unfolding empty_lists list_at is_among
loop-node-init c =
    let is : c.in_ok-links.links ≡ empty_lists c.args.count 3 = c.in_ok-links.ensures.value in (
      ap (λ s. s.nodes) is,
      ap (λ s. length s.lists) is,
      ap (λ s. length (list_at s 0)) is,
      ap (λ s. list_at s 1) is,
      ap (λ s. list_at s 2) is,
      c.in_ok-links.ensures.apart,
      λ x among. let never : false ≡ true = sym (ap (λ s. is_among (list_at s 0) x) is) ∙ among in cc,
    )

pub push_back-requires-clause-unlisted : goal.push_back-requires-clause-unlisted
push_back-requires-clause-unlisted c =
    let (nodes, lists, long, held, gone, apart, below) = c.loop-node.invariant in
    unlisted-new c.loop-node.links c.loop-node.node lists held gone below

pub loop-node-preserved : goal.loop-node-preserved
loop-node-preserved c =
    let (nodes, lists, long, held, gone, apart, below) = c.loop-node.invariant in
    let node = c.loop-node.node in
    let links = c.loop-node.links in
    let is : c.push_back.new.self ≡ with_node_at_end links 0 node = c.push_back.ensures.value in
    let first : list_at c.push_back.new.self 0 ≡ list_at links 0 ++ node ∷ [] = ap (λ s. list_at s 0) is ∙ pushed-here links 0 node (omega arith) in (
      ap (λ s. s.nodes) is ∙ nodes-pushed links 0 node ∙ nodes,
      ap (λ s. length s.lists) is ∙ long-pushed links 0 node ∙ lists,
      ap length first ∙ length-append (list_at links 0) (node ∷ []) ∙ ap (λ n. n + 1) long,
      ap (λ s. list_at s 1) is ∙ pushed-other links 0 node 1 (λ one. omega arith) ∙ held,
      ap (λ s. list_at s 2) is ∙ pushed-other links 0 node 2 (λ one. omega arith) ∙ gone,
      c.push_back.ensures.apart,
      λ x among. below-more (list_at links 0) node x below (sym (ap (λ xs. is_among xs x) first) ∙ among),
    )
