use Rattle.std.proofs.Common.{Some, ◌∙◌, ap, arith, refl}
use Rattle.std.specs.Option.{option_or}
use Rattle.index_links.specs.Lists.{list_at}
use Rattle.subtask_queue.specs.Owned.{units_at}
use Rattle.subtask_queue.proofs.Behind.{behind-none, behind-more}
use Rattle.subtask_queue.proofs.room.put_all.Goals as goal

pub loop-sub-init : goal.loop-sub-init
loop-sub-init c = (
  record { nodes = c.requires.nodes.nodes; lists = c.requires.nodes.lists; apart = c.requires.nodes.apart; enough = omega arith },
  omega arith,
  behind-none (units_at c.args.subs.now.items (list_at c.args.links.now 0)),
)

pub loop-sub-preserved : goal.loop-sub-preserved
loop-sub-preserved c =
    let (nodes, free, behind) = c.loop-sub.invariant in (
      c.put-node.ensures.nodes,
      omega (arith, free, c.put-node.ensures.free),
      behind-more c.args.units.now c.loop-sub.sub-index c.put-node.result _ c.loop-sub.first c.or-first.result _ _ _ c.loop-sub-test.true behind c.put-node.ensures.units refl
          (λ none. c.or-first.ensures ∙ ap (λ o. option_or o (Some c.put-node.result)) none) (λ y some. c.or-first.ensures ∙ ap (λ o. option_or o (Some c.put-node.result)) some),
    )
