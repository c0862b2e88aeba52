use Rattle.std.proofs.Common.{◌∙◌, ◌∷◌, [], ◌++◌, ◌+◌, ◌<◌, ◌^◌, None, length, ap, sym, subst, arith}
use Rattle.subtask_queue.specs.Firsts.{first_at, AreLive}
use Rattle.subtask_queue.proofs.Places.{at-more}
use Rattle.subtask_queue.proofs.Live.{lists-more, nodes-more, new-unlisted, live-grown}
use Rattle.subtask_queue.proofs.firsts.Firsts.add_node.Goals as goal

pub push_back-requires-clause-list : goal.push_back-requires-clause-list
push_back-requires-clause-list c = omega (arith, lists-more c.self.inside.links c.grow.new.self c.in_ok-grow.ensures.ok, c.self.invariant.lists)

pub push_back-requires-clause-node : goal.push_back-requires-clause-node
push_back-requires-clause-node c = omega (arith, nodes-more c.self.inside.links c.grow.new.self c.in_ok-grow.ensures.ok, c.self.invariant.nodes_is, c.len-long.ensures, c.self.inside.nodes.ok)

pub push_back-requires-clause-unlisted : goal.push_back-requires-clause-unlisted
push_back-requires-clause-unlisted c =
    new-unlisted c.self.inside.links c.grow.new.self c.len-long.result c.self.invariant.apart c.in_ok-grow.ensures.ok (omega (arith, c.self.invariant.nodes_is, c.len-long.ensures, c.self.inside.nodes.ok))

pub invariant_of-self-2 : goal.invariant_of-self-2
invariant_of-self-2 c =
    subst (λ nodes. AreLive c.self.inside.base nodes c.push_back.new.self) (sym (c.push_reserved.ensures.items ∙ ap (λ xs. xs ++ None ∷ []) c.reserve.ensures.items))
    (live-grown c.self.inside.base c.len-long.result c.self.inside.nodes.items c.self.inside.links c.grow.new.self c.push_back.new.self c.self.invariant
    (omega (arith, c.if-long.false, c.len-long.ensures, c.self.inside.nodes.ok)) c.in_ok-grow.ensures.ok c.push_back.ensures.value c.push_back.ensures.apart)

pub returns-clause-same : goal.returns-clause-same
returns-clause-same c = λ t.
    ap (λ nodes. first_at (record { base = c.self.inside.base; nodes = nodes }) t) (c.push_reserved.ensures.items ∙ ap (λ xs. xs ++ None ∷ []) c.reserve.ensures.items)
    ∙ at-more c.self.inside.base c.self.inside.nodes.items t ∙ ap (λ f. first_at f t) c.self.view_is
