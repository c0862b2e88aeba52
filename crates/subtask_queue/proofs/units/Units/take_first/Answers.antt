use Rattle.std.proofs.Common.{◌∙◌, ap, sym}
use Rattle.index_links.specs.Lists.{list_at}
use Rattle.subtask_queue.specs.Owned.{units_at, is_own, first_node, without_one}
use Rattle.subtask_queue.proofs.Moving.{among-first, units-without}
use Rattle.subtask_queue.proofs.units.Units.take_first.Goals as goal

pub set_free-requires-clause-waits : goal.set_free-requires-clause-waits
set_free-requires-clause-waits c =
    among-first (is_own c.args.token) c.self.inside.subs.items (list_at c.self.inside.links 0) c.args.first (ap (first_node (is_own c.args.token)) c.self.view_is ∙ c.requires.first)

pub returns-clause-value : goal.returns-clause-value
returns-clause-value c =
    ap (units_at c.self.inside.subs.items) c.set_free.ensures.waiting
    ∙ units-without (is_own c.args.token) c.self.inside.subs.items (list_at c.self.inside.links 0) c.args.first (c.self.invariant.apart.distinct 0) (ap (first_node (is_own c.args.token)) c.self.view_is ∙ c.requires.first)
    ∙ ap (without_one (is_own c.args.token)) c.self.view_is

pub returns-clause-next : goal.returns-clause-next
returns-clause-next c =
    c.second_own-next.ensures ∙ ap (λ subs. first_node (is_own c.args.token) (without_one (is_own c.args.token) (units_at subs (list_at c.self.inside.links 0)))) c.deref.ensures.value
    ∙ ap (first_node (is_own c.args.token))
    (sym (ap (units_at c.self.inside.subs.items) c.set_free.ensures.waiting ∙ units-without (is_own c.args.token) c.self.inside.subs.items (list_at c.self.inside.links 0) c.args.first (c.self.invariant.apart.distinct 0) (ap (first_node (is_own c.args.token)) c.self.view_is ∙ c.requires.first)))
