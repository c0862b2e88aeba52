use Rattle.std.proofs.Common.{◌≡◌, ◌∙◌, ap, sym, arith}
use Rattle.index_links.specs.Lists.{list_at}
use Rattle.subtask_queue.specs.Subs.{block_of}
use Rattle.subtask_queue.specs.Owned.{sub_at, units_at, is_own, is_node, first_node, without_one}
use Rattle.subtask_queue.proofs.Moving.{among-first, units-without, read-is, waits-inside}
use Rattle.subtask_queue.proofs.Leading.{first-own, first-taken, first-kept, none-taken, has-node, has-no-node}
use Rattle.subtask_queue.proofs.units.Units.finish.Goals as goal

pub index-requires : goal.index-requires
index-requires c =
    omega (arith, c.self.inside.subs.ok, waits-inside (is_own c.args.token) c.self.inside.subs.items c.self.inside.links c.args.first c.self.inside.spare c.self.invariant (ap (first_node (is_own c.args.token)) c.self.view_is ∙ c.requires.first))

pub returns-then-block-clause-value : goal.returns-then-block-clause-value
returns-then-block-clause-value c =
    let first = ap (first_node (is_own c.args.token)) c.self.view_is ∙ c.requires.first in
    let here : c.index.result.now ≡ sub_at c.self.inside.subs.items c.args.first = read-is c.self.inside.subs.items c.args.first c.index.result.now (waits-inside (is_own c.args.token) c.self.inside.subs.items c.self.inside.links c.args.first c.self.inside.spare c.self.invariant first) c.index.ensures in
    c.take_first.ensures.value ∙ ap (without_one (is_own c.args.token)) (sym c.self.view_is)
    ∙ first-taken c.self.inside.subs.items (list_at c.self.inside.links 0) c.args.token c.args.block c.args.first first
    (has-node c.args.token c.args.block c.args.first (sub_at c.self.inside.subs.items c.args.first) (first-own c.self.inside.subs.items (list_at c.self.inside.links 0) c.args.token c.args.first first) (c.if-block.true ∙ c.block.ensures ∙ ap block_of here))
    ∙ ap (without_one (is_node c.args.token c.args.block)) c.self.view_is

pub set_free-requires-clause-waits : goal.set_free-requires-clause-waits
set_free-requires-clause-waits c =
    among-first (is_node c.args.token c.args.block) c.self.inside.subs.items (list_at c.self.inside.links 0) c.in-Some.node
    (ap (λ subs. first_node (is_node c.args.token c.args.block) (units_at subs (list_at c.self.inside.links 0))) (sym c.deref.ensures.value) ∙ sym c.find_unit.ensures ∙ c.in-Some.is)

pub returns-in-Some-clause-value : goal.returns-in-Some-clause-value
returns-in-Some-clause-value c =
    ap (units_at c.self.inside.subs.items) c.set_free.ensures.waiting
    ∙ units-without (is_node c.args.token c.args.block) c.self.inside.subs.items (list_at c.self.inside.links 0) c.in-Some.node (c.self.invariant.apart.distinct 0)
    (ap (λ subs. first_node (is_node c.args.token c.args.block) (units_at subs (list_at c.self.inside.links 0))) (sym c.deref.ensures.value) ∙ sym c.find_unit.ensures ∙ c.in-Some.is)
    ∙ ap (without_one (is_node c.args.token c.args.block)) c.self.view_is

pub returns-in-Some-clause-next : goal.returns-in-Some-clause-next
returns-in-Some-clause-next c =
    let first = ap (first_node (is_own c.args.token)) c.self.view_is ∙ c.requires.first in
    let here : c.index.result.now ≡ sub_at c.self.inside.subs.items c.args.first = read-is c.self.inside.subs.items c.args.first c.index.result.now (waits-inside (is_own c.args.token) c.self.inside.subs.items c.self.inside.links c.args.first c.self.inside.spare c.self.invariant first) c.index.ensures in
    sym (ap (first_node (is_own c.args.token)) (ap (units_at c.self.inside.subs.items) c.set_free.ensures.waiting
    ∙ units-without (is_node c.args.token c.args.block) c.self.inside.subs.items (list_at c.self.inside.links 0) c.in-Some.node (c.self.invariant.apart.distinct 0)
    (ap (λ subs. first_node (is_node c.args.token c.args.block) (units_at subs (list_at c.self.inside.links 0))) (sym c.deref.ensures.value) ∙ sym c.find_unit.ensures ∙ c.in-Some.is))
    ∙ first-kept c.self.inside.subs.items (list_at c.self.inside.links 0) c.args.token c.args.block c.args.first first
    (has-no-node c.args.token c.args.block c.args.first (sub_at c.self.inside.subs.items c.args.first) (first-own c.self.inside.subs.items (list_at c.self.inside.links 0) c.args.token c.args.first first) (λ same. c.if-block.false (same ∙ ap block_of (sym here) ∙ sym c.block.ensures))))

pub returns-in_default-clause-value : goal.returns-in_default-clause-value
returns-in_default-clause-value c =
    sym c.self.view_is ∙ none-taken (is_node c.args.token c.args.block) (units_at c.self.inside.subs.items (list_at c.self.inside.links 0))
    (ap (λ subs. first_node (is_node c.args.token c.args.block) (units_at subs (list_at c.self.inside.links 0))) (sym c.deref.ensures.value) ∙ sym c.find_unit.ensures ∙ c.in_default.is)
    ∙ ap (without_one (is_node c.args.token c.args.block)) c.self.view_is
