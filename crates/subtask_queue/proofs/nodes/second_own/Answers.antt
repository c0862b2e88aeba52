use Rattle.std.proofs.Common.{suc, arith, sym, ◌∙◌}
use Rattle.index_links.specs.Lists.{list_at}
use Rattle.subtask_queue.specs.Subs.{is_of}
use Rattle.subtask_queue.specs.Owned.{sub_at, is_own}
use Rattle.subtask_queue.proofs.Walks.{begins, node-inside, node-listed, next-place, second-here, second-end, second-beyond}
use Rattle.subtask_queue.proofs.nodes.second_own.Goals as goal

pub next-requires : goal.next-requires
next-requires c =
    let b = begins 0 c.args.subs.now (list_at c.args.links.now 0) c.args.token c.args.first c.requires.rising c.requires.first in
    node-listed c.args.links.now 0 b.place c.args.first b.at_place

pub returns-in_default : goal.returns-in_default
returns-in_default c =
    let b = begins 0 c.args.subs.now (list_at c.args.links.now 0) c.args.token c.args.first c.requires.rising c.requires.first in
    sym (b.second ∙ second-end c.args.subs.now (list_at c.args.links.now 0) c.args.token (suc b.place) (sym (next-place (list_at c.args.links.now 0) b.place c.next.result (c.next.ensures.value 0 b.place b.at_place)) ∙ c.in_default.is))

pub bounds-subs-next : goal.bounds-subs-next
bounds-subs-next c =
    let b = begins 0 c.args.subs.now (list_at c.args.links.now 0) c.args.token c.args.first c.requires.rising c.requires.first in
    omega (arith, node-inside c.args.links.now 0 (suc b.place) c.in-Some.next c.requires.apart (sym (next-place (list_at c.args.links.now 0) b.place c.next.result (c.next.ensures.value 0 b.place b.at_place)) ∙ c.in-Some.is), c.requires.nodes)

pub returns-then-token : goal.returns-then-token
unfolding sub_at is_own is_of
returns-then-token c =
    let b = begins 0 c.args.subs.now (list_at c.args.links.now 0) c.args.token c.args.first c.requires.rising c.requires.first in
    sym (b.second ∙ second-here c.args.subs.now (list_at c.args.links.now 0) c.args.token (suc b.place) c.in-Some.next (sym (next-place (list_at c.args.links.now 0) b.place c.next.result (c.next.ensures.value 0 b.place b.at_place)) ∙ c.in-Some.is) (grind (arith, c.token.ensures, c.if-token.true)))

pub returns : goal.returns
unfolding sub_at is_own is_of
returns c =
    let b = begins 0 c.args.subs.now (list_at c.args.links.now 0) c.args.token c.args.first c.requires.rising c.requires.first in
    sym (b.second ∙ second-beyond c.args.subs.now (list_at c.args.links.now 0) c.args.token c.args.first b c.in-Some.next (sym (next-place (list_at c.args.links.now 0) b.place c.next.result (c.next.ensures.value 0 b.place b.at_place)) ∙ c.in-Some.is) (grind (arith, c.token.ensures, c.if-token.false)))
