use Rattle.std.proofs.Common.{◌≡◌, ℕ, ◌∙◌, ◌-◌, ◌<◌, ◌≤◌, ◌+◌, ◌^◌, true, false, None, cond, nat_eq, is_some, get_or, ap, sym, subst, arith}
use Rattle.subtask_queue.specs.Firsts.{first_at, HasSlot}
use Rattle.subtask_queue.proofs.Places.{at-set, at-place, is-none, read-place}
use Rattle.subtask_queue.proofs.Live.{live-freed, live-opened, last-place, other-true, other-false}
use Rattle.subtask_queue.proofs.firsts.Firsts.set.Goals as goal

pub returns-then-was_live-is_live : goal.returns-then-was_live-is_live
returns-then-was_live-is_live c = λ t.
    at-set (record { base = c.self.inside.base; nodes = c.self.inside.nodes.items }) c.args.token t c.args.node (subst (λ f. HasSlot f c.args.token) (sym c.self.view_is) c.requires.place)
    ∙ ap (λ f. cond (nat_eq t c.args.token) c.args.node (first_at f t)) c.self.view_is

pub returns-then-was_live : goal.returns-then-was_live
returns-then-was_live c = λ t.
    at-set (record { base = c.self.inside.base; nodes = c.self.inside.nodes.items }) c.args.token t c.args.node (subst (λ f. HasSlot f c.args.token) (sym c.self.view_is) c.requires.place)
    ∙ ap (λ f. cond (nat_eq t c.args.token) c.args.node (first_at f t)) c.self.view_is

pub returns : goal.returns
returns c = λ t.
    at-set (record { base = c.self.inside.base; nodes = c.self.inside.nodes.items }) c.args.token t c.args.node (subst (λ f. HasSlot f c.args.token) (sym c.self.view_is) c.requires.place)
    ∙ ap (λ f. cond (nat_eq t c.args.token) c.args.node (first_at f t)) c.self.view_is

pub invariant_of-self-then-was_live : goal.invariant_of-self-then-was_live
invariant_of-self-then-was_live c =
    let has = subst (λ f. HasSlot f c.args.token) (sym c.self.view_is) c.requires.place in
    live-freed c.self.inside.base (c.args.token - c.self.inside.base) c.args.node c.self.inside.nodes.items c.self.inside.links c.relink.new.links c.self.invariant has.inside (omega (arith, has.after, c.ranges.token.fits)) c.relink.ensures.nodes c.relink.ensures.lists c.relink.ensures.apart
    (c.relink.ensures.others 0 (λ one. omega arith)) (sym c.is_some-is_live.ensures ∙ other-true c.is_some-was_live.result c.is_some-is_live.result c.if-was_live-is_live.false c.if-was_live.true)

pub invariant_of-self-2 : goal.invariant_of-self-2
invariant_of-self-2 c =
    let has = subst (λ f. HasSlot f c.args.token) (sym c.self.view_is) c.requires.place in
    let none : get_or c.self.inside.nodes.items (c.args.token - c.self.inside.base) None ≡ None = sym (read-place c.self.inside.nodes.items (c.args.token - c.self.inside.base) c.index.result.now has.inside c.index.ensures) ∙ is-none c.index.result.now (sym c.is_some-was_live.ensures ∙ c.if-was_live.false) in
    live-opened c.self.inside.base (c.args.token - c.self.inside.base) c.args.node c.self.inside.nodes.items c.self.inside.links c.relink-2.new.links c.self.invariant has.inside (omega (arith, has.after, c.ranges.token.fits)) c.relink-2.ensures.nodes c.relink-2.ensures.lists c.relink-2.ensures.apart
    c.relink-2.ensures.here (sym c.is_some-is_live.ensures ∙ other-false c.is_some-was_live.result c.is_some-is_live.result c.if-was_live-is_live.false c.if-was_live.false)
    (λ p high. last-place (record { base = c.self.inside.base; nodes = c.self.inside.nodes.items }) c.args.token p has.after (λ t from. ap (λ f. first_at f t) c.self.view_is
    ∙ c.requires.last (ap (λ f. first_at f c.args.token) (sym c.self.view_is) ∙ at-place (record { base = c.self.inside.base; nodes = c.self.inside.nodes.items }) c.args.token has.after ∙ none) t from) high)
