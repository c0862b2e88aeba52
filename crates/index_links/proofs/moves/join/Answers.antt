use Rattle.std.proofs.Common.{◌∙◌, ap, sym}
use Rattle.index_links.specs.Rings.{after_at, before_at, exchange}
use Rattle.index_links.proofs.Calls.{moved-is, moved-none}
use Rattle.index_links.proofs.moves.join.Goals as goal

pub returns-then-last_moved-from-clause-linked : goal.returns-then-last_moved-from-clause-linked
returns-then-last_moved-from-clause-linked c =
    (moved-is c.args.rings.now c.splice-then-last_moved-from.new.self c.args.heads c.args.from c.args.to c.requires.linked c.splice-then-last_moved-from.ensures.rings (c.splice-then-last_moved-from.ensures.long ∙ c.splice.ensures.long)
    c.requires.from c.requires.to (λ is. c.requires.differ (sym is)) (λ is. c.if-last_moved-from.true (c.before-last_moved.ensures ∙ is))
    (λ p. c.splice-then-last_moved-from.ensures.after p ∙ c.splice.ensures.after (exchange c.before-last.result c.args.from p)
    ∙ ap (λ a. after_at c.args.rings.now (exchange a c.before-last_moved.result (exchange a c.args.from p))) c.before-last.ensures
    ∙ ap (λ b. after_at c.args.rings.now (exchange (before_at c.args.rings.now c.args.to) b (exchange (before_at c.args.rings.now c.args.to) c.args.from p))) c.before-last_moved.ensures)).1

pub returns-then-last_moved-from-clause-lists : goal.returns-then-last_moved-from-clause-lists
returns-then-last_moved-from-clause-lists c =
    (moved-is c.args.rings.now c.splice-then-last_moved-from.new.self c.args.heads c.args.from c.args.to c.requires.linked c.splice-then-last_moved-from.ensures.rings (c.splice-then-last_moved-from.ensures.long ∙ c.splice.ensures.long)
    c.requires.from c.requires.to (λ is. c.requires.differ (sym is)) (λ is. c.if-last_moved-from.true (c.before-last_moved.ensures ∙ is))
    (λ p. c.splice-then-last_moved-from.ensures.after p ∙ c.splice.ensures.after (exchange c.before-last.result c.args.from p)
    ∙ ap (λ a. after_at c.args.rings.now (exchange a c.before-last_moved.result (exchange a c.args.from p))) c.before-last.ensures
    ∙ ap (λ b. after_at c.args.rings.now (exchange (before_at c.args.rings.now c.args.to) b (exchange (before_at c.args.rings.now c.args.to) c.args.from p))) c.before-last_moved.ensures)).0

pub returns-else-last_moved-from-clause-lists : goal.returns-else-last_moved-from-clause-lists
returns-else-last_moved-from-clause-lists c =
    moved-none c.args.rings.now c.args.heads c.args.from c.args.to c.requires.linked c.requires.from c.requires.to (λ is. c.requires.differ (sym is)) (sym c.before-last_moved.ensures ∙ c.if-last_moved-from.false)
