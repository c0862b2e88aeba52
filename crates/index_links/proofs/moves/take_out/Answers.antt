use Rattle.std.proofs.Common.{◌+◌, ◌<◌, ◌∙◌, length, ap, sym, subst, refl}
use Rattle.index_links.specs.Rings.{after_at, exchange}
use Rattle.index_links.proofs.Calls.{unlinked-is, node-there}
use Rattle.index_links.proofs.moves.take_out.Goals as goal

pub before-before-requires : goal.before-before-requires
before-before-requires c = node-there c.args.rings.now c.args.heads c.args.node _ c.requires.linked refl c.requires.node

pub splice-requires-clause-left : goal.splice-requires-clause-left
splice-requires-clause-left c =
    subst (λ a. a < length c.args.rings.now) (sym c.before-before.ensures)
    (c.requires.linked.rings.behind (c.args.heads + c.args.node) (node-there c.args.rings.now c.args.heads c.args.node _ c.requires.linked refl c.requires.node))

pub splice-requires-clause-right : goal.splice-requires-clause-right
splice-requires-clause-right c = node-there c.args.rings.now c.args.heads c.args.node _ c.requires.linked refl c.requires.node

pub returns-clause-linked : goal.returns-clause-linked
returns-clause-linked c =
    (unlinked-is c.args.rings.now c.splice.new.self c.args.heads c.args.node c.requires.linked c.splice.ensures.rings c.splice.ensures.long
    (λ p. c.splice.ensures.after p ∙ ap (λ a. after_at c.args.rings.now (exchange a (c.args.heads + c.args.node) p)) c.before-before.ensures)).1

pub returns-clause-lists : goal.returns-clause-lists
returns-clause-lists c =
    (unlinked-is c.args.rings.now c.splice.new.self c.args.heads c.args.node c.requires.linked c.splice.ensures.rings c.splice.ensures.long
    (λ p. c.splice.ensures.after p ∙ ap (λ a. after_at c.args.rings.now (exchange a (c.args.heads + c.args.node) p)) c.before-before.ensures)).0
