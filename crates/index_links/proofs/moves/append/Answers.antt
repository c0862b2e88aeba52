use Rattle.std.proofs.Common.{◌+◌, ◌∙◌, arith, ap, refl}
use Rattle.index_links.specs.Rings.{after_at, exchange}
use Rattle.index_links.proofs.Calls.{pushed-is, node-there}
use Rattle.index_links.proofs.moves.append.Goals as goal

pub splice-requires-clause-right : goal.splice-requires-clause-right
splice-requires-clause-right c = node-there c.args.rings.now c.args.heads c.args.node _ c.requires.linked refl c.requires.node

pub returns-clause-linked : goal.returns-clause-linked
returns-clause-linked c =
    (pushed-is c.args.rings.now c.splice.new.self c.args.heads c.args.list c.args.node c.requires.linked c.splice.ensures.rings c.splice.ensures.long c.requires.list c.requires.unlisted
    (λ p. c.splice.ensures.after p ∙ ap (λ a. after_at c.args.rings.now (exchange a (c.args.heads + c.args.node) p)) c.before-last.ensures)).1

pub returns-clause-lists : goal.returns-clause-lists
returns-clause-lists c =
    (pushed-is c.args.rings.now c.splice.new.self c.args.heads c.args.list c.args.node c.requires.linked c.splice.ensures.rings c.splice.ensures.long c.requires.list c.requires.unlisted
    (λ p. c.splice.ensures.after p ∙ ap (λ a. after_at c.args.rings.now (exchange a (c.args.heads + c.args.node) p)) c.before-last.ensures)).0
