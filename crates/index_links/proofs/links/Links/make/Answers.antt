use Rattle.std.proofs.Common.{[], ◌+◌, ◌∙◌, length, arith, ap}
use Rattle.index_links.specs.Rings.{after_at}
use Rattle.index_links.proofs.Places.{after-past}
use Rattle.index_links.proofs.Calls.{apart_of, made-is}
use Rattle.index_links.proofs.links.Links.make.Goals as goal

pub invariant_of-result : goal.invariant_of-result
invariant_of-result c =
    (made-is c.grow.new.self c.args.lists c.args.nodes c.grow.ensures.rings (c.in_ok-grow.ensures.long ∙ ap (λ ls. length ls + (c.args.lists + c.args.nodes)) c.new-rings.ensures.value ∙ omega arith)
    (omega arith) (omega arith) (λ p. c.grow.ensures.after p ∙ ap (λ ls. after_at ls p) c.new-rings.ensures.value ∙ after-past [] p (omega arith))).1

pub returns-clause-value : goal.returns-clause-value
returns-clause-value c =
    (made-is c.grow.new.self c.args.lists c.args.nodes c.grow.ensures.rings (c.in_ok-grow.ensures.long ∙ ap (λ ls. length ls + (c.args.lists + c.args.nodes)) c.new-rings.ensures.value ∙ omega arith)
    (omega arith) (omega arith) (λ p. c.grow.ensures.after p ∙ ap (λ ls. after_at ls p) c.new-rings.ensures.value ∙ after-past [] p (omega arith))).0

pub returns-clause-apart : goal.returns-clause-apart
returns-clause-apart c =
    apart_of c.grow.new.self c.args.lists (made-is c.grow.new.self c.args.lists c.args.nodes c.grow.ensures.rings (c.in_ok-grow.ensures.long ∙ ap (λ ls. length ls + (c.args.lists + c.args.nodes)) c.new-rings.ensures.value ∙ omega arith)
    (omega arith) (omega arith) (λ p. c.grow.ensures.after p ∙ ap (λ ls. after_at ls p) c.new-rings.ensures.value ∙ after-past [] p (omega arith))).1
