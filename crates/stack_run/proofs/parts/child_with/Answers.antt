use Rattle.std.proofs.Common.{sym, ◌∙◌, ap}
use Rattle.std.proofs.Math.ListN.{drop_of_length-le}
use Rattle.stack_run.specs.Parts.{child_with}
use Rattle.stack_run.proofs.PartLemmas.{child-next, child-here, countable}
use Rattle.stack_run.proofs.parts.child_with.Goals as goal

pub returns-then-is_child-clause-value : goal.returns-then-is_child-clause-value
returns-then-is_child-clause-value c =
    sym (c.loop-child.invariant ∙ child-here c.args.size c.args.number c.args.children.now c.loop-child.child-index c.child-item.result c.loop-child-test.true c.child-item.is (sym c.is_child.ensures ∙ c.if-is_child.true))

pub returns-then-is_child-clause-first : goal.returns-then-is_child-clause-first
returns-then-is_child-clause-first c = (countable c.args.size c.args.number c.child-item.result (sym c.is_child.ensures ∙ c.if-is_child.true)).0

pub returns-then-is_child-clause-blocks : goal.returns-then-is_child-clause-blocks
returns-then-is_child-clause-blocks c = (countable c.args.size c.args.number c.child-item.result (sym c.is_child.ensures ∙ c.if-is_child.true)).1

pub loop-child-preserved : goal.loop-child-preserved
loop-child-preserved c =
    c.loop-child.invariant ∙ child-next c.args.size c.args.number c.args.children.now c.loop-child.child-index c.child-item.result c.loop-child-test.true c.child-item.is (sym c.is_child.ensures ∙ c.if-is_child.false)

pub returns-clause-value : goal.returns-clause-value
unfolding child_with
returns-clause-value c = sym (c.loop-child.invariant ∙ ap (child_with c.args.size c.args.number) (drop_of_length-le c.args.children.now c.loop-child-test.false))
