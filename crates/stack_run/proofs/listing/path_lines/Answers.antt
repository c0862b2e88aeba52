use Rattle.std.proofs.Common.{◌++◌, ◌∙◌, ap, sym}
use Rattle.stack_run.specs.Listing.{path_text}
use Rattle.stack_run.proofs.Listed.{no-paths, paths-next}
use Rattle.stack_run.proofs.listing.path_lines.Goals as goal

pub loop-child-init : goal.loop-child-init
loop-child-init c = c.new-lines.ensures.items ∙ no-paths

pub loop-child-preserved : goal.loop-child-preserved
loop-child-preserved c =
    c.in_ok-extend_from_slice.ensures.items
    ∙ (ap (λ l. c.loop-child.lines.items ++ l) (c.deref.ensures.value ∙ c.in_ok-path_line.ensures)
    ∙ (ap (λ l. l ++ path_text c.child-item.result) c.loop-child.invariant
    ∙ sym (paths-next c.args.children.now c.loop-child.child-index c.child-item.result c.loop-child-test.true c.child-item.is)))
