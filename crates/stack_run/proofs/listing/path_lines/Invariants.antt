use Rattle.std.proofs.Common.{◌≡◌, take}
use Rattle.stack_run.specs.Listing.{paths_text}
use Rattle.stack_run.proofs.listing.path_lines.Given as goal

abbrev pub invariant-loop-child : goal.invariant-loop-child
invariant-loop-child l = l.lines.items ≡ paths_text (take l.child-index l.children)
