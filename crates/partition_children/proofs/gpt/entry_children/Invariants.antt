use Rattle.std.proofs.Common.{◌≡◌}
use Rattle.gpt_headers.specs.Entry.{entry_gives_partition}
use Rattle.partition_tables.specs.GptTable.{child_of_entry}
use Rattle.partition_children.proofs.Places.{children_before}
use Rattle.partition_children.proofs.gpt.entry_children.Given as goal

abbrev pub invariant-loop-place : goal.invariant-loop-place
invariant-loop-place l = l.children.items ≡ children_before (λ (i, e). entry_gives_partition l.header l.blocks l.entries i e) child_of_entry l.entries l.place
