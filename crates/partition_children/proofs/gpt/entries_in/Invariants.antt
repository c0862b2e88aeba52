use Rattle.std.proofs.Common.{◌≡◌, ◌+◌, ◌*◌, map}
use Rattle.std.specs.Prelude.{slice_range}
use Rattle.std.specs.List.{range_with_len}
use Rattle.gpt_headers.specs.Entry.{entry_in}
use Rattle.partition_children.proofs.gpt.entries_in.Given as goal

abbrev pub invariant-loop-i : goal.invariant-loop-i
invariant-loop-i l = l.entries.items ≡ map (λ i. entry_in (slice_range l.good.array.items (i * l.good.header.entry_size) (i * l.good.header.entry_size + 128))) (range_with_len 0 l.i)
