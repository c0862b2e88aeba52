use Rattle.std.proofs.Common.{◌≡◌, ◌+◌, drop, length, reverse, take, vec_capacity, vec_len}
use Rattle.std.specs.Vec.Iter.{into_iter_items, into_iter_len}
use Rattle.script_text.specs.Report.{tagged_reads}
use Rattle.stack_run.specs.EndLines.{lines_told}
use Rattle.stack_run.proofs.end_lines.fill_lines.Given as goal

abbrev pub invariant-loop-entry : goal.invariant-loop-entry
invariant-loop-entry l = record {
  items : l.ends.items ≡ lines_told (tagged_reads (take l.entry-index (reverse l.history.entries))) l.fn.slots.items;
  count : vec_len l.ends ≡ length (tagged_reads (take l.entry-index (reverse l.history.entries)));
  rest : into_iter_items l.slots ≡ drop (vec_len l.ends) l.fn.slots.items;
  left : into_iter_len l.slots + vec_len l.ends ≡ vec_len l.fn.slots;
  room : vec_capacity l.ends ≡ vec_capacity l.initial.ends;
}
