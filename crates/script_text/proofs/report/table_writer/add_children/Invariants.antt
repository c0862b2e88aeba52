use Rattle.std.proofs.Common.{string_bytes, ◌≡◌}
use Rattle.script_text.specs.Tables.{child_text}
use Rattle.script_text.proofs.LineLoops.{AddedUpTo}
use Rattle.script_text.proofs.report.table_writer.add_children.Given as goal

abbrev pub invariant-loop-child : goal.invariant-loop-child
invariant-loop-child g l = record {
  added : AddedUpTo (λ place child. child_text child) 0 l.children l.child-index (g.O.Sink.outlet l.initial.out).wrote (g.O.Sink.outlet l.out).wrote (string_bytes l.initial.held) (string_bytes l.held);
  quiet : (g.O.Sink.outlet l.out).faults ≡ (g.O.Sink.outlet l.initial.out).faults;
}
