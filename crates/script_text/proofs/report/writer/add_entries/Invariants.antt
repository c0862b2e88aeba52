use Rattle.std.proofs.Common.{string_bytes, ◌≡◌}
use Rattle.script_text.specs.Entries.{line_text}
use Rattle.script_text.proofs.LineLoops.{AddedUpTo}
use Rattle.script_text.proofs.report.writer.add_entries.Given as goal

abbrev pub invariant-loop-place : goal.invariant-loop-place
invariant-loop-place g l = record {
  added : AddedUpTo (line_text l.per) 0 l.entries l.place (g.O.Sink.outlet l.initial.out).wrote (g.O.Sink.outlet l.out).wrote (string_bytes l.initial.held) (string_bytes l.held);
  quiet : (g.O.Sink.outlet l.out).faults ≡ (g.O.Sink.outlet l.initial.out).faults;
}
