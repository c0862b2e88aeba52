use Rattle.std.proofs.Common.{string_bytes, ◌≡◌}
use Rattle.script_text.specs.Report.{medium_text}
use Rattle.script_text.proofs.LineLoops.{AddedUpTo}
use Rattle.script_text.proofs.report.writer.add_media.Given as goal

abbrev pub invariant-loop-place : goal.invariant-loop-place
invariant-loop-place g l = record {
  added : AddedUpTo medium_text 1 l.media l.place (g.O.Sink.outlet l.initial.out).wrote (g.O.Sink.outlet l.out).wrote (string_bytes l.initial.held) (string_bytes l.held);
  quiet : (g.O.Sink.outlet l.out).faults ≡ (g.O.Sink.outlet l.initial.out).faults;
}
