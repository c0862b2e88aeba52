use Rattle.std.proofs.Common.{string_bytes, ◌≡◌}
use Rattle.script_text.specs.Report.{is_tagged, end_text}
use Rattle.script_text.proofs.LineLoops.{AddedUpTo}
use Rattle.script_text.proofs.report.writer.add_tokens.Given as goal

abbrev pub invariant-loop-token : goal.invariant-loop-token
invariant-loop-token g l = record {
  added : AddedUpTo (λ t end. end_text t (is_tagged l.tagged t) end) 0 l.ends l.token (g.O.Sink.outlet l.initial.out).wrote (g.O.Sink.outlet l.out).wrote (string_bytes l.initial.held) (string_bytes l.held);
  quiet : (g.O.Sink.outlet l.out).faults ≡ (g.O.Sink.outlet l.initial.out).faults;
}
