use Rattle.std.proofs.Common.{refl, arith, ◌∙◌}
use Rattle.image_store.specs.Edge.{Appends, AppendsFront}
use Rattle.stack_run.proofs.ReportLoops.{writes-none, writes-next, writes-stop, writes-all, reportable-next, reportable-count, told-of}
use Rattle.stack_run.proofs.reporting.write_reports.Goals as goal

pub loop-place-init : goal.loop-place-init
loop-place-init g c = record { so_far = writes-none c.args.plans.now c.args.runs.now (g.O.Sink.outlet c.args.out.now).wrote; quiet = refl }

pub bounds-runs-place : goal.bounds-runs-place
bounds-runs-place g c = omega (arith, c.loop-place-test.true, reportable-count c.args.plans.now c.args.runs.now c.requires.runs)

pub write_report-requires : goal.write_report-requires
write_report-requires g c = record { run = reportable-next c.args.plans.now c.args.runs.now c.loop-place.place _ _ c.requires.runs c.loop-place-test.true c.index-plans-place.is c.index-runs-place.is }

pub returns-in-Err-clause-text : goal.returns-in-Err-clause-text
returns-in-Err-clause-text g c =
    writes-stop c.args.plans.now c.args.runs.now c.loop-place.place _ c.index-plans-place.result c.index-runs-place.result (g.O.Sink.outlet c.args.out.now).wrote (g.O.Sink.outlet c.loop-place.out).wrote c.loop-place-test.true (reportable-count c.args.plans.now c.args.runs.now c.requires.runs)
    c.index-plans-place.is c.index-runs-place.is refl c.loop-place.invariant.so_far (g.O.Sink.outlet c.write_report.new.out).wrote
    (λ at at' ran. told-of _ c.index-plans-place.result at at' c.index-runs-place.result (AppendsFront (g.O.Sink.outlet c.loop-place.out).wrote (g.O.Sink.outlet c.write_report.new.out).wrote) ran c.in-Err.ensures.text)

pub loop-place-preserved : goal.loop-place-preserved
loop-place-preserved g c = record {
  so_far = writes-next c.args.plans.now c.args.runs.now c.loop-place.place _ c.index-plans-place.result c.index-runs-place.result (g.O.Sink.outlet c.args.out.now).wrote (g.O.Sink.outlet c.loop-place.out).wrote c.loop-place-test.true (reportable-count c.args.plans.now c.args.runs.now c.requires.runs)
      c.index-plans-place.is c.index-runs-place.is refl c.loop-place.invariant.so_far (g.O.Sink.outlet c.write_report.new.out).wrote
      (λ at at' ran. told-of _ c.index-plans-place.result at at' c.index-runs-place.result (Appends (g.O.Sink.outlet c.loop-place.out).wrote (g.O.Sink.outlet c.write_report.new.out).wrote) ran c.in-Ok.ensures.text);
  quiet = c.in-Ok.ensures.cause.quiet ∙ c.loop-place.invariant.quiet;
}

pub returns-clause-text : goal.returns-clause-text
returns-clause-text g c = writes-all c.args.plans.now c.args.runs.now c.loop-place.place _ _ c.loop-place-test.false c.loop-place.invariant.so_far
