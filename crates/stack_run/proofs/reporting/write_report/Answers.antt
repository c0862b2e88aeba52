use Rattle.std.proofs.Common.{arith, get_or}
use Rattle.stack_run.proofs.Reported.{nothing-written, put-behind, head-front, body-front, report-parts, first-blocks, per-is}
use Rattle.stack_run.proofs.reporting.write_report.Goals as goal

pub returns-in-Err-clause-text : goal.returns-in-Err-clause-text
returns-in-Err-clause-text g c = λ S geometry blocks ends. nothing-written (g.O.Sink.outlet c.args.out.now).wrote _

pub returns-in-Err-report_head-clause-text : goal.returns-in-Err-report_head-clause-text
returns-in-Err-report_head-clause-text g c =
    let head = rw c.as_slice-blocks.ensures.value at c.in-Err-report_head.ensures.text in
    λ S geometry blocks ends.
    rw (report-parts c.args.number c.args.plan.now S _ c.args.run.now.blocks.items (get_or c.args.run.now.blocks.items 0 0) _ _ geometry blocks (first-blocks S c.args.run.now.blocks.items 0 blocks (omega (arith, c.requires.run.count))))
    (head-front _ _ _ _ head)

pub returns-in-Err-write_table-clause-text : goal.returns-in-Err-write_table-clause-text
returns-in-Err-write_table-clause-text g c =
    let head = rw c.as_slice-blocks.ensures.value at c.in-Ok-report_head.ensures.text in
    λ S geometry blocks ends.
    rw (report-parts c.args.number c.args.plan.now S _ c.args.run.now.blocks.items (get_or c.args.run.now.blocks.items 0 0) _ _ geometry blocks (first-blocks S c.args.run.now.blocks.items 0 blocks (omega (arith, c.requires.run.count))))
    (body-front (g.O.Sink.outlet c.args.out.now).wrote (g.O.Sink.outlet c.report_head.new.out).wrote (g.O.Sink.outlet c.write_table.new.out).wrote _ _ head (head-front _ _ _ _ c.in-Err-write_table.ensures.text))

pub returns-clause-text : goal.returns-clause-text
returns-clause-text g c =
    let head = rw c.as_slice-blocks.ensures.value at c.in-Ok-report_head.ensures.text in
    let body = rw (c.deref.ensures.value, c.deref-2.ensures.value, c.in-Ok.ensures, c.as_slice-blocks.ensures.value) at c.report_body.ensures.text in
    λ S geometry blocks ends.
    rw (report-parts c.args.number c.args.plan.now S _ c.args.run.now.blocks.items (get_or c.args.run.now.blocks.items 0 0) _ _ geometry blocks (first-blocks S c.args.run.now.blocks.items 0 blocks (omega (arith, c.requires.run.count))))
    (put-behind (g.O.Sink.outlet c.args.out.now).wrote (g.O.Sink.outlet c.report_head.new.out).wrote (g.O.Sink.outlet c.report_body.new.out).wrote _ _ c.report_body.result head
    (put-behind (g.O.Sink.outlet c.report_head.new.out).wrote (g.O.Sink.outlet c.write_table.new.out).wrote (g.O.Sink.outlet c.report_body.new.out).wrote _ _ c.report_body.result c.in-Ok-write_table.ensures.text (body S (per-is c.args.plan.now S geometry) ends)))
