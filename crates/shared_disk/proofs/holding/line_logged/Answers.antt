use Rattle.std.proofs.Common.{ap, subst, ◌∙◌}
use Rattle.disk_core.specs.Facts.{AreFacts}
use Rattle.disk_core.specs.State.{State}
use Rattle.shared_disk.specs.Pens.{PenEnd}
use Rattle.shared_disk.proofs.HoldLemmas.{grows-log}
use Rattle.shared_disk.proofs.LineLogLemmas.{line-grows, logs-line}
use Rattle.shared_disk.proofs.holding.line_logged.Goals as goal

pub log_entry-requires-clause-grown : goal.log_entry-requires-clause-grown
log_entry-requires-clause-grown g c = grows-log c.args.desk.now c.line-line.new.self c.args.pen.now.log _ c.requires.is_log (c.history-2.ensures.entries ∙ ap (λ (s : State). s.entries) c.disk-2.ensures) (line-grows _ _ _ _ c.line-line.ensures.says)

pub returns-clause-logs : goal.returns-clause-logs
returns-clause-logs g c =
    logs-line c.args.desk.now c.line-line.new.self c.args.client c.line-line.result c.args.pen.now.log c.log_entry.new.pen.log _ _ c.requires.some c.line-line.ensures.says c.place_bounds.ensures.paired c.requires.is_log c.log_entry.ensures.logged
    (c.history-2.ensures.entries ∙ ap (λ (s : State). s.entries) c.disk-2.ensures) (ap (λ (p : PenEnd). p.log) c.log_line.ensures) (subst AreFacts c.disk.ensures c.history.ensures.facts) (subst AreFacts c.disk-2.ensures c.history-2.ensures.facts)
