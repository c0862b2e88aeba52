use Rattle.std.proofs.Common.{ap, subst, ◌∙◌}
use Rattle.disk_core.specs.Facts.{AreFacts}
use Rattle.disk_core.specs.State.{State}
use Rattle.disk_core.proofs.GoingOn.{end_goes_on}
use Rattle.shared_disk.proofs.HoldLemmas.{grows-log, logs-entry}
use Rattle.shared_disk.proofs.AsideLemmas.{cancel-adds}
use Rattle.shared_disk.proofs.holding.cancel_logged.Goals as goal

pub log_entry-requires-clause-grown : goal.log_entry-requires-clause-grown
log_entry-requires-clause-grown g c =
    let adds = cancel-adds _ _ _ _ _ c.cancel-answer.ensures.says in
    grows-log c.args.desk.now c.cancel-answer.new.self c.args.pen.now.log _ c.requires (c.history-2.ensures.entries ∙ ap (λ (s : State). s.entries) c.disk-2.ensures) (adds.entry, adds.history)

pub returns-clause-logs : goal.returns-clause-logs
returns-clause-logs g c =
    let goes = end_goes_on _ _ _ _ c.cancel-answer.ensures.says in
    logs-entry c.args.desk.now c.cancel-answer.new.self c.args.pen.now.log _ _ c.requires c.log_entry.ensures.logged (c.history-2.ensures.entries ∙ ap (λ (s : State). s.entries) c.disk-2.ensures) c.cancel-answer.ensures.script c.cancel-answer.ensures.places goes.setup (subst AreFacts c.disk.ensures c.history.ensures.facts) (subst AreFacts c.disk-2.ensures c.history-2.ensures.facts)

pub returns-clause-grown : goal.returns-clause-grown
returns-clause-grown g c = (cancel-adds _ _ _ _ _ c.cancel-answer.ensures.says).count
