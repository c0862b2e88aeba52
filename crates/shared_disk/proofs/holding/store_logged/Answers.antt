use Rattle.std.proofs.Common.{ap, sym, subst, ◌∙◌, length}
use Rattle.disk_core.specs.Facts.{AreFacts}
use Rattle.disk_core.specs.State.{State}
use Rattle.shared_disk.proofs.DeskLemmas.{store-moves}
use Rattle.shared_disk.proofs.HoldLemmas.{grows-log, moves-grow, moves-setup, logs-entry}
use Rattle.shared_disk.proofs.holding.store_logged.Goals as goal

pub log_entry-requires-clause-before : goal.log_entry-requires-clause-before
log_entry-requires-clause-before g c = c.len-before.ensures.value ∙ ap length (c.history.ensures.entries ∙ (ap (λ (s : State). s.entries) c.disk.ensures ∙ sym c.requires.entries))

pub log_entry-requires-clause-grown : goal.log_entry-requires-clause-grown
log_entry-requires-clause-grown g c = grows-log c.args.desk.now c.store-stored.new.self c.args.pen.now.log _ c.requires (c.history-2.ensures.entries ∙ ap (λ (s : State). s.entries) c.disk-2.ensures) (moves-grow _ _ (store-moves _ _ _ _ c.store-stored.ensures.says.says))

pub returns-clause-logs : goal.returns-clause-logs
returns-clause-logs g c =
    let says = c.store-stored.ensures.says in
    logs-entry c.args.desk.now c.store-stored.new.self c.args.pen.now.log _ _ c.requires c.log_entry.ensures.logged (c.history-2.ensures.entries ∙ ap (λ (s : State). s.entries) c.disk-2.ensures) says.script says.places (moves-setup _ _ (store-moves _ _ _ _ c.store-stored.ensures.says.says)) (subst AreFacts c.disk.ensures c.history.ensures.facts) (subst AreFacts c.disk-2.ensures c.history-2.ensures.facts)
