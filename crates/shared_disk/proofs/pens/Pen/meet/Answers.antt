use Rattle.std.proofs.Common.{rules, ap, ◌∙◌}
use Rattle.atomic_table.specs.Table.{Me}
use Rattle.shared_disk.specs.declared.log_rule.LogView.{LogView}
use Rattle.shared_disk.proofs.LogKeeps.{meets, looks}
use Rattle.shared_disk.proofs.pens.Pen.meet.Goals as goal

pub join_seat-requires : goal.join_seat-requires
join_seat-requires c = (search rules, search rules, search rules, search rules, meets _ _ _ _)

pub load-requires : goal.load-requires
load-requires c =
    let writes = ap (λ (me : Me (Unit {0}) LogView). me.0.pens) c.join_seat.ensures.2 ∙ c.self.invariant.2 in (search rules, search rules, looks _ _ _ writes)
