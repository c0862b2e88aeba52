use Rattle.std.proofs.Common.{rules, refl, ap, ◌∙◌}
use Rattle.atomic_table.specs.Table.{Me}
use Rattle.event_cell.specs.declared.rule.SeatView.{SeatView}
use Rattle.event_cell.proofs.Keeps.{splits, hears, compares}
use Rattle.event_cell.proofs.ends.Signaller.agrees.Goals as goal

pub split_seat-heard-requires : goal.split_seat-heard-requires
split_seat-heard-requires c = (search rules, search rules, splits _ _ _ refl (search rules))

pub join_seat-requires : goal.join_seat-requires
join_seat-requires c = (search rules, search rules, ap (λ (me : Me (Unit {0}) SeatView). me.1) c.split_seat-heard.ensures.4, search rules, hears _ _ _ _)

pub load-requires : goal.load-requires
load-requires c =
    let signals = ap (λ (me : Me (Unit {0}) SeatView). me.0.signals) c.join_seat.ensures.2 ∙ c.self.invariant.2 in (search rules, search rules, compares _ _ _ signals)
