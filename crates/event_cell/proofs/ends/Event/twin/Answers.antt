use Rattle.std.proofs.Common.{rules, refl}
use Rattle.event_cell.proofs.Keeps.{splits}
use Rattle.event_cell.proofs.ends.Event.twin.Goals as goal

pub split_seat-seat-requires : goal.split_seat-seat-requires
split_seat-seat-requires c = (search rules, search rules, splits _ _ _ refl (search rules))
