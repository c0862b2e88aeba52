use Rattle.std.proofs.Common.{rules, refl}
use Rattle.event_cell.proofs.Keeps.{splits}
use Rattle.event_cell.proofs.ends.make_event.Goals as goal

pub split_seat-requires : goal.split_seat-requires
split_seat-requires c = (search rules, search rules, splits _ _ _ refl (search rules))
