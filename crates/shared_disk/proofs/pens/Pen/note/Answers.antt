use Rattle.std.proofs.Common.{rules}
use Rattle.shared_disk.proofs.LogKeeps.{notes}
use Rattle.shared_disk.proofs.pens.Pen.note.Goals as goal

pub split_seat-requires : goal.split_seat-requires
split_seat-requires c = (search rules, search rules, notes _ _ c.self.invariant.2)
