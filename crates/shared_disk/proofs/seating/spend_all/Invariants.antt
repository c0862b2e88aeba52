use Rattle.std.specs.Prelude.{vec_len}
use Rattle.shared_disk.proofs.seating.spend_all.Given as goal

abbrev pub decreases-loop-seat : goal.decreases-loop-seat
decreases-loop-seat g l = vec_len l.seats
