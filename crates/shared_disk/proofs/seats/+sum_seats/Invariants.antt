use Rattle.std.specs.Prelude.{length}
use Rattle.shared_disk.proofs.seats.+sum_seats.Given as goal

abbrev pub decreases-sum_seats : goal.decreases-sum_seats
decreases-sum_seats g l = length l.seats.now
