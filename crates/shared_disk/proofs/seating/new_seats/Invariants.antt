use Rattle.std.proofs.Common.{◌≡◌, ◌+◌, ◌≤◌, vec_capacity}
use Rattle.shared_disk.specs.Seats.{AreNewSeats}
use Rattle.shared_disk.proofs.seating.new_seats.Given as goal

abbrev pub invariant-loop-client : goal.invariant-loop-client
invariant-loop-client g l = (l.pen ≡ l.fn.pen) × AreNewSeats l.client l.fn.pen.log l.seats.items × (l.rest.parts + l.client ≡ l.fn.count + 1) × (l.rest.amount ≡ 0) × (vec_capacity l.seats ≡ vec_capacity l.fn.room) × (l.client ≤ l.fn.count)
