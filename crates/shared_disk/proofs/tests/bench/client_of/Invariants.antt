use Rattle.std.proofs.Common.{◌≡◌, All, vec_len}
use Rattle.shared_disk.specs.Desk.{IsDeskOrder}
use Rattle.shared_disk.proofs.tests.bench.client_of.Given as goal

abbrev pub invariant-loop-ask : goal.invariant-loop-ask
invariant-loop-ask l = record { orders : All IsDeskOrder l.orders.items; count : vec_len l.orders ≡ l.ask-index }
