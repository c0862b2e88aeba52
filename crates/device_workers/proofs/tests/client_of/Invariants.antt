use Rattle.std.proofs.Common.{◌≡◌, length, All}
use Rattle.shared_disk.specs.Desk.{IsDeskOrder}
use Rattle.device_workers.proofs.tests.client_of.Given as goal

abbrev pub invariant-loop-act : goal.invariant-loop-act
invariant-loop-act l = record {
  count : length l.orders.items ≡ l.act-index;
  orders : All IsDeskOrder l.orders.items;
}
