use Rattle.std.proofs.Common.{◌≡◌, ◌≤◌, ◌*◌, All, sum_by, length, vec_len}
use Rattle.shared_disk.specs.Desk.{IsDeskOrder}
use Rattle.shared_disk.proofs.tests.bench.clients_of.Given as goal

abbrev pub invariant-loop-asks : goal.invariant-loop-asks
invariant-loop-asks l = record {
  orders : All (λ client. All IsDeskOrder client.orders.items) l.clients.items;
  count : vec_len l.clients ≡ l.asks-index;
  lines : sum_by (λ client. length client.orders.items) l.clients.items ≤ 16 * l.asks-index;
}
