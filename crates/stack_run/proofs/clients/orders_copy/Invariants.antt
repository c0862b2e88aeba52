use Rattle.std.proofs.Common.{◌≡◌, take}
use Rattle.stack_run.proofs.clients.orders_copy.Given as goal

abbrev pub invariant-loop-order : goal.invariant-loop-order
invariant-loop-order l = l.copy.items ≡ take l.order-index l.orders
