use Rattle.std.proofs.Common.{◌≡◌, take}
use Rattle.shared_disk.specs.Lines.{roles_of}
use Rattle.stack_run.specs.Clients.{script_roles}
use Rattle.stack_run.proofs.clients.clients_in.Given as goal

abbrev pub invariant-loop-plan : goal.invariant-loop-plan
invariant-loop-plan l = roles_of l.clients.items ≡ script_roles l.size l.children (take l.plan-index l.plans)
