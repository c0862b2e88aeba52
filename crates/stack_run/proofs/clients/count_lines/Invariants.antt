use Rattle.std.proofs.Common.{◌≡◌, take, sum_by}
use Rattle.script_text.specs.Planned.{client_lines}
use Rattle.stack_run.proofs.clients.count_lines.Given as goal

abbrev pub invariant-loop-plan : goal.invariant-loop-plan
invariant-loop-plan l = l.count ≡ sum_by client_lines (take l.plan-index l.plans)
