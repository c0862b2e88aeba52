use Rattle.std.proofs.Common.{◌≡◌, ◌++◌, map, take}
use Rattle.stack_run.specs.Media.{wanted_by}
use Rattle.stack_run.proofs.wanted.add_disk.Given as goal

abbrev pub invariant-loop-name : goal.invariant-loop-name
invariant-loop-name l = l.all.items ≡ l.initial.all.items ++ map (wanted_by l.plan) (take l.name-index l.plan.spares)
