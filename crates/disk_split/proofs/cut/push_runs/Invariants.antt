use Rattle.std.proofs.Common.{◌≡◌, ◌++◌}
use Rattle.disk_split.specs.Units.{runs_from}
use Rattle.disk_split.proofs.cut.push_runs.Given as goal

-- the runs so far stand behind what was there
abbrev pub invariant-loop-i : goal.invariant-loop-i
invariant-loop-i l = l.units.items ≡ l.initial.units.items ++ runs_from l.size l.first_whole l.whole l.i 0
