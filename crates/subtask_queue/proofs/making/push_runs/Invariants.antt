use Rattle.std.proofs.Common.{◌≡◌, ◌++◌, map}
use Rattle.disk_split.specs.Units.{runs_from}
use Rattle.subtask_queue.specs.Subs.{sub_of_span}
use Rattle.subtask_queue.proofs.making.push_runs.Given as goal

-- the runs so far stand behind what was there
abbrev pub invariant-loop-i : goal.invariant-loop-i
invariant-loop-i l = l.subs.items ≡ l.initial.subs.items ++ map (sub_of_span l.owner.blocks.size l.owner.token l.owner.write) (runs_from l.owner.blocks.size l.first_whole l.whole l.i 0)
