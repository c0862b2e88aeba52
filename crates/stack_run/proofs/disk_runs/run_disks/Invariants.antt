use Rattle.std.proofs.Common.{◌≡◌, ◌≤◌, ◌+◌, map, take, drop, length, vec_len, vec_capacity}
use Rattle.stack_run.specs.Media.{wanted_of}
use Rattle.stack_run.specs.Chains.{AreMade}
use Rattle.stack_run.proofs.DiskLoops.{DisksGoOn}
use Rattle.stack_run.proofs.disk_runs.run_disks.Given as goal

abbrev pub invariant-loop-plan : goal.invariant-loop-plan
invariant-loop-plan g l = record {
  goes : DisksGoOn l.plans (take l.plan-index l.plans) (drop l.plan-index l.plans) (map (λ m. g.M.Medium.device m) l.fn.media.items) (map (λ m. g.M.Medium.device m) l.media.items) (map (λ m. g.M.Medium.device m) l.done.items) l.runs.items;
  made : AreMade (wanted_of (drop l.plan-index l.plans)) (map (λ m. g.M.Medium.device m) l.media.items);
  room : vec_len l.done + vec_len l.media ≤ vec_capacity l.done;
  kept : vec_len l.done + vec_len l.media ≡ vec_len l.fn.media;
  few : vec_len l.runs ≡ l.plan-index;
  runs : length l.plans ≤ vec_capacity l.runs;
}
