use Rattle.std.proofs.Common.{◌≡◌, ◌≤◌, ◌-◌, take, drop, vec_len, vec_capacity}
use Rattle.stack_run.proofs.disk_runs.cut_front.Given as goal

abbrev pub invariant-loop-media : goal.invariant-loop-media
invariant-loop-media g l = record {
  front : l.front.items ≡ take (vec_len l.front) l.initial.media.items;
  rest : l.media.items ≡ drop (vec_len l.front) l.initial.media.items;
  within : vec_len l.front ≤ l.count;
  room : l.count ≤ vec_capacity l.front;
  same : vec_capacity l.media ≡ vec_capacity l.initial.media;
}

abbrev pub decreases-loop-media : goal.decreases-loop-media
decreases-loop-media g l = l.count - vec_len l.front
