use Rattle.std.proofs.Common.{◌≡◌, ◌≤◌, map, take, drop, length, vec_len, vec_capacity}
use Rattle.stack_run.specs.Chains.{TakesImage, Chain, AreFree}
use Rattle.stack_run.proofs.taking.take_images.Given as goal

abbrev pub invariant-loop-place : goal.invariant-loop-place
invariant-loop-place g l = record {
  taken : Chain TakesImage (take l.place l.wanted) (map (λ m. g.I.M.Medium.device m) l.media.items) (g.I.Images.at l.initial.images) (g.I.Images.at l.images);
  free : AreFree (drop l.place l.wanted) (g.I.Images.at l.images);
  room : length l.wanted ≤ vec_capacity l.media;
  count : vec_len l.media ≡ l.place;
}
