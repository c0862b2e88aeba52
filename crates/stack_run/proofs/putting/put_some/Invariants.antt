use Rattle.std.proofs.Common.{◌≡◌, map, take, drop}
use Rattle.stack_run.specs.Chains.{PutsBack, Chain, AreTaken}
use Rattle.stack_run.proofs.putting.put_some.Given as goal

abbrev pub invariant-loop-place : goal.invariant-loop-place
invariant-loop-place g l = record {
  left : l.media.items ≡ drop l.place l.initial.media.items;
  put : Chain PutsBack (take l.place l.wanted) (take l.place (map (λ m. g.I.M.Medium.device m) l.initial.media.items)) (g.I.Images.at l.initial.images) (g.I.Images.at l.images);
  taken : AreTaken (drop l.place l.wanted) (g.I.Images.at l.images);
}
