use Rattle.std.proofs.Common.{◌≡◌, true, map, take, drop}
use Rattle.stack_run.specs.Chains.{PutsOr, SpentAmong, Chain, AreTaken}
use Rattle.stack_run.proofs.putting.put_rest.Given as goal

abbrev pub invariant-loop-want : goal.invariant-loop-want
invariant-loop-want g l = record {
  left : l.media.items ≡ drop l.want-index l.initial.media.items;
  put : Chain (PutsOr l.spent) (take l.want-index l.wanted) (take l.want-index (map (λ m. g.I.M.Medium.device m) l.initial.media.items)) (g.I.Images.at l.initial.images) (g.I.Images.at l.images);
  spent : l.spent ≡ true → SpentAmong (take l.want-index l.wanted) (g.I.Images.at l.initial.images) (g.I.Images.at l.images);
  taken : AreTaken (drop l.want-index l.wanted) (g.I.Images.at l.images);
}
