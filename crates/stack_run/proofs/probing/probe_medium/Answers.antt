use Rattle.std.proofs.Common.{◌≡◌, ◌∙◌, [], ◌∷◌, ◌++◌, ap, refl}
use Rattle.stack_run.proofs.ProbedMedium.{all-of-one}
use Rattle.stack_run.proofs.probing.probe_medium.Goals as goal

pub make-requires-clause-size : goal.make-requires-clause-size
make-requires-clause-size g c = (
  (g.M.Medium.device c.args.medium).size,
  all-of-one (λ m. (g.M.Medium.device m).size ≡ (g.M.Medium.device c.args.medium).size) _ c.args.medium (c.push_reserved.ensures.items ∙ ap (λ l. l ++ c.args.medium ∷ []) c.in-Ok.ensures.items) refl,
)
