use Rattle.std.proofs.Math.Logic.{∥∥₁_elim}
use Rattle.medium.proofs.volatile.Volatile.settle.Goals as goal

pub write_back-requires-clause-ready : goal.write_back-requires-clause-ready
write_back-requires-clause-ready g c = λ b some. ∥∥₁_elim (c.args.self.ready b some) (g.met.M.Medium.prepared_once c.args.self.inner b) (λ ready. ready)
