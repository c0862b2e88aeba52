use Rattle.std.proofs.Common.{arith}
use Rattle.std.proofs.lemmas.Grind.{common_steps}
use Rattle.image_store.proofs.Fronts.{front_taken}
use Rattle.image_store.proofs.mem_source.MemSourceSource.next.Goals as goal

pub returns-clause-taken : goal.returns-clause-taken
returns-clause-taken c = front_taken c.args.self.now.bytes.items _ c.args.out.now c.args.self.now.taken c.min-count.result (grind (arith, common_steps)) (grind (arith, common_steps)) (omega arith) (λ none some. omega arith)
