use Rattle.std.proofs.Common.{◌∙◌, false, length, ap, subst}
use Rattle.std.specs.List.{filter}
use Rattle.index_links.specs.Lists.{list_at}
use Rattle.block_gate.specs.Gates.{AreSound}
use Rattle.block_gate.specs.Sets.{gates_in, is_so}
use Rattle.block_gate.proofs.Steps.{sound-of}
use Rattle.block_gate.proofs.Found.{free-is, all-so}
use Rattle.block_gate.proofs.Calls.{free-set}
use Rattle.block_gate.proofs.gates.Gates.free.Goals as goal

pub returns-clause-value : goal.returns-clause-value
returns-clause-value c =
    c.count_sets.ensures.value ∙ ap (λ ss. length (filter (is_so false) (gates_in ss (list_at c.self.inside.links 0)))) c.deref.ensures.value
    ∙ all-so false c.self.inside.sets.items (list_at c.self.inside.links 0) (λ n among. free-set c.self.inside.sets.items c.self.inside.links c.self.inside.size n c.self.invariant among) ∙ free-is c.self.inside.sets.items c.self.inside.links c.self.inside.size c.args.self.now c.self.view_is

pub returns-clause-sound : goal.returns-clause-sound
returns-clause-sound c = subst AreSound c.self.view_is (sound-of c.self.inside.sets.items c.self.inside.links c.self.inside.size c.self.invariant)
