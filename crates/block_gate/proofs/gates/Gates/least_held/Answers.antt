use Rattle.std.proofs.Common.{◌∙◌, ap}
use Rattle.index_links.specs.Lists.{list_at}
use Rattle.block_gate.specs.Gates.{least_ticket}
use Rattle.block_gate.specs.Sets.{gates_in}
use Rattle.block_gate.proofs.Found.{held-is}
use Rattle.block_gate.proofs.gates.Gates.least_held.Goals as goal

pub returns : goal.returns
returns c = c.least_of.ensures ∙ ap (λ ss. least_ticket (gates_in ss (list_at c.self.inside.links 1))) c.deref.ensures.value ∙ ap least_ticket (held-is c.self.inside.sets.items c.self.inside.links c.self.inside.size c.args.self.now c.self.view_is)
