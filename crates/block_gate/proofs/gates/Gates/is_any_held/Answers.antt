use Rattle.std.proofs.Common.{◌∙◌, ap}
use Rattle.index_links.specs.Lists.{list_at}
use Rattle.block_gate.proofs.Found.{held-is, range-found}
use Rattle.block_gate.specs.Gates.{is_range_held}
use Rattle.block_gate.proofs.gates.Gates.is_any_held.Goals as goal

pub returns : goal.returns
returns c =
    c.is_some.ensures ∙ range-found c.deref.result.now c.self.inside.sets.items (list_at c.self.inside.links 1) c.args.block c.args.count c.find_set.result c.deref.ensures.value c.find_set.ensures.value
    ∙ ap (λ gs. is_range_held gs c.args.block c.args.count) (held-is c.self.inside.sets.items c.self.inside.links c.self.inside.size c.args.self.now c.self.view_is)
