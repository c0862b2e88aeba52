use Rattle.std.proofs.Common.{◌∙◌}
use Rattle.block_gate.proofs.Found.{range-one}
use Rattle.block_gate.proofs.gates.Gates.is_held.Goals as goal

pub returns : goal.returns
returns c = c.is_any_held.ensures ∙ range-one c.args.self.now.held c.args.block
