use Rattle.block_gate.proofs.Steps.{sound-of}
use Rattle.block_gate.proofs.Calls.{starts}
use Rattle.block_gate.proofs.gates.Gates.make.Goals as goal

pub invariant_of-result : goal.invariant_of-result
invariant_of-result c = (starts c.in_ok-make_sets.field-0.items c.in_ok-free_links.field-0 c.args.sets c.args.size c.in_ok-make_sets.ensures c.requires.some c.requires.few c.in_ok-free_links.ensures.nodes c.in_ok-free_links.ensures.lists c.in_ok-free_links.ensures.free c.in_ok-free_links.ensures.held c.in_ok-free_links.ensures.gone c.in_ok-free_links.ensures.apart).ordered

pub returns-clause-value : goal.returns-clause-value
returns-clause-value c = (starts c.in_ok-make_sets.field-0.items c.in_ok-free_links.field-0 c.args.sets c.args.size c.in_ok-make_sets.ensures c.requires.some c.requires.few c.in_ok-free_links.ensures.nodes c.in_ok-free_links.ensures.lists c.in_ok-free_links.ensures.free c.in_ok-free_links.ensures.held c.in_ok-free_links.ensures.gone c.in_ok-free_links.ensures.apart).shows

pub returns-clause-sound : goal.returns-clause-sound
returns-clause-sound c = sound-of c.in_ok-make_sets.field-0.items c.in_ok-free_links.field-0 c.args.size (starts c.in_ok-make_sets.field-0.items c.in_ok-free_links.field-0 c.args.sets c.args.size c.in_ok-make_sets.ensures c.requires.some c.requires.few c.in_ok-free_links.ensures.nodes c.in_ok-free_links.ensures.lists c.in_ok-free_links.ensures.free c.in_ok-free_links.ensures.held c.in_ok-free_links.ensures.gone c.in_ok-free_links.ensures.apart).ordered
