use Rattle.std.proofs.Common.{◌+◌, ap, not, eqb, refl}
use Rattle.index_links.proofs.Calls.{listed-is, node-there}
use Rattle.index_links.proofs.moves.is_in_list.Goals as goal

pub before-before-requires : goal.before-before-requires
before-before-requires c = node-there c.args.rings.now c.args.heads c.args.node _ c.requires.linked refl c.requires.node

pub returns : goal.returns
returns c = listed-is c.args.rings.now c.args.heads c.args.node (not (eqb c.before-before.result (c.args.heads + c.args.node))) c.requires.linked (ap (λ a. not (eqb a (c.args.heads + c.args.node))) c.before-before.ensures)
