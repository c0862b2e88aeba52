use Rattle.std.proofs.Common.{arith}
use Rattle.index_links.proofs.Calls.{grown-is, many-nodes}
use Rattle.index_links.proofs.moves.extend.Goals as goal

pub returns-clause-linked : goal.returns-clause-linked
returns-clause-linked c =
    (grown-is c.args.rings.now c.grow.new.self c.args.heads c.args.nodes c.requires.linked c.grow.ensures.rings c.in_ok-grow.ensures.long
    (omega (arith, many-nodes c.args.rings.now c.args.heads, c.requires.few)) c.grow.ensures.after).1

pub returns-clause-ok : goal.returns-clause-ok
returns-clause-ok c =
    (grown-is c.args.rings.now c.grow.new.self c.args.heads c.args.nodes c.requires.linked c.grow.ensures.rings c.in_ok-grow.ensures.long
    (omega (arith, many-nodes c.args.rings.now c.args.heads, c.requires.few)) c.grow.ensures.after).0
