use Rattle.std.proofs.Common.{arith}
use Rattle.disk_split.proofs.Rounding.{group-some}
use Rattle.disk_core.proofs.Grouped.{groups-inside, touched-ready}
use Rattle.disk_core.proofs.accepting.prepare_groups.Goals as goal

pub prepare_in-requires-clause-there : goal.prepare_in-requires-clause-there
prepare_in-requires-clause-there g c = λ m there. rw (c.from.ensures, c.from-per.ensures)
    (groups-inside c.args.blocks.size c.args.blocks.per (g.M.Medium.device m).blocks c.args.from c.args.length (let h = c.requires.sized.size_some in omega arith) (let h = c.requires.sized.per_some in omega arith) c.requires.some (c.requires.inside m there) (c.requires.whole m there))

pub returns-clause-ready : goal.returns-clause-ready
returns-clause-ready g c = touched-ready g.M.Medium.prepared c.prepare_in.new.drive c.args.blocks c.args.from c.args.length _ _ _ c.from.ensures c.from-per.ensures (group-some c.args.blocks c.requires.sized) c.requires.some c.prepare_in.ensures.ready
