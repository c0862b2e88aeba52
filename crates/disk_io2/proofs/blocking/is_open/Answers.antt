use Rattle.std.proofs.Common.{ap}
use Rattle.std.specs.Prelude.{is_some}
use Rattle.disk_core.specs.Calls.{MarkSays}
use Rattle.disk_io2.proofs.Ended.{known}
use Rattle.disk_io2.proofs.blocking.is_open.Goals as goal

pub unreachable-requires : goal.unreachable-requires
unreachable-requires g c = known c.args.disk.now c.args.number c.requires.uncollected c.requires.there c.in-Unknown.ensures

pub returns-in-Outstanding-clause-yes : goal.returns-in-Outstanding-clause-yes
unfolding MarkSays
returns-in-Outstanding-clause-yes g c is = record { token = c.requires.there; unmarked = c.in-Outstanding.ensures.1 }

pub returns-in-Ended-clause-no : goal.returns-in-Ended-clause-no
unfolding MarkSays
returns-in-Ended-clause-no g c is = ap is_some c.in-Ended.ensures.0
