use Rattle.std.proofs.Common.{sym}
use Rattle.std.proofs.lemmas.List.{append-nil}
use Rattle.disk_split.specs.Units.{runs_from}
use Rattle.disk_split.proofs.Listing.{runs-pushed}
use Rattle.disk_split.proofs.cut.push_runs.Goals as goal

pub loop-i-init : goal.loop-i-init
unfolding runs_from
loop-i-init c = sym (append-nil c.args.units.now.items)

pub loop-i-preserved : goal.loop-i-preserved
loop-i-preserved c =
    runs-pushed c.args.size c.args.first_whole c.args.whole c.loop-i.i c.args.units.now.items c.loop-i.units.items _ _
    c.loop-i.invariant c.run_span.ensures c.in_ok-push.ensures.items
