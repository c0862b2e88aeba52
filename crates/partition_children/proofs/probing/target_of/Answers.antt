use Rattle.std.proofs.Common.{◌∙◌}
use Rattle.disk_io2.proofs.ReadOff.{some-blocks}
use Rattle.partition_children.proofs.Targets.{none-in, target-is}
use Rattle.partition_children.proofs.probing.target_of.Goals as goal

pub returns-in_err-view-clause-none : goal.returns-in_err-view-clause-none
returns-in_err-view-clause-none g c = rw c.from_residual.ensures (none-in c.args.disk.now.setup c.args.disk.now.entries c.in_err-view.ensures)

pub unreachable-requires : goal.unreachable-requires
unreachable-requires g c =
    some-blocks g.M.Medium.device g.met.M.Medium.shaped c.drive-drive.result.now c.drive-drive.ensures.fit c.args.disk.now.setup c.drive-drive.ensures.read_off c.media_id.result c.media_id.ensures.first c.media_id.ensures.there
    c.in_default.ensures

pub returns-clause-some : goal.returns-clause-some
returns-clause-some g c =
    target-is g.M.Medium.device g.met.M.Medium.shaped c.drive-drive.result.now c.drive-drive.ensures.fit c.args.disk.now c.drive-drive.ensures.read_off c.in_ok-view.view c.media_id.result c.size.result c.in-Some.blocks
    c.in_ok-view.ensures (c.media_id.ensures.value ∙ c.drive-drive.ensures.media_id) c.size.ensures.value c.size.ensures.range c.in-Some.ensures c.drive-drive.ensures.setup c.drive-drive.ensures.facts.legal
