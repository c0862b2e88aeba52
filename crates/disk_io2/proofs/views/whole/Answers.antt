use Rattle.std.proofs.Common.{◌*◌, ◌∙◌, ap, arith}
use Rattle.disk_io2.proofs.ReadOff.{size-is, blocks-are, some-blocks, whole-is, none-whole}
use Rattle.disk_io2.proofs.views.whole.Goals as goal

pub returns-then-not-present : goal.returns-then-not-present
returns-then-not-present g c = none-whole c.args.disk.now.setup c.args.disk.now.entries (c.if-not-present.ensures ∙ c.drive-drive.ensures.present)

pub unreachable-requires : goal.unreachable-requires
unreachable-requires g c =
    some-blocks g.M.Medium.device g.met.M.Medium.shaped c.drive-drive.result.now c.drive-drive.ensures.fit c.args.disk.now.setup c.drive-drive.ensures.read_off c.media_id-media_id.result
    c.media_id-media_id.ensures.first c.media_id-media_id.ensures.there c.in_default.ensures

pub overflow_mul-result : goal.overflow_mul-result
overflow_mul-result g c =
    let are = blocks-are g.M.Medium.device g.met.M.Medium.shaped c.drive-drive.result.now c.drive-drive.ensures.fit c.args.disk.now.setup c.drive-drive.ensures.read_off c.media_id-media_id.result c.in-Some.blocks c.in-Some.ensures in
    let size = size-is g.M.Medium.device g.met.M.Medium.shaped c.drive-drive.result.now c.drive-drive.ensures.fit c.args.disk.now.setup c.drive-drive.ensures.read_off in
    omega (arith, are.1, ap (λ n. c.in-Some.blocks * n) (c.from.ensures ∙ (c.size.ensures.value ∙ size)))

pub returns : goal.returns
returns g c =
    let are = blocks-are g.M.Medium.device g.met.M.Medium.shaped c.drive-drive.result.now c.drive-drive.ensures.fit c.args.disk.now.setup c.drive-drive.ensures.read_off c.media_id-media_id.result c.in-Some.blocks c.in-Some.ensures in
    let size = size-is g.M.Medium.device g.met.M.Medium.shaped c.drive-drive.result.now c.drive-drive.ensures.fit c.args.disk.now.setup c.drive-drive.ensures.read_off in
    whole-is c.args.disk.now.setup c.args.disk.now.entries c.in-Some.blocks c.from.result c.media_id-media_id.result (c.if-not-present.ensures ∙ c.drive-drive.ensures.present)
    (c.media_id-media_id.ensures.value ∙ c.drive-drive.ensures.media_id) are.0 (c.from.ensures ∙ (c.size.ensures.value ∙ size))
