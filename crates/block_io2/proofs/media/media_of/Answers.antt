use Rattle.std.proofs.Common.{◌-◌, ◌/◌, ◌∙◌, ap}
use Rattle.block_io2.proofs.Told.{size-is, per-is, cached-is, in-so, in-not, media-is, per-logical, per-physical}
use Rattle.block_io2.proofs.media.media_of.Goals as goal
use Rattle.block_io2.proofs.media.media_of.Goals.{then-present, else-present}

pub returns-then-logical : goal.returns-then-logical
returns-then-logical g c =
    let read_off = c.drive-drive.ensures.read_off in
    media-is c.args.disk.now.setup c.args.disk.now.entries c.args.view.now c.if-present.result c.read_only.result c.cached.result c.size-block_size.result c.saturating_sub.result 0
    (elim c.if-present.branch [
      | then-present w ↦
          in-so c.args.disk.now.entries c.args.view.now c.if-present.result w.media_id.result (w.if-present.ensures ∙ c.drive-drive.ensures.present)
          (w.media_id.ensures.value ∙ c.drive-drive.ensures.media_id) w.result-is
      | else-present w ↦ in-not c.args.disk.now.entries c.args.view.now c.if-present.result (w.if-present.ensures ∙ c.drive-drive.ensures.present) (w.result-is ∙ w.if-present.false)
    ])
    (c.read_only.ensures ∙ c.drive-drive.ensures.protected)
    (c.cached.ensures ∙ cached-is g.M.Medium.device c.drive-drive.result.now c.args.disk.now.setup read_off)
    (c.size-block_size.ensures.value ∙ size-is g.M.Medium.device c.drive-drive.result.now c.args.disk.now.setup read_off)
    (c.saturating_sub.ensures ∙ ap (λ n. c.args.view.now.length / n - 1) c.from.ensures)
    (per-logical c.args.disk.now.setup c.args.view.now c.if-logical.true)

pub returns-else-logical : goal.returns-else-logical
returns-else-logical g c =
    let read_off = c.drive-drive.ensures.read_off in
    media-is c.args.disk.now.setup c.args.disk.now.entries c.args.view.now c.if-present.result c.read_only.result c.cached.result c.size-block_size.result c.saturating_sub.result c.per.result
    (elim c.if-present.branch [
      | then-present w ↦
          in-so c.args.disk.now.entries c.args.view.now c.if-present.result w.media_id.result (w.if-present.ensures ∙ c.drive-drive.ensures.present)
          (w.media_id.ensures.value ∙ c.drive-drive.ensures.media_id) w.result-is
      | else-present w ↦ in-not c.args.disk.now.entries c.args.view.now c.if-present.result (w.if-present.ensures ∙ c.drive-drive.ensures.present) (w.result-is ∙ w.if-present.false)
    ])
    (c.read_only.ensures ∙ c.drive-drive.ensures.protected)
    (c.cached.ensures ∙ cached-is g.M.Medium.device c.drive-drive.result.now c.args.disk.now.setup read_off)
    (c.size-block_size.ensures.value ∙ size-is g.M.Medium.device c.drive-drive.result.now c.args.disk.now.setup read_off)
    (c.saturating_sub.ensures ∙ ap (λ n. c.args.view.now.length / n - 1) c.from.ensures)
    (per-physical c.args.disk.now.setup c.args.view.now c.per.result (c.per.ensures.value ∙ per-is g.M.Medium.device c.drive-drive.result.now c.args.disk.now.setup read_off) c.if-logical.false)
