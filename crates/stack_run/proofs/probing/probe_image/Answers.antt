use Rattle.std.proofs.Common.{inr}
use Rattle.stack_run.proofs.ProbedImage.{probed-so, failed-after, spent-after, left-so, err-is}
use Rattle.stack_run.proofs.probing.probe_image.Goals as goal

pub returns-in-Ok-put-clause-probed : goal.returns-in-Ok-put-clause-probed
returns-in-Ok-put-clause-probed g c =
    let (keeps, is) = rw c.in-Ok-probed.is at c.probe_medium-medium.ensures in
    probed-so (g.I.Images.at c.args.images.now c.args.want.now.image) (g.I.Images.at c.take_image.new.images c.args.want.now.image) (g.I.Images.at c.put_image-put.new.images c.args.want.now.image)
    c.args.want.now (g.I.M.Medium.device c.in-Ok.medium) (g.I.M.Medium.device c.probe_medium-medium.result.0) c.in-Ok.ensures.takes c.in-Ok-probed.table keeps is c.in-Ok-put.ensures.puts

pub returns-in-Err-put-clause-image : goal.returns-in-Err-put-clause-image
returns-in-Err-put-clause-image g c same =
    let (keeps, is) = rw c.in-Ok-probed.is at c.probe_medium-medium.ensures in
    inr (failed-after (g.I.Images.at c.args.images.now c.args.want.now.image) (g.I.Images.at c.take_image.new.images c.args.want.now.image) (g.I.Images.at c.put_image-put.new.images c.args.want.now.image)
    c.args.want.now (g.I.M.Medium.device c.in-Ok.medium) (g.I.M.Medium.device c.probe_medium-medium.result.0) c.in-Ok.ensures.takes c.in-Ok-probed.table keeps is c.in-Err-put.fault (err-is _ _ same) c.in-Err-put.ensures.puts)

pub returns-in-Err-put-clause-memory : goal.returns-in-Err-put-clause-memory
returns-in-Err-put-clause-memory g c same =
    let (keeps, is) = rw c.in-Ok-probed.is at c.probe_medium-medium.ensures in
    inr (spent-after (g.I.Images.at c.args.images.now c.args.want.now.image) (g.I.Images.at c.take_image.new.images c.args.want.now.image) (g.I.Images.at c.put_image-put.new.images c.args.want.now.image)
    c.args.want.now (g.I.M.Medium.device c.in-Ok.medium) (g.I.M.Medium.device c.probe_medium-medium.result.0) c.in-Ok.ensures.takes c.in-Ok-probed.table keeps is c.in-Err-put.fault (err-is _ _ same) c.in-Err-put.ensures.puts)

pub returns-in-Err-probed-clause-memory : goal.returns-in-Err-probed-clause-memory
returns-in-Err-probed-clause-memory g c same =
    left-so (g.I.Images.at c.args.images.now c.args.want.now.image) (g.I.Images.at c.take_image.new.images c.args.want.now.image) (g.I.Images.at c.put_image-put.new.images c.args.want.now.image)
    c.args.want.now (g.I.M.Medium.device c.in-Ok.medium) (g.I.M.Medium.device c.probe_medium-medium.result.0) c.in-Ok.ensures.takes c.put_image-put.result (rw c.in-Err-probed.is at c.probe_medium-medium.ensures) c.put_image-put.ensures.puts
