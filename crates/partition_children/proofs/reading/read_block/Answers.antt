use Rattle.std.proofs.Common.{◌*◌, ap}
use Rattle.partition_children.proofs.Stages.{found-at}
use Rattle.partition_children.proofs.Endings.{one-ends-at}
use Rattle.partition_children.proofs.reading.read_block.Goals as goal

pub returns-clause-found : goal.returns-clause-found
returns-clause-found g c =
    found-at c.args.disk.now c.read_bytes.new.disk c.args.target.now.view.media_id (c.args.lba * c.args.target.now.size) c.args.target.now.size (c.args.lba * c.from.result) c.read_bytes.result
    (ap (λ n. c.args.lba * n) c.from.ensures) c.read_bytes.ensures.ok

pub returns-clause-ends : goal.returns-clause-ends
returns-clause-ends g c bytes holds =
    one-ends-at c.args.disk.now c.read_bytes.new.disk c.args.target.now.view.media_id (c.args.lba * c.args.target.now.size) (c.args.lba * c.from.result) c.args.target.now.size c.read_bytes.result
    (ap (λ n. c.args.lba * n) c.from.ensures) c.read_bytes.ensures.err
