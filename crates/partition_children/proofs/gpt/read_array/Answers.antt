use Rattle.std.proofs.Common.{arith}
use Rattle.partition_children.proofs.Headers.{empty-array, some-array}
use Rattle.partition_children.proofs.Endings.{array-ends}
use Rattle.partition_children.proofs.gpt.read_array.Goals as goal

pub returns-then-length-eq0-clause-found : goal.returns-then-length-eq0-clause-found
returns-then-length-eq0-clause-found g c bytes holds =
    empty-array c.args.disk.now c.args.target.now.view.media_id c.args.at c.args.length c.new.result.items bytes (omega arith) c.new.ensures.items

pub returns-clause-found : goal.returns-clause-found
returns-clause-found g c = some-array c.args.disk.now c.read_bytes.new.disk c.args.target.now.view.media_id c.args.at c.args.length c.read_bytes.result (λ same. omega arith) c.read_bytes.ensures.ok

pub returns-clause-ends : goal.returns-clause-ends
returns-clause-ends g c bytes holds = array-ends c.args.disk.now c.read_bytes.new.disk c.args.target.now.view.media_id c.args.at c.args.length c.read_bytes.result (λ same. omega arith) c.read_bytes.ensures.err
