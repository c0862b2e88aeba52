use Rattle.std.proofs.Common.{◌*◌, ap, refl}
use Rattle.partition_children.proofs.Stages.{found-record}
use Rattle.std.proofs.Common.{ℕ, Err, [], ◌∷◌}
use Rattle.partition_children.specs.Probing.{EndsReads}
use Rattle.partition_children.specs.Reads.{record_read}
use Rattle.partition_children.proofs.Endings.{handed-on, one-ends-at}
use Rattle.partition_children.proofs.reading.read_record.Goals as goal

pub returns-clause-found : goal.returns-clause-found
returns-clause-found g c =
    found-record c.args.disk.now c.read_bytes.new.disk c.args.target.now.view.media_id c.args.target.now.size c.args.lba (c.args.lba * c.from.result) _ c.in_ok-bytes.bytes.items c.deref.result.now c.copy_part.new.out
    (ap (λ n. c.args.lba * n) c.from.ensures) refl c.in_ok-bytes.ensures.ok c.deref.ensures.value c.copy_part.ensures

pub returns-in_err-bytes-clause-ends : goal.returns-in_err-bytes-clause-ends
returns-in_err-bytes-clause-ends g c bytes holds =
    let old = c.args.disk.now in
    let mid = c.read_bytes.new.disk in
    let k = c.args.target.now.view.media_id in
    let size = c.args.target.now.size in
    let fault = c.in_err-bytes.field-0.0 in
    handed-on (λ f. EndsReads old k (record_read size c.args.lba ∷ []) f mid) c.from_residual.result fault
    (one-ends-at {X = ℕ} old mid k (c.args.lba * size) (c.args.lba * c.from.result) 512 (Err fault) (ap (λ n. c.args.lba * n) c.from.ensures) c.in_err-bytes.ensures.err) c.from_residual.ensures.1
