use Rattle.std.proofs.Common.{refl, ◌∙◌}
use Rattle.token_table.specs.Records.{request_at}
use Rattle.disk_core.proofs.Gotten.{run-gets, fits-lent, part-long}
use Rattle.disk_core.proofs.reading.read_run.Goals as goal

pub returns : goal.returns
returns g c =
    let target = c.args.target.now in
    let lent = c.buffer_mut-buffer.ensures.value in
    let fits = fits-lent (request_at c.args.core.now.tokens c.args.token) _ _ c.requires.fits lent in
    run-gets _ g.M.Medium.prepared _ _ c.args.core.now c.args.token target.range.low target.place target.count c.read_from.new.out c.buffer_mut-buffer.result.now _ (c.read_from.auto.out ∙ part-long target.place target.count _ _ fits refl) fits lent refl c.args.block c.read_from.result _ c.read_from.ensures c.requires.begins refl
