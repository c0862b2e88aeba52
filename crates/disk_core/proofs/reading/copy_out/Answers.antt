use Rattle.std.proofs.Common.{take, drop, refl, ap, ◌∙◌}
use Rattle.token_table.specs.Records.{request_at, with_change}
use Rattle.disk_core.specs.Moves.{with_bytes_in}
use Rattle.disk_core.proofs.Gotten.{whole-tokens, fits-lent, part-long}
use Rattle.disk_core.proofs.reading.copy_out.Goals as goal

pub returns : goal.returns
returns c =
    let core = c.args.core.now in
    let target = c.args.target.now in
    let lent = c.buffer_mut-buffer.ensures.value in
    let fits = fits-lent (request_at core.tokens c.args.token) _ _ c.requires.fits lent in
    let old = part-long target.place target.count _ _ fits refl in
    let same = whole-tokens core c.args.token target.place target.count c.copy_part.new.out c.buffer_mut-buffer.result.now _ (c.copy_part.auto.out ∙ old) fits lent refl in
    let piece = c.copy_part.ensures ∙ ap (λ n. take n (drop c.args.skip c.deref.result.now)) old ∙ ap (λ xs. take target.count (drop c.args.skip xs)) c.deref.ensures.value in
    let tokens = same ∙ ap (λ p. with_change (with_bytes_in target.place p) core.tokens c.args.token) piece in
    λ i. record core { tokens = tokens i }
