use Rattle.std.proofs.Common.{◌≡◌, ◌++◌, ◌∷◌, [], ap, ◌∙◌}
use Rattle.disk_core.specs.State.{opening_from}
use Rattle.stack_run.proofs.SummedLemmas.{zeros-setup}
use Rattle.stack_run.proofs.generated_run.zero_drive.Goals as goal

pub returns-clause-setup : goal.returns-clause-setup
returns-clause-setup c =
    let media = c.make.ensures.media ∙ (c.in_ok-push.ensures.items ∙ ap (λ l. l ++ c.in_ok-zero_medium.field-0 ∷ []) c.new-media.ensures.items) in
    zeros-setup _ c.make.result c.in_ok-zero_medium.field-0 c.args.blocks media c.make.ensures.fit (ap (λ d. d.size) c.in_ok-zero_medium.ensures) (ap opening_from c.in_ok-zero_medium.ensures) c.make.ensures.per c.make.ensures.cached c.make.ensures.protected
