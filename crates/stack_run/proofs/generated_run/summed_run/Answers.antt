use Rattle.std.proofs.Common.{◌+◌, ap, sym, ◌∙◌, map, length, refl, arith}
use Rattle.history.specs.Setup.{Setup}
use Rattle.stack_run.specs.GeneratedRun.{zero_setup}
use Rattle.stack_run.proofs.StartLemmas.{fresh-ready, starts-so}
use Rattle.stack_run.proofs.SummedLemmas.{one-zero, only-item, ran-over}
use Rattle.stack_run.proofs.generated_run.summed_run.Goals as goal

pub run_desk-media-requires-clause-ready : goal.run_desk-media-requires-clause-ready
unfolding zero_setup
run_desk-media-requires-clause-ready c =
    fresh-ready c.args.plan.now c.in-Ok.disk _ c.in-Ok.ensures.entries c.in-Ok.ensures.gates c.requires.whole
    (ap (λ (S : Setup). length S.media) (c.in-Ok.ensures.setup ∙ c.in_ok-drive.ensures.setup) ∙ ap (λ l. length l + 1) (sym c.requires.alone))

pub returns-in-Some : goal.returns-in-Some
returns-in-Some c =
    let setup = c.in-Ok.ensures.setup ∙ c.in_ok-drive.ensures.setup in
    let begun = starts-so c.in-Ok.disk c.in-Ok.ensures.entries in
    let over = rw (setup, begun, c.in-Some.is) at c.run_desk-media.ensures.over in
    let one = only-item c.run_desk-media.result.0.items c.remove.result (one-zero c.args.blocks _ (c.run_desk-media.ensures.back ∙ ap (λ (S : Setup). length S.media) setup)) c.remove.ensures.value in
    let sum = c.in_ok-text-in-Some.ensures (zero_setup c.args.blocks) over.ends in
    ran-over c.args.plan.now (zero_setup c.args.blocks) _ _ c.in-Some.run' sum.0 _ over (ap (map _) one) refl sum.1 sum.2

pub remove-requires : goal.remove-requires
remove-requires c =
    let setup = c.in-Ok.ensures.setup ∙ c.in_ok-drive.ensures.setup in
    let one = one-zero c.args.blocks _ (c.run_desk-media.ensures.back ∙ ap (λ (S : Setup). length S.media) setup) in
    omega (arith, one)
