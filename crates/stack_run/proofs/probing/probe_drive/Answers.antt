use Rattle.std.proofs.Common.{ℕ, ◌∙◌, ap, length, Err}
use Rattle.std.proofs.lemmas.List.{length-map}
use Rattle.history.specs.Setup.{Setup}
use Rattle.disk_core.specs.State.{setup_of, opening_from}
use Rattle.partition_children.specs.Probing.{AddsEntriesAlone}
use Rattle.stack_run.specs.Probing.{KeepsBytes}
use Rattle.stack_run.proofs.ProbedMedium.{keeps, tells, no-table, fresh-quiet, fresh-present}
use Rattle.stack_run.proofs.probing.probe_drive.Goals.{in-Ok-probe, in-Err-Device, in-Err-Memory}
use Rattle.stack_run.proofs.probing.probe_drive.Goals as goal

pub probe-requires : goal.probe-requires
probe-requires g c = fresh-quiet c.in-Ok.disk _ c.in-Ok.ensures.entries c.in-Ok.ensures.gates

pub unreachable-requires : goal.unreachable-requires
unreachable-requires g c = fresh-present _ c.in-Ok.ensures.entries (c.in-Err-NoMedia.ensures.no_media.0 (ap Err c.in-Err-NoMedia.field-0-is))

pub returns-clause-one : goal.returns-clause-one
unfolding setup_of
returns-clause-one g c =
    c.into_media-media.ensures.count
    ∙ (ap (λ (T : Setup). length T.media) (c.probe.ensures.stays.setup ∙ c.in-Ok.ensures.setup) ∙ (length-map c.args.drive.media (λ m. opening_from (g.M.Medium.device m)) ∙ c.requires.one))

pub returns-clause-probes : goal.returns-clause-probes
returns-clause-probes g c medium back there is =
    let device = g.M.Medium.device in
    let kept : (n : ℕ) → AddsEntriesAlone c.in-Ok.disk n c.probe.new.disk → KeepsBytes n (device medium) (device back) = λ n stays.
    keeps device c.args.drive c.requires.fit c.requires.fresh c.requires.one medium there c.in-Ok.disk c.probe.new.disk c.in-Ok.ensures.setup c.in-Ok.ensures.entries n stays
    c.into_media-media.ensures.facts c.into_media-media.result.0.items c.into_media-media.ensures.media back is in
    elim c.match-probe.branch [
      | in-Ok-probe w ↦ rw w.probed-is (
        kept 0 w.in-Ok-probe.ensures.stays,
        tells device c.args.drive c.requires.fit c.requires.fresh c.requires.one medium there c.in-Ok.disk c.probe.new.disk c.in-Ok.ensures.setup c.in-Ok.ensures.entries w.in-Ok-probe.table w.in-Ok-probe.ensures.found,
      )
      | in-Err-Device w ↦ rw w.probed-is (kept 1 (rw w.in-Err-Device.field-0-is at w.in-Err-Device.ensures.stays), no-table _ _)
      | in-Err-Memory w ↦ rw w.probed-is (kept 0 (rw w.in-Err-Memory.field-0-is at w.in-Err-Memory.ensures.stays))
    ]
